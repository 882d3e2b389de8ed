-- TURNS ONE AFTER ANOTHER, and what they count.
use Rattle.std.specs.Prelude.{◌≡◌, ℕ, ◌+◌, Bool, true, false, List, [], ◌∷◌, ◌++◌, length, Option, Some, None, if◌then◌else◌}
use Rattle.std.specs.List.{flat_map}
use Rattle.std.specs.Option.{option_to_list}
use Rattle.l2_units.specs.declared.cause.Cause.{Cause}
use Rattle.l2_units.specs.Numbers.{cause_number}
use Rattle.l2_bits.specs.declared.marks.Mark.{Mark}
use Rattle.l2_bits.specs.LineBits.{line_bits}
use Rattle.l2_units.specs.declared.unit.Unit.{Unit as SignalUnit}
use Rattle.set_events.specs.declared.history.Entry.{Entry}
use Rattle.term_model.specs.declared.report.TermReport.{TermReport}
use Rattle.term_model.specs.OctetIn.{bits_in}
use Rattle.term_model.specs.Terminal.{Terminal}
use Rattle.term_model.specs.Turn.{IsTurn}
use Rattle.term_model.specs.TurnLaws.{AllAsked, IsOfLink, IsSound, GoesOn}

-- what a turn did: the octet that the line gave, the door's entries, the octet that the line took, its marks, and the
-- unit that was appended
pub record Doing : Type 0 where
  pub octet : Option ℕ
  pub entries : List Entry
  pub put : List ℕ
  pub marks : List Mark
  pub unit : Option SignalUnit

pub record Did (taken : List Bool) (before : Terminal) (doing : Doing) (after : Terminal) : Type 0 where
  pub turn : IsTurn taken before doing.octet doing.entries doing.put doing.marks after
  pub unit_is : doing.unit ≡ turn.chosen.unit

-- TURNS, the first one first
abbrev pub AreTurns : List Doing → List Bool → Terminal → Terminal → Type 0
AreTurns [] taken before after = after ≡ before
AreTurns (doing ∷ rest) taken before after =
    (mid : Terminal) × Did taken before doing mid × AreTurns rest (taken ++ bits_in doing.octet) mid after

-- WHAT THEY DID TOGETHER.

-- the octets that the line gave, in order; the octets that it took; the door's entries
abbrev pub octets_in : List Doing → List ℕ
octets_in doings = flat_map (λ doing. option_to_list doing.octet) doings

abbrev pub octets_out : List Doing → List ℕ
octets_out doings = flat_map (λ doing. doing.put) doings

abbrev pub entries_of : List Doing → List Entry
entries_of doings = flat_map (λ doing. doing.entries) doings

abbrev pub is_good : Mark → Bool
is_good (Mark.Good octets) = true
is_good _ = false

abbrev pub is_bad : Mark → Bool
is_bad Mark.Bad = true
is_bad _ = false

abbrev pub is_sixteen : Mark → Bool
is_sixteen Mark.Sixteen = true
is_sixteen _ = false

-- how many marks are such
abbrev pub counted : (Mark → Bool) → List Mark → ℕ
counted such [] = 0
counted such (mark ∷ marks) = (if such mark then 1 else 0) + counted such marks

abbrev pub marks_of : List Doing → List Mark
marks_of doings = flat_map (λ doing. doing.marks) doings

abbrev pub units_of : List Doing → List SignalUnit
units_of doings = flat_map (λ doing. option_to_list doing.unit) doings

-- the number of the last failure's cause, 0 where there was none (own)
abbrev pub cause_or_0 : Option Cause → ℕ
cause_or_0 None = 0
cause_or_0 (Some cause) = cause_number cause

abbrev pub report_of : List Doing → Terminal → TermReport
report_of doings after = record {
  turns = length doings;
  sent = length (units_of doings);
  good = counted is_good (marks_of doings);
  bad = counted is_bad (marks_of doings);
  sixteen = counted is_sixteen (marks_of doings);
  cause = cause_or_0 after.cause;
}

-- so many turns: the line gave these octets and took those, the door gained these entries, and this is the report
pub record IsRun (turns : ℕ) (taken : List Bool) (before : Terminal) (given : List ℕ) (entries : List Entry)
    (put : List ℕ) (report : TermReport) (after : Terminal) : Type 0 where
  pub doings : List Doing
  pub are_turns : AreTurns doings taken before after
  pub turns_are : length doings ≡ turns
  pub given_is : given ≡ octets_in doings
  pub entries_are : entries ≡ entries_of doings
  pub put_is : put ≡ octets_out doings
  pub report_is : report ≡ report_of doings after

-- LAW: runs follow one another: the bits taken by the first are those of the octets that its line gave
abbrev pub RunsJoin : Type 0
RunsJoin =
    (first second : List Doing) (taken : List Bool) (before mid after : Terminal)
    → AreTurns first taken before mid → AreTurns second (taken ++ line_bits (octets_in first)) mid after
    → AreTurns (first ++ second) taken before after

-- what turns of a sound terminal ask and leave
pub record AreSoundTurns (before : Terminal) (doings : List Doing) (after : Terminal) : Type 0 where
  pub of_link : AllAsked (IsOfLink before.link) (entries_of doings)
  pub goes_on : GoesOn before after

-- LAW: all turns of a sound terminal ask of its own link alone, and leave it sound
abbrev pub RunsStaySound : Type 0
RunsStaySound =
    (doings : List Doing) (taken : List Bool) (before after : Terminal)
    → IsSound before → AreTurns doings taken before after → AreSoundTurns before doings after
