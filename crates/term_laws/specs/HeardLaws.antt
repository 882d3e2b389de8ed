-- LAWS of the two ends of a line: what one terminal's turns put on it, another's turns hear, where the line neither loses
-- nor changes an octet.
use Rattle.std.specs.Prelude.{◌≡◌, ℕ, ◌<◌, ◌^◌, ◌⊎◌, Bool, List, [], ◌∷◌, ◌++◌, All, Some, map}
use Rattle.l2_bits.specs.declared.marks.Mark.{Mark}
use Rattle.term_laws.specs.Carrying.{Step, signal_unit, whole_flag, SoFar, all_heard}
use Rattle.term_laws.specs.Damage.{Stretch, Unended, AreKept, AreSome, ShowsAsLoss, all_sent, damaged_line, good_in, steps_by_then}
use Rattle.l2_bits.specs.Flags.{flag}
use Rattle.l2_bits.specs.LineBits.{line_bits}
use Rattle.l2_bits.specs.Marks.{AreMarks}
use Rattle.l2_units.specs.declared.profile.Profile.TheVariants.{Narrow}
use Rattle.l2_units.specs.declared.unit.Unit.{Unit as SignalUnit}
use Rattle.l2_units.specs.Grammar.{IsUnit, body_of, text}
use Rattle.term_model.specs.Hearing.{unit_in}
use Rattle.term_model.specs.LineLaws.{CarriesUnits}
use Rattle.term_model.specs.Runs.{Doing, AreTurns, units_of, octets_in, octets_out, marks_of}
use Rattle.term_model.specs.Terminal.{Terminal}
use Rattle.term_model.specs.TurnLaws.{IsSound}

-- a unit of octets, of a body that its kind can have
pub record IsSendable (unit : SignalUnit) : Type 0 where
  pub is_unit : IsUnit Narrow unit
  pub in_range : All (λ octet. octet < 2 ^ 8) (body_of unit)

abbrev pub steps_of : List SignalUnit → List Step
steps_of units = map (λ unit. signal_unit (text Narrow unit)) units

-- of these units on the line some are heard so far: just those of which it has every bit. It has the flag that opens the
-- first, or not all of that
pub record AreHeard (units : List SignalUnit) (line : List Bool) (marks : List Mark) : Type 0 where
  pub heard : List SignalUnit
  pub later : List SignalUnit
  pub units_are : units ≡ heard ++ later
  pub so_far : SoFar (whole_flag ∷ steps_of heard) line ⊎ ((heard ≡ []) × SoFar [] line)
  pub marks_are : marks ≡ all_heard (steps_of heard)
  pub read : map unit_in marks ≡ map (λ unit. Some unit) heard

-- LAW: stretches of a line join, as of turns with commands between them
abbrev pub StretchesJoin : Type 0
StretchesJoin =
    (first second : List SignalUnit) (a b : List ℕ) (old mid new : List Bool) → CarriesUnits first a old mid
    → CarriesUnits second b mid new → CarriesUnits (first ++ second) (a ++ b) old new

-- LAW: the marks of turns, all together, are those of the octets that the line gave
abbrev pub TurnsGiveMarks : Type 0
TurnsGiveMarks =
    (doings : List Doing) (taken : List Bool) (before after : Terminal) → AreTurns doings taken before after
    → AreMarks taken (line_bits (octets_in doings)) (marks_of doings)

-- LAW: of what a terminal has put on the line since it was opened, the first octets are heard so
abbrev pub UnitsAreHeard : Type 0
UnitsAreHeard =
    (units : List SignalUnit) (put given rest : List ℕ) (left : List Bool) (marks : List Mark)
    → CarriesUnits units put flag left → All IsSendable units → put ≡ given ++ rest
    → AreMarks [] (line_bits given) marks → AreHeard units (line_bits given) marks

-- LAW: so over an intact line one terminal hears what the other sends, unit by unit, and nothing else
abbrev pub TerminalsHearEachOther : Type 0
TerminalsHearEachOther =
    (sends hears : List Doing) (taken : List Bool) (a a' b b' : Terminal) (rest : List ℕ)
    → IsSound a → a.bits ≡ flag → AreTurns sends taken a a' → All IsSendable (units_of sends)
    → AreTurns hears [] b b' → octets_out sends ≡ octets_in hears ++ rest
    → AreHeard (units_of sends) (line_bits (octets_in hears)) (marks_of hears)

-- a terminal's units, of which a first part came as it was sent, and then stretches that were damaged, the last of which may
-- have no end yet
pub record AreDamaged (units : List SignalUnit) (bits : List Bool) : Type 0 where
  pub line : List Bool
  pub steps : List Step
  pub stretches : List Stretch
  pub unended : Unended
  pub left : List Step
  pub sent : whole_flag ∷ steps_of units ≡ steps_by_then steps stretches unended ++ left
  pub so_far : SoFar steps line
  pub kept : AreKept stretches
  pub shows_as_loss : ShowsAsLoss line stretches unended
  pub bits_are : bits ≡ damaged_line line stretches unended

-- of these units the first ones were sent by these steps, and some of them were heard, in order, and no other
pub record SomeHeard (units : List SignalUnit) (steps : List Step) (marks : List Mark) : Type 0 where
  pub sent : List SignalUnit
  pub later : List SignalUnit
  pub units_are : units ≡ sent ++ later
  pub sent_are : map (text Narrow) sent ≡ all_sent steps
  pub heard : AreSome (good_in marks) (map (text Narrow) sent)

-- LAW: where damage shows as loss, a terminal has heard at any moment some of the units that the other has sent by then, in
-- order, and no other
abbrev pub DamageOnlyLoses : Type 0
DamageOnlyLoses =
    (units : List SignalUnit) (hears : List Doing) (b b' : Terminal) → AreTurns hears [] b b'
    → (are : AreDamaged units (line_bits (octets_in hears)))
    → SomeHeard units (steps_by_then are.steps are.stretches are.unended) (marks_of hears)
