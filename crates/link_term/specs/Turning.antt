-- A TURN, as its calls tell it.
use Rattle.std.specs.Prelude.{◌≡◌, ◌⊎◌, ℕ, Bool, false, List, [], ◌∷◌, ◌++◌, Option, None, Result, MatchResult}
use Rattle.std.specs.Option.{option_to_list}
use Rattle.l2_bits.specs.declared.marks.Mark.{Mark}
use Rattle.l2_units.specs.declared.unit.Unit.{Unit as SignalUnit}
use Rattle.l2_bits.specs.LineBits.{line_bits}
use Rattle.l2_bits.specs.Marks.{AreMarks}
use Rattle.set_events.specs.declared.event.Event.{Event}
use Rattle.set_events.specs.declared.history.Entry.{Entry}
use Rattle.set_events.specs.declared.fault.SetFault.{SetFault}
use Rattle.term_model.specs.Choosing.{Filled, filled}
use Rattle.term_model.specs.Hearing.{all_marked}
use Rattle.term_model.specs.Obeying.{commanded}
use Rattle.term_model.specs.OctetIn.{GivesMarks}
use Rattle.term_model.specs.OctetOut.{Appends, put_of, left_of}
use Rattle.term_model.specs.Talk.{Talk, and_then, BrokeOff}
use Rattle.term_model.specs.Terminal.{Terminal}
use Rattle.term_model.specs.Timing.{timed}
use Rattle.term_model.specs.Turn.{IsTurn, IsBrokenTurn, IsWideTurn}
use Rattle.link_term.specs.declared.counts.Filling.{Filling}
use Rattle.link_term.specs.declared.counts.MarkCounts.{MarkCounts}
use Rattle.link_term.specs.declared.counts.Turned.{Turned}
use Rattle.link_term.specs.declared.fault.TermFault.{TermFault}
use Rattle.link_term.specs.Failing.{HasBroken}
use Rattle.link_term.specs.Filling.{filling_of, Taps}
use Rattle.link_term.specs.Looking.{Seen, Passes, Looks}
use Rattle.link_term.specs.Octets.{counts_of}
use Rattle.link_term.specs.Standing.{Standing}
use Rattle.link_term.specs.Talking.{AtDoor, Gains, Breaks}

-- the marks of these bits were heard, in order, or up to a fault
pub record HearsMarks (past bits : List Bool) (before : AtDoor) (counts : MarkCounts) (after : AtDoor) : Type 0 where
  pub marks : List Mark
  pub are : AreMarks past bits marks
  pub gains : Gains (all_marked marks before.inside) before.asked.made after.asked.made after.inside
  pub counts_are : counts ≡ counts_of marks

pub record BreaksMarks (past bits : List Bool) (before : AtDoor) (made' : List Entry) : Type 0 where
  pub marks : List Mark
  pub are : AreMarks past bits marks
  pub breaks : Breaks (all_marked marks before.inside) before.asked.made made'

abbrev pub HearsOctet : List Bool → List Bool → AtDoor → Result MarkCounts SetFault → AtDoor → Type 0
HearsOctet past bits before result after = MatchResult result
    (λ counts. HearsMarks past bits before counts after × (after.asked.faults ≡ before.asked.faults))
    (λ fault. BreaksMarks past bits before after.asked.made × (after.asked.faults ≡ before.asked.faults ++ fault ∷ []))

-- steps 3 to 5: the marks of a turn's octet, timers, what is sent next
abbrev pub from_marks : List Mark → Terminal → Talk Filled
from_marks marks t = and_then (all_marked marks t) (λ t. and_then (timed t) (λ t. filled t))

-- THESE STEPS went, and the unit that was chosen, if any, was appended; so many marks were heard
pub record Steps (past : List Bool) (octet : Option ℕ) (before : AtDoor) (turned : Turned) (after : AtDoor)
    {T : Type 0} (tells : T → SignalUnit → T → Type 0) (tap tap' : T) : Type 0 where
  pub marks : List Mark
  pub gives : GivesMarks past octet marks
  pub chosen : Filled
  pub gains : Gains (from_marks marks before.inside) before.asked.made after.asked.made chosen
  pub appends : Appends chosen.unit chosen.after.bits after.inside.bits
  pub after_is : after.inside ≡ record chosen.after { bits = after.inside.bits }
  pub counts_are : turned.marks ≡ counts_of marks
  pub filling_is : turned.filling ≡ filling_of chosen
  pub unchanged : chosen.narrow ≡ false → after.inside ≡ chosen.after
  pub told : Taps tells chosen.unit tap tap'
  pub untold : chosen.narrow ≡ false → tap' ≡ tap

-- a fault broke them off
pub record BrokenSteps (past : List Bool) (octet : Option ℕ) (before : AtDoor) (made' : List Entry) : Type 0 where
  pub marks : List Mark
  pub gives : GivesMarks past octet marks
  pub breaks : Breaks (from_marks marks before.inside) before.asked.made made'

abbrev pub StepsTo : {T : Type 0} → List Bool → Option ℕ → AtDoor → Result Turned SetFault → AtDoor
    → (T → SignalUnit → T → Type 0) → T → T → Type 0
StepsTo past octet before result after tells tap tap' = MatchResult result
    (λ turned. Steps past octet before turned after tells tap tap' × (after.asked.faults ≡ before.asked.faults))
    (λ fault. BrokenSteps past octet before after.asked.made
    × (after.asked.faults ≡ before.asked.faults ++ fault ∷ []) × (tap' ≡ tap))

-- STEP 6: the next octet was put, or the line is full and it stays
pub record PutsOut (before after : Terminal) (line line' : Seen) : Type 0 where
  pub has_room : Bool
  pub passes : Passes None (put_of has_room before.bits) line line'
  pub after_is : after ≡ record before { bits = left_of has_room before.bits }
  pub was_full : has_room ≡ false → line'.free ≡ 0

-- a report counts a unit that was appended
abbrev pub one_if_chosen : Filling → ℕ
one_if_chosen Filling.Chosen = 1
one_if_chosen _ = 0

-- A TURN WENT: what it took of the line and put there, what the door made, and what the turn tells
pub record TurnsOnce (before : Standing) (turned : Turned) (after : Standing) : Type 0 where
  pub octet : Option ℕ
  pub entries : List Entry
  pub out : List ℕ
  pub marks : List Mark
  pub turn : IsTurn (line_bits before.taken) before.inside octet entries out marks after.inside
  pub taken_is : after.taken ≡ before.taken ++ option_to_list octet
  pub made_is : after.made ≡ before.made ++ entries
  pub no_fault : after.faults ≡ before.faults
  pub looks : Looks octet out before.line after.line
  pub counts_are : turned.marks ≡ counts_of marks
  pub filling_is : turned.filling ≡ filling_of turn.chosen

-- a fault broke it off: what the line gave by then; it took nothing. Where it gave none, none waited, or a command broke the
-- turn off, which comes before the line is looked at.
pub record TurnBreaks (before after : Standing) : Type 0 where
  pub octet : Option ℕ
  pub entries : List Entry
  pub last : Event
  pub turn : IsBrokenTurn (line_bits before.taken) before.inside octet entries last
  pub taken_is : after.taken ≡ before.taken ++ option_to_list octet
  pub made_is : after.made ≡ before.made ++ entries
  pub passes : Passes octet [] before.line after.line
  pub none_waited : octet ≡ None → (before.line.waiting ≡ []) ⊎ BrokeOff (commanded before.inside) entries last

-- a unit of the wide profile ended it, behind its octet: the line took nothing, and nothing of what's sent changed
pub record TurnIsWide (before after : Standing) : Type 0 where
  pub octet : Option ℕ
  pub entries : List Entry
  pub turn : IsWideTurn (line_bits before.taken) before.inside octet entries
  pub taken_is : after.taken ≡ before.taken ++ option_to_list octet
  pub made_is : after.made ≡ before.made ++ entries
  pub passes : Passes octet [] before.line after.line
  pub none_waited : octet ≡ None → before.line.waiting ≡ []
  pub after_is : after.inside ≡ turn.chosen.after

-- A TURN FAILED: the door answered a fault, which is told, or gave a unit of the wide profile, whose entry stays there
pub data TurnFails (fault : TermFault) (before after : Standing) : Type 0 where
  by_fault : HasBroken fault before.faults after.faults → TurnBreaks before after → TurnFails fault before after
  by_profile : fault ≡ TermFault.Profile → after.faults ≡ before.faults → TurnIsWide before after
      → TurnFails fault before after
