-- WHAT IS SENT NEXT, as its calls tell it.
use Rattle.std.specs.Prelude.{◌≡◌, Bool, false, List, ◌∷◌, [], ◌++◌, Option, Some, None, Result, MatchResult, if◌then◌else◌}
use Rattle.l2_units.specs.declared.unit.Unit.{Unit as SignalUnit}
use Rattle.set_events.specs.declared.event.Event.{Event}
use Rattle.set_events.specs.declared.history.Entry.{Entry}
use Rattle.set_events.specs.declared.fault.SetFault.{SetFault}
use Rattle.term_model.specs.Choosing.{Filled, sent_by, serves, unless_out, up_first}
use Rattle.term_model.specs.OctetOut.{Appends}
use Rattle.term_model.specs.Talk.{Talk, ask, and_then}
use Rattle.term_model.specs.Terminal.{Terminal}
use Rattle.link_term.specs.Talking.{Asked, AtDoor, Gains, Breaks}
use Rattle.link_term.specs.declared.counts.Filling.{Filling}

-- in service: Up first, where it was refused
abbrev pub served : Bool → Terminal → Talk Filled
served paused t = and_then (up_first t) (λ t. unless_out (serves paused t) t)

-- the set is asked for the next unit
abbrev pub next_asked : Terminal → Talk Filled
next_asked t = ask (Event.Next t.link) (λ answer. sent_by answer t)

-- what was chosen, in a word
abbrev pub with_unit : Option SignalUnit → Filling
with_unit None = Filling.Enough
with_unit (Some unit) = Filling.Chosen

abbrev pub filling_of : Filled → Filling
filling_of f = if f.narrow then with_unit f.unit else Filling.Wide

-- a tap was told of this unit, if any
abbrev pub Taps : {T : Type 0} → (T → SignalUnit → T → Type 0) → Option SignalUnit → T → T → Type 0
Taps told None before after = after ≡ before
Taps told (Some unit) before after = told before unit after

-- the talk of step 5 went, and the unit that was chosen, if any, was appended to what is left to send
pub record FillsBits (talk : Talk Filled) (filling : Filling) (made made' : List Entry) (after : Terminal)
    {T : Type 0} (tells : T → SignalUnit → T → Type 0) (tap tap' : T) : Type 0 where
  pub chosen : Filled
  pub gains : Gains talk made made' chosen
  pub appends : Appends chosen.unit chosen.after.bits after.bits
  pub after_is : after ≡ record chosen.after { bits = after.bits }
  pub filling_is : filling ≡ filling_of chosen
  -- where a unit of the wide profile was given nothing was appended
  pub unchanged : chosen.narrow ≡ false → after ≡ chosen.after
  -- of the unit the tap was told
  pub told : Taps tells chosen.unit tap tap'
  pub untold : chosen.narrow ≡ false → tap' ≡ tap

abbrev pub Fills : {T : Type 0} → Talk Filled → Result Filling SetFault → Asked → AtDoor
    → (T → SignalUnit → T → Type 0) → T → T → Type 0
Fills talk result before after tells tap tap' = MatchResult result
    (λ filling. FillsBits talk filling before.made after.asked.made after.inside tells tap tap'
    × (after.asked.faults ≡ before.faults))
    (λ fault. Breaks talk before.made after.asked.made × (after.asked.faults ≡ before.faults ++ fault ∷ []) × (tap' ≡ tap))
