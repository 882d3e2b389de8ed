-- ONE TURN OF A TERMINAL: commands, one octet in, marks, timers, what is sent next, one octet out.
use Rattle.std.specs.Prelude.{◌≡◌, ℕ, Bool, true, false, List, Option}
use Rattle.l2_bits.specs.declared.marks.Mark.{Mark}
use Rattle.set_events.specs.declared.event.Event.{Event}
use Rattle.set_events.specs.declared.history.Entry.{Entry}
use Rattle.term_model.specs.Choosing.{Filled, filled}
use Rattle.term_model.specs.Hearing.{all_marked}
use Rattle.term_model.specs.Obeying.{commanded}
use Rattle.term_model.specs.OctetIn.{GivesMarks}
use Rattle.term_model.specs.OctetOut.{PutsOctet}
use Rattle.term_model.specs.Talk.{Talk, and_then, Went, BrokeOff}
use Rattle.term_model.specs.Terminal.{Terminal}
use Rattle.term_model.specs.Timing.{timed}

-- what a turn asks of its door: in steps 1, 3, 4 and 5; the marks are those of its octet
abbrev pub turn_talk : List Mark → Terminal → Talk Filled
turn_talk marks t =
    and_then (commanded t) (λ t.
    and_then (all_marked marks t) (λ t.
    and_then (timed t) (λ t. filled t)))

-- A TURN. After these bits were taken the line gave this octet, or none; the door gained just these entries; the line
-- took this octet, or none; these were the marks, and this is the terminal then.
pub record IsTurn (taken : List Bool) (before : Terminal) (octet : Option ℕ) (entries : List Entry)
    (put : List ℕ) (marks : List Mark) (after : Terminal) : Type 0 where
  pub gives : GivesMarks taken octet marks
  pub chosen : Filled
  pub went : Went (turn_talk marks before) entries chosen
  pub narrow : chosen.narrow ≡ true
  pub puts : PutsOctet chosen put after

-- a turn that a fault of the door broke off: after these entries this event was asked, and got no answer. Nothing was
-- put.
pub record IsBrokenTurn (taken : List Bool) (before : Terminal) (octet : Option ℕ)
    (entries : List Entry) (last : Event) : Type 0 where
  pub marks : List Mark
  pub gives : GivesMarks taken octet marks
  pub broke_off : BrokeOff (turn_talk marks before) entries last

-- a turn that a unit of the wide profile ended: the door gave it by the last of these entries, and it wasn't chosen.
-- Nothing was put.
pub record IsWideTurn (taken : List Bool) (before : Terminal) (octet : Option ℕ)
    (entries : List Entry) : Type 0 where
  pub marks : List Mark
  pub gives : GivesMarks taken octet marks
  pub chosen : Filled
  pub went : Went (turn_talk marks before) entries chosen
  pub wide : chosen.narrow ≡ false
