-- A SEAT'S DOOR, as contracts see it, and what it counts of what was made through it.
use Rattle.std.specs.Prelude.{All, ◌≡◌, ◌==◌, ◌&&◌, ℕ, Bool, not, true, List, [], ◌∷◌, ◌++◌, Option, None, Some, IsSome, if◌then◌else◌}
use Rattle.set_events.specs.declared.answer.Answer.{Answer}
use Rattle.set_events.specs.declared.event.Event.{Event}
use Rattle.set_events.specs.declared.fault.SetFault.{SetFault}
use Rattle.set_events.specs.declared.history.Entry.{Entry}
use Rattle.set_ledger.specs.Seats.{SeatState}
use Rattle.set_shared.specs.declared.link_set.LinkNow.{LinkNow}
use Rattle.bank_crew.specs.declared.carried.Carried.{Carried}
use Rattle.bank_crew.specs.declared.manager.Sight.{Sight}
use Rattle.bank_crew.specs.declared.plan.Managed.{Managed}
use Rattle.bank_crew.specs.declared.questions.Awaited.{Awaited}
use Rattle.bank_crew.specs.declared.report.Answered.{Answered}
use Rattle.bank_crew.specs.Awaiting.{AsksFrom, asked_at_rest, asked_late, awaited_behind, awaited_by, rested}
use Rattle.bank_crew.specs.Carrying.{carried_in}
use Rattle.bank_crew.specs.Counts.{answered_in}
use Rattle.bank_crew.specs.Managing.{are_marks, look_mark}
use Rattle.bank_crew.specs.Seats.{CallerState, link_in}

-- who asks, all that was made, the marks, the faults of the turns, whether links are managed, what level 3 awaits, and how many
-- orders about the link had come late when the terminal looked last
pub record DoorState : Type 0 where
  pub seat : SeatState
  pub all : List Entry
  pub marks : List ℕ
  pub faults : List SetFault
  pub managed : Option Managed
  pub awaited : Awaited
  pub noted : ℕ

abbrev pub door_state : CallerState → List ℕ → List SetFault → Option Managed → Awaited → ℕ → DoorState
door_state caller marks faults managed awaited noted = record {
  seat = caller.seat;
  all = caller.all;
  marks = marks;
  faults = faults;
  managed = managed;
  awaited = awaited;
  noted = noted;
}

-- each entry has its mark
abbrev pub IsMarked : DoorState → Type 0
IsMarked door = are_marks (link_in door.seat.who) door.marks door.all ≡ true

-- a full history was told by the set
abbrev pub HasToldFull : DoorState → Type 0
HasToldFull door = All (λ (fault : SetFault). fault ≡ SetFault.Exhausted → door.seat.full ≡ true) door.faults

-- IT COUNTS what was made
pub record IsCounted (door : DoorState) (answered : Answered) (carried : Carried) : Type 0 where
  pub answered_is : answered ≡ answered_in (link_in door.seat.who) door.all
  pub carried_is : carried ≡ carried_in door.managed (link_in door.seat.who) door.all
  pub marked : IsMarked door
  pub full : HasToldFull door

-- LEVEL 3 ASKED nothing by the door
abbrev pub Unasked : DoorState → DoorState → Type 0
Unasked before after = (after.all ≡ before.all) × (after.marks ≡ before.marks) × (after.awaited ≡ before.awaited)

-- or this, and heard the answer
abbrev pub Asked : Event → DoorState → DoorState → Type 0
Asked question before after = (answer : Answer)
    × (after.all ≡ before.all ++ record { who = before.seat.who; event = question; answer = answer } ∷ [])
    × (after.marks ≡ before.marks ++ 0 ∷ []) × (after.awaited ≡ awaited_by question answer before.awaited)

-- it asks just what is due
abbrev pub AsksIf : Option Event → DoorState → DoorState → Type 0
AsksIf None before after = Unasked before after
AsksIf (Some question) before after = Asked question before after

-- BEHIND AN ANSWER to a turn it awaits something else
abbrev pub hearing : Event → Answer → DoorState → DoorState
hearing event answer door =
    record door { awaited = awaited_behind (link_in door.seat.who) event answer door.awaited }

abbrev pub due_in : Bool → Event → Answer → DoorState → Option Event
due_in late event answer door = asked_late late door.managed (link_in door.seat.who) event answer door.awaited

abbrev pub Follows : Bool → Event → Answer → DoorState → DoorState → Type 0
Follows late event answer before after = AsksIf (due_in late event answer before) (hearing event answer before) after

-- unless memory was refused to that
abbrev pub IsRefused : Bool → Event → Answer → DoorState → DoorState → Type 0
IsRefused late event answer before after =
    IsSome (due_in late event answer before) × Unasked (hearing event answer before) after

-- A LOOK before a slice of turns; out of service the terminal rests for the slice where its set hasn't settled the link
abbrev pub rests : Bool → Sight → Bool
rests out sight = out && not sight.settled

abbrev pub looking : Bool → Sight → DoorState → DoorState
looking out sight door = record door {
  marks = door.marks ++ look_mark out sight ∷ [];
  awaited = if rests out sight then rested door.awaited else door.awaited;
}

abbrev pub due_at : Bool → Sight → DoorState → Option Event
due_at out sight door =
    if rests out sight then asked_at_rest door.managed (link_in door.seat.who) door.awaited else None

abbrev pub Looks : Bool → Sight → DoorState → DoorState → Type 0
Looks out sight before after = AsksIf (due_at out sight before) (looking out sight before) after

abbrev pub IsLookRefused : Bool → Sight → DoorState → DoorState → Type 0
IsLookRefused out sight before after = IsSome (due_at out sight before) × Unasked (looking out sight before) after

-- WHAT IS SEEN where the set tells this, and so many orders had come late by the last look
abbrev pub sight_of : ℕ → LinkNow → Sight
sight_of noted now = record { counts = now.counts; settled = now.settled; late = not (now.late == noted) }

-- ALL THAT LEVEL 3 ASKED by the door was due
abbrev pub AskedDue : DoorState → Type 0
AskedDue door = AsksFrom door.managed (link_in door.seat.who) door.marks door.all door.awaited
