use Rattle.std.proofs.Common.{◌∙◌, ap, length, subst, sym, [], ◌∷◌, ◌++◌}
use Rattle.bank_crew.specs.declared.manager.Sight.{Sight}
use Rattle.bank_crew.specs.Doors.{AskedDue, DoorState, door_state, sight_of}
use Rattle.bank_crew.specs.Managing.{looks_in, of_turns}
use Rattle.bank_crew.specs.Seats.{link_in}
use Rattle.bank_crew.specs.Shifts.{look_of}
use Rattle.bank_crew.proofs.Due.{look_due}
use Rattle.bank_crew.proofs.Marking.{looks_more}
use Rattle.bank_crew.proofs.seat_door.SeatDoorSliceDoor.look.Goals as goal

-- src/seat_door.rt
pub returns-clause-looks : goal.returns-clause-looks
returns-clause-looks g c =
    let inside = c.self.inside in
    let sight : Sight = sight_of inside.noted c.look-now.result in
    c.note_look.ensures.looks ∙ looks_more (link_in inside.caller.seat.who) inside.caller.all inside.marks c.args.out sight c.self.invariant.marked
    ∙ ap (λ (d : DoorState). looks_in d.marks ++ look_of (length (of_turns d.marks d.all)) c.args.out sight ∷ []) c.self.view_is

pub returns-clause-same : goal.returns-clause-same
returns-clause-same g c =
    let inside = c.self.inside in
    let sight : Sight = sight_of inside.noted c.look-now.result in
    let looked : DoorState = door_state c.look-now.new.self inside.marks inside.faults inside.managed inside.awaited c.look-now.result.late in
    let due_so : AskedDue c.args.self.now → AskedDue looked = λ due. rw c.look-now.ensures.same (subst AskedDue (sym c.self.view_is) due) in (
      c.note_look.ensures.managed ∙ ap (λ (d : DoorState). d.managed) c.self.view_is,
      (λ due. look_due looked c.note_look.new.self c.args.out sight c.note_look.result c.note_look.ensures.managed (ap link_in c.note_look.ensures.who) c.note_look.ensures.ok c.note_look.ensures.err (due_so due)),
    )
