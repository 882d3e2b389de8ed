use Rattle.std.proofs.Common.{◌∙◌, ap, subst, sym}
use Rattle.set_events.specs.Lent.{event_in}
use Rattle.set_events.specs.Owners.{IsOwn}
use Rattle.set_events.specs.declared.event.Actor.{Actor}
use Rattle.set_events.specs.declared.event.Actor.TheVariants.{Terminal}
use Rattle.bank_crew.specs.Doors.{AskedDue, DoorState, IsMarked}
use Rattle.bank_crew.specs.Managing.{looks_in, of_turns}
use Rattle.bank_crew.specs.Seats.{link_in}
use Rattle.bank_crew.proofs.Due.{step_due}
use Rattle.bank_crew.proofs.Marking.{looks_turned, stepped}
use Rattle.bank_crew.proofs.seat_door.SeatDoorDoor.step.Goals as goal

-- src/seat_door.rt
pub ask-requires-clause-own : goal.ask-requires-clause-own
ask-requires-clause-own g c =
    let who = sym (ap (λ (d : DoorState). d.seat.who) c.self.view_is) ∙ c.link.ensures in
    subst (λ (who : Actor). IsOwn who (event_in c.args.event.now)) (sym (who ∙ ap Terminal (sym (ap link_in who)))) c.requires.own

pub returns-in-Ok-clause-ok : goal.returns-in-Ok-clause-ok
returns-in-Ok-clause-ok g c =
    let who = sym (ap (λ (d : DoorState). d.seat.who) c.self.view_is) ∙ c.link.ensures in
    let went = stepped c.args.self.now.seat.who (event_in c.args.event.now) c.ask.new.reply c.in-Ok.late c.args.self.now.all c.ask.new.self.all c.follow.new.self.all
    c.args.self.now.marks c.ask.new.self.marks c.follow.new.self.marks c.args.self.now.faults c.follow.new.self.faults
    c.in-Ok.ensures.ok c.in-Ok.ensures.marks c.follow.ensures.made (subst IsMarked c.self.view_is c.self.invariant.marked) (who ∙ ap Terminal (sym (ap link_in who))) (c.follow.ensures.faults ∙ c.ask.ensures.faults) in
    (rw c.pause.ensures.all (ap (λ (d : DoorState). of_turns d.marks d.all) c.self-in-Ok.view_is ∙ went.0), ap (λ (d : DoorState). d.faults) c.self-in-Ok.view_is ∙ went.1)

pub returns-in-Ok-clause-same : goal.returns-in-Ok-clause-same
returns-in-Ok-clause-same g c = (
  ap (λ (d : DoorState). d.managed) c.self-in-Ok.view_is ∙ c.follow.ensures.managed ∙ c.ask.ensures.managed,
  ap (λ (d : DoorState). looks_in d.marks) c.self-in-Ok.view_is ∙ c.follow.ensures.looks ∙ ap looks_in c.in-Ok.ensures.marks ∙ looks_turned c.in-Ok.late c.args.self.now.marks,
  (λ due. rw (c.pause.ensures.who, c.pause.ensures.all) (subst AskedDue (sym c.self-in-Ok.view_is)
      (step_due c.args.self.now c.ask.new.self c.follow.new.self (event_in c.args.event.now) c.ask.new.reply c.in-Ok.late c.follow.result
      c.in-Ok.ensures.ok c.in-Ok.ensures.marks c.ask.ensures.awaited c.ask.ensures.managed (ap link_in c.ask.ensures.who) c.follow.ensures.managed (ap link_in c.follow.ensures.who)
      (rw c.get.ensures.value at c.follow.ensures.ok) (rw c.get.ensures.value at c.follow.ensures.err) due))),
)
