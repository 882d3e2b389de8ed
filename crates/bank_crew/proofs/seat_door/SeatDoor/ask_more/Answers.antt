use Rattle.std.proofs.Common.{◌∙◌, ap, subst}
use Rattle.set_events.specs.Lent.{event_in}
use Rattle.bank_crew.specs.Doors.{DoorState, IsMarked}
use Rattle.bank_crew.specs.Managing.{looks_in, of_turns}
use Rattle.bank_crew.proofs.Marking.{looks_asked, questioned}
use Rattle.bank_crew.proofs.seat_door.SeatDoor.ask_more.Goals as goal

-- src/seat_door.rt
pub returns-in-Ok-clause-made : goal.returns-in-Ok-clause-made
returns-in-Ok-clause-made g c =
    ap (λ (d : DoorState). of_turns d.marks d.all) c.self-2.view_is ∙ questioned c.args.self.now.seat.who (event_in c.args.question.now) c.ask.new.reply c.args.self.now.all c.ask.new.self.all c.args.self.now.marks c.ask.new.self.marks
    c.in-Ok.ensures.ok c.in-Ok.ensures.marks (subst IsMarked c.self.view_is c.self.invariant.marked)

pub returns-in-Ok-clause-looks : goal.returns-in-Ok-clause-looks
returns-in-Ok-clause-looks g c =
    ap (λ (d : DoorState). looks_in d.marks) c.self-2.view_is ∙ ap looks_in c.in-Ok.ensures.marks ∙ looks_asked c.args.self.now.marks
