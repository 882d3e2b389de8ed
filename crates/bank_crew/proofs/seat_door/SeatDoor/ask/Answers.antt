use Rattle.std.proofs.Common.{◌≡◌, ◌∙◌, ap, subst, sym, true, false, ℕ, [], ◌∷◌, ◌++◌}
use Rattle.set_events.specs.Lent.{event_in}
use Rattle.bank_crew.specs.Doors.{DoorState}
use Rattle.bank_crew.specs.Managing.{is_question}
use Rattle.bank_crew.specs.Seats.{link_in}
use Rattle.bank_crew.proofs.Counting.{step_carried, step_counted, step_fits, step_marked}
use Rattle.bank_crew.proofs.Full.{full_on}
use Rattle.bank_crew.proofs.seat_door.SeatDoor.ask.Goals as goal

-- src/seat_door.rt
pub with-self-inside-requires : goal.with-self-inside-requires
with-self-inside-requires g c =
    step_fits _ (event_in c.args.event.now) c.step.new.reply c.self.inside.caller.all c.step.new.self.all c.self.inside.answered c.in_ok-orders.ensures.ok c.self.invariant.answered_is c.count.result c.count.ensures.calls c.count.ensures.few

pub invariant_of-self-2 : goal.invariant_of-self-2
invariant_of-self-2 g c =
    let who = c.self.inside.caller.seat.who in
    let old = c.self.inside.caller.all in
    let new = c.step.new.self.all in
    let event = event_in c.args.event.now in
    let made = c.in_ok-orders.ensures.ok in
    let counts = c.self.inside.answered in
    let counted = c.self.invariant.answered_is in
    let marks = c.self.inside.marks in
    let asked : c.args.of_turn ≡ false → is_question (link_in who) event ≡ true =
    λ own. subst (λ (d : DoorState). is_question (link_in d.seat.who) event ≡ true) (sym c.self.view_is) (c.requires.question own) in
    record {
      answered_is = step_counted who event c.step.new.reply old new counts made counted c.step.new.self.seat.who c.link-link.result c.with-self-inside.result c.step.ensures.who c.link-link.ensures (rw c.get-answer.ensures.value at c.with-self-inside.ensures);
      carried_is = step_carried who event c.step.new.reply old new counts made counted c.self.inside.managed c.self.inside.carried c.with-self-inside-2.result c.step.new.self.seat.who c.link-link.result c.step.ensures.who c.link-link.ensures c.self.invariant.carried_is (rw c.get-answer.ensures.value at c.with-self-inside-2.ensures);
      marked = step_marked who event c.step.new.reply old new counts made counted marks c.note.new.self c.args.of_turn _ c.step.new.self.seat.who c.step.ensures.who c.self.invariant.marked asked (c.note.ensures ∙ ap (λ (m : ℕ). marks ++ m ∷ []) c.mark_of.ensures);
      full = full_on c.self.inside.caller.seat.full c.step.new.self.seat.full c.self.inside.faults c.step.ensures.full_stays c.self.invariant.full;
    }
