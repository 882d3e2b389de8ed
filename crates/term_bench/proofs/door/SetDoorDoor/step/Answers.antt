use Rattle.std.proofs.Common.{ap, sym, ◌∙◌}
use Rattle.term_bench.specs.Late.{brings_order}
use Rattle.term_bench.proofs.DoorLemmas.{by_fault}
use Rattle.term_bench.proofs.LateLemmas.{counts_stand}
use Rattle.term_bench.proofs.door.SetDoorDoor.step.Goals as goal

pub returns-in-Err-clause-same : goal.returns-in-Err-clause-same
returns-in-Err-clause-same c =
    let self = c.args.self.now in
    by_fault self.link self.set c.apply_into.new.self self.heard self.faults c.note.new.self self.late c.in-Err.fault c.in-Err.ensures.err
    c.note.ensures c.in-Err.ensures.exhausted

-- no order came, so the counts stand
pub invariant_of-self-else-tells_order-clause-counted : goal.invariant_of-self-else-tells_order-clause-counted
invariant_of-self-else-tells_order-clause-counted c = λ unordered.
    let self = c.args.self.now in
    let step = c.in-Ok.ensures.ok in
    counts_stand self.set.state c.apply_into.new.self.state _ c.apply_into.new.reply self.late step.answer_is step.state_is
    (ap brings_order (sym c.get-answer.ensures.value) ∙ sym c.tells_order.ensures ∙ c.if-tells_order.false) (self.counted unordered)
