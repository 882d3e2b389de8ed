use Rattle.std.proofs.Common.{arith}
use Rattle.set_queues.specs.Buffers.{queue_at}
use Rattle.set_queues.proofs.Leading.{passed_order, ends}
use Rattle.set_queues.proofs.queues.Queues.orders_ahead.Goals as goal

pub returns-then-not-is_order-clause-ahead : goal.returns-then-not-is_order-clause-ahead
returns-then-not-is_order-clause-ahead o c = λ number.
    let q = queue_at c.args.fate c.args.self.now.lists in
    let so_far = c.loop-place.invariant number in
    let last = ends c.args.self.now.messages number c.loop-place.place c.unwrap-number.result q in
    grind (arith, so_far, last)

pub loop-place-preserved : goal.loop-place-preserved
loop-place-preserved o c = λ number.
    let q = queue_at c.args.fate c.args.self.now.lists in
    let so_far = c.loop-place.invariant number in
    let next = passed_order c.args.self.now.messages number c.loop-place.place c.unwrap-number.result q in
    grind (arith, so_far, next)
