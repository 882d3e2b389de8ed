use Rattle.std.proofs.Common.{arith}
use Rattle.set_queues.specs.Buffers.{Waiting, Held}
use Rattle.set_queues.proofs.queues.Queues.reserve_each.Goals as goal

pub loop-link-preserved : goal.loop-link-preserved
loop-link-preserved o c = record {
  room = λ k b. let had = c.loop-link.invariant.room k in let waits = c.reserve_at.ensures.same.kept (Waiting k) in let waits-2 = c.reserve_at-in-loop-link.ensures.same.kept (Waiting k) in let held = c.reserve_at.ensures.same.kept (Held k) in let held-2 = c.reserve_at-in-loop-link.ensures.same.kept (Held k) in grind arith;
  same = record { lists = cc; messages = cc; room = cc; kept = λ fate. omega (arith, c.loop-link.invariant.same.kept fate, c.reserve_at.ensures.same.kept fate, c.reserve_at-in-loop-link.ensures.same.kept fate) };
}
