use Rattle.std.proofs.Common.{◌≡◌, [], replicate, map}
use Rattle.set_queues.specs.Buffers.{no_lists}
use Rattle.set_queues.specs.Kept.{lists_of}
use Rattle.set_queues.proofs.buffers.Buffers.new.Given as goal

abbrev pub invariant-loop : goal.invariant-loop
invariant-loop o l = map lists_of l.made.items ≡ replicate l.counter (no_lists l.profile)

abbrev pub invariant-loop-2 : goal.invariant-loop-2
invariant-loop-2 o l = map (λ queue. queue.messages) l.back.items ≡ replicate l.counter []
