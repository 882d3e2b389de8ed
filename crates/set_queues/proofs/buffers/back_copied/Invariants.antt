use Rattle.std.proofs.Common.{◌≡◌, map, take}
use Rattle.set_queues.proofs.buffers.back_copied.Given as goal

abbrev pub invariant-loop-queue : goal.invariant-loop-queue
invariant-loop-queue o l = map (λ queue. queue.messages) l.copy.items ≡ map (λ queue. queue.messages) (take l.queue-index l.back)
