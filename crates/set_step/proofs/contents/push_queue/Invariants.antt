use Rattle.std.proofs.Common.{◌≡◌, ◌++◌, take}
use Rattle.set_queues.specs.Buffers.{queue_at}
use Rattle.set_step.proofs.contents.push_queue.Given as goal

abbrev pub invariant-loop-place : goal.invariant-loop-place
invariant-loop-place o l = l.numbers.items ≡ l.initial.numbers.items ++ take l.place (queue_at l.fate l.queues.lists)
