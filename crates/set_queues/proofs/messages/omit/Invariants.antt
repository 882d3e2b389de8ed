use Rattle.std.proofs.Common.{◌≡◌, ◌++◌, take, drop}
use Rattle.set_queues.specs.Buffers.{queue_at, with_queue, KeepsRoom}
use Rattle.set_queues.specs.Queues.{without}
use Rattle.set_queues.proofs.messages.omit.Given as goal

abbrev pub invariant-loop : goal.invariant-loop
invariant-loop o l = record {
  lists : l.buffers.lists ≡ with_queue l.from (drop l.counter (queue_at l.from l.initial.buffers.lists) ++ without l.number (take l.counter (queue_at l.from l.initial.buffers.lists))) l.initial.buffers.lists;
  rooms : KeepsRoom l.initial.buffers.rooms l.buffers.rooms;
}
