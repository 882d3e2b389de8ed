use Rattle.std.proofs.Common.{◌≡◌, ◌++◌, take}
use Rattle.set_queues.specs.Messages.{restood}
use Rattle.set_queues.specs.Buffers.{queue_at, with_queue, TakesRoom}
use Rattle.set_queues.proofs.messages.pass.Given as goal

abbrev pub invariant-loop-place : goal.invariant-loop-place
invariant-loop-place o l = record {
  lists : l.buffers.lists ≡ with_queue l.to (queue_at l.to l.initial.buffers.lists ++ take l.place (queue_at l.from l.initial.buffers.lists)) l.initial.buffers.lists;
  messages : l.messages.items ≡ restood (take l.place (queue_at l.from l.initial.buffers.lists)) l.to l.initial.messages.items;
  rooms : TakesRoom l.to l.place l.initial.buffers.rooms l.buffers.rooms;
  room : l.messages.room ≡ l.initial.messages.room;
}
