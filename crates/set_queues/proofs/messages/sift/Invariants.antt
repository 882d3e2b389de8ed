use Rattle.std.proofs.Common.{◌≡◌, ◌++◌, take, drop}
use Rattle.set_queues.specs.Messages.{restood}
use Rattle.set_queues.specs.Queues.{KeepsSent, orders_in, others_in}
use Rattle.set_queues.proofs.messages.sift.Given as goal

abbrev pub invariant-loop : goal.invariant-loop
invariant-loop o l = record {
  unsent : l.window.unsent ≡ drop l.counter l.initial.window.unsent ++ others_in l.initial.messages.items (take l.counter l.initial.window.unsent);
  same : KeepsSent l.initial.window l.window;
  messages : l.messages.items ≡ restood (orders_in l.initial.messages.items (take l.counter l.initial.window.unsent)) l.gone l.initial.messages.items;
  room : l.messages.room ≡ l.initial.messages.room;
}
