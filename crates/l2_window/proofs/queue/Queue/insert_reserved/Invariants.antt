use Rattle.std.proofs.Common.{◌≡◌, ◌++◌, ◌∷◌, take, drop}
use Rattle.l2_window.proofs.queue.Queue.insert_reserved.Given as goal

abbrev pub invariant-loop-behind : goal.invariant-loop-behind
invariant-loop-behind g l = record {
  items : l.self-inside.ring.items ≡ take l.behind l.fn.self.messages ++ l.message ∷ drop l.behind l.fn.self.messages;
  capacity : l.self-inside.ring.capacity ≡ l.initial.self-inside.ring.capacity;
}
