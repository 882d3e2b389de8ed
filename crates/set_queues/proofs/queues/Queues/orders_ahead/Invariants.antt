use Rattle.std.proofs.Common.{◌≡◌, ◌++◌, ℕ, take, drop}
use Rattle.set_queues.specs.Buffers.{queue_at}
use Rattle.set_queues.specs.Queues.{behind_orders}
use Rattle.set_queues.proofs.queues.Queues.orders_ahead.Given as goal

abbrev pub invariant-loop-place : goal.invariant-loop-place
invariant-loop-place o l = (number : ℕ) → behind_orders l.fn.self.messages number (queue_at l.fate l.fn.self.lists)
    ≡ take l.place (queue_at l.fate l.fn.self.lists) ++ behind_orders l.fn.self.messages number (drop l.place (queue_at l.fate l.fn.self.lists))
