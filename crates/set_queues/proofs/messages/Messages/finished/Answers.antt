use Rattle.std.proofs.Common.{rules}
use Rattle.set_queues.specs.Buffers.{Acked, Discarded, Emergency, Unreasonable, NoAnswer}
use Rattle.set_queues.proofs.messages.Messages.finished.Goals as goal

pub returns : goal.returns
returns o c =
    let counts = c.self.invariant.1.counts in
    rw (← c.self.view_is) (search (rules, counts (Acked 0), counts (Discarded Emergency), counts (Discarded Unreasonable), counts (Discarded NoAnswer), c.self.invariant.1.orders))
