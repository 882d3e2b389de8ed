use Rattle.std.proofs.Common.{arith}
use Rattle.set_queues.proofs.Forgetting.{seen_length}
use Rattle.set_queues.proofs.messages.Messages.given.Goals as goal

pub returns-clause-value : goal.returns-clause-value
returns-clause-value o c =
    let long = seen_length c.self.inside.period c.self.inside.numbers.older.items c.self.inside.numbers.first c.self.inside.all.items in
    rw (← c.self.view_is) (grind (arith, long))
