use Rattle.std.proofs.Common.{◌≡◌, ◌+◌}
use Rattle.set_queues.specs.Messages.{unfinished}
use Rattle.set_queues.specs.Stored.{seen_in}
use Rattle.set_queues.proofs.Forgetting.{before_more, seen_forgotten}
use Rattle.set_queues.proofs.Tallies.{tally_kept}
use Rattle.set_queues.proofs.messages.Messages.forget.Goals as goal

pub invariant_of-self : goal.invariant_of-self
invariant_of-self o c =
    let gone = seen_forgotten c.self.inside.period c.self.inside.numbers.older.items c.self.inside.numbers.first c.self.inside.all.items c.self.invariant.2 in
    (c.self.invariant.0, rw gone (tally_kept _ _ _ c.self.invariant.1 c.forget_finished-self-inside.ensures), before_more c.self.inside.period c.self.inside.all.items c.self.invariant.2)

pub returns-clause-items : goal.returns-clause-items
returns-clause-items o c = rw (← c.self.view_is) (λ did. seen_forgotten c.self.inside.period c.self.inside.numbers.older.items c.self.inside.numbers.first c.self.inside.all.items c.self.invariant.2)
