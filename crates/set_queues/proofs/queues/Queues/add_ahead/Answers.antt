use Rattle.std.proofs.Common.{length}
use Rattle.set_queues.proofs.Leading.{sound_ahead}
use Rattle.set_queues.proofs.queues.Queues.add_ahead.Goals as goal

pub invariant_of-self : goal.invariant_of-self
invariant_of-self o c =
    let ahead = rw (← c.self.view_is) at (c.orders_ahead-place.ensures.ahead (length c.self.inside.messages.items)) in
    rw (c.insert.ensures.lists, c.len-number.ensures.value, ← c.self.view_is, c.push.ensures.items, ← ahead) (
    sound_ahead _ _ c.args.message c.self.invariant c.requires.fit (rw (← c.self.view_is) at c.requires.known) c.requires.queued)
