use Rattle.set_queues.proofs.Soundness.{sound_added}
use Rattle.set_queues.proofs.queues.Queues.add.Goals as goal

pub invariant_of-self : goal.invariant_of-self
invariant_of-self o c = rw (c.push-2.ensures.lists, c.len-number.ensures.value, ← c.self.view_is, c.push.ensures.items) (
    sound_added _ _ c.args.message c.self.invariant c.requires.fit (rw (← c.self.view_is) at c.requires.known) c.requires.queued)
