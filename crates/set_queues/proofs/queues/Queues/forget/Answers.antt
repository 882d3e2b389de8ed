use Rattle.set_queues.proofs.Soundness.{sound_kept}
use Rattle.set_queues.proofs.queues.Queues.forget.Goals as goal

pub invariant_of-self : goal.invariant_of-self
invariant_of-self o c = rw (c.forget.ensures.items c.if-forget.true) (sound_kept _ _ c.self.invariant)
