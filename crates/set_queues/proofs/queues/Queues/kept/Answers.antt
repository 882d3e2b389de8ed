use Rattle.set_queues.proofs.Soundness.{sound_kept}
use Rattle.set_queues.proofs.queues.Queues.kept.Goals as goal

pub invariant_of-result : goal.invariant_of-result
invariant_of-result o c = rw (c.in_ok-copied.ensures, c.in_ok-kept.ensures) (sound_kept _ _ c.self.invariant)
