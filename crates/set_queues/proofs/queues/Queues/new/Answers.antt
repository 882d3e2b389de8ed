use Rattle.set_queues.proofs.Soundness.{sound_new}
use Rattle.set_queues.proofs.queues.Queues.new.Goals as goal

pub invariant_of-result : goal.invariant_of-result
invariant_of-result o c = rw c.new-2.ensures (sound_new c.args.profile _ c.args.links c.in_ok-new.ensures c.requires.0 c.requires.1)
