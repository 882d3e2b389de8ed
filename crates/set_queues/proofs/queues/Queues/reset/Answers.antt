use Rattle.std.proofs.Common.{arith}
use Rattle.set_queues.proofs.Linked.{of_link}
use Rattle.l2_window.specs.Window.{fsn_before_first}
use Rattle.set_queues.specs.Buffers.{profile_at}
use Rattle.set_queues.proofs.Soundness.{sound_with_last}
use Rattle.set_queues.proofs.queues.Queues.reset.Goals as goal

pub invariant_of-self : goal.invariant_of-self
invariant_of-self o c = sound_with_last _ _ _ c.args.link (fsn_before_first (profile_at c.args.link c.self.inside.buffers.lists)) (grind (arith, of_link)) c.self.invariant
