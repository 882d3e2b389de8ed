use Rattle.std.proofs.Common.{refl, ◌∙◌, sym}
use Rattle.set_queues.specs.Buffers.{Unacked}
use Rattle.set_queues.proofs.Tallies.{octets_fit, weighs}
use Rattle.set_queues.proofs.queues.Queues.octets.Goals as goal

pub overflow_cast-result : goal.overflow_cast-result
overflow_cast-result o c = rw (c.octets.ensures) (octets_fit c.args.link _ _ c.self.invariant (rw (← c.self.view_is) at c.requires))

pub returns : goal.returns
returns o c = rw (← c.self.view_is) (c.octets.ensures ∙ sym (weighs c.args.link _ _ (c.self.invariant.tied (Unacked c.args.link) refl)))
