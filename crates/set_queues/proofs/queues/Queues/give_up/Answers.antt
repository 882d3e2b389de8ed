use Rattle.std.proofs.Common.{arith, refl}
use Rattle.set_queues.specs.Buffers.{Discarded}
use Rattle.set_queues.proofs.Sifting.{sound_without}
use Rattle.set_queues.proofs.Soundness.{unqueued}
use Rattle.set_queues.proofs.queues.Queues.give_up.Goals as goal

pub invariant_of-self : goal.invariant_of-self
invariant_of-self o c =
    sound_without c.args.number c.args.from (Discarded c.args.cause) c.self.inside.buffers.lists _ c.self.inside.messages.items _ c.self.invariant (grind arith)
    (rw (← c.self.view_is) at c.requires.known) refl (λ l. unqueued c.args.from l (λ s. c.requires.queued)) (rw (← c.self.view_is) at c.requires.there) c.omit.ensures.lists c.restand.ensures.items
