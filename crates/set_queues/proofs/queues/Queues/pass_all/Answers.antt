use Rattle.std.proofs.Common.{arith, refl}
use Rattle.std.proofs.lemmas.List.{drop_all}
use Rattle.set_queues.specs.Buffers.{queue_at}
use Rattle.set_queues.proofs.Soundness.{sound_passed}
use Rattle.set_queues.proofs.queues.Queues.pass_all.Goals as goal

pub invariant_of-self : goal.invariant_of-self
invariant_of-self o c =
    sound_passed c.count_at-count.result c.args.from c.args.to _ _ _ _ c.self.invariant
    c.requires.standing (rw (← c.self.view_is) at c.requires.known) (rw (← c.self.view_is) at c.requires.other) c.requires.apart (λ s. (c.requires.room s).0)
    (rw (c.clear.ensures.lists, c.pass.ensures.lists, drop_all c.count_at-count.result (queue_at c.args.from c.self.inside.buffers.lists) (omega (arith, rw (← c.self.view_is) at c.count_at-count.ensures))) refl) c.pass.ensures.messages
