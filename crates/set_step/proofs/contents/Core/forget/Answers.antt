use Rattle.set_model.specs.Checkpoint.{checkpointed}
use Rattle.set_step.proofs.contents.Core.forget.Goals as goal

pub invariant_of-self-2 : goal.invariant_of-self-2
invariant_of-self-2 o c = let h = c.self.invariant in (checkpointed h.0, c.in_ok-forget.ensures.ok h.0 h.1)

pub returns-clause-ok : goal.returns-clause-ok
returns-clause-ok o c = rw (← c.self.view_is) (λ s a. c.in_ok-forget.ensures.ok s a)
