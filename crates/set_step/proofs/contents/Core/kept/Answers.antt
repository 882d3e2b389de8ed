use Rattle.set_model.specs.Checkpoint.{checkpointed}
use Rattle.set_step.proofs.contents.Core.kept.Goals as goal

pub invariant_of-result : goal.invariant_of-result
invariant_of-result o c = let h = c.self.invariant in (checkpointed h.0, c.in_ok-kept.ensures h.0 h.1)

pub returns : goal.returns
returns o c = rw (← c.self.view_is) (λ s a. c.in_ok-kept.ensures s a)
