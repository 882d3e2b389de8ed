-- The law, by a walk over the inputs.
use Rattle.l2_align.proofs.Walks.{completes_unbroken}
use Rattle.l2_align.proofs.laws.complete_only_after_unbroken_proving.Goals as goal

pub returns : goal.returns
returns c = completes_unbroken
