-- The law, by a walk over the inputs.
use Rattle.l2_align.proofs.Walks.{new_after_end}
use Rattle.l2_align.proofs.laws.new_after_each_end.Goals as goal

pub returns : goal.returns
returns c = new_after_end
