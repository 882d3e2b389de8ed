-- The law, by a walk over the inputs.
use Rattle.l2_align.proofs.Walks.{fifth_abort}
use Rattle.l2_align.proofs.laws.fifth_abort_is_not_possible.Goals as goal

pub returns : goal.returns
returns c = fifth_abort
