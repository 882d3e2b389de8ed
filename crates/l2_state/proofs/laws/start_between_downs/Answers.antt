-- The law, by a walk over the inputs.
use Rattle.l2_state.proofs.Walks.{start_between_downs}
use Rattle.l2_state.proofs.laws.start_between_downs.Goals as goal

pub returns : goal.returns
returns c = start_between_downs
