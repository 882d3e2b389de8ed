-- The law, by a walk over the inputs.
use Rattle.l2_state.proofs.Walks.{up_only_from_ready}
use Rattle.l2_state.proofs.laws.up_only_from_ready.Goals as goal

pub returns : goal.returns
returns c = up_only_from_ready
