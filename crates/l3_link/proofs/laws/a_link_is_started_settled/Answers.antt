-- The law, by a walk over the inputs.
use Rattle.l3_link.proofs.Settled.{starts_settled}
use Rattle.l3_link.proofs.laws.a_link_is_started_settled.Goals as goal

pub returns : goal.returns
returns c = starts_settled
