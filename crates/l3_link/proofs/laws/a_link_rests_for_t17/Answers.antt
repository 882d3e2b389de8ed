-- The law, by a walk over the inputs.
use Rattle.l3_link.proofs.Resting.{starts_after_t17}
use Rattle.l3_link.proofs.laws.a_link_rests_for_t17.Goals as goal

pub returns : goal.returns
returns c = starts_after_t17
