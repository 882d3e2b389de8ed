-- The law, by a walk over the inputs.
use Rattle.l3_link.proofs.Attended.{off_is_silent}
use Rattle.l3_link.proofs.laws.a_deactivated_link_is_silent.Goals as goal

pub returns : goal.returns
returns c = off_is_silent
