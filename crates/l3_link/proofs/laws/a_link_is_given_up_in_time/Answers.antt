-- The law, by a walk over the inputs.
use Rattle.l3_link.proofs.Waiting.{timed_after_wait}
use Rattle.l3_link.proofs.laws.a_link_is_given_up_in_time.Goals as goal

pub returns : goal.returns
returns c = timed_after_wait
