-- The law, by what holds after each input.
use Rattle.l3_link.proofs.Attended.{never_left_waiting}
use Rattle.l3_link.proofs.laws.a_link_is_never_left_waiting.Goals as goal

pub returns : goal.returns
returns c = never_left_waiting
