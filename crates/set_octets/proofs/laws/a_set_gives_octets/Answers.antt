use Rattle.set_octets.proofs.Held.{steps_give_octets}
use Rattle.set_octets.proofs.laws.a_set_gives_octets.Goals as goal

pub returns : goal.returns
returns c s event sound settings holds asked = steps_give_octets s event sound settings holds asked
