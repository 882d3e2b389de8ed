use Rattle.pair_octets.proofs.Ring.{loops_are_rings}
use Rattle.pair_octets.proofs.laws.a_loop_is_a_ring.Goals as goal

pub returns : goal.returns
returns c a b l run = loops_are_rings a b l run
