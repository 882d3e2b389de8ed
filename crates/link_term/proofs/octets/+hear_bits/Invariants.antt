use Rattle.std.proofs.Common.{length}
use Rattle.l2_bits.specs.Deframing.{rest_of}
use Rattle.link_term.proofs.octets.+hear_bits.Given as goal

abbrev pub decreases-hear_bits : goal.decreases-hear_bits
decreases-hear_bits g l = length (rest_of l.rest.now)
