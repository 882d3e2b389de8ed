use Rattle.std.proofs.Common.{length}
use Rattle.l2_bits.specs.Deframing.{rest_of}
use Rattle.link_term.proofs.octets.+drain.Given as goal

abbrev pub decreases-drain : goal.decreases-drain
decreases-drain l = length (rest_of l.rest.now)
