use Rattle.std.proofs.Common.{Bool, List, ◌++◌, ap}
use Rattle.l2_bits.specs.LineBits.{line_bits}
use Rattle.l2_bits.proofs.BitLemmas.{bits_of-zero}
use Rattle.l2_bits.proofs.rest.Octets.new.Goals as goal

pub returns : goal.returns
returns c = ap (λ (front : List Bool). front ++ line_bits c.args.octets.now) (bits_of-zero 0)
