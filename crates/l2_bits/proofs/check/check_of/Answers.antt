use Rattle.std.proofs.Common.{arith}
use Rattle.l2_bits.specs.LineBits.{line_bits}
use Rattle.l2_bits.proofs.DivisionLemmas.{check_bits_of_register}
use Rattle.l2_bits.proofs.check.check_of.Goals as goal

pub returns : goal.returns
returns c = check_bits_of_register (line_bits c.args.octets.now) c.after_all.result (omega arith) c.after_all.ensures
