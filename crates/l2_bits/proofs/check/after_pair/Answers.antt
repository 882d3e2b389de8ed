use Rattle.std.proofs.Common.{◌*◌, ◌%◌, bit_or, arith}
use Rattle.l2_bits.proofs.TableLemmas.{pair_divides}
use Rattle.l2_bits.proofs.WindowLemmas.{pair_is}
use Rattle.l2_bits.proofs.check.after_pair.Goals as goal

pub returns : goal.returns
returns c =
    pair_divides c.args.register c.args.first c.args.second (bit_or (c.from.result * 256 % 65536) c.from-2.result) _ _ (omega arith) (omega arith) (omega arith)
    (rw (c.from.ensures, c.from-2.ensures) (pair_is c.args.first c.args.second (omega arith) (omega arith)))
    c.after_more_zeros.ensures c.after_zeros.ensures
