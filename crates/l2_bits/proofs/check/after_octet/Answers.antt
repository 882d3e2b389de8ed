use Rattle.std.proofs.Common.{arith}
use Rattle.l2_bits.proofs.TableLemmas.{octet_divides}
use Rattle.l2_bits.proofs.check.after_octet.Goals as goal

pub returns : goal.returns
returns c = octet_divides c.args.register c.args.octet _ (omega arith) (omega arith) (cc)
