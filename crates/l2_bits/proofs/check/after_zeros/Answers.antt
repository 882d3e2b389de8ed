use Rattle.std.proofs.Common.{arith}
use Rattle.l2_bits.proofs.TableLemmas.{table_at}
use Rattle.l2_bits.proofs.check.after_zeros.Goals as goal

pub returns : goal.returns
returns c = table_at c.args.low (omega arith)
