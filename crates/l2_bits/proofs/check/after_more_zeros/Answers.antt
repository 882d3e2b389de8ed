use Rattle.std.proofs.Common.{arith}
use Rattle.l2_bits.proofs.TableLemmas.{more_table_at}
use Rattle.l2_bits.proofs.check.after_more_zeros.Goals as goal

pub returns : goal.returns
returns c = more_table_at c.args.low (omega arith)
