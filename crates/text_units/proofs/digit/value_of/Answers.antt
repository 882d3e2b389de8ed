use Rattle.std.proofs.Common.{arith}
use Rattle.text_units.proofs.TableLemmas.{value_at}
use Rattle.text_units.proofs.digit.value_of.Goals as goal

pub returns : goal.returns
returns c = value_at c.args.c (omega arith)
