use Rattle.std.proofs.Common.{arith}
use Rattle.text_units.proofs.FillInLemmas.{digit_more}
use Rattle.text_units.proofs.fill_in_line.put_below_1000.Goals as goal

pub returns-clause-put : goal.returns-clause-put
returns-clause-put c = digit_more c.args.value _ _ _ (omega (arith, c.if-value-le99.false)) (omega (arith, c.requires.small)) c.put_below_100-last.ensures.put c.put_digit.ensures.put
