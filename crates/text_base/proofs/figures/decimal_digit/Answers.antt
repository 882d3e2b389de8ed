use Rattle.std.proofs.Common.{sym}
use Rattle.std.proofs.lemmas.Fmt.{decimal_digit as one_digit}
use Rattle.text_base.proofs.figures.decimal_digit.Goals as goal

pub returns : goal.returns
returns c = sym (one_digit c.args.value c.requires)
