use Rattle.text_units.proofs.DigitLemmas.{first_of_two}
use Rattle.text_units.proofs.digits.first_pair.Goals as goal

pub returns-clause-begins : goal.returns-clause-begins
returns-clause-begins c = first_of_two c.args.text.now c.in-Some.octet c.in-len2-up.len_at_least c.in-Some.ensures
