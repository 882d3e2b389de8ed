use Rattle.std.proofs.Common.{refl, sym, ◌∙◌}
use Rattle.text_forms.specs.Places.{a_number}
use Rattle.text_forms.proofs.LastWord.{last_behind, last_read, number_is_one}
use Rattle.text_forms.proofs.words.Words.number.Goals as goal

pub returns-in-Some-clause-value : goal.returns-in-Some-clause-value
returns-in-Some-clause-value c = sym (last_read a_number number_is_one refl c.args.self.now c.in-Some.number cc)

pub returns-in-Some-clause-behind : goal.returns-in-Some-clause-behind
returns-in-Some-clause-behind c = c.end_line.ensures ∙ last_behind a_number number_is_one refl c.args.self.now c.in-Some.number cc
