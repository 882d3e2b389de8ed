use Rattle.std.proofs.Common.{refl, sym, ◌∙◌}
use Rattle.text_forms.specs.Places.{a_link}
use Rattle.text_forms.proofs.LastWord.{last_behind, last_read, link_is_one}
use Rattle.text_forms.proofs.words.Words.link.Goals as goal

pub returns-in-Some-clause-value : goal.returns-in-Some-clause-value
returns-in-Some-clause-value c = sym (last_read a_link link_is_one refl c.args.self.now c.in-Some.link cc)

pub returns-in-Some-clause-behind : goal.returns-in-Some-clause-behind
returns-in-Some-clause-behind c = c.end_line.ensures ∙ last_behind a_link link_is_one refl c.args.self.now c.in-Some.link cc
