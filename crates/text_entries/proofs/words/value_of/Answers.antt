use Rattle.std.proofs.Common.{sym, ◌∙◌}
use Rattle.text_entries.specs.Reading.{is_sign}
use Rattle.text_entries.proofs.WordLemmas.{slice_behind, slice_missing}
use Rattle.text_entries.proofs.words.value_of.Goals as goal

pub returns-in-Some : goal.returns-in-Some
returns-in-Some c = slice_behind is_sign c.args.word.now c.in-Some.place (sym c.in-Some.is ∙ c.sign_in.ensures.place)

pub returns-in-None : goal.returns-in-None
returns-in-None c = slice_missing is_sign c.args.word.now (sym c.in-None.is ∙ c.sign_in.ensures.place)
