use Rattle.std.proofs.Common.{sym, ap, ◌∙◌}
use Rattle.text_entries.specs.Reading.{is_arrow, others}
use Rattle.text_entries.proofs.WordLemmas.{slice_behind, none_left, missing_behind}
use Rattle.text_entries.proofs.words.told_of.Goals as goal

pub returns-in-Some : goal.returns-in-Some
returns-in-Some c = c.cut.ensures.others ∙ ap others (slice_behind is_arrow c.args.line.now c.in-Some.place (sym c.in-Some.is ∙ c.arrow_in.ensures.place))

pub returns-in-None : goal.returns-in-None
returns-in-None c = none_left c.args.line.now ∙ ap others (missing_behind is_arrow c.args.line.now (sym c.in-None.is ∙ c.arrow_in.ensures.place))
