use Rattle.std.proofs.Common.{sym, ◌∙◌}
use Rattle.text_entries.specs.Reading.{is_gap}
use Rattle.text_entries.proofs.WordLemmas.{found_until, slice_behind, missing_until, slice_missing}
use Rattle.text_entries.proofs.words.cut.Goals as goal

pub returns-in-Some-clause-first : goal.returns-in-Some-clause-first
returns-in-Some-clause-first c = found_until is_gap c.args.line.now c.in-Some.place (sym c.in-Some.is ∙ c.gap_in.ensures.place)

pub returns-in-Some-clause-others : goal.returns-in-Some-clause-others
returns-in-Some-clause-others c = slice_behind is_gap c.args.line.now c.in-Some.place (sym c.in-Some.is ∙ c.gap_in.ensures.place)

pub returns-in-None-clause-first : goal.returns-in-None-clause-first
returns-in-None-clause-first c = missing_until is_gap c.args.line.now (sym c.in-None.is ∙ c.gap_in.ensures.place)

pub returns-in-None-clause-others : goal.returns-in-None-clause-others
returns-in-None-clause-others c = slice_missing is_gap c.args.line.now (sym c.in-None.is ∙ c.gap_in.ensures.place)
