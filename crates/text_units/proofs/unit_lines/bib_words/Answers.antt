use Rattle.std.proofs.Common.{refl}
use Rattle.text_units.proofs.BitLemmas.{yes_is_1, no_is_0}
use Rattle.text_units.proofs.unit_lines.bib_words.Goals as goal

pub returns-then-bib-clause-value : goal.returns-then-bib-clause-value
returns-then-bib-clause-value c = rw (yes_is_1 c.args.bib c.if-bib.true) refl

pub returns-else-bib-clause-value : goal.returns-else-bib-clause-value
returns-else-bib-clause-value c = rw (no_is_0 c.args.bib c.if-bib.false) refl
