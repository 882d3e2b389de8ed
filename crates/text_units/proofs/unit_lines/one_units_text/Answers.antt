use Rattle.text_units.proofs.UnitsLemmas.{one_text}
use Rattle.text_units.proofs.unit_lines.one_units_text.Goals as goal

pub returns : goal.returns
returns c = one_text
