use Rattle.text_units.proofs.ExplainLemmas.{each_explained}
use Rattle.text_units.proofs.decode_explaining.each_unreadable_unit_is_explained.Goals as goal

pub returns : goal.returns
returns c = each_explained
