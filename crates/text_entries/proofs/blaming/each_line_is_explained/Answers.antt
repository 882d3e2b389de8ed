use Rattle.text_entries.proofs.Blamed.{each_explained}
use Rattle.text_entries.proofs.blaming.each_line_is_explained.Goals as goal

pub returns : goal.returns
returns c = each_explained
