use Rattle.text_entries.proofs.ItemLemmas.{are_texts}
use Rattle.text_entries.proofs.items.pieces_are_the_whole.Goals as goal

pub returns : goal.returns
returns c = are_texts
