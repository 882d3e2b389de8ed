use Rattle.text_entries.proofs.ItemLemmas.{item_again}
use Rattle.text_entries.proofs.items.items_read_back.Goals as goal

pub returns : goal.returns
returns c = λ p. item_again p (c.one_text.ensures p)
