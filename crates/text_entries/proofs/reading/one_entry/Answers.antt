use Rattle.text_entries.proofs.ReadingLemmas.{one_entry_each}
use Rattle.text_entries.proofs.reading.one_entry.Goals as goal

pub returns : goal.returns
returns c = λ p. one_entry_each p (c.one_text.ensures p)
