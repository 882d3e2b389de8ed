use Rattle.text_entries.proofs.ReadingLemmas.{one_history_each}
use Rattle.text_entries.proofs.reading.one_history.Goals as goal

pub returns : goal.returns
returns c = λ p. one_history_each p (c.one_text.ensures p)
