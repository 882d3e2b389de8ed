use Rattle.text_entries.proofs.FirstLineLemmas.{read_back_each}
use Rattle.text_entries.proofs.first_line.reads_back.Goals as goal

pub returns : goal.returns
returns c = read_back_each
