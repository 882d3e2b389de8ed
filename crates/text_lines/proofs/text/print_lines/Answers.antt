use Rattle.text_lines.proofs.ReaderLemmas.{begins}
use Rattle.text_lines.proofs.text.print_lines.Goals as goal

pub print_all-requires-clause-begins : goal.print_all-requires-clause-begins
print_all-requires-clause-begins g c = rw c.new.ensures (begins g.L.LineText.is_text g.L.LineText.has_read _ c.requires.start)
