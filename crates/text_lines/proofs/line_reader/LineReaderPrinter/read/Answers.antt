use Rattle.text_lines.proofs.ReaderLemmas.{lines_read}
use Rattle.text_lines.proofs.line_reader.LineReaderPrinter.read.Goals as goal

pub returns : goal.returns
returns g c = lines_read g.L.LineText.is_text g.L.LineText.has_read c.laws.ensures.one_text c.laws.ensures.begun c.read_all.result _ _ _ _ _ c.read_all.ensures
