use Rattle.text_lines.proofs.ReaderLemmas.{lines_end}
use Rattle.text_lines.proofs.line_reader.LineReaderPrinter.end.Goals as goal

pub returns : goal.returns
returns g c = lines_end g.L.LineText.is_text g.L.LineText.has_read c.laws.ensures.one_text c.laws.ensures.begun c.finish.result c.args.self _ _ c.finish.ensures
