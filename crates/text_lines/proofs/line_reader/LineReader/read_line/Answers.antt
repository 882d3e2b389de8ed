use Rattle.text_base.proofs.PrintLemmas.{passed_on}
use Rattle.text_lines.specs.Under.{text_by}
use Rattle.text_lines.proofs.ReaderLemmas.{halts_before, goes_further}
use Rattle.text_lines.proofs.line_reader.LineReader.read_line.Goals as goal

pub returns : goal.returns
returns g c = goes_further (text_by g.L.LineText.is_text) c.end_line.result _ _ _ _ _ _ _ _ (c.in_ok-keep.ensures _) c.end_line.ensures

pub returns-in_err-keep : goal.returns-in_err-keep
returns-in_err-keep g c = rw (passed_on c.from_residual.result c.in_err-keep.field-0.0 c.from_residual.ensures.1) (halts_before (text_by g.L.LineText.is_text) _ _ c.args.octets.now _ _ _ (c.in_err-keep.ensures _))
