use Rattle.std.proofs.Common.{sym, ◌∙◌}
use Rattle.text_base.proofs.PrintLemmas.{passed_on}
use Rattle.text_lines.specs.Under.{text_by}
use Rattle.text_lines.proofs.LineLemmas.{open_before, cut_at, all_open}
use Rattle.text_lines.proofs.ReaderLemmas.{begins_to_read, reads_on, reads_last, stops_in}
use Rattle.text_lines.proofs.line_reader.LineReader.read_all.Goals as goal

pub loop-place-init : goal.loop-place-init
loop-place-init g c = begins_to_read _ _ _

pub read_line-requires : goal.read_line-requires
read_line-requires g c = open_before c.loop-place.left.now c.in-Some.place (sym c.in-Some.is ∙ c.end_of_line.ensures.place)

pub returns-in_err-read_line : goal.returns-in_err-read_line
returns-in_err-read_line g c =
    rw (passed_on c.from_residual.result c.in_err-read_line.field-0.0 c.from_residual.ensures.1) (stops_in (text_by g.L.LineText.is_text) c.in_err-read_line.field-0.0 _ _ _ _ _ _ _ _ _ (cut_at c.loop-place.left.now c.in-Some.place (sym c.in-Some.is ∙ c.end_of_line.ensures.place)) c.loop-place.invariant c.in_err-read_line.ensures)

pub loop-place-preserved : goal.loop-place-preserved
loop-place-preserved g c =
    reads_on _ _ _ _ _ _ _ _ _ _ (cut_at c.loop-place.left.now c.in-Some.place (sym c.in-Some.is ∙ c.end_of_line.ensures.place)) c.loop-place.invariant c.in_ok-read_line.ensures

pub keep-requires : goal.keep-requires
keep-requires g c = all_open c.loop-place.left.now (sym c.in_default.is ∙ c.end_of_line.ensures.place)

pub returns : goal.returns
returns g c = reads_last (text_by g.L.LineText.is_text) c.keep.result _ _ _ _ _ _ _ _ c.loop-place.invariant (c.keep.ensures _)
