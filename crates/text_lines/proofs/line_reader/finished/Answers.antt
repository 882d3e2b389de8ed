use Rattle.std.proofs.Common.{refl, arith, sym}
use Rattle.std.proofs.lemmas.Grind.{common_steps}
use Rattle.text_base.proofs.PrintLemmas.{passed_on}
use Rattle.text_lines.proofs.LineLemmas.{nothing_read, something_read}
use Rattle.text_lines.proofs.ReaderLemmas.{ends_at_line, ends_at_once, ends_behind}
use Rattle.text_lines.proofs.line_reader.finished.Goals as goal

pub returns-then-is_empty : goal.returns-then-is_empty
returns-then-is_empty g c = ends_at_once g.L.LineText.is_text g.L.LineText.has_read c.end.result _ _ _ _ _ (nothing_read c.args.text.now _ refl (sym c.if-is_empty.ensures)) c.end.ensures

pub returns : goal.returns
returns g c =
    ends_behind g.L.LineText.is_text g.L.LineText.has_read c.end-2.result _ _ _ _ _ _ _ _ (something_read c.args.text.now _ refl (sym c.if-is_empty.ensures)) c.requires.is_open c.in_ok-line.ensures
    (λ room. grind (arith, common_steps, c.saturating_add.ensures, room)) c.end-2.ensures

pub returns-in_err-line : goal.returns-in_err-line
returns-in_err-line g c =
    rw (passed_on c.from_residual.result c.in_err-line.field-0.0 c.from_residual.ensures.1)
    (ends_at_line g.L.LineText.is_text g.L.LineText.has_read c.in_err-line.field-0.0 _ _ _ _ _ (something_read c.args.text.now _ refl (sym c.if-is_empty.ensures)) c.requires.is_open c.in_err-line.ensures)
