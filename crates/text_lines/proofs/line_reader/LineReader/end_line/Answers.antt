use Rattle.std.proofs.Common.{arith, sym, append-nil, []}
use Rattle.std.proofs.lemmas.Grind.{common_steps}
use Rattle.text_base.proofs.PrintLemmas.{passed_on}
use Rattle.text_lines.proofs.ReaderLemmas.{ends_a_line, halts_line}
use Rattle.text_lines.proofs.line_reader.LineReader.end_line.Goals as goal

pub returns : goal.returns
returns g c =
    rw (← c.self.view_is) (ends_a_line g.L.LineText.is_text g.L.LineText.has_read _ [] c.self.inside.text.items _ _ _ (sym (append-nil c.self.inside.text.items)) c.self.invariant.is_open (rw (← c.deref.ensures.value) c.in_ok-line.ensures) (λ room. grind (arith, common_steps, c.saturating_add-self-inside.ensures, room)) c.clear.ensures.items)

pub returns-in_err-line : goal.returns-in_err-line
returns-in_err-line g c =
    rw (← c.self.view_is, passed_on c.from_residual.result c.in_err-line.field-0.0 c.from_residual.ensures.1)
    (halts_line g.L.LineText.is_text g.L.LineText.has_read c.in_err-line.field-0.0 _ [] c.self.inside.text.items _ _ (sym (append-nil c.self.inside.text.items)) c.self.invariant.is_open (rw (← c.deref.ensures.value) c.in_err-line.ensures))
