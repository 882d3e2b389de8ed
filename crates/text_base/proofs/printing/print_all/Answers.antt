use Rattle.std.proofs.Common.{arith}
use Rattle.std.proofs.lemmas.Grind.{common_steps}
use Rattle.text_base.proofs.PrintLemmas.{passed_on, piece_too_much, piece_broke}
use Rattle.text_base.proofs.printing.print_all.Goals as goal

pub returns-in_err-pass-clause-text : goal.returns-in_err-pass-clause-text
returns-in_err-pass-clause-text g c =
    rw (passed_on c.from_residual.result c.in_err-pass.field-0.0 c.from_residual.ensures.1)
    (piece_broke g.P.Printer.is_text _ (g.P.Printer.has_read c.loop.printer) _ _ _ _ _ _ _ _ _ c.requires.longest c.loop.invariant.2 c.in_err-pass.field-0.0 _ _ _
    (grind (arith, common_steps, c.min.ensures)) (grind (arith, common_steps, c.min.ensures)) c.in-Ok.ensures.octets.0 c.in_err-pass.ensures.passes)

pub returns-then-count-left-clause-text : goal.returns-then-count-left-clause-text
returns-then-count-left-clause-text g c =
    piece_too_much g.P.Printer.is_text _ _ _ _ _ _ _ _ _ _ _ c.requires.longest c.loop.invariant.2 _ _ _
    (grind (arith, common_steps, c.min.ensures)) (grind (arith, common_steps, c.min.ensures)) c.in-Ok.ensures.octets.0 c.in_ok-pass.ensures.passes
