use Rattle.std.proofs.Common.{◌≡◌}
use Rattle.text_base.proofs.PrintLemmas.{Under}
use Rattle.text_base.proofs.printing.print_all.Given as goal

abbrev pub invariant-loop : goal.invariant-loop
invariant-loop g l =
    (g.S.Source.failures l.source ≡ g.S.Source.failures l.initial.source)
    × (g.W.Sink.failures l.sink ≡ g.W.Sink.failures l.initial.sink)
    × Under g.P.Printer.is_text (g.P.Printer.has_read l.printer) (g.S.Source.left l.initial.source) (g.S.Source.left l.source)
    (g.W.Sink.written l.initial.sink) (g.W.Sink.written l.sink) l.longest l.left l.counter
