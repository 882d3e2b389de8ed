use Rattle.term_tests.proofs.lines.take_waiting.Given as goal

abbrev pub invariant-loop : goal.invariant-loop
invariant-loop g l = g.L.Line.is_same l.initial.line l.line
