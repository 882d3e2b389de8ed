use Rattle.line_ring.specs.Rings.{IsSameEnd}
use Rattle.term_tests.proofs.lines.hears.Given as goal

abbrev pub invariant-loop-number : goal.invariant-loop-number
invariant-loop-number g l = IsSameEnd l.initial.line l.line
