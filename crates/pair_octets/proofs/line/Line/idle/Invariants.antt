use Rattle.std.proofs.Common.{◌≡◌}
use Rattle.pair_octets.specs.Wires.{idle_line}
use Rattle.pair_octets.proofs.line.Line.idle.Given as goal

abbrev pub invariant-loop : goal.invariant-loop
invariant-loop l = l.line.items ≡ idle_line l.counter
