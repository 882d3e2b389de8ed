use Rattle.std.proofs.Common.{◌≡◌, map, take}
use Rattle.pair_octets.specs.Wires.{idle_line}
use Rattle.pair_octets.proofs.lines.Lines.to_b.Given as goal

abbrev pub invariant-loop-line : goal.invariant-loop-line
invariant-loop-line l = l.lines.items ≡ map (λ line. idle_line line.to_b) (take l.line-index l.lengths)
