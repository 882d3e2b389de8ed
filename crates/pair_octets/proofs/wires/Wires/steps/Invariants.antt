use Rattle.pair_octets.proofs.Running.{IsUnderWay}
use Rattle.pair_octets.proofs.wires.Wires.steps.Given as goal

abbrev pub invariant-loop-place : goal.invariant-loop-place
invariant-loop-place l = IsUnderWay l.initial.self l.steps l.place l.self
