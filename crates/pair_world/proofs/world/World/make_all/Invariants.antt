use Rattle.pair_world.proofs.Moving.{IsUnderWay}
use Rattle.pair_world.proofs.world.World.make_all.Given as goal

abbrev pub invariant-loop-place : goal.invariant-loop-place
invariant-loop-place o l = IsUnderWay l.initial.self l.moves l.place l.self
