use Rattle.pair_world.proofs.Playing.{IsUnderWay}
use Rattle.pair_world.proofs.world.World.carry_out_all.Given as goal

abbrev pub invariant-loop-place : goal.invariant-loop-place
invariant-loop-place o l = IsUnderWay l.initial.self l.steps l.place l.self
