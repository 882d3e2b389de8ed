use Rattle.pair_world.proofs.Playing.{stops}
use Rattle.pair_world.proofs.world.World.carry_out_all.Goals as goal

pub returns-in-Err : goal.returns-in-Err
returns-in-Err o c =
    stops c.args.self.now c.args.steps.now c.loop-place.place c.loop-place.self c.index-steps-place.result c.in-Err.fault c.at.result
    c.loop-place.invariant c.loop-place-test.true c.index-steps-place.is c.at.ensures c.in-Err.ensures.carried
