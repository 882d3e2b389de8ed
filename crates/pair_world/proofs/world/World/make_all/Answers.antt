use Rattle.pair_world.proofs.Moving.{stops}
use Rattle.pair_world.proofs.world.World.make_all.Goals as goal

pub returns-in-Err : goal.returns-in-Err
returns-in-Err o c =
    stops c.args.self.now c.args.moves.now c.loop-place.place c.loop-place.self c.index-moves-place.result c.in-Err.fault c.at.result
    c.loop-place.invariant c.loop-place-test.true c.index-moves-place.is c.at.ensures c.in-Err.ensures.carried
