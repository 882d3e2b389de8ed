use Rattle.std.proofs.Common.{arith}
use Rattle.set_route.specs.Routing.{stream_back}
use Rattle.set_route.proofs.Places.{one_more}
use Rattle.set_route.proofs.routes.run_home.Goals as goal

pub loop-stream-preserved : goal.loop-stream-preserved
loop-stream-preserved c =
    one_more (stream_back c.args.code) c.args.streams.now c.loop-stream.streams c.loop-stream.stream-index _ _ (omega (arith, c.told-streams, c.loop-stream-test.true)) c.loop-stream.invariant c.give_back.ensures
