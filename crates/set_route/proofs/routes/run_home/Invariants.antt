use Rattle.std.proofs.Common.{◌≡◌, ◌++◌, map, take, drop}
use Rattle.set_route.specs.Routing.{stream_back}
use Rattle.set_route.proofs.routes.run_home.Given as goal

abbrev pub invariant-loop-stream : goal.invariant-loop-stream
invariant-loop-stream l =
    l.streams ≡ map (stream_back l.code) (take l.stream-index l.initial.streams) ++ drop l.stream-index l.initial.streams
