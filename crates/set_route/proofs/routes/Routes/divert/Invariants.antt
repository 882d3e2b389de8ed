use Rattle.std.proofs.Common.{◌≡◌, ◌++◌, map, take, drop}
use Rattle.set_route.specs.Routing.{stream_left}
use Rattle.set_route.proofs.routes.Routes.divert.Given as goal

abbrev pub invariant-loop-stream : goal.invariant-loop-stream
invariant-loop-stream l =
    l.stream-items ≡ map (stream_left l.link) (take l.stream-index l.initial.stream-items) ++ drop l.stream-index l.initial.stream-items
