use Rattle.set_route.proofs.Places.{FirstAre}
use Rattle.set_route.proofs.routes.Routes.new.Given as goal

abbrev pub invariant-loop-number : goal.invariant-loop-number
invariant-loop-number l = FirstAre l.links l.number l.stream-items
