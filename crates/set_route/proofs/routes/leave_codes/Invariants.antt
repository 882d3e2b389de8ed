use Rattle.std.proofs.Common.{◌≡◌, ◌++◌, take, drop}
use Rattle.set_route.specs.Routing.{codes_left}
use Rattle.set_route.proofs.routes.leave_codes.Given as goal

abbrev pub invariant-loop-number : goal.invariant-loop-number
invariant-loop-number l =
    l.codes ≡ codes_left l.link 0 (take l.number l.initial.codes) ++ drop l.number l.initial.codes
