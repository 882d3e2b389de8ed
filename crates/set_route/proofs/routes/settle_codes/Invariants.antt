use Rattle.std.proofs.Common.{◌≡◌, ◌++◌, map, take, drop}
use Rattle.set_route.specs.Routing.{code_settled}
use Rattle.set_route.proofs.routes.settle_codes.Given as goal

abbrev pub invariant-loop-code : goal.invariant-loop-code
invariant-loop-code l =
    l.codes ≡ map (code_settled l.link l.target) (take l.code-index l.initial.codes) ++ drop l.code-index l.initial.codes
