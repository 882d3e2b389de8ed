use Rattle.std.proofs.Common.{◌≡◌, ◌-◌}
use Rattle.set_route.specs.Routing.{code_for, given_back_from, cleared}
use Rattle.set_route.proofs.routes.Routes.clear.Given as goal

abbrev pub invariant-loop-alternative : goal.invariant-loop-alternative
invariant-loop-alternative l = given_back_from (code_for l.home l.alternative) (16 - l.alternative) l.self ≡ cleared l.home l.initial.self
