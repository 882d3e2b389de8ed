use Rattle.std.proofs.Common.{◌≡◌, map}
use Rattle.bank_traffic.specs.Opening.{body_of, numbers_below}
use Rattle.bank_traffic.proofs.opening.bodies_of.Given as goal

abbrev pub invariant-loop-number : goal.invariant-loop-number
invariant-loop-number l = map (λ body. body.items) l.bodies.items ≡ map (body_of l.user) (numbers_below l.number)
