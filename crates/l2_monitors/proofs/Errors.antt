-- The errors of a list of marks that one more mark ends.
use Rattle.std.proofs.Common.{◌≡◌, ◌+◌, Bool, true, false, List, [], ◌∷◌, ◌++◌, if◌then◌else◌, refl, arith}
use Rattle.l2_monitors.specs.Marks.{errors}

pub errors-push : (marks : List Bool) (error : Bool) → errors (marks ++ error ∷ []) ≡ errors marks + (if error then 1 else 0)
errors-push [] true = refl
errors-push [] false = refl
errors-push (true ∷ marks) error = omega (arith, errors-push marks error)
errors-push (false ∷ marks) error = errors-push marks error

pub ruleset one_more = errors-push
