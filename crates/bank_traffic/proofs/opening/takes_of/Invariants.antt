use Rattle.std.proofs.Common.{◌≡◌, [], ◌∷◌}
use Rattle.bank_crew.specs.Jobs.{takes}
use Rattle.bank_traffic.specs.Opening.{each_set}
use Rattle.bank_traffic.specs.Sides.{duties}
use Rattle.bank_traffic.proofs.opening.takes_of.Given as goal

abbrev pub invariant-loop-set : goal.invariant-loop-set
invariant-loop-set l = duties l.all ≡ each_set l._set (takes l.times ∷ [])
