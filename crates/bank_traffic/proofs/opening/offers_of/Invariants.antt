use Rattle.std.proofs.Common.{◌≡◌}
use Rattle.bank_traffic.specs.Opening.{each_set, near_jobs}
use Rattle.bank_traffic.specs.Sides.{duties}
use Rattle.bank_traffic.proofs.opening.offers_of.Given as goal

abbrev pub invariant-loop-set : goal.invariant-loop-set
invariant-loop-set l = duties l.all ≡ each_set l._set (near_jobs l.users l.messages)
