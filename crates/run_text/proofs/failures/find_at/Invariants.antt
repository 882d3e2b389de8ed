use Rattle.std.proofs.Common.{◌≡◌, drop}
use Rattle.run_text.specs.Failures.{failure_from}
use Rattle.run_text.proofs.failures.find_at.Given as goal

abbrev pub invariant-loop-set : goal.invariant-loop-set
invariant-loop-set l = (failure_from l.end 0 l.sets ≡ failure_from l.end l.number (drop l.set-index l.sets)) × (l.number ≡ l.set-index)
