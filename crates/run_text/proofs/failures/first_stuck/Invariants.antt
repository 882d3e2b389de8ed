use Rattle.std.proofs.Common.{◌≡◌, drop}
use Rattle.run_text.specs.Failures.{stuck_from}
use Rattle.run_text.proofs.failures.first_stuck.Given as goal

abbrev pub invariant-loop-ended : goal.invariant-loop-ended
invariant-loop-ended l = (stuck_from 0 l.users ≡ stuck_from l.user (drop l.ended-index l.users)) × (l.user ≡ l.ended-index)
