use Rattle.std.proofs.Common.{◌≡◌, drop}
use Rattle.end_calls.proofs.telling.behind.Given as goal

-- so many are passed over
abbrev pub invariant-loop-passed : goal.invariant-loop-passed
invariant-loop-passed l = l.left ≡ drop l.passed l.fn.entries
