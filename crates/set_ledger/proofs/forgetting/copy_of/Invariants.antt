use Rattle.std.proofs.Common.{◌≡◌, ◌++◌, length}
use Rattle.set_ledger.proofs.forgetting.copy_of.Given as goal

abbrev pub invariant-loop-told : goal.invariant-loop-told
invariant-loop-told g l = l.copy.items ++ l.left ≡ l.fn.entries

abbrev pub decreases-loop-told : goal.decreases-loop-told
decreases-loop-told g l = length l.left
