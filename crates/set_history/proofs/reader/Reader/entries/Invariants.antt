use Rattle.std.proofs.Common.{◌≡◌, ◌++◌, length}
use Rattle.set_history.proofs.reader.Reader.entries.Given as goal

abbrev pub invariant-loop-told : goal.invariant-loop-told
invariant-loop-told l = l.self ≡ l.entries.items ++ l.left

abbrev pub decreases-loop-told : goal.decreases-loop-told
decreases-loop-told l = length l.left
