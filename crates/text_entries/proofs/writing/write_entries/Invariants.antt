use Rattle.std.proofs.Common.{◌≡◌, ◌++◌, length}
use Rattle.text_entries.specs.Entries.{entries_text}
use Rattle.text_entries.proofs.writing.write_entries.Given as goal

abbrev pub invariant-loop-told : goal.invariant-loop-told
invariant-loop-told l = entries_text l.profile l.fn.entries ≡ l.lines.items ++ entries_text l.profile l.left

abbrev pub decreases-loop-told : goal.decreases-loop-told
decreases-loop-told l = length l.left
