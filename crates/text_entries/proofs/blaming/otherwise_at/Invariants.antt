use Rattle.std.proofs.Common.{◌≡◌, ◌+◌, length}
use Rattle.text_entries.specs.Blaming.{otherwise_at, otherwise_from}
use Rattle.text_entries.proofs.blaming.otherwise_at.Given as goal

abbrev pub invariant-loop-left : goal.invariant-loop-left
invariant-loop-left l =
    (otherwise_at l.whole l.text ≡ otherwise_from l.start l.place l.left l.as_written) × (l.place + length l.left ≡ length l.whole)

abbrev pub decreases-loop-left : goal.decreases-loop-left
decreases-loop-left l = length l.left
