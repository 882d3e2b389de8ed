use Rattle.std.proofs.Common.{◌↔◌, length}
use Rattle.set_ledger.specs.Places.{AreAt, AreLeft}
use Rattle.set_ledger.proofs.places.are_all.Given as goal

-- what is left of the receipts and of the history decides
abbrev pub invariant-loop-entry : goal.invariant-loop-entry
invariant-loop-entry l = AreAt l.places × (AreLeft l.initial.places l.fn.history ↔ AreLeft l.places l.left)

abbrev pub decreases-loop-entry : goal.decreases-loop-entry
decreases-loop-entry l = length l.left
