use Rattle.std.proofs.Common.{◌<◌, ℕ, []}
use Rattle.set_ledger.specs.Places.{IsLeft, at}
use Rattle.set_ledger.proofs.places.are_read.Given as goal

-- none is left in the places so far
abbrev pub invariant-loop-place : goal.invariant-loop-place
invariant-loop-place l = (k : ℕ) → k < l.place-index → IsLeft (at l.places k) []
