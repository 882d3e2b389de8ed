use Rattle.std.proofs.Common.{◌≤◌, ◌+◌, ◌/◌, length, List, ℕ}
use Rattle.std.specs.Vec.{vec_len, vec_capacity}
use Rattle.text_units.specs.UnitsReading.{ReadsPairs}
use Rattle.text_units.proofs.digits.push_pairs.Given as goal

-- what is read of the characters that are left completes what is read of all
abbrev pub invariant-loop-octet : goal.invariant-loop-octet
invariant-loop-octet l = record {
  reads : (left after : List ℕ) → ReadsPairs l.left left l.octets.items after → ReadsPairs l.text left l.initial.octets.items after;
  room : vec_len l.octets + length l.left / 2 ≤ vec_capacity l.octets;
  shorter : length l.left ≤ length l.text;
}

abbrev pub decreases-loop-octet : goal.decreases-loop-octet
decreases-loop-octet l = length l.left
