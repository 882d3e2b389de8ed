use Rattle.std.proofs.Common.{Bool, List, None, ◌≤◌, length}
use Rattle.l2_bits.specs.Deframing.{StandsFor, FeedsUpTo, left_in}
use Rattle.l2_bits.proofs.deframing.Deframer.feed_octets.Given as goal

-- the bits so far have given no mark
abbrev pub invariant-loop-mark : goal.invariant-loop-mark
invariant-loop-mark l = record {
  fed : (past : List Bool) → StandsFor past l.initial.self → FeedsUpTo past (left_in l.initial.octets) (left_in l.octets) l.self None;
  fewer : length (left_in l.octets) ≤ length (left_in l.initial.octets);
}

abbrev pub decreases-loop-mark : goal.decreases-loop-mark
decreases-loop-mark l = length l.octets.others.now
