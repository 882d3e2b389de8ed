use Rattle.std.proofs.Common.{Bool, List, None, ◌≤◌}
use Rattle.l2_bits.specs.Deframing.{StandsFor, FeedsUpTo, rest_of}
use Rattle.l2_bits.proofs.deframing.Deframer.feed_rest.Given as goal

-- the bits so far have given no mark
abbrev pub invariant-loop-rest : goal.invariant-loop-rest
invariant-loop-rest l = record {
  fed : (past : List Bool) → StandsFor past l.initial.self → FeedsUpTo past (rest_of l.initial.rest) (rest_of l.rest) l.self None;
  fewer : l.rest.left ≤ l.initial.rest.left;
}

abbrev pub decreases-loop-rest : goal.decreases-loop-rest
decreases-loop-rest l = l.rest.left
