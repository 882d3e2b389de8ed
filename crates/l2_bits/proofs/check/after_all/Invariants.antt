use Rattle.std.proofs.Common.{ℕ, ◌^◌, ◌<◌, length}
use Rattle.l2_bits.specs.LineBits.{line_bits}
use Rattle.l2_bits.specs.Register.{DividesTo}
use Rattle.l2_bits.proofs.check.after_all.Given as goal

-- whatever the octets that are left divide to, all of them divide to
abbrev pub invariant-loop-left : goal.invariant-loop-left
invariant-loop-left l = record {
  completes : (new : ℕ) → DividesTo l.register (line_bits l.left) new → DividesTo l.initial.register (line_bits l.octets) new;
  fits : l.register < 2 ^ 16;
}

abbrev pub decreases-loop-left : goal.decreases-loop-left
decreases-loop-left l = length l.left
