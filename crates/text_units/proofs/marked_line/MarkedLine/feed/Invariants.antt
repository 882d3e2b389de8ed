use Rattle.std.proofs.Common.{length}
use Rattle.l2_bits.specs.LineBits.{line_bits}
use Rattle.l2_bits.specs.Deframing.{left_in}
use Rattle.text_units.specs.UnitsReading.{FeedsFirst}
use Rattle.text_units.proofs.marked_line.MarkedLine.feed.Given as goal

-- what the bits that are left do completes what the octets do
abbrev pub invariant-loop : goal.invariant-loop
invariant-loop l = FeedsFirst l.initial.self (line_bits l.octets) l.initial.out.items (left_in l.left) l.out.items l.self

abbrev pub decreases-loop : goal.decreases-loop
decreases-loop l = length (left_in l.left)
