use Rattle.std.proofs.Common.{◌≡◌, length}
use Rattle.text_lines.specs.Flaws.{has_two_spaces}
use Rattle.text_lines.proofs.flaw.two_spaces_stand_in.Given as goal

abbrev pub invariant-loop-left : goal.invariant-loop-left
invariant-loop-left l = has_two_spaces l.line ≡ has_two_spaces l.left

abbrev pub decreases-loop-left : goal.decreases-loop-left
decreases-loop-left l = length l.left
