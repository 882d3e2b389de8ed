use Rattle.std.proofs.Common.{◌≡◌, length}
use Rattle.text_lines.specs.Flaws.{ends_with}
use Rattle.text_lines.proofs.flaw.last_is.Given as goal

abbrev pub invariant-loop-left : goal.invariant-loop-left
invariant-loop-left l = ends_with l.octet l.line ≡ ends_with l.octet l.left

abbrev pub decreases-loop-left : goal.decreases-loop-left
decreases-loop-left l = length l.left
