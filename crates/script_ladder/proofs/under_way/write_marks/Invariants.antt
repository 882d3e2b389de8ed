use Rattle.std.proofs.Common.{◌≡◌, take}
use Rattle.script_ladder.specs.Ladder.{marks}
use Rattle.script_ladder.proofs.under_way.write_marks.Given as goal

abbrev pub invariant-loop-place : goal.invariant-loop-place
invariant-loop-place l = l.text.items ≡ marks l.link l.way (take l.place l.line)
