use Rattle.std.proofs.Common.{◌≡◌}
use Rattle.script_ladder.specs.Ladder.{marks_below}
use Rattle.script_ladder.proofs.under_way.write_all.Given as goal

abbrev pub invariant-loop-link : goal.invariant-loop-link
invariant-loop-link l = l.text.items ≡ marks_below l.world l.link
