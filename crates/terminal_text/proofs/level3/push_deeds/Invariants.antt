use Rattle.std.proofs.Common.{◌≡◌, ◌++◌, drop}
use Rattle.terminal_text.specs.Showing.{deeds_lines}
use Rattle.terminal_text.proofs.level3.push_deeds.Given as goal

-- with the lines of the others it's all
abbrev pub invariant-loop-deed : goal.invariant-loop-deed
invariant-loop-deed l =
    l.out.items ++ deeds_lines l.link l.turn (drop l.deed-index l.deeds) ≡ l.initial.out.items ++ deeds_lines l.link l.turn l.deeds
