use Rattle.std.proofs.Common.{◌≡◌, ◌++◌}
use Rattle.terminal_text.specs.Counting.{counts_to}
use Rattle.terminal_text.proofs.counting.push_counts.Given as goal

-- the numbers so far
abbrev pub invariant-loop-number : goal.invariant-loop-number
invariant-loop-number l = l.out.items ≡ l.initial.out.items ++ counts_to l.what l.set.state l.number
