use Rattle.std.proofs.Common.{◌≡◌}
use Rattle.term_managed.specs.Ends.{all_fresh}
use Rattle.term_managed.proofs.kept.all_fresh.Given as goal

-- the links so far
abbrev pub invariant-loop : goal.invariant-loop
invariant-loop l = l.made.items ≡ all_fresh l.times l.counter
