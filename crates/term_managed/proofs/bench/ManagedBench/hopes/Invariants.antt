use Rattle.std.proofs.Common.{◌≡◌}
use Rattle.term_managed.specs.Ends.{any_other, gives_hope}
use Rattle.term_managed.proofs.bench.ManagedBench.hopes.Given as goal

-- the links so far
abbrev pub invariant-loop-other : goal.invariant-loop-other
invariant-loop-other l = l.found ≡ any_other (gives_hope l.self) l.link l.other
