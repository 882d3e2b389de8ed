use Rattle.std.proofs.Common.{◌≡◌}
use Rattle.term_managed.specs.Ends.{any_other, carries}
use Rattle.term_managed.proofs.bench.ManagedBench.others.Given as goal

-- the links so far
abbrev pub invariant-loop-other : goal.invariant-loop-other
invariant-loop-other l = l.found ≡ any_other (carries l.self.bench) l.link l.other
