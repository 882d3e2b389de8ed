use Rattle.std.proofs.Common.{◌≡◌, length}
use Rattle.term_managed.specs.Carrying.{Chain}
use Rattle.term_managed.proofs.Ending.{pending}
use Rattle.term_managed.proofs.carrying.carry_all.Given as goal

-- what was done so far
abbrev pub invariant-loop-asked : goal.invariant-loop-asked
invariant-loop-asked l = record {
  links : length l.bench.links ≡ length l.initial.bench.links;
  goes : Chain l.link l.initial.asked l.initial.management l.initial.bench l.deeds.items l.asked l.management l.bench;
}

-- fewer things can be asked behind each
abbrev pub decreases-loop-asked : goal.decreases-loop-asked
decreases-loop-asked l = pending l.asked l.management
