use Rattle.std.proofs.Common.{ap, ◌∙◌, List, length}
use Rattle.term_managed.proofs.KeptLemmas.{so_many_fresh}
use Rattle.term_managed.specs.declared.kept.Kept.{Kept}
use Rattle.term_managed.proofs.bench.ManagedBench.set_times.Goals as goal

pub invariant_of-self : goal.invariant_of-self
invariant_of-self c = (
  ap (λ (kept : List Kept). length kept) c.in_ok-self-inside.ensures ∙ so_many_fresh c.args.times c.links.result ∙ c.links.ensures.links,
  c.self.invariant.1,
)
