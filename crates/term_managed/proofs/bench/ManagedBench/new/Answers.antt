use Rattle.std.proofs.Common.{ap, sym, subst, ◌∙◌, ◌≤◌, List, length}
use Rattle.term_bench.specs.Ends.{BenchState}
use Rattle.term_managed.proofs.KeptLemmas.{so_many_fresh, so_many_links}
use Rattle.term_managed.specs.declared.kept.Kept.{Kept}
use Rattle.term_managed.proofs.bench.ManagedBench.new.Goals as goal

pub invariant_of-result : goal.invariant_of-result
invariant_of-result c =
    let config = c.args.config.now in
    let links = ap (λ (b : BenchState). length b.links) c.in_ok-bench.ensures.ok ∙ so_many_links c.args.lengths config.links in (
      ap (λ (kept : List Kept). length kept) c.in_ok-kept.ensures ∙ so_many_fresh c.args.times config.links ∙ sym links,
      subst (λ n. n ≤ 16) (sym links) config.links_in_range,
    )
