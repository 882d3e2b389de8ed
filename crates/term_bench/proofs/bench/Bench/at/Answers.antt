use Rattle.std.proofs.Common.{subst, sym, ◌<◌, ◌≡◌, length, slice_get, Some}
use Rattle.term_bench.specs.Ends.{BenchState}
use Rattle.term_bench.proofs.BenchLemmas.{link_at}
use Rattle.term_bench.proofs.bench.Bench.at.Goals as goal

pub returns : goal.returns
returns c =
    let there = c.index.result.now in
    let below = subst (λ (b : BenchState). c.args.link < length b.links) (sym c.self.view_is) c.requires in
    let is_at = link_at c.self.inside.links.items c.from.result c.args.link there c.from.ensures below c.index.ensures in
    subst (λ n. slice_get c.args.self.now.links n ≡ Some there) c.from.ensures
    (subst (λ (b : BenchState). slice_get b.links c.from.result ≡ Some there) c.self.view_is is_at)
