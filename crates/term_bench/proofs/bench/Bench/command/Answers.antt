use Rattle.std.proofs.Common.{subst, sym, ap, ◌∙◌, ◌≤◌, ◌<◌, ◌≡◌, length, slice_get, slice_set, Some}
use Rattle.std.proofs.lemmas.List.{length-set}
use Rattle.term_bench.specs.Ends.{AtLink, BenchState}
use Rattle.term_bench.proofs.BenchLemmas.{link_at}
use Rattle.term_bench.proofs.LinkLemmas.{numbered_set}
use Rattle.term_bench.proofs.bench.Bench.command.Goals as goal

pub invariant_of-self : goal.invariant_of-self
invariant_of-self c =
    let links = c.self-2.inside.links.items in
    let below = subst (λ (b : BenchState). c.args.link < length b.links) (sym c.self-2.view_is) c.requires in
    let is_at = link_at links c.from.result c.args.link c.index_mut.result.now c.from.ensures below c.index_mut.ensures.value in (
      numbered_set links c.from.result c.index_mut.result.now c.command.new.self c.self-2.invariant.0 is_at
          (ap (λ (at : AtLink). at.terminal.link) c.command.ensures),
      subst (λ n. n ≤ 16) (sym (length-set links c.from.result c.command.new.self)) c.self-2.invariant.1,
    )

pub returns-clause-ok : goal.returns-clause-ok
returns-clause-ok c =
    let view = c.self-2.view_is in
    let below = subst (λ (b : BenchState). c.args.link < length b.links) (sym view) c.requires in
    let is_at = link_at c.self-2.inside.links.items c.from.result c.args.link c.index_mut.result.now c.from.ensures below c.index_mut.ensures.value in
    let is_there = subst (λ (b : BenchState). slice_get b.links c.from.result ≡ Some c.index_mut.result.now) view is_at in record {
      was = c.index_mut.result.now;
      is_at = subst (λ n. slice_get c.args.self.now.links n ≡ Some c.index_mut.result.now) c.from.ensures is_there;
      links_are = ap (λ (b : BenchState). slice_set b.links c.from.result c.command.new.self) view
          ∙ ap (λ n. slice_set c.args.self.now.links n c.command.new.self) c.from.ensures
          ∙ ap (λ (at : AtLink). slice_set c.args.self.now.links c.args.link at) c.command.ensures;
      set_is = ap (λ (b : BenchState). b.set) view;
    }
