use Rattle.std.proofs.Common.{arith, subst, sym, ap, ◌∙◌, ◌≤◌, ◌<◌, ◌≡◌, [], ◌∷◌, ◌++◌, List, Bool, length, slice_get, slice_set, Some}
use Rattle.std.proofs.lemmas.List.{length-set}
use Rattle.l2_bits.specs.LineBits.{number_of}
use Rattle.term_bench.specs.Ends.{BenchState}
use Rattle.term_bench.specs.Waiting.{waits_with}
use Rattle.term_bench.proofs.BenchLemmas.{completes, link_at, waits_more}
use Rattle.term_bench.proofs.LinkLemmas.{numbered_set}
use Rattle.term_bench.proofs.WaitingLemmas.{drop_eight, none_weaker, some_weaker, take_eight}
use Rattle.term_bench.proofs.bench.Bench.complete_by.Goals as goal

pub invariant_of-self : goal.invariant_of-self
invariant_of-self c =
    let links = c.self.inside.links.items in
    let below = subst (λ (b : BenchState). c.args.link < length b.links) (sym c.self.view_is) c.requires in
    let is_at = link_at links c.from.result c.args.link c.index_mut.result.now c.from.ensures below c.index_mut.ensures.value in (
      numbered_set links c.from.result c.index_mut.result.now c.complete_by.new.self c.self.invariant.0 is_at c.complete_by.ensures.link,
      subst (λ n. n ≤ 16) (sym (length-set links c.from.result c.complete_by.new.self)) c.self.invariant.1,
    )

pub returns-clause-whole : goal.returns-clause-whole
returns-clause-whole c =
    let view = c.self.view_is in
    let was = c.index_mut.result.now in
    let bits = was.waiting ++ c.args.bit ∷ [] in
    let below = subst (λ (b : BenchState). c.args.link < length b.links) (sym view) c.requires in
    let is_at = link_at c.self.inside.links.items c.from.result c.args.link was c.from.ensures below c.index_mut.ensures.value in
    some_weaker c.complete_by.result _ _
    (λ octet whole. completes c.args.link c.from.result (c.args.bit ∷ []) c.args.self.now _ was c.complete_by.new.self octet c.from.ensures
    (subst (λ (b : BenchState). slice_get b.links c.from.result ≡ Some was) view is_at)
    (subst (λ n. 8 ≤ n) (sym whole.1) (omega arith))
    (whole.0 ∙ ap (λ (all : List Bool). number_of all) (sym (take_eight bits whole.1)))
    (whole.2 ∙ ap (λ (all : List Bool). waits_with all was) (sym (drop_eight bits whole.1)))
    (ap (λ (b : BenchState). slice_set b.links c.from.result c.complete_by.new.self) view) (ap (λ (b : BenchState). b.set) view))
    c.complete_by.ensures.whole

pub returns-clause-waits : goal.returns-clause-waits
returns-clause-waits c =
    let view = c.self.view_is in
    let was = c.index_mut.result.now in
    let below = subst (λ (b : BenchState). c.args.link < length b.links) (sym view) c.requires in
    let is_at = link_at c.self.inside.links.items c.from.result c.args.link was c.from.ensures below c.index_mut.ensures.value in
    none_weaker c.complete_by.result _ _
    (λ none. waits_more c.args.link c.from.result (c.args.bit ∷ []) c.args.self.now _ was c.complete_by.new.self c.from.ensures
    (subst (λ (b : BenchState). slice_get b.links c.from.result ≡ Some was) view is_at) none.0 none.1
    (ap (λ (b : BenchState). slice_set b.links c.from.result c.complete_by.new.self) view) (ap (λ (b : BenchState). b.set) view))
    c.complete_by.ensures.waits
