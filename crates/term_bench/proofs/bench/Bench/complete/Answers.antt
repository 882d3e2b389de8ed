use Rattle.std.proofs.Common.{arith, length-append, subst, sym, ap, ◌≤◌, ◌<◌, ◌≡◌, length, slice_get, slice_set, Some}
use Rattle.std.proofs.lemmas.List.{length-set}
use Rattle.l2_bits.proofs.BitLemmas.{length-bits_of}
use Rattle.l2_bits.specs.LineBits.{bits_of}
use Rattle.term_bench.specs.Ends.{AtLink, BenchState}
use Rattle.term_bench.proofs.BenchLemmas.{completes, link_at}
use Rattle.term_bench.proofs.LinkLemmas.{numbered_set}
use Rattle.term_bench.proofs.bench.Bench.complete.Goals as goal

pub invariant_of-self : goal.invariant_of-self
invariant_of-self c =
    let links = c.self.inside.links.items in
    let below = subst (λ (b : BenchState). c.args.link < length b.links) (sym c.self.view_is) c.requires in
    let is_at = link_at links c.from.result c.args.link c.index_mut.result.now c.from.ensures below c.index_mut.ensures.value in (
      numbered_set links c.from.result c.index_mut.result.now c.complete.new.self c.self.invariant.0 is_at
          (ap (λ (at : AtLink). at.terminal.link) c.complete.ensures.waits),
      subst (λ n. n ≤ 16) (sym (length-set links c.from.result c.complete.new.self)) c.self.invariant.1,
    )

pub returns-clause-octet : goal.returns-clause-octet
returns-clause-octet c =
    let view = c.self.view_is in
    let below = subst (λ (b : BenchState). c.args.link < length b.links) (sym view) c.requires in
    let is_at = link_at c.self.inside.links.items c.from.result c.args.link c.index_mut.result.now c.from.ensures below c.index_mut.ensures.value in
    completes c.args.link c.from.result (bits_of 8 c.args.octet) c.args.self.now _ c.index_mut.result.now c.complete.new.self _ c.from.ensures
    (subst (λ (b : BenchState). slice_get b.links c.from.result ≡ Some c.index_mut.result.now) view is_at)
    (omega (arith, length-append c.index_mut.result.now.waiting (bits_of 8 c.args.octet), length-bits_of 8 c.args.octet))
    c.complete.ensures.octet c.complete.ensures.waits
    (ap (λ (b : BenchState). slice_set b.links c.from.result c.complete.new.self) view) (ap (λ (b : BenchState). b.set) view)
