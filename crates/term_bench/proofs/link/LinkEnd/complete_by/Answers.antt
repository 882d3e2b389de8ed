use Rattle.std.proofs.Common.{arith, sym, ap, ◌≡◌, ◌∙◌, ◌+◌, Bool, List, [], ◌∷◌, ◌++◌, length}
use Rattle.l2_bits.proofs.BitLemmas.{bits_of-zero}
use Rattle.l2_bits.specs.LineBits.{number_of}
use Rattle.term_bench.specs.Ends.{AtLink, at_link}
use Rattle.term_bench.specs.Waiting.{waits_with}
use Rattle.term_bench.proofs.WaitingLemmas.{length_by, one_bit, whole_by}
use Rattle.term_bench.proofs.link.LinkEnd.complete_by.Goals as goal

pub returns-then-self-eq7-clause-whole : goal.returns-then-self-eq7-clause-whole
returns-then-self-eq7-clause-whole c =
    let inside = c.self.inside in
    let bit = c.args.bit in
    let view = c.self.view_is in (
      whole_by inside.waiting inside.bits bit _ c.if-self-eq7.true c.self.invariant.1 c.with_bit-more.type_inv c.with_bit-more.ensures
          ∙ ap (λ (at : AtLink). number_of (at.waiting ++ bit ∷ [])) view,
      ap (λ (at : AtLink). length (at.waiting ++ bit ∷ [])) (sym view) ∙ length_by inside.waiting inside.bits bit ∙ ap (λ n. n + 1) c.if-self-eq7.true,
      ap (λ (bits : List Bool). waits_with bits (at_link inside.works inside.bits inside.waiting inside.counts)) (bits_of-zero 0)
          ∙ ap (λ (at : AtLink). waits_with [] at) view,
    )

pub returns-clause-waits : goal.returns-clause-waits
returns-clause-waits c =
    let inside = c.self.inside in
    let bit = c.args.bit in
    let view = c.self.view_is in
    let count : length (c.args.self.now.waiting ++ bit ∷ []) ≡ inside.waiting + 1 =
    ap (λ (at : AtLink). length (at.waiting ++ bit ∷ [])) (sym view) ∙ length_by inside.waiting inside.bits bit in (
      omega (arith, count, c.self.invariant.0, c.if-self-eq7.false),
      ap (λ (bits : List Bool). waits_with bits (at_link inside.works inside.bits inside.waiting inside.counts))
          (one_bit inside.waiting inside.bits bit _ c.self.invariant.1 c.with_bit-more.ensures)
          ∙ ap (λ (at : AtLink). waits_with (at.waiting ++ bit ∷ []) at) view,
    )
