use Rattle.std.proofs.Common.{◌≡◌, ℕ, ◌-◌, Bool, List, ◌++◌, ap, sym, ◌∙◌, arith, append_assoc}
use Rattle.std.proofs.lemmas.List.{append-nil}
use Rattle.l2_bits.proofs.BitLemmas.{bits_of-zero, bits_of_place}
use Rattle.l2_bits.proofs.packing.unpack.Goals as goal

pub loop-place-preserved : goal.loop-place-preserved
loop-place-preserved c =
    let place : ℕ = c.loop-place.place in
    record {
      bits =
          c.loop-place.invariant.bits
          ∙ ap (λ (rest : List Bool). c.loop-place.line.items ++ rest) (bits_of_place c.args.count c.args.bits place (omega arith))
          ∙ sym (rw c.push.ensures.items (append_assoc c.loop-place.line.items _ _));
      len = omega arith;
    }

pub returns-clause-bits : goal.returns-clause-bits
returns-clause-bits c =
    let none : c.args.count - c.loop-place.place ≡ 0 = omega arith in
    sym (rw (none, bits_of-zero, append-nil) at c.loop-place.invariant.bits)
