use Rattle.std.proofs.Common.{ℕ, ◌≤◌, ◌<◌, ◌/◌, ◌%◌, ◌^◌, refl, ap, ◌∙◌, arith}
use Rattle.std.proofs.lemmas.Nat.{and_mask}
use Rattle.std.proofs.Math.Nat.{mod-eq_of_lt}
use Rattle.std.proofs.Math.Pow.{pow_mono}
use Rattle.l2_bits.proofs.WindowLemmas.{window_is}
use Rattle.l2_bits.proofs.FeedingLemmas.{window_moved}
use Rattle.l2_bits.proofs.shift.all_shifted_in.Goals as goal

pub returns : goal.returns
returns c =
    let most : 2 ^ c.args.count ≤ 2 ^ 56 = pow_mono c.requires.few in
    let few : c.args.bits < 2 ^ 56 = omega (arith, most, c.requires.fits) in
    window_moved c.args.register c.args.bits c.args.count _ (omega arith)
    (rw c.from.ensures
    (and_mask _ 8 ∙ ap (λ (n : ℕ). n / 2 ^ c.args.count % 2 ^ 8) (window_is c.args.register c.args.bits (omega arith) ∙ rw (mod-eq_of_lt few) refl)))
