use Rattle.std.proofs.Common.{◌≡◌, ℕ, ◌+◌, ◌-◌, ◌*◌, ◌%◌, ◌^◌, ◌<◌, ◌≤◌, bit_or, refl, arith}
use Rattle.std.proofs.Math.Pow.{pow_mono}
use Rattle.std.proofs.lemmas.Nat.{and_mask}
use Rattle.l2_bits.specs.LineBits.{line_bits}
use Rattle.l2_bits.proofs.PackingLemmas.{joined_fits}
use Rattle.l2_bits.proofs.PuttingLemmas.{whole_is, put_part, put_whole, high_fits}
use Rattle.l2_bits.proofs.packing.put.Goals as goal

-- the number in the code
module _ (more count part bits : ℕ) (less : more < 8) (most : count ≤ 8) (part_fits : part < 2 ^ more) (bits_fit : bits < 2 ^ count) (first second : ℕ) (is_first : first ≡ part) (is_second : second ≡ bits) where
  whole : bit_or first (second * 2 ^ more % 65536) ≡ bits * 2 ^ more + part
  whole = rw (is_first, is_second) (whole_is more count part bits less most part_fits bits_fit)

  fits : bit_or first (second * 2 ^ more % 65536) < 2 ^ (more + count)
  fits = rw whole (joined_fits more count part bits part_fits bits_fit)

pub overflow_cast-result : goal.overflow_cast-result
overflow_cast-result c =
    let part = c.args.part in
    let below = fits part.count c.args.count part.bits c.args.bits part.few c.requires.most part.fits c.requires.fits _ _ c.from.ensures c.from-2.ensures in
    let few : part.count + c.args.count ≤ 8 = omega arith in
    let most : 2 ^ (part.count + c.args.count) ≤ 2 ^ 8 = pow_mono few in
    omega (arith, below, most)

pub invariant_of-result : goal.invariant_of-result
invariant_of-result c =
    let part = c.args.part in
    record {
      few = omega arith;
      fits = fits part.count c.args.count part.bits c.args.bits part.few c.requires.most part.fits c.requires.fits _ _ c.from.ensures c.from-2.ensures;
    }

pub returns-then-count-lt8-clause-bits : goal.returns-then-count-lt8-clause-bits
returns-then-count-lt8-clause-bits c =
    let part = c.args.part in
    put_part (line_bits c.args.octets.now.items) part.count c.args.count part.bits c.args.bits _ part.fits
    (whole part.count c.args.count part.bits c.args.bits part.few c.requires.most part.fits c.requires.fits _ _ c.from.ensures c.from-2.ensures)

pub invariant_of-result-2 : goal.invariant_of-result-2
invariant_of-result-2 c =
    let part = c.args.part in
    record {
      few = omega arith;
      fits =
          high_fits part.count c.args.count part.bits c.args.bits _ (part.count + c.args.count - 8) part.fits c.requires.fits
          (whole part.count c.args.count part.bits c.args.bits part.few c.requires.most part.fits c.requires.fits _ _ c.from.ensures c.from-2.ensures)
          (omega arith);
    }

pub returns-clause-bits : goal.returns-clause-bits
returns-clause-bits c =
    let part = c.args.part in
    rw c.push.ensures.items
    (put_whole c.args.octets.now.items part.count c.args.count part.bits c.args.bits _ _ _ (part.count + c.args.count - 8) part.fits
    (whole part.count c.args.count part.bits c.args.bits part.few c.requires.most part.fits c.requires.fits _ _ c.from.ensures c.from-2.ensures)
    (and_mask _ 8) refl (omega arith))
