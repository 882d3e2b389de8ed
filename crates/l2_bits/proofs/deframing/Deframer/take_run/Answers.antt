use Rattle.std.proofs.Common.{◌<◌, ◌≤◌, refl, arith}
use Rattle.std.specs.Int.{trailing_zeros, w64}
use Rattle.l2_bits.specs.LineBits.{bits_of}
use Rattle.l2_bits.specs.Deframing.{NoneAfterFive}
use Rattle.l2_bits.proofs.BitLemmas.{length-bits_of}
use Rattle.l2_bits.proofs.FeedingLemmas.{same_first, below_lowest}
use Rattle.l2_bits.proofs.deframing.Deframer.take_run.Goals as goal

pub returns-clause-takes : goal.returns-clause-takes
returns-clause-takes c = λ past is.
    let octet = c.args.rest.now.bits in
    let count = c.min-count.result in
    let least : count ≤ trailing_zeros w64 c.fives.result = omega (arith, c.min-count.ensures, c.min.ensures) in
    let few : count ≤ 56 = omega (arith, c.min-count.ensures, c.min-uncounted.ensures) in
    let none : NoneAfterFive c.args.self.now.last (bits_of count c.take-bits.result) = λ front i within ends.
    let below : i < count = omega (arith, within, length-bits_of count c.take-bits.result) in
    c.fives.ensures front i (omega arith) (below_lowest c.fives.result i (omega arith) (omega arith)) (rw (same_first i count octet (omega arith) few) at (rw c.take-bits.ensures.taken at ends)) in
    let on = c.run.ensures past is none in
    record {
      taken = bits_of count c.take-bits.result;
      split = c.take-bits.ensures.split;
      stands = on.stands;
      marks = on.marks;
      last = λ some. absurd (some refl);
    }
