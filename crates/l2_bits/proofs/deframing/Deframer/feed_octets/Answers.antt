use Rattle.std.proofs.Common.{◌≡◌, length, None, ap, sym, ◌∙◌, arith, length-append}
use Rattle.l2_bits.specs.LineBits.{line_bits}
use Rattle.l2_bits.specs.Deframing.{rest_of}
use Rattle.l2_bits.proofs.BitLemmas.{length-bits_of}
use Rattle.l2_bits.proofs.FeedingLemmas.{fed_first, no_kind}
use Rattle.l2_bits.proofs.deframing.Deframer.feed_octets.Goals as goal

pub returns-then-is_some-clause-marks : goal.returns-then-is_some-clause-marks
returns-then-is_some-clause-marks c = λ past is.
    fed_first past _ _ _ _ c.loop-mark.self c.feed_rest-mark.new.self _ (c.loop-mark.invariant.fed past is) c.feed_rest-mark.ensures.marks

pub refill-requires : goal.refill-requires
refill-requires c =
    let none : c.feed_rest-mark.result ≡ None = no_kind c.feed_rest-mark.result (sym c.is_some.ensures ∙ c.if-is_some.false) in
    omega (arith, ap length (c.feed_rest-mark.ensures.all none), length-bits_of c.feed_rest-mark.new.rest.left c.feed_rest-mark.new.rest.bits)

pub returns-then-not-refill-clause-marks : goal.returns-then-not-refill-clause-marks
returns-then-not-refill-clause-marks c = λ past is.
    let none : c.feed_rest-mark.result ≡ None = no_kind c.feed_rest-mark.result (sym c.is_some.ensures ∙ c.if-is_some.false) in
    let first = fed_first past _ _ _ _ c.loop-mark.self c.feed_rest-mark.new.self _ (c.loop-mark.invariant.fed past is) c.feed_rest-mark.ensures.marks in
    rw c.refill.ensures.same (rw none at first)

pub loop-mark-preserved : goal.loop-mark-preserved
loop-mark-preserved c = record {
  fed = λ past is.
      let none : c.feed_rest-mark.result ≡ None = no_kind c.feed_rest-mark.result (sym c.is_some.ensures ∙ c.if-is_some.false) in
      let first = fed_first past _ _ _ _ c.loop-mark.self c.feed_rest-mark.new.self _ (c.loop-mark.invariant.fed past is) c.feed_rest-mark.ensures.marks in
      rw c.refill.ensures.same (rw none at first);
  fewer =
      let none : c.feed_rest-mark.result ≡ None = no_kind c.feed_rest-mark.result (sym c.is_some.ensures ∙ c.if-is_some.false) in
      omega (
        arith,
        c.loop-mark.invariant.fewer,
        ap length c.refill.ensures.same,
        ap length (c.feed_rest-mark.ensures.all none),
        length-append (rest_of c.feed_rest-mark.new.rest) (line_bits c.loop-mark.octets.others.now),
        length-append (rest_of c.loop-mark.octets.first) (line_bits c.loop-mark.octets.others.now),
      );
}
