use Rattle.std.proofs.Common.{◌≡◌, ℕ, ◌++◌, None, ap, sym, ◌∙◌, arith}
use Rattle.l2_bits.specs.LineBits.{bits_of}
use Rattle.l2_bits.specs.Deframing.{mark_of, unit_of, rest_of}
use Rattle.l2_bits.proofs.BitLemmas.{bits_of-zero, length-bits_of}
use Rattle.l2_bits.proofs.FeedingLemmas.{fed_on, bit_fed, no_kind}
use Rattle.l2_bits.proofs.deframing.Deframer.feed_rest.Goals as goal

pub returns-then-rest-eq0-clause-marks : goal.returns-then-rest-eq0-clause-marks
returns-then-rest-eq0-clause-marks c = λ past is.
    let first = c.loop-rest.invariant.fed past is in
    fed_on past _ _ _ c.loop-rest.self c.take_run.new.self None first (c.take_run.ensures.takes (past ++ first.taken) first.stands)

pub returns-then-rest-eq0-clause-all : goal.returns-then-rest-eq0-clause-all
returns-then-rest-eq0-clause-all c = λ same.
    ap (λ (k : ℕ). bits_of k c.take_run.new.rest.bits) c.if-rest-eq0.true ∙ bits_of-zero c.take_run.new.rest.bits

pub returns-then-is_some-clause-marks : goal.returns-then-is_some-clause-marks
returns-then-is_some-clause-marks c = λ past is.
    let first = c.loop-rest.invariant.fed past is in
    let plain = fed_on past _ _ _ c.loop-rest.self c.take_run.new.self None first (c.take_run.ensures.takes (past ++ first.taken) first.stands) in
    let mark = mark_of c.take_bit-mark.result (unit_of c.take_bit-mark.new.self) in
    fed_on past _ _ _ c.take_run.new.self c.take_bit-mark.new.self mark plain
    (rw (c.take_bit-mark.ensures.bits, c.take_bit-mark.ensures.left) (bit_fed (past ++ plain.taken) c.take_run.new.rest.left c.take_run.new.rest.bits c.take_bit-mark.new.self mark (omega arith) (c.take_bit-mark.ensures.stands (past ++ plain.taken) plain.stands) (c.take_bit-mark.ensures.mark (past ++ plain.taken) plain.stands)))

pub returns-then-is_some-clause-fewer : goal.returns-then-is_some-clause-fewer
returns-then-is_some-clause-fewer c = λ some.
    omega (
      arith,
      c.loop-rest.invariant.fewer,
      c.take_run.ensures.fewer,
      c.take_bit-mark.ensures.left,
      length-bits_of c.take_bit-mark.new.rest.left c.take_bit-mark.new.rest.bits,
      length-bits_of c.args.rest.now.left c.args.rest.now.bits,
    )

pub loop-rest-preserved : goal.loop-rest-preserved
loop-rest-preserved c = record {
  fed = λ past is.
      let none : c.take_bit-mark.result ≡ None = no_kind c.take_bit-mark.result (sym c.is_some.ensures ∙ c.if-is_some.false) in
      let first = c.loop-rest.invariant.fed past is in
      let plain = fed_on past _ _ _ c.loop-rest.self c.take_run.new.self None first (c.take_run.ensures.takes (past ++ first.taken) first.stands) in
      let mark = mark_of c.take_bit-mark.result (unit_of c.take_bit-mark.new.self) in
      rw none at (fed_on past _ _ (rest_of c.take_bit-mark.new.rest) c.take_run.new.self c.take_bit-mark.new.self mark plain
      (rw (c.take_bit-mark.ensures.bits, c.take_bit-mark.ensures.left) (bit_fed (past ++ plain.taken) c.take_run.new.rest.left c.take_run.new.rest.bits c.take_bit-mark.new.self mark (omega arith) (c.take_bit-mark.ensures.stands (past ++ plain.taken) plain.stands) (c.take_bit-mark.ensures.mark (past ++ plain.taken) plain.stands))));
  fewer = omega (arith, c.loop-rest.invariant.fewer, c.take_run.ensures.fewer, c.take_bit-mark.ensures.left);
}

pub returns-clause-marks : goal.returns-clause-marks
returns-clause-marks c = c.loop-rest.invariant.fed

pub returns-clause-all : goal.returns-clause-all
returns-clause-all c = λ same.
    let done : c.loop-rest.rest.left ≡ 0 = omega arith in
    ap (λ (k : ℕ). bits_of k c.loop-rest.rest.bits) done ∙ bits_of-zero c.loop-rest.rest.bits
