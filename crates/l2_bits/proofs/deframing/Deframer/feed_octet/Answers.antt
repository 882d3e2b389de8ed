use Rattle.std.proofs.Common.{◌≤◌, length, arith}
use Rattle.l2_bits.specs.LineBits.{bits_of}
use Rattle.l2_bits.specs.Deframing.{rest_of}
use Rattle.l2_bits.proofs.BitLemmas.{length-bits_of}
use Rattle.l2_bits.proofs.TwoMarkLemmas.{marked_on, has_room, unit_fits, marked_all, pushed}
use Rattle.l2_bits.proofs.deframing.Deframer.feed_octet.Goals as goal

pub loop-kind-preserved : goal.loop-kind-preserved
loop-kind-preserved c = λ past is.
    let bits = bits_of 8 c.args.octet in
    let first = c.loop-kind.invariant past is in
    let eight : length bits ≤ 8 = omega (arith, length-bits_of 8 c.args.octet) in
    let feeds = rw c.in-Some.is at c.feed_rest.ensures.marks in
    let on = marked_on past bits (rest_of c.loop-kind.rest) (rest_of c.feed_rest.new.rest) c.loop-kind.self c.feed_rest.new.self c.loop-kind.marks.items c.in-Some.kind eight first feeds in
    let room = has_room past bits (rest_of c.loop-kind.rest) (rest_of c.feed_rest.new.rest) c.loop-kind.self c.feed_rest.new.self c.loop-kind.marks.items c.in-Some.kind eight first feeds in
    let fits = unit_fits past bits (rest_of c.loop-kind.rest) (rest_of c.feed_rest.new.rest) c.loop-kind.self c.feed_rest.new.self c.loop-kind.marks.items c.in-Some.kind eight first feeds in
    rw (pushed c.try_push.result (c.try_push.ensures.variant.1 room) c.try_push.ensures.ok, c.ended.ensures fits) on

pub returns-clause-stands : goal.returns-clause-stands
returns-clause-stands c = λ past is.
    let feeds = rw c.in_default.is at c.feed_rest.ensures.marks in
    (marked_all past (bits_of 8 c.args.octet) (rest_of c.loop-kind.rest) (rest_of c.feed_rest.new.rest) c.loop-kind.self c.feed_rest.new.self c.loop-kind.marks.items
    (c.loop-kind.invariant past is) feeds (c.feed_rest.ensures.all c.in_default.is)).0

pub returns-clause-marks : goal.returns-clause-marks
returns-clause-marks c = λ past is.
    let feeds = rw c.in_default.is at c.feed_rest.ensures.marks in
    (marked_all past (bits_of 8 c.args.octet) (rest_of c.loop-kind.rest) (rest_of c.feed_rest.new.rest) c.loop-kind.self c.feed_rest.new.self c.loop-kind.marks.items
    (c.loop-kind.invariant past is) feeds (c.feed_rest.ensures.all c.in_default.is)).1
