use Rattle.std.proofs.Common.{arith}
use Rattle.text_units.proofs.DigitLemmas.{pairs_then}
use Rattle.text_units.proofs.digits.push_pairs.Goals as goal

pub loop-octet-preserved : goal.loop-octet-preserved
loop-octet-preserved c =
    let l = c.loop-octet in
    record {
      reads = λ left after later. l.invariant.reads left after (pairs_then _ l.left.now _ left l.octets.items c.push_reserved.new.self.items after c.in-Some.ensures.begins c.push_reserved.ensures.items later);
      room = omega (arith, l.invariant.room, c.in-Some.ensures.fewer, c.push_reserved.ensures.len, c.push_reserved.ensures.capacity);
      shorter = omega (arith, l.invariant.shorter, c.in-Some.ensures.fewer);
    }
