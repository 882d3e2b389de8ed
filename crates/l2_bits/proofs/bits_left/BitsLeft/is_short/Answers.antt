use Rattle.l2_bits.proofs.LeavingLemmas.{short_is}
use Rattle.l2_bits.proofs.bits_left.BitsLeft.is_short.Goals as goal

pub returns : goal.returns
returns c =
    let bits = c.self.inside in
    rw (← c.self.view_is) (rw c.len.ensures.value (short_is bits.sent bits.octets.items bits.part.count bits.part.bits c.self.invariant bits.part.few))
