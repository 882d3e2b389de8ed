use Rattle.std.proofs.Common.{◌<◌, ◌≤◌, ◌^◌, length, get_or, sym, arith}
use Rattle.l2_bits.proofs.LeavingLemmas.{octet_number, part_number}
use Rattle.l2_bits.proofs.bits_left.BitsLeft.octet.Goals as goal

pub returns-then-self-octets : goal.returns-then-self-octets
returns-then-self-octets c =
    let bits = c.self.inside in
    let fits : get_or c.as_slice-octets.result.now bits.sent 0 < 2 ^ 8 = omega arith in
    rw (← c.self.view_is)
    (sym (octet_number bits.sent bits.octets.items c.as_slice-octets.result.now bits.part.count bits.part.bits
    c.as_slice-octets.ensures.value c.if-self-octets.true fits))

pub returns-else-self-octets : goal.returns-else-self-octets
returns-else-self-octets c =
    let bits = c.self.inside in
    let past : length bits.octets.items ≤ bits.sent = rw c.as_slice-octets.ensures.value at c.if-self-octets.false in
    rw (← c.self.view_is) (sym (part_number bits.sent bits.octets.items bits.part.count bits.part.bits past bits.part.few bits.part.fits))
