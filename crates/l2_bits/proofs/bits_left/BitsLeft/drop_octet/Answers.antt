use Rattle.std.proofs.Common.{◌<◌, ◌≤◌, length, arith}
use Rattle.l2_bits.proofs.LeavingLemmas.{octet_dropped, part_dropped}
use Rattle.l2_bits.proofs.bits_left.BitsLeft.drop_octet.Goals as goal

pub returns-then-self-len : goal.returns-then-self-len
returns-then-self-len c =
    let bits = c.self.inside in
    let within : bits.sent < length bits.octets.items = omega arith in
    rw (← c.self.view_is) (octet_dropped bits.sent bits.octets.items bits.part.count bits.part.bits within)

pub returns-else-self-len : goal.returns-else-self-len
returns-else-self-len c =
    let bits = c.self.inside in
    let past : length bits.octets.items ≤ bits.sent = omega arith in
    rw (← c.self.view_is) (rw c.none-self-inside.ensures (part_dropped bits.sent bits.octets.items bits.part.count bits.part.bits c.none-self-inside.result.bits past bits.part.few))
