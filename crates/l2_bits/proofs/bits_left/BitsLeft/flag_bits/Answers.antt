use Rattle.l2_bits.proofs.LeavingLemmas.{flag_alone}
use Rattle.l2_bits.proofs.bits_left.BitsLeft.flag_bits.Goals as goal

pub returns : goal.returns
returns c = rw (c.push.ensures.items, c.new-octets.ensures, c.none.ensures) (flag_alone c.none.result.bits)
