use Rattle.std.proofs.Common.{refl, arith}
use Rattle.l2_bits.proofs.WindowLemmas.{no_five}
use Rattle.l2_bits.proofs.deframing.fives.Goals as goal

pub returns : goal.returns
returns c = no_five c.args.last c.args.bits _ (omega arith) (rw c.from.ensures refl)
