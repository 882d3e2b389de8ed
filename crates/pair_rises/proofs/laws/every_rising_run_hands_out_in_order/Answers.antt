use Rattle.pair_rises.proofs.Handing.{hands_out}
use Rattle.pair_rises.proofs.laws.every_rising_run_hands_out_in_order.Goals as goal

pub returns : goal.returns
returns c a b moves run = hands_out a b moves run
