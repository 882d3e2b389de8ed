use Rattle.pair_rises.proofs.Handing.{hands_out_all}
use Rattle.pair_rises.proofs.laws.every_honest_rising_run_hands_out_all.Goals as goal

pub returns : goal.returns
returns c a b moves run = hands_out_all a b moves run
