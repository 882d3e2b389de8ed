use Rattle.pair_rises.proofs.Handing.{hands_out_a_part}
use Rattle.pair_rises.proofs.laws.every_rising_run_hands_out_a_part.Goals as goal

pub returns : goal.returns
returns c a b moves run = hands_out_a_part a b moves run
