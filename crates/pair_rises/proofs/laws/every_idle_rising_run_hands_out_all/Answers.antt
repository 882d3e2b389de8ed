use Rattle.pair_rises.proofs.Handing.{idle_hands_out}
use Rattle.pair_rises.proofs.laws.every_idle_rising_run_hands_out_all.Goals as goal

pub returns : goal.returns
returns c a b moves run = idle_hands_out a b moves run
