use Rattle.pair_rises.proofs.Diverting.{every_rising_run_acks}
use Rattle.pair_rises.proofs.laws.every_rising_run_acks_the_taken.Goals as goal

pub returns : goal.returns
returns c em a b moves run = every_rising_run_acks em a b moves run
