use Rattle.pair_rises.proofs.Runs.{every_rising_run_in_part}
use Rattle.pair_rises.proofs.laws.every_rising_run_keeps_order.Goals as goal

pub returns : goal.returns
returns c a b moves run = every_rising_run_in_part a b moves run
