use Rattle.pair_rises.proofs.Diverting.{every_rising_run_tells}
use Rattle.pair_rises.proofs.laws.every_rising_run_tells_numbers.Goals as goal

pub returns : goal.returns
returns c em a b moves run = every_rising_run_tells em a b moves run
