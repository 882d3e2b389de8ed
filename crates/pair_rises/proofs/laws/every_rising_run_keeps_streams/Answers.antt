use Rattle.pair_rises.proofs.Runs.{every_rising_run}
use Rattle.pair_rises.proofs.laws.every_rising_run_keeps_streams.Goals as goal

pub returns : goal.returns
returns c a b moves run = every_rising_run a b moves run
