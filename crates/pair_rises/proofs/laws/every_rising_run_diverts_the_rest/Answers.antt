use Rattle.pair_rises.proofs.Diverting.{every_rising_run_diverts}
use Rattle.pair_rises.proofs.laws.every_rising_run_diverts_the_rest.Goals as goal

pub returns : goal.returns
returns c a b moves run = every_rising_run_diverts a b moves run
