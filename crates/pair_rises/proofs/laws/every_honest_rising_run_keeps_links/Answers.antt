use Rattle.pair_rises.proofs.Kept.{every_honest_run}
use Rattle.pair_rises.proofs.laws.every_honest_rising_run_keeps_links.Goals as goal

pub returns : goal.returns
returns c a b moves run = every_honest_run a b moves run
