use Rattle.pair_rises.proofs.Handing.{idle_accounts}
use Rattle.pair_rises.proofs.laws.every_idle_rising_run_accounts_for_all.Goals as goal

pub returns : goal.returns
returns c a b moves run = idle_accounts a b moves run
