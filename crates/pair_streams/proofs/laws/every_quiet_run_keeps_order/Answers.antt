use Rattle.pair_streams.proofs.Runs.{every_quiet_run}
use Rattle.pair_streams.proofs.laws.every_quiet_run_keeps_order.Goals as goal

pub returns : goal.returns
returns c a b steps quiet = every_quiet_run a b steps quiet
