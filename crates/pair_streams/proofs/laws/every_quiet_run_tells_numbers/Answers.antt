use Rattle.pair_streams.proofs.Telling.{every_quiet_run_tells}
use Rattle.pair_streams.proofs.laws.every_quiet_run_tells_numbers.Goals as goal

pub returns : goal.returns
returns c a b steps quiet = every_quiet_run_tells a b steps quiet
