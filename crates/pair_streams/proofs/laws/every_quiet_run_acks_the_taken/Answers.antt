use Rattle.pair_streams.proofs.Counting.{every_quiet_run_counts}
use Rattle.pair_streams.proofs.laws.every_quiet_run_acks_the_taken.Goals as goal

pub returns : goal.returns
returns c a b steps quiet = every_quiet_run_counts a b steps quiet
