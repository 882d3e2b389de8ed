use Rattle.pair_streams.proofs.Handing.{every_quiet_run_hands_out}
use Rattle.pair_streams.proofs.laws.every_quiet_run_hands_out_a_part.Goals as goal

pub returns : goal.returns
returns c a b steps quiet = every_quiet_run_hands_out a b steps quiet
