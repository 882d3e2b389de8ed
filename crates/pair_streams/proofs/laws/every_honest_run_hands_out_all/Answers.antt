use Rattle.pair_streams.proofs.Handing.{every_honest_run_hands_out}
use Rattle.pair_streams.proofs.laws.every_honest_run_hands_out_all.Goals as goal

pub returns : goal.returns
returns c a b steps honest = every_honest_run_hands_out a b steps honest
