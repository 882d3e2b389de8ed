use Rattle.pair_model.proofs.Runs.{every_honest_run}
use Rattle.pair_model.proofs.laws.every_honest_run_keeps_links.Goals as goal

pub returns : goal.returns
returns c a b steps sound = every_honest_run a b steps sound
