use Rattle.set_core.proofs.Running.{runs_on}
use Rattle.set_core.proofs.laws.pieces_run_on.Goals as goal

pub returns : goal.returns
returns c = runs_on
