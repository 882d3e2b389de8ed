use Rattle.set_model.proofs.Settling.{moves_the_rest}
use Rattle.set_model.proofs.laws.settling_moves_the_rest.Goals as goal

pub returns : goal.returns
returns c = moves_the_rest
