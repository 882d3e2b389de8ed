use Rattle.set_model.proofs.Framing.{window_moves}
use Rattle.set_model.proofs.laws.a_window_moves_as_its_control.Goals as goal

pub returns : goal.returns
returns c = window_moves
