use Rattle.set_model.proofs.Staying.{moves_rows}
use Rattle.set_model.proofs.laws.a_move_moves_the_links_rows.Goals as goal

pub returns : goal.returns
returns c = moves_rows
