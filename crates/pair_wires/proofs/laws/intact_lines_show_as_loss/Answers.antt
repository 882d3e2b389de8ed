use Rattle.pair_wires.proofs.Intact.{intact_shows}
use Rattle.pair_wires.proofs.laws.intact_lines_show_as_loss.Goals as goal

pub returns : goal.returns
returns c a b lengths steps w run = intact_shows a b lengths steps w run
