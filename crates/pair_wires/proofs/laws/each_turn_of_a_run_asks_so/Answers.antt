use Rattle.pair_wires.proofs.Turning.{each_turn}
use Rattle.pair_wires.proofs.laws.each_turn_of_a_run_asks_so.Goals as goal

pub returns : goal.returns
returns c a b lengths steps w run = each_turn a b lengths steps w run
