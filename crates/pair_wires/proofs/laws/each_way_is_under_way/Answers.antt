use Rattle.pair_wires.proofs.Flushed.{each_way}
use Rattle.pair_wires.proofs.laws.each_way_is_under_way.Goals as goal

pub returns : goal.returns
returns c a b lengths steps w run = each_way a b lengths steps w run
