use Rattle.pair_wires.proofs.Starting.{each_stands}
use Rattle.pair_wires.proofs.laws.each_link_stands_by_its_set.Goals as goal

pub returns : goal.returns
returns c a b lengths steps w run end link at there = each_stands a b lengths steps w run end link at there
