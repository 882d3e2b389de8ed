use Rattle.pair_wires.proofs.Apart.{each_apart}
use Rattle.pair_wires.proofs.laws.each_end_stands_apart.Goals as goal

pub returns : goal.returns
returns c emergencies a b moves run = each_apart emergencies a b moves run
