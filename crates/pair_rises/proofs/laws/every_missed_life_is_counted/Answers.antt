use Rattle.pair_rises.proofs.Counted.{every_missed_life}
use Rattle.pair_rises.proofs.laws.every_missed_life_is_counted.Goals as goal

pub returns : goal.returns
returns c em a b moves run = every_missed_life em a b moves run
