use Rattle.pair_octets.proofs.Passing.{every_unit_is_heard}
use Rattle.pair_octets.proofs.laws.each_unit_is_heard.Goals as goal

pub returns : goal.returns
returns c a b lengths steps w run on end link within = every_unit_is_heard a b lengths steps w run on end link within
