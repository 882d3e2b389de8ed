use Rattle.pair_octets.proofs.CalmSteps.{each_status_is_plain}
use Rattle.pair_octets.proofs.laws.each_status_is_plain.Goals as goal

pub returns : goal.returns
returns c = each_status_is_plain
