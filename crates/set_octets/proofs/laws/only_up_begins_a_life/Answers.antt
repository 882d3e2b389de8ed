use Rattle.set_octets.proofs.Lives.{down_ends, only_up, others_refused, up_begins, up_served}
use Rattle.set_octets.proofs.laws.only_up_begins_a_life.Goals as goal

pub returns : goal.returns
returns c = record { only = only_up; begins = up_begins; refused = others_refused; served = up_served; ends = down_ends }
