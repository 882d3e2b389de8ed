use Rattle.set_octets.proofs.Starting.{first_fisus, none_heard}
use Rattle.set_octets.proofs.laws.a_first_fisu_changes_nothing.Goals as goal

pub returns : goal.returns
returns c = record { fisu = first_fisus; till_then = none_heard }
