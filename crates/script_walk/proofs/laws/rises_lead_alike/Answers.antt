use Rattle.script_walk.proofs.Rises.{rises_lead_alike}
use Rattle.script_walk.proofs.laws.rises_lead_alike.Goals as goal

pub returns : goal.returns
returns c = rises_lead_alike
