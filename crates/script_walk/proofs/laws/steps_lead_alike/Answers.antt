use Rattle.script_walk.proofs.Runs.{steps_lead_alike}
use Rattle.script_walk.proofs.laws.steps_lead_alike.Goals as goal

pub returns : goal.returns
returns c = steps_lead_alike
