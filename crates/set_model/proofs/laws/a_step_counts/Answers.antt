use Rattle.set_model.proofs.Staying.{step_at_most}
use Rattle.set_model.proofs.laws.a_step_counts.Goals as goal

pub returns : goal.returns
returns c = step_at_most
