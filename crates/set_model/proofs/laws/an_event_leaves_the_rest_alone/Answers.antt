use Rattle.set_model.proofs.Framing.{leaves_alone}
use Rattle.set_model.proofs.laws.an_event_leaves_the_rest_alone.Goals as goal

pub returns : goal.returns
returns c = leaves_alone
