use Rattle.set_model.proofs.Staying.{messages_stay}
use Rattle.set_model.proofs.laws.no_message_changes.Goals as goal

pub returns : goal.returns
returns c = messages_stay
