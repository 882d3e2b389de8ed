use Rattle.set_model.proofs.Checkpointing.{checkpoints}
use Rattle.set_model.proofs.laws.a_checkpoint_keeps_what_is_unfinished.Goals as goal

pub returns : goal.returns
returns c = checkpoints
