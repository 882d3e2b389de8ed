use Rattle.set_core.proofs.Running.{as_entries}
use Rattle.set_core.proofs.laws.no_checkpoint_changes_nothing.Goals as goal

pub returns : goal.returns
returns c = as_entries
