use Rattle.script_walk.proofs.Runs.{every_script_is_a_run}
use Rattle.script_walk.proofs.laws.every_script_is_a_run.Goals as goal

pub returns : goal.returns
returns c = every_script_is_a_run
