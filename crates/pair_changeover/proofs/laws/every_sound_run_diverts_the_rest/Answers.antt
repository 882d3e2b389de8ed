use Rattle.pair_changeover.proofs.Runs.{every_sound_run}
use Rattle.pair_changeover.proofs.laws.every_sound_run_diverts_the_rest.Goals as goal

pub returns : goal.returns
returns c a b steps sound = every_sound_run a b steps sound
