use Rattle.pair_streams.proofs.Runs.{every_sound_run}
use Rattle.pair_streams.proofs.laws.every_sound_run_keeps_streams.Goals as goal

pub returns : goal.returns
returns c a b steps sound = every_sound_run a b steps sound
