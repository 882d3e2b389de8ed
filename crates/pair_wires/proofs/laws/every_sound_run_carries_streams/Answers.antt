use Rattle.pair_wires.proofs.Carrying.{carries}
use Rattle.pair_wires.proofs.laws.every_sound_run_carries_streams.Goals as goal

pub returns : goal.returns
returns c a b lengths steps w run room stream low = carries a b lengths steps w run room stream low
