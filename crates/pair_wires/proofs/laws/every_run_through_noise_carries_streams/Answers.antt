use Rattle.pair_wires.proofs.Noise.{carries_through_noise}
use Rattle.pair_wires.proofs.laws.every_run_through_noise_carries_streams.Goals as goal

pub returns : goal.returns
returns c a b lengths steps w run s room stream low = carries_through_noise a b lengths steps w run s room stream low
