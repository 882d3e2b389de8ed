use Rattle.pair_streams.proofs.Handing.{every_sound_run_hands_out}
use Rattle.pair_streams.proofs.laws.every_sound_run_hands_out_in_order.Goals as goal

pub returns : goal.returns
returns c a b steps sound = every_sound_run_hands_out a b steps sound
