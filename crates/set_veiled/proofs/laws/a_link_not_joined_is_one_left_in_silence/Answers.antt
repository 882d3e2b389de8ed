use Rattle.set_veiled.proofs.Veiled.{veils_keep_steps}
use Rattle.set_veiled.proofs.Sound.{veils_stay_sound}
use Rattle.set_veiled.proofs.laws.a_link_not_joined_is_one_left_in_silence.Goals as goal

pub returns : goal.returns
returns c = record { same = veils_keep_steps; sound = veils_stay_sound }
