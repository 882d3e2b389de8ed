use Rattle.term_model.proofs.TurnStays.{starts_sound, turn_sound}
use Rattle.term_model.proofs.laws.terminals_stay_sound.Goals as goal

pub returns-clause-starts : goal.returns-clause-starts
returns-clause-starts c = starts_sound

pub returns-clause-stays : goal.returns-clause-stays
returns-clause-stays c = turn_sound
