use Rattle.term_model.proofs.RunSteps.{runs_join, runs_sound}
use Rattle.term_model.proofs.laws.runs_follow_each_other.Goals as goal

pub returns-clause-join : goal.returns-clause-join
returns-clause-join c = runs_join

pub returns-clause-stay : goal.returns-clause-stay
returns-clause-stay c = runs_sound
