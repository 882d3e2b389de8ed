use Rattle.term_model.proofs.Turns.{turn_is_steps, one_turn, turn_goes_on}
use Rattle.term_model.proofs.laws.a_turn_is_its_six_steps.Goals as goal

pub returns-clause-steps : goal.returns-clause-steps
returns-clause-steps c = turn_is_steps

pub returns-clause-one : goal.returns-clause-one
returns-clause-one c = one_turn

pub returns-clause-goes : goal.returns-clause-goes
returns-clause-goes c = turn_goes_on
