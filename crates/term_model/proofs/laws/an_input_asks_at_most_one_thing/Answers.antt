use Rattle.term_model.proofs.MachineSteps.{inputs_ask_one, ends_nothing}
use Rattle.term_model.proofs.laws.an_input_asks_at_most_one_thing.Goals as goal

pub returns-clause-one : goal.returns-clause-one
returns-clause-one c = inputs_ask_one

pub returns-clause-layers : goal.returns-clause-layers
returns-clause-layers c = ends_nothing
