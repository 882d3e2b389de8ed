use Rattle.link_term.proofs.OneByOne.{runs_are_turns, runs_take}
use Rattle.link_term.proofs.laws.a_run_is_its_turns.Goals as goal

pub returns-clause-turns : goal.returns-clause-turns
returns-clause-turns c = runs_are_turns

pub returns-clause-takes : goal.returns-clause-takes
returns-clause-takes c = runs_take
