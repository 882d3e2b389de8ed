use Rattle.set_shared.proofs.Answering.{answered}
use Rattle.set_shared.proofs.Telling.{then_ok}
use Rattle.set_shared.proofs.link_set.ask.Goals as goal

-- it's the step's
pub returns-clause-answer : goal.returns-clause-answer
returns-clause-answer g c = then_ok c.step_in.result (λ step. answered _ _ _ _ _ step) c.step_in.ensures.step
