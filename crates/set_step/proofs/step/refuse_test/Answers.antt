use Rattle.set_model.specs.Step.{Nothing, refused}
use Rattle.set_changeover.specs.Parts.{Up}
use Rattle.set_changeover.proofs.Links.{is_in, served}
use Rattle.set_step.proofs.step.refuse_test.Goals as goal

pub returns-in-None : goal.returns-in-None
returns-in-None o c = λ s a.
    served s c.args.number (λ link. refused s Nothing) c.set_refused-in-None.new.self c.args.parts.now (is_in c.args.parts.now s c.args.number Up a c.in-None.ensures.here)
    (record { answer_is = c.set_refused-in-None.ensures; stands = a.stands })
