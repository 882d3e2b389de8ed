use Rattle.set_changeover.specs.Parts.{kept_of}
use Rattle.set_step.proofs.Listed.{as_many_unsent}
use Rattle.set_step.proofs.contents.Core.unsent.Goals as goal

pub returns : goal.returns
returns g c = rw (← c.self.view_is) (λ s f. as_many_unsent (kept_of c.self.inside.parts) s c.args.stream c.unsent.result f c.unsent.ensures)
