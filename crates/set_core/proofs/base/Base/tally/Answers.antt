use Rattle.std.proofs.Common.{[], subst}
use Rattle.set_core.specs.Keeping.{IsKept}
use Rattle.set_core.proofs.base.Base.tally.Goals as goal

-- src/base.rt
pub returns : goal.returns
returns o c = (c.self.inside.core, subst (λ base. IsKept base c.self.inside.core c.self.inside.tally []) c.self.view_is c.self.invariant)
