use Rattle.std.proofs.Common.{◌∙◌, sym}
use Rattle.set_shared.proofs.link_set.LinkSet.create.Goals as goal

-- it was opened, so the number of users is in range
pub returns-in-Ok-clause-range : goal.returns-in-Ok-clause-range
returns-in-Ok-clause-range g c = ((λ e. absurd cc), (λ outside. absurd (let no = sym c.in-Ok.is ∙ c.«open».ensures.range.1 outside in cc)))
