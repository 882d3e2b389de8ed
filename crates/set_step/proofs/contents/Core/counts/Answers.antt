use Rattle.std.proofs.Common.{arith, ◌+◌, ◌∙◌, ap}
use Rattle.set_events.specs.declared.answer.Counts.{Counts}
use Rattle.set_model.specs.Rows.{total_of}
use Rattle.set_changeover.specs.Parts.{kept_of}
use Rattle.set_step.proofs.Kept.{all_told, counted_few, counts_told}
use Rattle.set_step.proofs.contents.Core.counts.Goals as goal

pub returns-clause-value : goal.returns-clause-value
returns-clause-value o c = rw (← c.self.view_is) (λ s st. counts_told (kept_of c.self.inside.parts) s c.counts-here.result st c.counts-here.ensures)

pub returns-clause-all : goal.returns-clause-all
returns-clause-all o c =
    rw (← c.self.view_is) (λ s st. ap (λ (n : Counts). total_of n + s.finished.orders) (counts_told (kept_of c.self.inside.parts) s c.counts-here.result st c.counts-here.ensures) ∙ all_told s)

pub returns-clause-few : goal.returns-clause-few
returns-clause-few o c =
    let few = counted_few c.self.inside.parts c.self.invariant in
    omega (arith, few, ap total_of c.counts-here.ensures, c.len.ensures.value, c.len.type_inv)
