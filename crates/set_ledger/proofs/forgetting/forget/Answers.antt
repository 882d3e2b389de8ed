use Rattle.std.proofs.Common.{◌∙◌, ap, ap₂, ℕ, ◌-◌}
use Rattle.set_ledger.specs.Ending.{calls_at}
use Rattle.set_ledger.proofs.Counting.{stays_faithful}
use Rattle.set_ledger.proofs.forgetting.forget.Goals as goal

-- src/forgetting.rt
pub returns-clause-faithful : goal.returns-clause-faithful
returns-clause-faithful g c =
    stays_faithful _ _ _ _ c.saturating_sub-many.result
    (c.saturating_sub-many.ensures ∙ ap₂ (λ (m n : ℕ). m - n) (c.count_calls-calls.ensures ∙ ap₂ calls_at c.actor.ensures (c.books.ensures.value ∙ ap (λ base. base.books) (c.base.ensures ∙ ap (λ set. set.base) c.core.ensures)))
    (ap (λ forgotten. forgotten.calls) c.forgotten.ensures))
    c.in_ok-forget.ensures.forgets
