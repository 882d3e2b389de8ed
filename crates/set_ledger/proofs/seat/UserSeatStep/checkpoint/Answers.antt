use Rattle.std.proofs.Common.{subst, sym, ◌≤◌, ◌+◌, ℕ}
use Rattle.set_model.specs.History.{LinkSet, longest_history}
use Rattle.set_ledger.specs.Openings.{IsBaseBehind}
use Rattle.set_ledger.proofs.Telling.{checkpoints, totals_stay}
use Rattle.set_ledger.proofs.seat.UserSeatStep.checkpoint.Goals as goal

-- the books are as they were, and one history more leads to the base
pub invariant_of-held-2 : goal.invariant_of-held-2
invariant_of-held-2 g c =
    let old = c.held.inside.core in
    let is = c.in_ok-checkpoint.ensures in (
      totals_stay _ old c.checkpoint.new.self is.books is.entries c.held.invariant.0,
      c.held.invariant.1,
      rw c.take.ensures.total (subst (λ (set : LinkSet). IsBaseBehind g.O.Opening.settings (c.held.inside.checkpoints.total + 1) set.base) (sym is.ok) (checkpoints g.O.Opening.settings c.held.inside.checkpoints.total old c.held.invariant.2 c.replays.ensures.legal c.replays.ensures.agrees)),
      (λ some. subst (λ (n : ℕ). longest_history ≤ n) (sym is.entries) (c.held.invariant.3 some)),
    )
