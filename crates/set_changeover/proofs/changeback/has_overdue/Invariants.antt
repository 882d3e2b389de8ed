use Rattle.std.proofs.Common.{◌≡◌, ◌-◌}
use Rattle.set_route.specs.Routing.{code_for}
use Rattle.set_model.specs.Changeover.{some_overdue}
use Rattle.set_model.specs.State.{State}
use Rattle.set_changeover.specs.Agreement.{StandsFor}
use Rattle.set_changeover.specs.Parts.{kept_of}
use Rattle.set_changeover.proofs.changeback.has_overdue.Given as goal

abbrev pub invariant-loop-alternative : goal.invariant-loop-alternative
invariant-loop-alternative o l = (s : State) → StandsFor (kept_of l.parts) s → some_overdue (code_for l.home 0) 16 s ≡ some_overdue (code_for l.home l.alternative) (16 - l.alternative) s
