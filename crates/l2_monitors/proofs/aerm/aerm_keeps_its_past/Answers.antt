use Rattle.std.proofs.Common.{◌≡◌, ℕ, ◌-◌, Bool, true, false, List, [], ◌∷◌, ◌∙◌, arith}
use Rattle.l2_monitors.specs.Marks.{errors}
use Rattle.l2_monitors.specs.Aerm.{after_marks, threshold}
use Rattle.l2_monitors.proofs.aerm.aerm_keeps_its_past.Goals as goal

-- each error took one off
left_after : (left : ℕ) (marks : List Bool) → after_marks left marks ≡ left - errors marks
left_after left [] = omega arith
left_after left (true ∷ marks) = left_after (left - 1) marks ∙ omega arith
left_after left (false ∷ marks) = left_after (left - 0) marks ∙ omega arith

pub returns : goal.returns
returns c = λ emergency marks. left_after (threshold emergency) marks
