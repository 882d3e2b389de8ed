use Rattle.std.proofs.Common.{ap₂, ◌∙◌, [], List, ℕ}
use Rattle.std.proofs.lemmas.Result.{IfOk-weaker}
use Rattle.script_ladder.specs.Ladder.{row_text}
use Rattle.script_ladder.proofs.steps.write_up.Goals as goal

-- src/steps.rt
pub returns : goal.returns
returns c =
    IfOk-weaker c.write_row.result _ _
    (λ row is. is ∙ ap₂ (λ (a b : List ℕ). row_text c.args.number.now a [] c.args.under_way.now [] b)
    (c.deref.ensures.value ∙ c.in_ok-words.ensures) (c.deref-2.ensures.value ∙ c.in_ok-words.ensures))
    c.write_row.ensures
