use Rattle.std.proofs.Common.{ap, ap₂, ◌∙◌, ◌++◌, List, ℕ}
use Rattle.std.proofs.lemmas.Result.{IfOk-weaker}
use Rattle.set_events.specs.declared.answer.Counts.{Counts}
use Rattle.pair_steps.specs.declared.step.End.TheVariants.{A, B}
use Rattle.script_ladder.specs.Ladder.{changes, further}
use Rattle.script_ladder.proofs.steps.write_both_changes.Goals as goal

-- src/steps.rt
pub returns : goal.returns
returns c =
    IfOk-weaker c.write_both.result _ _
    (λ rows is. is ∙ ap₂ (λ (x y : List ℕ). x ++ y)
    (c.in_ok-at_a.ensures ∙ ap (λ (n : Counts). further A c.args.under_way.now (changes c.args.note.now.a n)) c.counts.ensures.value)
    (c.deref.ensures.value ∙ (c.in_ok-write_changes.ensures ∙ ap (λ (n : Counts). further B c.args.under_way.now (changes c.args.note.now.b n)) c.counts-2.ensures.value)))
    c.write_both.ensures
