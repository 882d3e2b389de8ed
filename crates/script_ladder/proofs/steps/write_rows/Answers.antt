use Rattle.std.proofs.Common.{ap, ap₂, ◌∙◌, ◌++◌, List, ℕ, Option}
use Rattle.std.proofs.lemmas.Result.{IfOk-weaker}
use Rattle.set_events.specs.declared.answer.Report.{Report}
use Rattle.pair_steps.specs.declared.step.End.{End}
use Rattle.script_ladder.specs.Ladder.{Past, effect_rows, end_of, past_of}
use Rattle.script_ladder.proofs.steps.write_rows.Goals as goal

-- src/steps.rt
pub returns : goal.returns
returns c before is =
    let u = c.args.under_way.now in
    let w = c.args.world.now in
    let past = past_of before c.args.next.now in
    IfOk-weaker c.write_both.result _ _
    (λ rows both. both ∙ ap₂ (λ (x y : List ℕ). x ++ y) (c.in_ok-first.ensures before (ap (λ (p : Past). p.unit) is))
    (c.deref.ensures.value ∙ (c.in_ok-effects.ensures
    ∙ (ap (λ (p : Past). effect_rows u w c.find_end.result c.find_report.result p) is
    ∙ (ap (λ (e : End). effect_rows u w e c.find_report.result past) c.find_end.ensures
    ∙ ap (λ (r : Option Report). effect_rows u w (end_of c.args.next.now) r past) c.find_report.ensures)))))
    c.write_both.ensures
