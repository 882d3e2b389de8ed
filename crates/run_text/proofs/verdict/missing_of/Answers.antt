use Rattle.std.proofs.Common.{◌∙◌, ap, map, sym, subst, ◌==◌, List, ℕ}
use Rattle.std.proofs.lemmas.List.{take_all}
use Rattle.set_model.specs.Rows.{stream_of}
use Rattle.run_text.specs.Verdict.{Lacks, of_stream}
use Rattle.run_text.proofs.Verdicts.{all_taken, lacks_end, lacks_here}
use Rattle.run_text.proofs.verdict.missing_of.Goals as goal

-- src/verdict.rt
pub returns-in_default : goal.returns-in_default
returns-in_default c =
    let bodies = map (λ body. body.items) c.args.taken.now in
    let kept = c.loop-body.invariant in
    let all = all_taken (λ body. body.items) c.args.taken.now c.loop-body.body-index c.body-item.result c.loop-body-test.true c.body-item.is in
    subst (λ (bs : List (List ℕ)). Lacks c.args.messages c.args.stream c.loop-body.came bs) (sym all)
    (lacks_here c.args.messages c.args.stream c.loop-body.came _ _ c.body-item.result.items kept.1 kept.0
    (ap (λ body. stream_of body == c.args.stream) (sym c.as_slice.ensures.value) ∙ c.in_default.ensures.0)
    (λ less same. c.in_default.ensures.1 less (c.as_slice.ensures.value ∙ same)))

pub returns-then-came-messages : goal.returns-then-came-messages
returns-then-came-messages c =
    let kept = c.loop-body.invariant in
    let whole = take_all c.loop-body.body-index c.args.taken.now c.loop-body-test.false in
    lacks_end c.args.messages c.args.stream c.loop-body.came _ (ap (λ xs. of_stream c.args.stream (map (λ body. body.items) xs)) (sym whole) ∙ kept.1) c.if-came-messages.true
