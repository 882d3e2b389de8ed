use Rattle.std.proofs.Common.{◌∙◌, ap, sym, ◌+◌}
use Rattle.std.proofs.lemmas.List.{drop_all}
use Rattle.run_text.specs.Figures.{capped}
use Rattle.run_text.specs.ReportText.{in_all}
use Rattle.run_text.proofs.Sums.{sum_ends}
use Rattle.run_text.proofs.report.in_all.Goals as goal

pub returns : goal.returns
returns c =
    let sum = c.loop-end.sum in
    sym (c.loop-end.invariant.0 ∙ ap (λ xs. capped (sum + in_all c.args.figure xs)) (drop_all c.loop-end.end-index c.args.ends.now c.loop-end-test.false) ∙ sum_ends sum c.loop-end.invariant.1)
