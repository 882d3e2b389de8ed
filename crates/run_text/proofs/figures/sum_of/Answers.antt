use Rattle.std.proofs.Common.{◌∙◌, ap, sym, ◌+◌}
use Rattle.std.proofs.lemmas.List.{drop_all}
use Rattle.run_text.specs.Figures.{capped, summed}
use Rattle.run_text.proofs.Sums.{sum_ends}
use Rattle.run_text.proofs.figures.sum_of.Goals as goal

pub returns : goal.returns
returns c =
    let sum = c.loop-report.sum in
    sym (c.loop-report.invariant.0 ∙ ap (λ xs. capped (sum + summed c.args.figure xs)) (drop_all c.loop-report.report-index c.args.reports.now c.loop-report-test.false) ∙ sum_ends sum c.loop-report.invariant.1)
