use Rattle.std.proofs.Common.{◌≡◌, ◌+◌, ◌<◌, ◌^◌, drop}
use Rattle.run_text.specs.Figures.{capped, summed}
use Rattle.run_text.proofs.figures.sum_of.Given as goal

abbrev pub invariant-loop-report : goal.invariant-loop-report
invariant-loop-report l = (capped (summed l.figure l.reports) ≡ capped (l.sum + summed l.figure (drop l.report-index l.reports))) × (l.sum < 2 ^ 64)
