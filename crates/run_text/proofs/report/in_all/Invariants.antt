use Rattle.std.proofs.Common.{◌≡◌, ◌+◌, ◌<◌, ◌^◌, drop}
use Rattle.run_text.specs.Figures.{capped}
use Rattle.run_text.specs.ReportText.{in_all}
use Rattle.run_text.proofs.report.in_all.Given as goal

abbrev pub invariant-loop-end : goal.invariant-loop-end
invariant-loop-end l = (capped (in_all l.figure l.ends) ≡ capped (l.sum + in_all l.figure (drop l.end-index l.ends))) × (l.sum < 2 ^ 64)
