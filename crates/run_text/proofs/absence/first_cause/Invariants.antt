use Rattle.std.proofs.Common.{◌≡◌, drop}
use Rattle.run_text.specs.Absences.{first_cause}
use Rattle.run_text.proofs.absence.first_cause.Given as goal

-- what is left tells it
abbrev pub invariant-loop-report : goal.invariant-loop-report
invariant-loop-report l = first_cause (drop l.report-index l.reports) ≡ first_cause l.reports
