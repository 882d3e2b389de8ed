use Rattle.std.proofs.Common.{◌≡◌, drop}
use Rattle.run_text.specs.Failures.{failed_from}
use Rattle.run_text.proofs.failures.first_failed.Given as goal

abbrev pub invariant-loop-report : goal.invariant-loop-report
invariant-loop-report l = (failed_from 0 l.reports ≡ failed_from l.link (drop l.report-index l.reports)) × (l.link ≡ l.report-index)
