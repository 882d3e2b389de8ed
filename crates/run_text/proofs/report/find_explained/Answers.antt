use Rattle.std.proofs.Common.{subst, sym, Option, Some}
use Rattle.run_text.specs.declared.verdict.Missing.{Missing}
use Rattle.run_text.specs.Verdict.{IsVerdict}
use Rattle.run_text.proofs.Verdicts.{why_is_no_matter}
use Rattle.run_text.proofs.report.find_explained.Goals as goal

-- src/report.rt
pub returns-in-Some-clause-verdict : goal.returns-in-Some-clause-verdict
returns-in-Some-clause-verdict c =
    let traffic = c.args.traffic.now in
    let found = subst (IsVerdict traffic.users traffic.messages 0 c.args.far.now) c.in-Some.is c.find_missing.ensures in
    subst (λ (m : Missing). IsVerdict traffic.users traffic.messages 0 c.args.far.now (Some m)) (sym c.explained.ensures)
    (why_is_no_matter traffic.users traffic.messages 0 c.args.far.now c.in-Some.missing _ found)
