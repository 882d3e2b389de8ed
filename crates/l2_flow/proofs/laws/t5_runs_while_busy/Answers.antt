use Rattle.l2_flow.specs.Runs.{steps}
use Rattle.l2_flow.specs.Values.{cleared}
use Rattle.l2_flow.proofs.Lasting.{Since-told}
use Rattle.l2_flow.proofs.Running.{busy_told, t5_runs_from}
use Rattle.l2_flow.proofs.laws.t5_runs_while_busy.Goals as goal

pub returns-clause-value : goal.returns-clause-value
returns-clause-value c = λ inputs. Since-told _ _ inputs _ (busy_told cleared inputs)

pub returns-clause-runs : goal.returns-clause-runs
returns-clause-runs c = λ inputs.
    let busy = Since-told _ _ inputs _ (busy_told cleared inputs) in
    let runs = Since-told _ _ (steps inputs) _ (t5_runs_from cleared inputs) in
    (λ running. busy.0 (runs.1 running), λ is_busy. runs.0 (busy.1 is_busy))
