use Rattle.l2_flow.specs.Runs.{steps}
use Rattle.l2_flow.specs.Values.{cleared}
use Rattle.l2_flow.proofs.Lasting.{Since-told, Since-decides}
use Rattle.l2_flow.proofs.Running.{t7_told, t7_only_from, t7_runs_from}
use Rattle.l2_flow.proofs.Sending.{SentSinceReset-awaiting}
use Rattle.l2_flow.proofs.laws.t7_runs_while_awaiting.Goals as goal

pub returns-clause-value : goal.returns-clause-value
returns-clause-value c = λ inputs. Since-told _ _ inputs _ (t7_told cleared inputs)

pub returns-clause-only : goal.returns-clause-only
returns-clause-only c = λ inputs running.
    (returns-clause-value c inputs).0 (t7_only_from cleared _ inputs (λ ran. ran) ((Since-decides _ _ (steps inputs)).1 running))

pub returns-clause-runs : goal.returns-clause-runs
returns-clause-runs c = λ inputs never_ends awaits.
    (Since-told _ _ (steps inputs) _ (t7_runs_from cleared inputs never_ends)).0 ((returns-clause-value c inputs).1 awaits)

pub returns-clause-sent : goal.returns-clause-sent
returns-clause-sent c = λ inputs real running. SentSinceReset-awaiting inputs real (returns-clause-only c inputs running)
