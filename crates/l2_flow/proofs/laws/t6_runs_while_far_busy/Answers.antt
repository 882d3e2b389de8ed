use Rattle.l2_flow.specs.Runs.{steps}
use Rattle.l2_flow.specs.Values.{cleared}
use Rattle.l2_flow.proofs.Lasting.{Since-told, Since-decides}
use Rattle.l2_flow.proofs.Running.{far_busy_told, t6_only_from, t6_runs_from}
use Rattle.l2_flow.proofs.laws.t6_runs_while_far_busy.Goals as goal

pub returns-clause-value : goal.returns-clause-value
returns-clause-value c = λ inputs. Since-told _ _ inputs _ (far_busy_told cleared inputs)

pub returns-clause-only : goal.returns-clause-only
returns-clause-only c = λ inputs running.
    (returns-clause-value c inputs).0 (t6_only_from cleared _ inputs (λ ran. ran) ((Since-decides _ _ (steps inputs)).1 running))

pub returns-clause-runs : goal.returns-clause-runs
returns-clause-runs c = λ inputs never_ends far_busy.
    (Since-told _ _ (steps inputs) _ (t6_runs_from cleared inputs never_ends)).0 ((returns-clause-value c inputs).1 far_busy)
