use Rattle.std.proofs.Common.{map}
use Rattle.std.proofs.lemmas.Result.{IfOk-weaker}
use Rattle.bank_crew.specs.Ends.{counted}
use Rattle.bank_traffic.specs.Sides.{tasks_over}
use Rattle.bank_traffic.proofs.Pairs.{done_over, runs_over_pairs}
use Rattle.bank_traffic.proofs.traffic.run_through.Goals as goal

-- src/traffic.rt
pub returns-clause-near : goal.returns-clause-near
returns-clause-near g c =
    let near = c.in_ok-near.near in
    let tasks = tasks_over near.bank near.plan near.lines near.jobs in
    IfOk-weaker c.run_sides.result _ _ (λ ends did. (map counted tasks, c.in_ok-near.ensures.tasks, done_over _ tasks ends.near.items did)) c.run_sides.ensures.near

pub returns-clause-far : goal.returns-clause-far
returns-clause-far g c =
    let far = c.in_ok-far.far in
    let tasks = tasks_over far.bank far.plan far.lines far.jobs in
    IfOk-weaker c.run_sides.result _ _ (λ ends did. (map counted tasks, c.in_ok-far.ensures.tasks, done_over _ tasks ends.far.items did)) c.run_sides.ensures.far

pub returns-clause-over : goal.returns-clause-over
returns-clause-over g c =
    let near = c.in_ok-near.near in
    let far = c.in_ok-far.far in
    let lines = c.in_ok-lines.lines in
    let told = c.in_ok-lines.ensures in
    runs_over_pairs _ (λ own. own.line) (λ own. own.first) (λ of_set. of_set.items) c.args.traffic.now (tasks_over near.bank near.plan near.lines near.jobs) (tasks_over far.bank far.plan far.lines far.jobs) lines.near.items lines.far.items c.run_sides.result
    c.in_ok-near.ensures.tasks c.in_ok-far.ensures.tasks c.in_ok-near.ensures.over c.in_ok-far.ensures.over told.near_noise told.far_noise told.joined c.run_sides.ensures.near c.run_sides.ensures.far
