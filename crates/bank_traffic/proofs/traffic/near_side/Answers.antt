use Rattle.bank_traffic.specs.Opening.{near_end}
use Rattle.bank_traffic.proofs.Tasks.{tasks_of}
use Rattle.bank_traffic.proofs.traffic.near_side.Goals as goal

-- src/traffic.rt
pub returns-clause-tasks : goal.returns-clause-tasks
returns-clause-tasks c = (tasks_of c.args.traffic.now (near_end c.args.traffic.now) _ _ _ (λ of_set. of_set.items) (λ own. own.first) 0 c.args.lines.items _ c.in_ok-bank.ensures.users c.plan_of-plan.ensures c.in_ok-bank.ensures.configs c.requires.noises c.in_ok-jobs.ensures).0

pub returns-clause-over : goal.returns-clause-over
returns-clause-over c = (tasks_of c.args.traffic.now (near_end c.args.traffic.now) _ _ _ (λ of_set. of_set.items) (λ own. own.first) 0 c.args.lines.items _ c.in_ok-bank.ensures.users c.plan_of-plan.ensures c.in_ok-bank.ensures.configs c.requires.noises c.in_ok-jobs.ensures).1
