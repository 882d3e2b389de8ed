use Rattle.std.proofs.Common.{◌≡◌, ◌≤◌, ◌+◌, ◌++◌, All, map, length}
use Rattle.std.specs.Vec.{vec_len, vec_capacity}
use Rattle.std.specs.Vec.Iter.{into_iter_items, into_iter_len}
use Rattle.bank_crew.specs.Ends.{lined_task}
use Rattle.bank_crew.specs.Jobs.{duty_of}
use Rattle.bank_core.specs.Ends.{tasks_from}
use Rattle.bank_core.proofs.bank.Bank.put_works.Given as goal

-- what is left completes it
abbrev pub invariant-loop-config : goal.invariant-loop-config
invariant-loop-config g l = (map (λ work. lined_task work.config work.users work.lines.items (map duty_of work.jobs.items) work.assignment.plan) l.works.items ++ tasks_from l.fn.self.users l.fn.plan (into_iter_items l.configs)
    (map (λ of_set. of_set.items) (into_iter_items l.lines)) (map (λ of_set. map duty_of of_set.items) (into_iter_items l.jobs))
    ≡ tasks_from l.fn.self.users l.fn.plan l.fn.self.configs (map (λ of_set. of_set.items) l.fn.lines.items) (map (λ of_set. map duty_of of_set.items) l.fn.jobs.items))
    × (into_iter_len l.configs ≡ length (into_iter_items l.configs))
    × (into_iter_len l.lines ≡ length (into_iter_items l.lines))
    × (into_iter_len l.jobs ≡ length (into_iter_items l.jobs))
    × (vec_len l.works + into_iter_len l.configs ≡ length l.fn.self.configs)
    × (length l.fn.self.configs ≤ vec_capacity l.works)
    × All (λ work. work.assignment.set ≡ work.config.set) l.works.items

abbrev pub decreases-loop-config : goal.decreases-loop-config
decreases-loop-config g l = into_iter_len l.configs
