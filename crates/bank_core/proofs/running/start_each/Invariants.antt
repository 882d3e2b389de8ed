use Rattle.std.proofs.Common.{◌≡◌, ◌≤◌, map, length}
use Rattle.std.specs.Vec.{vec_len, vec_capacity}
use Rattle.bank_crew.specs.Ends.{lined_task}
use Rattle.bank_crew.specs.Jobs.{duty_of}
use Rattle.bank_core.specs.Promises.{promised}
use Rattle.bank_core.proofs.running.start_each.Given as goal

abbrev pub invariant-loop-work : goal.invariant-loop-work
invariant-loop-work g l = (map (λ thread. promised thread.promise) l.threads.items ≡ map (λ work. lined_task work.config work.users work.lines.items (map duty_of work.jobs.items) work.assignment.plan) l.yielded)
    × (vec_len l.threads ≡ length l.yielded)
    × (vec_len l.fn.works ≤ vec_capacity l.threads)
