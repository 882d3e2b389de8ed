use Rattle.std.proofs.Common.{◌≡◌, ◌≤◌, length, map}
use Rattle.std.specs.List.{AllZip}
use Rattle.std.specs.Vec.{vec_len, vec_capacity}
use Rattle.bank_core.specs.Promises.{Keeps}
use Rattle.bank_core.proofs.running.wait_for_all.Given as goal

abbrev pub invariant-loop-thread : goal.invariant-loop-thread
invariant-loop-thread g l = AllZip (Keeps g.L.Line) (map (λ thread. thread.promise) l.yielded) l.answers.items
    × (vec_len l.answers ≡ length l.yielded)
    × (length l.fn.threads.items ≤ vec_capacity l.answers)
