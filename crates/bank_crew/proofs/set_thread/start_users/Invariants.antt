use Rattle.std.proofs.Common.{◌≡◌, ◌+◌, drop, length, map}
use Rattle.std.specs.Vec.Iter.{into_iter_items, into_iter_len}
use Rattle.set_events.specs.declared.event.Actor.TheVariants.{User}
use Rattle.bank_crew.specs.Jobs.{duty_of}
use Rattle.bank_crew.specs.Keeping.{AreJobs, AreNew}
use Rattle.bank_crew.proofs.set_thread.start_users.Given as goal

-- the seats that are left are numbered on, and the jobs that are left are theirs
abbrev pub invariant-loop-seat : goal.invariant-loop-seat
invariant-loop-seat g l = AreNew User (length l.threads.items) (into_iter_items l.seats)
    × AreJobs 0 (map duty_of l.fn.jobs.items) (map (λ thread. thread.promise) l.threads.items)
    × (map duty_of (into_iter_items l.jobs) ≡ drop (length l.threads.items) (map duty_of l.fn.jobs.items))
    × (into_iter_len l.jobs ≡ length (into_iter_items l.jobs))
    × (into_iter_len l.seats ≡ length (into_iter_items l.seats))
    × (length l.threads.items + length (into_iter_items l.seats) ≡ length l.fn.seats.items)

abbrev pub decreases-loop-seat : goal.decreases-loop-seat
decreases-loop-seat g l = into_iter_len l.seats
