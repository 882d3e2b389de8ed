use Rattle.std.proofs.Common.{◌≡◌, ◌++◌}
use Rattle.std.specs.Vec.Iter.{into_iter_items, into_iter_len}
use Rattle.bank_crew.proofs.crew.add_idle.Given as goal

abbrev pub invariant-loop-seat : goal.invariant-loop-seat
invariant-loop-seat g l = l.seats.items ++ into_iter_items l.idle ≡ l.initial.seats.items ++ into_iter_items l.fn.idle

abbrev pub decreases-loop-seat : goal.decreases-loop-seat
decreases-loop-seat g l = into_iter_len l.idle
