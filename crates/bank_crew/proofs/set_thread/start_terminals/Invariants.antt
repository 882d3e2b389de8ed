use Rattle.std.proofs.Common.{◌≡◌, ◌+◌, drop, length, map, vec_len}
use Rattle.std.specs.Vec.Iter.{into_iter_items, into_iter_len}
use Rattle.set_events.specs.declared.event.Actor.TheVariants.{Terminal}
use Rattle.bank_crew.specs.Keeping.{AreNew, AreShifts}
use Rattle.bank_crew.proofs.set_thread.start_terminals.Given as goal

-- the seats that are left are new, and numbered on; each line that was taken has a thread
abbrev pub invariant-loop-line : goal.invariant-loop-line
invariant-loop-line g l = AreNew Terminal (length l.threads.items) (into_iter_items l.seats)
    × AreShifts 0 l.fn.assignment.plan l.fn.lines.items (map (λ thread. thread.promise) l.threads.items)
    × (length l.threads.items + length (into_iter_items l.seats) ≡ length (into_iter_items l.initial.seats))
    × (length l.threads.items + into_iter_len l.lines ≡ vec_len l.fn.lines)
    × (into_iter_items l.lines ≡ drop (length l.threads.items) l.fn.lines.items)

abbrev pub decreases-loop-line : goal.decreases-loop-line
decreases-loop-line g l = into_iter_len l.lines
