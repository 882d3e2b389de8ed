use Rattle.std.proofs.Common.{◌≡◌, ◌+◌}
use Rattle.std.specs.Vec.{vec_len, vec_capacity}
use Rattle.set_events.specs.declared.event.Actor.TheVariants.{Terminal}
use Rattle.set_ledger.specs.Seats.{new_seats}
use Rattle.set_ledger.proofs.seat.put_terminals.Given as goal

abbrev pub invariant-loop-link : goal.invariant-loop-link
invariant-loop-link g l = (l.seats.items ≡ new_seats Terminal l.link)
    × (vec_len l.seats ≡ l.link) × (vec_capacity l.seats ≡ vec_capacity l.fn.seats)
    × (l.calls.amount ≡ 0) × (l.calls.parts + l.link ≡ l.fn.calls.parts)
    × (l.acknowledged.amount ≡ 0) × (l.acknowledged.parts + l.link ≡ l.fn.acknowledged.parts)
    × (l.full.amount ≡ 0) × (l.full.parts + l.link ≡ l.fn.full.parts)
    × (l.checkpoints.amount ≡ 0) × (l.checkpoints.parts + l.link ≡ l.fn.checkpoints.parts)
