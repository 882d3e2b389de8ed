use Rattle.std.proofs.Common.{◌≡◌, ◌+◌}
use Rattle.std.specs.Vec.{vec_len, vec_capacity}
use Rattle.set_events.specs.declared.event.Actor.TheVariants.{User}
use Rattle.set_ledger.specs.Seats.{new_seats}
use Rattle.set_ledger.proofs.seat.put_users.Given as goal

abbrev pub invariant-loop-number : goal.invariant-loop-number
invariant-loop-number g l = (l.seats.items ≡ new_seats User l.number)
    × (vec_len l.seats ≡ l.number) × (vec_capacity l.seats ≡ vec_capacity l.fn.seats)
    × (l.calls.amount ≡ 0) × (l.calls.parts + l.number ≡ l.fn.calls.parts)
    × (l.messages.amount ≡ 0) × (l.messages.parts + l.number ≡ l.fn.messages.parts)
    × (l.octets.amount ≡ 0) × (l.octets.parts + l.number ≡ l.fn.octets.parts)
    × (l.full.amount ≡ 0) × (l.full.parts + l.number ≡ l.fn.full.parts)
    × (l.checkpoints.amount ≡ 0) × (l.checkpoints.parts + l.number ≡ l.fn.checkpoints.parts)
