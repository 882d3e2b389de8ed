use Rattle.std.proofs.Common.{◌≡◌, drop}
use Rattle.set_ledger.specs.Ending.{has_seat}
use Rattle.set_ledger.proofs.checking.has_seat_of.Given as goal

-- whether the seats that are left have it decides
abbrev pub invariant-loop-seat : goal.invariant-loop-seat
invariant-loop-seat g l = has_seat g.S.Step.state l.who l.seats ≡ has_seat g.S.Step.state l.who (drop l.seat-index l.seats)
