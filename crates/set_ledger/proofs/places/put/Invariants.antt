use Rattle.set_ledger.proofs.Placing.{PutSoFar}
use Rattle.set_ledger.proofs.places.put.Given as goal

abbrev pub invariant-loop-seat : goal.invariant-loop-seat
invariant-loop-seat g l = PutSoFar g.S.Step.state l.books l.seats l.initial.places l.places l.many l.seat-index
