use Rattle.set_ledger.specs.Seats.{SeatState}
use Rattle.set_ledger.proofs.Closing.{merged_full, merged_more}
use Rattle.set_ledger.proofs.ending.merge_terminals.Goals as goal

pub loop-seat-preserved : goal.loop-seat-preserved
loop-seat-preserved g c = (
  merged_more (λ (seat : SeatState). seat.share.calls) c.loop-seat.yielded c.in-Some.seat c.args.calls.now.parts c.args.calls.now.amount c.loop-seat.calls.parts c.loop-seat.calls.amount c.give_back.new.calls.parts c.give_back.new.calls.amount c.loop-seat.invariant.0 c.give_back.ensures.calls,
  merged_more (λ (seat : SeatState). seat.share.acknowledged) c.loop-seat.yielded c.in-Some.seat c.args.acknowledged.now.parts c.args.acknowledged.now.amount c.loop-seat.acknowledged.parts c.loop-seat.acknowledged.amount c.give_back.new.acknowledged.parts c.give_back.new.acknowledged.amount c.loop-seat.invariant.1 c.give_back.ensures.acknowledged,
  merged_full c.loop-seat.yielded c.in-Some.seat c.args.full.now.parts c.args.full.now.amount c.loop-seat.full.parts c.loop-seat.full.amount c.give_back.new.full.parts c.give_back.new.full.amount c.loop-seat.invariant.2 c.give_back.ensures.full,
  merged_more (λ (seat : SeatState). seat.checkpoints) c.loop-seat.yielded c.in-Some.seat c.args.checkpoints.now.parts c.args.checkpoints.now.amount c.loop-seat.checkpoints.parts c.loop-seat.checkpoints.amount c.give_back.new.checkpoints.parts c.give_back.new.checkpoints.amount c.loop-seat.invariant.3 c.give_back.ensures.checkpoints,
)
