use Rattle.set_ledger.specs.Seats.{SeatState}
use Rattle.set_ledger.proofs.Closing.{merged_full, merged_more}
use Rattle.set_ledger.proofs.ending.merge_users.Goals as goal

pub loop-seat-preserved : goal.loop-seat-preserved
loop-seat-preserved g c = (
  merged_more (λ (seat : SeatState). seat.share.calls) c.loop-seat.yielded c.in-Some.seat c.args.calls.now.parts c.args.calls.now.amount c.loop-seat.calls.parts c.loop-seat.calls.amount c.give_back.new.calls.parts c.give_back.new.calls.amount c.loop-seat.invariant.0 c.give_back.ensures.calls,
  merged_more (λ (seat : SeatState). seat.share.messages) c.loop-seat.yielded c.in-Some.seat c.args.messages.now.parts c.args.messages.now.amount c.loop-seat.messages.parts c.loop-seat.messages.amount c.give_back.new.messages.parts c.give_back.new.messages.amount c.loop-seat.invariant.1 c.give_back.ensures.messages,
  merged_more (λ (seat : SeatState). seat.share.octets) c.loop-seat.yielded c.in-Some.seat c.args.octets.now.parts c.args.octets.now.amount c.loop-seat.octets.parts c.loop-seat.octets.amount c.give_back.new.octets.parts c.give_back.new.octets.amount c.loop-seat.invariant.2 c.give_back.ensures.octets,
  merged_full c.loop-seat.yielded c.in-Some.seat c.args.full.now.parts c.args.full.now.amount c.loop-seat.full.parts c.loop-seat.full.amount c.give_back.new.full.parts c.give_back.new.full.amount c.loop-seat.invariant.3 c.give_back.ensures.full,
  merged_more (λ (seat : SeatState). seat.checkpoints) c.loop-seat.yielded c.in-Some.seat c.args.checkpoints.now.parts c.args.checkpoints.now.amount c.loop-seat.checkpoints.parts c.loop-seat.checkpoints.amount c.give_back.new.checkpoints.parts c.give_back.new.checkpoints.amount c.loop-seat.invariant.4 c.give_back.ensures.checkpoints,
)
