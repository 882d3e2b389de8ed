use Rattle.std.proofs.Common.{rules, ◌≡◌, sym, true, false}
use Rattle.set_ledger.specs.Ending.{is_actor}
use Rattle.set_ledger.proofs.Searching.{has_on, has_none}
use Rattle.set_ledger.proofs.checking.has_seat_of.Goals as goal

pub loop-seat-preserved : goal.loop-seat-preserved
loop-seat-preserved g c =
    let is : false ≡ is_actor c.args.who c.actor.result = search rules in
    has_on g.S.Step.state c.args.who c.args.seats.now c.loop-seat.seat-index c.seat-item.result c.actor.result false c.loop-seat-test.true c.seat-item.is c.actor.ensures is c.loop-seat.invariant

pub returns : goal.returns
returns g c = has_none g.S.Step.state c.args.who c.args.seats.now c.loop-seat.seat-index c.loop-seat-test.false c.loop-seat.invariant

pub returns-then-same : goal.returns-then-same
returns-then-same g c =
    let is : true ≡ is_actor c.args.who c.actor.result = search rules in
    sym (has_on g.S.Step.state c.args.who c.args.seats.now c.loop-seat.seat-index c.seat-item.result c.actor.result true c.loop-seat-test.true c.seat-item.is c.actor.ensures is c.loop-seat.invariant)
