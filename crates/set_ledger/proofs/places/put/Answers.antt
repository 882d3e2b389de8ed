use Rattle.std.proofs.Common.{arith, refl, sym, ap, ◌∙◌, ◌<◌, ◌≤◌, length, is_some, Some}
use Rattle.set_ledger.specs.Places.{place_of}
use Rattle.set_ledger.proofs.Placing.{at_on, decide_more, decide_none, empty_at, free_at, put_all, put_so_far, some_put}
use Rattle.set_ledger.proofs.places.put.Goals as goal

pub loop-seat-init : goal.loop-seat-init
loop-seat-init g c = record {
  as_many = refl;
  first = λ none. refl;
  are_at = empty_at c.args.places.now c.requires.empty;
  decide = decide_none g.S.Step.state c.args.books.now c.args.seats.now c.args.places.now c.requires.empty;
}

pub returns-then-is_some : goal.returns-then-is_some
returns-then-is_some g c =
    let so = c.loop-seat.invariant in
    let are = so.are_at in
    let within : c.place_of-place.result < length c.loop-seat.places = omega (arith, c.place_of-place.ensures.below, are.long) in
    let few : c.loop-seat.seat-index ≤ length c.args.seats.now = omega (arith, c.loop-seat-test.true) in
    put_so_far g.S.Step.state c.args.books.now c.args.seats.now c.loop-seat.seat-index c.loop-seat.many c.loop-seat.places so.as_many few
    (λ some. some_put c.loop-seat.places c.args.places.now c.loop-seat.seat-index c.place_of-place.result c.index-places-place.result so.first c.requires.empty within c.index-places-place.is (ap is_some c.index-places-place.is ∙ sym c.is_some.ensures ∙ c.if-is_some.true))
    are so.decide

pub overflow_add-many : goal.overflow_add-many
overflow_add-many g c = omega (arith, c.loop-seat.invariant.as_many, c.loop-seat-test.true)

pub loop-seat-preserved : goal.loop-seat-preserved
loop-seat-preserved g c =
    let so = c.loop-seat.invariant in
    let are = so.are_at in
    let within : c.place_of-place.result < length c.loop-seat.places = omega (arith, c.place_of-place.ensures.below, are.long) in
    let free = free_at c.loop-seat.places c.place_of-place.result c.index-places-place.result within c.index-places-place.is (ap is_some c.index-places-place.is ∙ sym c.is_some.ensures ∙ c.if-is_some.false) in
    let own = c.in_ok-own_of.ensures in
    record {
      as_many = omega (arith, so.as_many);
      first = λ none. absurd (omega (arith, none));
      are_at = at_on c.loop-seat.places c.place_of-place.result (Some c.in_ok-own_of.field-0) within are
          (◌∙◌ {b = place_of c.actor.result} (ap place_of (own.who_is ∙ sym c.actor.ensures)) (sym c.place_of-place.ensures.value));
      decide = decide_more g.S.Step.state c.args.books.now c.args.seats.now c.loop-seat.places c.loop-seat.seat-index c.seat-item.result c.place_of-place.result c.in_ok-own_of.field-0
          c.loop-seat-test.true c.seat-item.is within free own so.decide;
    }

pub returns : goal.returns
returns g c =
    let so = c.loop-seat.invariant in
    put_all g.S.Step.state c.args.books.now c.args.seats.now c.loop-seat.seat-index c.loop-seat.places c.loop-seat-test.false so.are_at so.decide
