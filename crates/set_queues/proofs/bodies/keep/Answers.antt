use Rattle.std.proofs.Common.{arith, refl, ◌≡◌, ◌∙◌, ◌+◌, sym, length, []}
use Rattle.std.proofs.lemmas.Option.{slice_get-get_or}
use Rattle.set_queues.specs.Bodies.{bodies_in}
use Rattle.set_queues.specs.Messages.{is_unfinished}
use Rattle.set_queues.specs.Slots.{slot_at}
use Rattle.set_queues.proofs.Keeping.{kept_end, kept_none, one_dropped, one_kept}
use Rattle.set_queues.proofs.Storing.{all_more, bodies_more, length_bodies}
use Rattle.set_queues.proofs.bodies.keep.Goals as goal

pub loop-place-init : goal.loop-place-init
loop-place-init o c = rw (c.new-older.ensures.items, c.new-kept_ends.ensures.items, c.new-kept_octets.ensures.items) (record { kept = kept_none (λ k. is_unfinished (slot_at k c.args.queues.now.messages)) c.args.numbers.now.older.items c.args.numbers.now.first (bodies_in 0 c.args.ends.now c.args.octets.now) c.requires.slots.order; all = refl })

pub loop-place-preserved-then-not-is_unfinished : goal.loop-place-preserved-then-not-is_unfinished
loop-place-preserved-then-not-is_unfinished o c =
    let long = length_bodies 0 c.args.ends.now c.args.octets.now in
    let there = slice_get-get_or (bodies_in 0 c.args.ends.now c.args.octets.now) c.loop-place.place [] (omega (arith, long, c.loop-place-test.true)) in
    record {
      kept = one_dropped (λ k. is_unfinished (slot_at k c.args.queues.now.messages)) c.args.numbers.now.older.items c.args.numbers.now.first (bodies_in 0 c.args.ends.now c.args.octets.now) c.loop-place.older.items _ c.loop-place.place _ c.requires.slots.order there c.loop-place.invariant.kept (rw c.number_at-number.ensures at (sym c.is_unfinished.ensures) ∙ c.if-not-is_unfinished.true);
      all = c.loop-place.invariant.all;
    }

pub loop-place-preserved : goal.loop-place-preserved
loop-place-preserved o c =
    let end : c.len.result ≡ length c.loop-place.kept_octets.items + length c.body_in.result.now = grind arith in
    let more = bodies_more 0 c.loop-place.kept_ends.items c.loop-place.kept_octets.items c.body_in.result.now c.len.result end c.loop-place.invariant.all in
    let kept = one_kept (λ k. is_unfinished (slot_at k c.args.queues.now.messages)) c.args.numbers.now.older.items c.args.numbers.now.first (bodies_in 0 c.args.ends.now c.args.octets.now) c.loop-place.older.items _ c.loop-place.place c.body_in.result.now c.requires.slots.order c.body_in.ensures c.loop-place.invariant.kept (rw c.number_at-number.ensures at (sym c.is_unfinished.ensures) ∙ c.if-not-is_unfinished.false) in
    rw (c.in_ok-push.ensures.items, c.in_ok-extend_from_slice.ensures.items, c.in_ok-push-2.ensures.items, c.number_at-number.ensures) (record {
      kept = rw more kept;
      all = all_more 0 c.loop-place.kept_ends.items c.loop-place.kept_octets.items c.body_in.result.now c.len.result end c.loop-place.invariant.all;
    })

pub returns-clause-kept : goal.returns-clause-kept
returns-clause-kept o c =
    let long = length_bodies 0 c.args.ends.now c.args.octets.now in
    rw long at (kept_end (λ k. is_unfinished (slot_at k c.args.queues.now.messages)) c.args.numbers.now.older.items c.args.numbers.now.first (bodies_in 0 c.args.ends.now c.args.octets.now) c.loop-place.older.items _ c.loop-place.place (grind (arith, c.requires.slots.many)) (omega (arith, long)) c.loop-place.invariant.kept)
