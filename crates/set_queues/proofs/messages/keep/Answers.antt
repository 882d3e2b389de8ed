use Rattle.std.proofs.Common.{arith, ◌∙◌, ap, sym}
use Rattle.std.proofs.lemmas.Option.{slice_get-get_or}
use Rattle.set_queues.specs.Slots.{item_at}
use Rattle.set_queues.specs.Stored.{stays_on}
use Rattle.set_queues.proofs.Forgetting.{standing_push}
use Rattle.set_queues.proofs.Keeping.{item_there, kept_end, kept_none, one_dropped, one_kept}
use Rattle.set_queues.proofs.messages.keep.Goals as goal

pub loop-place-init : goal.loop-place-init
loop-place-init o c = rw (c.new-older.ensures.items, c.new-kept.ensures.items) (record { kept = kept_none (λ k. stays_on (item_at k c.args.numbers.now.older.items c.args.numbers.now.first c.args.all.now)) c.args.numbers.now.older.items c.args.numbers.now.first c.args.all.now c.requires.order; standing = λ place s e. absurd cc })

pub loop-place-preserved-then-not-is_standing : goal.loop-place-preserved-then-not-is_standing
loop-place-preserved-then-not-is_standing o c =
    let there = slice_get-get_or c.args.all.now c.loop-place.place _ c.loop-place-test.true in
    let here = item_there c.args.numbers.now.older.items c.args.numbers.now.first c.args.all.now c.loop-place.place _ c.requires.order there in
    record {
      kept = one_dropped (λ k. stays_on (item_at k c.args.numbers.now.older.items c.args.numbers.now.first c.args.all.now)) c.args.numbers.now.older.items c.args.numbers.now.first c.args.all.now c.loop-place.older.items c.loop-place.kept.items c.loop-place.place _ c.requires.order there c.loop-place.invariant.kept (ap stays_on here ∙ sym c.is_standing.ensures ∙ c.if-not-is_standing.true);
      standing = c.loop-place.invariant.standing;
    }

pub loop-place-preserved : goal.loop-place-preserved
loop-place-preserved o c =
    let there = slice_get-get_or c.args.all.now c.loop-place.place _ c.loop-place-test.true in
    let here = item_there c.args.numbers.now.older.items c.args.numbers.now.first c.args.all.now c.loop-place.place _ c.requires.order there in
    let kept = one_kept (λ k. stays_on (item_at k c.args.numbers.now.older.items c.args.numbers.now.first c.args.all.now)) c.args.numbers.now.older.items c.args.numbers.now.first c.args.all.now c.loop-place.older.items c.loop-place.kept.items c.loop-place.place _ c.requires.order there c.loop-place.invariant.kept (ap stays_on here ∙ sym c.is_standing.ensures ∙ c.if-not-is_standing.false) in
    let standing = standing_push c.loop-place.kept.items _ (sym c.is_standing.ensures ∙ c.if-not-is_standing.false) c.loop-place.invariant.standing in
    rw (c.in_ok-push.ensures.items, c.in_ok-push-2.ensures.items, c.number_at.ensures) (record { kept = kept; standing = standing })

pub returns-clause-kept : goal.returns-clause-kept
returns-clause-kept o c = kept_end (λ k. stays_on (item_at k c.args.numbers.now.older.items c.args.numbers.now.first c.args.all.now)) c.args.numbers.now.older.items c.args.numbers.now.first c.args.all.now c.loop-place.older.items c.loop-place.kept.items c.loop-place.place (grind (arith, c.requires.many)) (grind arith) c.loop-place.invariant.kept
