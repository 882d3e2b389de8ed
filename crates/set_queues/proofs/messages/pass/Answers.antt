use Rattle.std.proofs.Common.{arith, refl, ◌≡◌, ◌∙◌, ap, sym, List, ℕ, Some, slice_get}
use Rattle.set_queues.specs.Buffers.{queue_at}
use Rattle.set_queues.proofs.Standing.{queue_away, queue_next, take_get, restood-append}
use Rattle.set_queues.proofs.messages.pass.Goals as goal

pub loop-place-preserved : goal.loop-place-preserved
loop-place-preserved o c =
    let same : queue_at c.args.from c.loop-place.buffers.lists ≡ queue_at c.args.from c.args.buffers.now.lists = queue_away c.args.to c.args.from _ _ _ c.loop-place.invariant.lists c.requires.other c.requires.apart in
    let got : slice_get (queue_at c.args.from c.args.buffers.now.lists) c.loop-place.place ≡ Some c.unwrap-number.result = ap (λ (ns : List ℕ). slice_get ns c.loop-place.place) (sym same) ∙ sym c.at.ensures ∙ c.unwrap-number.ensures in
    record {
      lists = queue_next c.args.to _ _ _ _ _ _ _ c.requires.other c.loop-place.invariant.lists got c.push.ensures.lists;
      messages = rw (c.restand.ensures.items, c.loop-place.invariant.messages, take_get _ c.loop-place.place c.unwrap-number.result got, restood-append) refl;
      rooms = λ fate. let before = c.loop-place.invariant.rooms fate in let one = c.push.ensures.room fate in grind arith;
      room = c.restand.ensures.room ∙ c.loop-place.invariant.room;
    }
