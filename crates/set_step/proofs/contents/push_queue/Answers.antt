use Rattle.std.proofs.Common.{◌≡◌, ◌∙◌, sym, Some, slice_get}
use Rattle.set_queues.specs.Buffers.{queue_at}
use Rattle.set_step.proofs.Listed.{put_behind}
use Rattle.set_step.proofs.contents.push_queue.Goals as goal

-- src/contents.rt
pub loop-place-preserved : goal.loop-place-preserved
loop-place-preserved g c =
    let queue = queue_at c.args.fate c.args.queues.now.lists in
    let there : slice_get queue c.loop-place.place ≡ Some c.in-Some.number = sym c.number_at.ensures ∙ c.in-Some.is in
    put_behind queue c.args.numbers.now.items c.loop-place.numbers.items c.push.new.self.items c.loop-place.place c.in-Some.number there c.loop-place.invariant c.in_ok-push.ensures.items
