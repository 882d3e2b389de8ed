use Rattle.std.proofs.Common.{arith, refl, ◌<◌, length}
use Rattle.set_queues.specs.Buffers.{Waiting, Discarded}
use Rattle.set_queues.proofs.Linked.{of_link, relinked_keeps}
use Rattle.set_queues.proofs.Sifting.{sound_sifted}
use Rattle.set_queues.proofs.queues.Queues.discard_orders.Goals as goal

pub invariant_of-self : goal.invariant_of-self
invariant_of-self o c =
    let known : c.args.link < length c.self.inside.buffers.lists.links = rw (← c.self.view_is) at c.requires.known in
    sound_sifted (Waiting c.args.link) (Discarded c.args.cause) c.self.inside.buffers.lists _ c.self.inside.messages.items _ c.self.invariant refl known refl (λ l. refl)
    (grind (arith, of_link)) (grind (arith, of_link))

pub returns : goal.returns
returns o c =
    let known : c.args.link < length c.self.inside.buffers.lists.links = rw (← c.self.view_is) at c.requires.known in
    record {
      lists = grind (arith, of_link);
      messages = grind (arith, of_link);
      rooms = λ fate.
          let there = rw (← c.buffers.view_is) at known in
          let kept = relinked_keeps c.buffers.inside _ c.args.link _ (record { window = c.sift.new.window; held = c.index_mut.result.now.held }) there c.from.ensures c.index_mut.ensures.value c.sift.ensures.same.room (omega arith) fate in
          grind arith;
      room = grind arith;
    }
