use Rattle.std.proofs.Common.{arith, refl, ◌≡◌}
use Rattle.set_queues.specs.Buffers.{Waiting, Discarded, IsKnown}
use Rattle.set_queues.proofs.Linked.{of_link}
use Rattle.set_queues.proofs.Soundness.{sound_passed, moved_one}
use Rattle.set_queues.proofs.queues.Queues.withdraw.Goals as goal

pub invariant_of-self : goal.invariant_of-self
invariant_of-self o c =
    let known : IsKnown (Waiting c.args.link) c.self.inside.buffers.lists = rw (← c.self.view_is) at c.requires.known in
    let same : c.pass.new.buffers.lists ≡ c.self.inside.buffers.lists = c.pass.ensures.lists in
    sound_passed 1 (Waiting c.args.link) (Discarded c.args.cause) _ _ _ _ c.self.invariant refl known tt refl (λ s. absurd cc)
    (moved_one (Waiting c.args.link) (Discarded c.args.cause) _ c.pass.new.buffers.lists _ tt refl c.pass.ensures.lists (grind (arith, of_link))) c.pass.ensures.messages

pub returns : goal.returns
returns o c =
    let known : IsKnown (Waiting c.args.link) c.self.inside.buffers.lists = rw (← c.self.view_is) at c.requires.known in
    let same : c.pass.new.buffers.lists ≡ c.self.inside.buffers.lists = c.pass.ensures.lists in
    record {
      lists = rw (← c.self.view_is) (moved_one (Waiting c.args.link) (Discarded c.args.cause) c.self.inside.buffers.lists c.pass.new.buffers.lists _ tt refl c.pass.ensures.lists (grind (arith, of_link)));
      messages = grind arith;
      rooms = λ fate. let taken = c.pass.ensures.rooms fate in grind (arith, of_link);
      room = grind arith;
    }
