use Rattle.std.proofs.Common.{arith, refl}
use Rattle.set_queues.specs.Buffers.{Back, IsKnown}
use Rattle.set_queues.proofs.Standing.{known_with}
use Rattle.set_queues.proofs.Linked.{of_code}
use Rattle.set_queues.proofs.Soundness.{sound_passed, moved_one}
use Rattle.set_queues.proofs.queues.Queues.turn_back.Goals as goal

pub index_mut-requires : goal.index_mut-requires
index_mut-requires o c = let known = known_with (Back c.args.code) c.args.to _ _ _ c.pass.ensures.lists (omega (arith, c.ranges.code.fits, c.self.invariant.codes)) in grind (arith, of_code)

pub invariant_of-self : goal.invariant_of-self
invariant_of-self o c =
    let known : IsKnown (Back c.args.code) c.self.inside.buffers.lists = omega (arith, c.ranges.code.fits, c.self.invariant.codes) in
    let other : IsKnown c.args.to c.self.inside.buffers.lists = rw (← c.self.view_is) at c.requires.other in
    let there = known_with (Back c.args.code) c.args.to _ _ _ c.pass.ensures.lists known in
    sound_passed 1 (Back c.args.code) c.args.to _ _ _ _ c.self.invariant refl known other c.requires.apart (λ s. c.requires.queued)
    (moved_one (Back c.args.code) c.args.to _ c.pass.new.buffers.lists _ other c.requires.apart c.pass.ensures.lists (grind (arith, of_code))) c.pass.ensures.messages

pub returns : goal.returns
returns o c =
    let known : IsKnown (Back c.args.code) c.self.inside.buffers.lists = omega (arith, c.ranges.code.fits, c.self.invariant.codes) in
    let there = known_with (Back c.args.code) c.args.to _ _ _ c.pass.ensures.lists known in
    record {
      lists = rw (← c.self.view_is) (moved_one (Back c.args.code) c.args.to c.self.inside.buffers.lists c.pass.new.buffers.lists _ (rw (← c.self.view_is) at c.requires.other) c.requires.apart c.pass.ensures.lists (grind (arith, of_code)));
      messages = grind arith;
      rooms = λ fate. let taken = c.pass.ensures.rooms fate in grind (arith, of_code);
      room = grind arith;
    }
