use Rattle.std.proofs.Common.{arith, refl, ◌≡◌, ◌<◌, length, ℕ, Result, Ok, Err, OnOk}
use Rattle.set_queues.specs.Buffers.{Unacked, Acked}
use Rattle.set_queues.proofs.Linked.{of_link, relinked_acked, relinked_keeps}
use Rattle.set_queues.proofs.Soundness.{sound_passed, sound_with_last}
use Rattle.set_queues.proofs.queues.Queues.acknowledge.Goals as goal

pub invariant_of-self : goal.invariant_of-self
invariant_of-self o c =
    let known : c.args.link < length c.self.inside.buffers.lists.links = rw (← c.self.view_is) at c.requires.known in
    sound_with_last _ _ _ c.args.link c.args.fsn (grind (arith, of_link)) (
    sound_passed c.in_ok-count.count (Unacked c.args.link) (Acked c.args.link) _ _ _ _ c.self.invariant refl known tt refl (λ s. absurd (cc)) refl (rw c.from-moved.ensures at c.pass.ensures.messages))

-- a fact that follows where the call answers Ok
ok_so : {E P Q : Type 0} (result : Result ℕ E) → (P → Q) → OnOk result P → OnOk result Q
ok_so (Ok n) f p = f p
ok_so (Err e) f p = tt

pub returns-clause-moves : goal.returns-clause-moves
returns-clause-moves o c =
    let known : c.args.link < length c.self.inside.buffers.lists.links = rw (← c.self.view_is) at c.requires.known in
    let same : c.pass.new.buffers.lists ≡ c.self.inside.buffers.lists = c.pass.ensures.lists in
    let there = rw (← same, ← c.buffers.view_is) at known in
    ok_so c.ack.result (λ acked. record {
      lists = rw (← c.self.view_is, ← same, ← c.buffers.view_is) (relinked_acked c.buffers.inside _ c.args.link _ _ there c.from.ensures c.index_mut.ensures.value c.args.fsn acked refl);
      messages = grind arith;
      rooms = λ fate.
          let passed = c.pass.ensures.rooms fate in
          let kept = relinked_keeps c.buffers.inside _ c.args.link _ (record { window = c.ack.new.self; held = c.index_mut.result.now.held }) there c.from.ensures c.index_mut.ensures.value (grind (arith, acked)) (omega arith) fate in
          grind arith;
      room = grind arith;
    }) c.ack.ensures.ok
