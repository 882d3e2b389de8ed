use Rattle.std.proofs.Common.{arith, refl}
use Rattle.set_queues.proofs.Linked.{relinked_same, relinked_keeps, relinked_room}
use Rattle.set_queues.proofs.queues.Queues.reserve_at.Goals as goal

pub invariant_of-self : goal.invariant_of-self
invariant_of-self o c =
    let known = rw (c.in-Waiting.is, ← c.self.view_is, ← c.buffers.view_is) at c.requires.known in
    let sound = rw (← c.buffers.view_is) at c.self.invariant in
    rw (relinked_same c.buffers.inside _ c.in-Waiting.link _ (record { window = c.reserve.new.self; held = c.index_mut.result.now.held }) known c.from.ensures c.index_mut.ensures.value (grind arith)) sound

pub returns-in-Waiting-clause-room : goal.returns-in-Waiting-clause-room
returns-in-Waiting-clause-room o c =
    let known = rw (c.in-Waiting.is, ← c.self.view_is, ← c.buffers.view_is) at c.requires.known in
    rw (c.in-Waiting.is, relinked_room c.buffers.inside _ c.in-Waiting.link _ _ known c.from.ensures c.index_mut.ensures.value (λ room. room.unsent)) c.reserve.ensures.room

pub returns-in-Waiting-clause-same : goal.returns-in-Waiting-clause-same
returns-in-Waiting-clause-same o c =
    let known = rw (c.in-Waiting.is, ← c.self.view_is, ← c.buffers.view_is) at c.requires.known in
    record {
      lists = rw (← c.self.view_is, ← c.buffers.view_is) (relinked_same c.buffers.inside _ c.in-Waiting.link _ _ known c.from.ensures c.index_mut.ensures.value (grind arith));
      messages = rw (← c.self.view_is) refl;
      room = rw (← c.self.view_is) refl;
      kept = rw (← c.self.view_is, ← c.buffers.view_is) (relinked_keeps c.buffers.inside _ c.in-Waiting.link _ _ known c.from.ensures c.index_mut.ensures.value (grind arith) (grind arith));
    }

pub invariant_of-self-in-Held : goal.invariant_of-self-in-Held
invariant_of-self-in-Held o c =
    let known = rw (c.in-Held.is, ← c.self.view_is, ← c.buffers-in-Held.view_is) at c.requires.known in
    let sound = rw (← c.buffers-in-Held.view_is) at c.self.invariant in
    rw (relinked_same c.buffers-in-Held.inside _ c.in-Held.link _ (record { window = c.index_mut-in-Held.result.now.window; held = c.reserve-in-Held.new.self }) known c.from-in-Held.ensures c.index_mut-in-Held.ensures.value (grind arith)) sound

pub returns-in-Held-clause-room : goal.returns-in-Held-clause-room
returns-in-Held-clause-room o c =
    let known = rw (c.in-Held.is, ← c.self.view_is, ← c.buffers-in-Held.view_is) at c.requires.known in
    rw (c.in-Held.is, relinked_room c.buffers-in-Held.inside _ c.in-Held.link _ _ known c.from-in-Held.ensures c.index_mut-in-Held.ensures.value (λ room. room.held)) c.reserve-in-Held.ensures.room

pub returns-in-Held-clause-same : goal.returns-in-Held-clause-same
returns-in-Held-clause-same o c =
    let known = rw (c.in-Held.is, ← c.self.view_is, ← c.buffers-in-Held.view_is) at c.requires.known in
    record {
      lists = rw (← c.self.view_is, ← c.buffers-in-Held.view_is) (relinked_same c.buffers-in-Held.inside _ c.in-Held.link _ _ known c.from-in-Held.ensures c.index_mut-in-Held.ensures.value (grind arith));
      messages = rw (← c.self.view_is) refl;
      room = rw (← c.self.view_is) refl;
      kept = rw (← c.self.view_is, ← c.buffers-in-Held.view_is) (relinked_keeps c.buffers-in-Held.inside _ c.in-Held.link _ _ known c.from-in-Held.ensures c.index_mut-in-Held.ensures.value (grind arith) (grind arith));
    }
