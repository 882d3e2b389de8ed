use Rattle.std.proofs.Common.{arith, []}
use Rattle.set_queues.proofs.Linked.{relinked, relinked_keeps}
use Rattle.set_queues.proofs.buffers.Buffers.clear.Goals as goal

pub returns-in-Waiting-clause-lists : goal.returns-in-Waiting-clause-lists
returns-in-Waiting-clause-lists o c =
    let known = rw (c.in-Waiting.is, ← c.self.view_is) at c.requires.known in
    rw (c.in-Waiting.is, ← c.self.view_is) (relinked c.self.inside _ c.in-Waiting.link _ _ known c.from.ensures c.index_mut.ensures.value (λ link. record link { unsent = [] }) (grind arith))

pub returns-in-Waiting-clause-room : goal.returns-in-Waiting-clause-room
returns-in-Waiting-clause-room o c =
    let known = rw (c.in-Waiting.is, ← c.self.view_is) at c.requires.known in
    rw (← c.self.view_is) (relinked_keeps c.self.inside _ c.in-Waiting.link _ _ known c.from.ensures c.index_mut.ensures.value (grind arith) (grind arith))

pub returns-in-Unacked-clause-lists : goal.returns-in-Unacked-clause-lists
returns-in-Unacked-clause-lists o c =
    let known = rw (c.in-Unacked.is, ← c.self.view_is) at c.requires.known in
    rw (c.in-Unacked.is, ← c.self.view_is) (relinked c.self.inside _ c.in-Unacked.link _ _ known c.from-in-Unacked.ensures c.index_mut-in-Unacked.ensures.value (λ link. record link { unacked = [] }) (grind arith))

pub returns-in-Unacked-clause-room : goal.returns-in-Unacked-clause-room
returns-in-Unacked-clause-room o c =
    let known = rw (c.in-Unacked.is, ← c.self.view_is) at c.requires.known in
    rw (← c.self.view_is) (relinked_keeps c.self.inside _ c.in-Unacked.link _ _ known c.from-in-Unacked.ensures c.index_mut-in-Unacked.ensures.value (grind arith) (grind arith))

pub returns-in-Held-clause-lists : goal.returns-in-Held-clause-lists
returns-in-Held-clause-lists o c =
    let known = rw (c.in-Held.is, ← c.self.view_is) at c.requires.known in
    rw (c.in-Held.is, ← c.self.view_is) (relinked c.self.inside _ c.in-Held.link _ _ known c.from-in-Held.ensures c.index_mut-in-Held.ensures.value (λ link. record link { held = [] }) (grind arith))

pub returns-in-Held-clause-room : goal.returns-in-Held-clause-room
returns-in-Held-clause-room o c =
    let known = rw (c.in-Held.is, ← c.self.view_is) at c.requires.known in
    rw (← c.self.view_is) (relinked_keeps c.self.inside _ c.in-Held.link _ _ known c.from-in-Held.ensures c.index_mut-in-Held.ensures.value (grind arith) (grind arith))
