use Rattle.std.proofs.Common.{arith, refl, [], drop}
use Rattle.l2_window.specs.Queue.{QueueState}
use Rattle.set_queues.proofs.Linked.{relinked_keeps, back_there, back_set, back_found}
use Rattle.set_queues.proofs.buffers.Buffers.pop.Goals as goal

pub returns-in-Waiting-clause-room : goal.returns-in-Waiting-clause-room
returns-in-Waiting-clause-room o c =
    let there = rw (← c.self.view_is, c.in-Waiting.is) at c.requires.known in
    rw (← c.self.view_is) (relinked_keeps c.self.inside _ c.in-Waiting.link _ (record { window = c.withdraw.new.self; held = c.index_mut.result.now.held }) there c.from.ensures c.index_mut.ensures.value c.withdraw.ensures.rest.room (omega arith))

pub returns-in-Held-clause-room : goal.returns-in-Held-clause-room
returns-in-Held-clause-room o c =
    let there = rw (← c.self.view_is, c.in-Held.is) at c.requires.known in
    rw (← c.self.view_is) (relinked_keeps c.self.inside _ c.in-Held.link _ (record { window = c.index_mut-in-Held.result.now.window; held = c.pop.new.self }) there c.from-in-Held.ensures c.index_mut-in-Held.ensures.value (omega arith) c.pop.ensures.room)

pub returns-in-Back-clause-lists : goal.returns-in-Back-clause-lists
returns-in-Back-clause-lists o c =
    let there = back_found c.self.inside _ _ c.in-Back.code c.index_mut-in-Back.result.now c.self.view_is (rw c.in-Back.is at c.requires.known) c.from-in-Back.ensures c.index_mut-in-Back.ensures.value in
    let read = back_there (λ (q : QueueState). q.messages) c.self.inside.back.items c.in-Back.code c.index_mut-in-Back.result.now [] there in
    let set = back_set (drop 1 c.index_mut-in-Back.result.now.messages) c.self.inside.back.items c.in-Back.code c.index_mut-in-Back.result.now c.pop-in-Back.new.self there c.pop-in-Back.ensures.messages in
    rw (c.in-Back.is, ← c.self.view_is, c.from-in-Back.ensures, set, read) refl
