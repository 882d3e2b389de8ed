use Rattle.std.proofs.Common.{arith, ◌≡◌, ◌≤◌, ◌+◌, ◌∙◌, ◌++◌, ap, length, List, Option, ℕ}
use Rattle.set_queues.specs.Bodies.{bodies_in, flagged}
use Rattle.set_queues.specs.Slots.{slots_of}
use Rattle.set_queues.proofs.Placing.{push_slots, slots_length}
use Rattle.set_queues.proofs.Storing.{flagged_push, length_bodies, bodies_more}
use Rattle.set_queues.proofs.bodies.Bodies.add.Goals as goal

pub returns-clause-items : goal.returns-clause-items
returns-clause-items o c =
    let long = length_bodies 0 c.self.inside.ends.items c.self.inside.octets.items in
    let end : c.len.result ≡ length c.self.inside.octets.items + length c.args.body.now = grind arith in
    let more = bodies_more 0 c.self.inside.ends.items c.self.inside.octets.items c.args.body.now c.len.result end c.self.invariant.1 in
    let octets : c.extend_from_slice.new.self.items ≡ c.self.inside.octets.items ++ c.args.body.now = grind arith in
    let slots = slots_of c.self.inside.numbers.older.items c.self.inside.numbers.first (bodies_in 0 c.self.inside.ends.items c.self.inside.octets.items) in
    let few : length c.self.inside.there.numbers ≤ length slots = rw (slots_length c.self.inside.numbers.older.items c.self.inside.numbers.first (bodies_in 0 c.self.inside.ends.items c.self.inside.octets.items), long) c.self.invariant.2 in
    rw (c.push_reserved.ensures.items, octets, more, ← c.self.view_is)
    (ap (flagged c.self.inside.there.numbers) (push_slots c.self.inside.numbers.older.items c.self.inside.numbers.first (bodies_in 0 c.self.inside.ends.items c.self.inside.octets.items) c.args.body.now (rw long c.self.invariant.0)) ∙ flagged_push c.self.inside.there.numbers slots _ few)
