use Rattle.std.proofs.Common.{arith, ◌≡◌, ◌∙◌, ap, length, ℕ}
use Rattle.set_queues.specs.Bodies.{bodies_in, flagged}
use Rattle.set_queues.specs.Slots.{given_to, slots_of}
use Rattle.set_queues.proofs.Placing.{slots_length}
use Rattle.set_queues.proofs.Storing.{flagged_kept, flags_length, length_bodies, length_flagged}
use Rattle.set_queues.proofs.bodies.Bodies.forget.Goals as goal

pub invariant_of-self : goal.invariant_of-self
invariant_of-self o c =
    let all = bodies_in 0 c.self.inside.ends.items c.self.inside.octets.items in
    let slots = slots_of c.self.inside.numbers.older.items c.self.inside.numbers.first all in
    let long = slots_length c.self.inside.numbers.older.items c.self.inside.numbers.first all in
    let ends = length_bodies 0 c.self.inside.ends.items c.self.inside.octets.items in
    let flags = length_flagged c.self.inside.there.numbers slots in
    let many : length c.args.queues.now.messages ≡ length (flagged c.self.inside.there.numbers slots) = rw (← c.self.view_is) at c.requires.as_many in
    let given : length slots ≡ given_to c.self.inside.numbers.older.items c.self.inside.numbers.first (length c.self.inside.ends.items) = long ∙ ap (λ (n : ℕ). given_to c.self.inside.numbers.older.items c.self.inside.numbers.first n) ends in
    (c.self.invariant.0, c.self.invariant.1, rw c.of.ensures (omega (arith, flags_length c.args.queues.now.messages, many, flags, given)))

pub returns : goal.returns
returns o c =
    let all = bodies_in 0 c.self.inside.ends.items c.self.inside.octets.items in
    let slots = slots_of c.self.inside.numbers.older.items c.self.inside.numbers.first all in
    rw (c.of.ensures, ← c.self.view_is) (flagged_kept c.args.queues.now.messages c.self.inside.there.numbers slots (rw (← c.self.view_is) at c.requires.held) (rw (← c.self.view_is) at c.requires.as_many))
