use Rattle.std.proofs.Common.{arith, ◌≡◌, ◌∙◌, ap, length, ℕ}
use Rattle.set_queues.specs.Bodies.{bodies_in}
use Rattle.set_queues.specs.Messages.{is_unfinished}
use Rattle.set_queues.specs.Slots.{given_to, slot_at, slots_of}
use Rattle.set_queues.proofs.Keeping.{kept_all}
use Rattle.set_queues.proofs.Storing.{kept_bodies_are, kept_same, length_bodies}
use Rattle.set_queues.proofs.bodies.Bodies.kept.Goals as goal

pub invariant_of-result : goal.invariant_of-result
invariant_of-result o c =
    let kept = rw (c.deref.ensures.value, c.deref-2.ensures.value) at c.in_ok-older.ensures.kept in
    let few = c.self.invariant.0.few in
    let long = length_bodies 0 c.in_ok-older.ends.items c.in_ok-older.octets.items in
    let m : c.len.result ≡ length c.self.inside.ends.items = grind arith in
    let n : c.given-first.result ≡ given_to c.self.inside.numbers.older.items c.self.inside.numbers.first (length c.self.inside.ends.items) = rw m at c.given-first.ensures.value in
    (record { order = rw n kept.order; many = omega (arith, kept.many, long); few = omega (arith, n, few, kept.many, long) }, c.in_ok-older.ensures.all, rw c.empty.ensures (omega arith))

pub returns : goal.returns
returns o c =
    let kept = rw (c.deref.ensures.value, c.deref-2.ensures.value) at c.in_ok-older.ensures.kept in
    let bodies = bodies_in 0 c.self.inside.ends.items c.self.inside.octets.items in
    let long = length_bodies 0 c.self.inside.ends.items c.self.inside.octets.items in
    let all = kept_all (λ k. is_unfinished (slot_at k c.args.queues.now.messages)) c.self.inside.numbers.older.items c.self.inside.numbers.first bodies c.in_ok-older.older.items (bodies_in 0 c.in_ok-older.ends.items c.in_ok-older.octets.items) (rw long kept) in
    let m : c.len.result ≡ length c.self.inside.ends.items = grind arith in
    let n : c.given-first.result ≡ given_to c.self.inside.numbers.older.items c.self.inside.numbers.first (length bodies) = rw (m, ← long) at c.given-first.ensures.value in
    rw (c.empty.ensures, n, ← c.self.view_is)
    (all ∙ kept_bodies_are c.args.queues.now.messages c.self.inside.numbers.older.items c.self.inside.numbers.first bodies (rw long c.self.invariant.0)
    ∙ kept_same c.args.queues.now.messages c.self.inside.there.numbers (slots_of c.self.inside.numbers.older.items c.self.inside.numbers.first bodies) (rw (← c.self.view_is) at c.requires))
