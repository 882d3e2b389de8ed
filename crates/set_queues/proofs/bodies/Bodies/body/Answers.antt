use Rattle.std.proofs.Common.{arith, ◌≡◌, ◌∙◌, sym, subst, ap, length, Option, Some, None, ℕ, refl, List}
use Rattle.std.specs.Prelude.{IsSome}
use Rattle.set_queues.specs.Bodies.{bodies_in, flagged}
use Rattle.set_queues.specs.Slots.{place_within, AreSlots, slot_at, slots_of}
use Rattle.set_queues.proofs.Placing.{within_says, slot_found, slot_none}
use Rattle.set_queues.proofs.Storing.{flagged_there, length_bodies}
use Rattle.set_queues.proofs.bodies.Bodies.body.Goals as goal

-- a number that has a body has a place
has_place : (number : ℕ) (older : List ℕ) (first : ℕ) (ends octets : List ℕ) (r : Option ℕ) → AreSlots older first (length ends) → r ≡ place_within number older first (length ends) → IsSome (slot_at number (slots_of older first (bodies_in 0 ends octets))) → IsSome r
has_place number older first ends octets (Some p) s e h = refl
has_place number older first ends octets None s e h =
    let long = length_bodies 0 ends octets in
    let none = slot_none number older first (bodies_in 0 ends octets) (rw long s) (rw long (sym e)) in
    rw none at h

-- a body that is there is one that is kept
some_there : (number : ℕ) (flags : List ℕ) (slots : List (Option (List ℕ))) → IsSome (slot_at number (flagged flags slots)) → IsSome (slot_at number slots)
some_there number flags slots h = subst (λ (o : Option (List ℕ)). IsSome o) (flagged_there flags slots number h) h

pub unwrap-place-requires : goal.unwrap-place-requires
unwrap-place-requires o c =
    let n : c.len.result ≡ length c.self.inside.ends.items = grind arith in
    has_place c.args.number c.self.inside.numbers.older.items c.self.inside.numbers.first c.self.inside.ends.items c.self.inside.octets.items c.place.result c.self.invariant.0 (rw n at c.place.ensures) (some_there c.args.number c.self.inside.there.numbers _ (rw (← c.self.view_is) at c.requires))

pub body_in-requires-clause-within : goal.body_in-requires-clause-within
body_in-requires-clause-within o c =
    let n : c.len.result ≡ length c.self.inside.ends.items = grind arith in
    let long = length_bodies 0 c.self.inside.ends.items c.self.inside.octets.items in
    let says = within_says c.args.number c.self.inside.numbers.older.items c.self.inside.numbers.first (bodies_in 0 c.self.inside.ends.items c.self.inside.octets.items) c.unwrap-place.result (rw long c.self.invariant.0) (rw (long, ← n) (sym c.place.ensures ∙ c.unwrap-place.ensures)) in
    omega (arith, says.1, long, ap length c.deref.ensures.value)

pub returns : goal.returns
returns o c =
    let n : c.len.result ≡ length c.self.inside.ends.items = grind arith in
    let long = length_bodies 0 c.self.inside.ends.items c.self.inside.octets.items in
    rw (← c.self.view_is) (flagged_there c.self.inside.there.numbers _ c.args.number (rw (← c.self.view_is) at c.requires) ∙ slot_found c.args.number c.self.inside.numbers.older.items c.self.inside.numbers.first (bodies_in 0 c.self.inside.ends.items c.self.inside.octets.items) c.unwrap-place.result c.body_in.result.now (rw long c.self.invariant.0) (rw (long, ← n) (sym c.place.ensures ∙ c.unwrap-place.ensures)) (rw (c.deref.ensures.value, c.deref-2.ensures.value) at c.body_in.ensures))
