-- THE BODIES of a set's messages by their numbers, one behind another.
use Rattle.std.specs.Prelude.{◌≡◌, ◌≤◌, ◌*◌, ◌==◌, ℕ, true, List, [], ◌∷◌, length, map, IsSome, Option, None, if◌then◌else◌}
use Rattle.std.specs.List.{between}
use Rattle.set_queues.specs.Messages.{Message, is_unfinished}
use Rattle.set_queues.specs.Slots.{slot_at, slots_to}

-- each body stands from where the one before it ends to where it ends itself
abbrev pub bodies_in : ℕ → List ℕ → List ℕ → List (List ℕ)
bodies_in start [] octets = []
bodies_in start (end ∷ ends) octets = between start end octets ∷ bodies_in end ends octets

-- none ends before it starts, and the last one ends where the octets do
abbrev pub AreAll : ℕ → List ℕ → List ℕ → Type 0
AreAll start [] octets = length octets ≡ start
AreAll start (end ∷ ends) octets = (start ≤ end) × AreAll end ends octets

-- THE BODIES THAT ARE THERE, by flags: where one is 0 the slot is empty, and behind the last flag each is as it was
abbrev pub flagged : List ℕ → List (Option (List ℕ)) → List (Option (List ℕ))
flagged [] slots = slots
flagged (flag ∷ flags) [] = []
flagged (flag ∷ flags) (slot ∷ slots) = (if flag == 0 then None else slot) ∷ flagged flags slots

abbrev pub standing_flags : List (Option Message) → List ℕ
standing_flags messages = map (λ slot. if is_unfinished slot then 1 else 0) messages

-- each message that isn't finished has its body
abbrev pub AreHeld : List (Option Message) → List (Option (List ℕ)) → Type 0
AreHeld messages bodies =
    (number : ℕ) → is_unfinished (slot_at number messages) ≡ true → IsSome (slot_at number bodies)

-- what contracts see: the bodies by their numbers, an empty slot where one was forgotten; and how many more, and octets
-- of them, want no memory
pub record BodiesState : Type 0 where
  pub items : List (Option (List ℕ))
  pub places : ℕ
  pub octets : ℕ

-- there is room for so many more, of at most 273 octets each (Q.703 2.3.8)
abbrev pub CanHold : ℕ → BodiesState → Type 0
CanHold more bodies = (more ≤ bodies.places) × (273 * more ≤ bodies.octets)

-- those of the messages that aren't finished
abbrev pub kept_bodies : List (Option Message) → List (Option (List ℕ)) → List (Option (List ℕ))
kept_bodies messages bodies = slots_to (length bodies)
    (λ number. if is_unfinished (slot_at number messages) then slot_at number bodies else None)
