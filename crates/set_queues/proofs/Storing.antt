-- A body is found where it was put, and a further one leaves the earlier ones.
use Rattle.std.proofs.Common.{arith, ◌≡◌, ◌≤◌, ◌<◌, ◌+◌, ◌==◌, ◌∙◌, ap, refl, sym, ℕ, zero, suc, Bool, true, false, List, [], ◌∷◌, ◌++◌, length, get_or, Option, Some, None, cond, slice_get, slice_index}
use Rattle.std.proofs.lemmas.Bool.Decides.{nat_tests}
use Rattle.std.specs.Prelude.{IsSome}
use Rattle.std.specs.List.{between}
use Rattle.std.proofs.lemmas.List.{take_all, take-append-le, drop-append-le, drop_at, length-append, length-drop}
use Rattle.set_queues.specs.Bodies.{bodies_in, flagged, kept_bodies, standing_flags, AreAll, AreHeld}
use Rattle.set_queues.specs.Messages.{Message, is_unfinished}
use Rattle.set_queues.specs.Slots.{given_to, item_at, slot_at, slots_to, slots_of, AreSlots}
use Rattle.set_queues.proofs.Placing.{length_slots, slot_in, slot_is, slots_length, slots_same}
use Rattle.set_queues.proofs.Standing.{slot_past, slots_equal}

pub length_bodies : (start : ℕ) (ends octets : List ℕ) → length (bodies_in start ends octets) ≡ length ends
length_bodies start [] octets = refl
length_bodies start (end ∷ ends) octets = ap suc (length_bodies end ends octets)

-- none starts behind the last octet
pub starts_within : (start : ℕ) (ends octets : List ℕ) → AreAll start ends octets → start ≤ length octets
starts_within start [] octets all = omega (arith, all)
starts_within start (end ∷ ends) octets all = let rest = starts_within end ends octets all.1 in omega (arith, all.0, rest)

-- octets behind a body leave it
between_still : (start end : ℕ) (octets more : List ℕ) → start ≤ end → end ≤ length octets → between start end (octets ++ more) ≡ between start end octets
between_still start end octets more low high = grind (arith, drop-append-le, take-append-le, length-drop)

-- A FURTHER BODY stands last
pub bodies_more : (start : ℕ) (ends octets body : List ℕ) (end : ℕ) → end ≡ length octets + length body → AreAll start ends octets
    → bodies_in start (ends ++ end ∷ []) (octets ++ body) ≡ bodies_in start ends octets ++ body ∷ []
bodies_more start [] octets body end e all = rw (e, ← all) (ap (λ (b : List ℕ). b ∷ []) (grind (arith, drop_at, take_all)))
bodies_more start (first ∷ ends) octets body end e all = rw (
  between_still start first octets body all.0 (starts_within first ends octets all.1),
  bodies_more first ends octets body end e all.1,
) refl

pub all_more : (start : ℕ) (ends octets body : List ℕ) (end : ℕ) → end ≡ length octets + length body → AreAll start ends octets → AreAll start (ends ++ end ∷ []) (octets ++ body)
all_more start [] octets body end e all = (omega (arith, all, e), length-append octets body ∙ sym e)
all_more start (first ∷ ends) octets body end e all = (all.0, all_more first ends octets body end e all.1)

-- A BODY IS FOUND between the end before it and its own
abbrev IsFound : ℕ → ℕ → List ℕ → List ℕ → Type 0
IsFound i start ends octets = (slice_get (bodies_in start ends octets) i ≡ Some (between (slice_index (start ∷ ends) i) (slice_index ends i) octets))
    × (slice_index (start ∷ ends) i ≤ slice_index ends i) × (slice_index ends i ≤ length octets)

pub found : (i start : ℕ) (ends octets : List ℕ) → AreAll start ends octets → i < length ends → IsFound i start ends octets
found i start [] octets all h = absurd (omega arith)
found zero start (end ∷ ends) octets all h = (refl, all.0, starts_within end ends octets all.1)
found (suc i) start (end ∷ ends) octets all h = found i end ends octets all.1 (omega arith)

-- WHAT STAYS of the bodies, by their numbers
pub kept_bodies_are : (messages : List (Option Message)) (older : List ℕ) (first : ℕ) (bodies : List (List ℕ)) → AreSlots older first (length bodies) → slots_to (given_to older first (length bodies)) (λ k. cond (is_unfinished (slot_at k messages)) (item_at k older first bodies) None) ≡ kept_bodies messages (slots_of older first bodies)
kept_bodies_are messages older first bodies s = rw (slots_length older first bodies) (slots_same (λ k. cond (is_unfinished (slot_at k messages)) (item_at k older first bodies) None) (λ k. cond (is_unfinished (slot_at k messages)) (slot_at k (slots_of older first bodies)) None) (given_to older first (length bodies)) (λ k low. ap (λ (o : Option (List ℕ)). cond (is_unfinished (slot_at k messages)) o None) (sym (slot_is k older first bodies s))))

-- THE BODIES THAT ARE THERE
pub slot_flagged : (flags : List ℕ) (slots : List (Option (List ℕ))) (k : ℕ) → slot_at k (flagged flags slots) ≡ cond (get_or flags k 1 == 0) None (slot_at k slots)
slot_flagged [] slots k = refl
slot_flagged (flag ∷ flags) [] k = grind arith
slot_flagged (flag ∷ flags) (slot ∷ slots) zero = refl
slot_flagged (flag ∷ flags) (slot ∷ slots) (suc k) = slot_flagged flags slots k

pub length_flagged : (flags : List ℕ) (slots : List (Option (List ℕ))) → length (flagged flags slots) ≡ length slots
length_flagged [] slots = refl
length_flagged (flag ∷ flags) [] = refl
length_flagged (flag ∷ flags) (slot ∷ slots) = ap suc (length_flagged flags slots)

pub flagged_push : (flags : List ℕ) (slots : List (Option (List ℕ))) (slot : Option (List ℕ)) → length flags ≤ length slots → flagged flags (slots ++ slot ∷ []) ≡ flagged flags slots ++ slot ∷ []
flagged_push [] slots slot few = refl
flagged_push (flag ∷ flags) [] slot few = absurd (omega (arith, few))
flagged_push (flag ∷ flags) (x ∷ slots) slot few = ap (λ (xs : List (Option (List ℕ))). cond (flag == 0) None x ∷ xs) (flagged_push flags slots slot (omega (arith, few)))

-- a slot that isn't empty is the body that is kept
pub flagged_there : (flags : List ℕ) (slots : List (Option (List ℕ))) (k : ℕ) → IsSome (slot_at k (flagged flags slots)) → slot_at k (flagged flags slots) ≡ slot_at k slots
flagged_there flags slots k there = let is = slot_flagged flags slots k in grind arith

flags_at : (ms : List (Option Message)) (k : ℕ) → k < length ms → get_or (standing_flags ms) k 1 ≡ cond (is_unfinished (slot_at k ms)) 1 0
flags_at [] k h = absurd (omega arith)
flags_at (m ∷ ms) zero h = refl
flags_at (m ∷ ms) (suc k) h = flags_at ms k (omega (arith, h))

-- WHAT STAYS of those that are there, of messages that have their bodies
one_stays : (stays : Bool) (there slot : Option (List ℕ)) → (stays ≡ true → IsSome there) → (IsSome there → there ≡ slot) → cond stays slot None ≡ cond stays there None
one_stays false there slot held same = refl
one_stays true there slot held same = sym (same (held refl))

module _ (ms : List (Option Message)) (flags : List ℕ) (slots : List (Option (List ℕ))) (held : AreHeld ms (flagged flags slots)) where
  stays_same : (k : ℕ) → cond (is_unfinished (slot_at k ms)) (slot_at k slots) None ≡ cond (is_unfinished (slot_at k ms)) (slot_at k (flagged flags slots)) None
  stays_same k = one_stays (is_unfinished (slot_at k ms)) (slot_at k (flagged flags slots)) (slot_at k slots) (held k) (flagged_there flags slots k)

  pub kept_same : kept_bodies ms slots ≡ kept_bodies ms (flagged flags slots)
  kept_same = rw (length_flagged flags slots) (slots_same (λ k. cond (is_unfinished (slot_at k ms)) (slot_at k slots) None) (λ k. cond (is_unfinished (slot_at k ms)) (slot_at k (flagged flags slots)) None) (length slots) (λ k low. stays_same k))

  pub flagged_kept : length ms ≡ length (flagged flags slots) → flagged (standing_flags ms) slots ≡ kept_bodies ms (flagged flags slots)
  flagged_kept many =
      let long = length_flagged flags slots in
      let new = length_flagged (standing_flags ms) slots in
      let kept = length_slots (λ k. cond (is_unfinished (slot_at k ms)) (slot_at k (flagged flags slots)) None) (length (flagged flags slots)) in
      slots_equal (flagged (standing_flags ms) slots) (kept_bodies ms (flagged flags slots)) (omega (arith, long, new, kept)) (λ k.
      let at = slot_flagged (standing_flags ms) slots k in
      let flag = flags_at ms k in
      let in_kept = slot_in (λ n. cond (is_unfinished (slot_at n ms)) (slot_at n (flagged flags slots)) None) (length (flagged flags slots)) k in
      let same = stays_same k in
      let past = slot_past slots k in
      grind (arith, nat_tests, at, flag, in_kept, same, past, many, long))

pub flags_length : (ms : List (Option Message)) → length (standing_flags ms) ≡ length ms
flags_length [] = refl
flags_length (m ∷ ms) = ap suc (flags_length ms)
