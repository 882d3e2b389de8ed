-- MESSAGES THAT ARE FORGOTTEN WHERE THEY STAND: what is seen of those that are kept, as one joins, stands elsewhere, and
-- the finished ones are forgotten.
use Rattle.std.proofs.Common.{refl, arith, ◌≡◌, ◌∙◌, ap, sym, ◌<◌, ◌≤◌, ◌+◌, ◌^◌, ◌++◌, [], ◌∷◌, ℕ, zero, suc, true, false, List, length, map, Option, None, Some, option_and_then, option_map, slice_get, slice_set, cond}
use Rattle.std.proofs.lemmas.Bool.Decides.{nat_tests}
use Rattle.std.proofs.lemmas.List.{length-map, map-append}
use Rattle.set_queues.specs.Buffers.{Fate, is_standing, updated}
use Rattle.set_queues.specs.Messages.{kept_slot, restood_one, unfinished, with_fate}
use Rattle.set_queues.specs.Slots.{AreKept, AreSlots, given_to, item_at, place_in, place_within, slot_at, slots_of, slots_to}
use Rattle.set_queues.specs.Stored.{AreBefore, AreStanding, Message, Stored, seen_in, shown_in, stays_on}
use Rattle.set_queues.proofs.Keeping.{kept_all}
use Rattle.set_queues.proofs.Placing.{few_slots, push_slots, set_at, set_slots, slot_found, slot_none, slots_length, slots_same}
use Rattle.set_queues.proofs.Standing.{get_push, slot_get, stood_is}

-- LISTS OF SLOTS that are seen otherwise
module _ {X Y : Type 0} where
  slot_seen : (h : Option X → Option Y) → h None ≡ None → (xs : List (Option X)) (k : ℕ) → slot_at k (map h xs) ≡ h (slot_at k xs)
  slot_seen h e [] k = sym e
  slot_seen h e (x ∷ xs) zero = refl
  slot_seen h e (x ∷ xs) (suc k) = slot_seen h e xs k

  slots_seen : (h : Option X → Option Y) (f : ℕ → Option X) (n : ℕ) → map h (slots_to n f) ≡ slots_to n (λ k. h (f k))
  slots_seen h f zero = refl
  slots_seen h f (suc n) = map-append h (slots_to n f) (f n ∷ []) ∙ ap (λ (xs : List (Option Y)). xs ++ h (f n) ∷ []) (slots_seen h f n)

  updated_seen : (h : X → Y) (f : X → X) (g : Y → Y) (xs : List X) (n : ℕ) → ((x : X) → slice_get xs n ≡ Some x → h (f x) ≡ g (h x)) → map h (updated n f xs) ≡ updated n g (map h xs)
  updated_seen h f g [] n same = refl
  updated_seen h f g (x ∷ xs) zero same = ap (λ (y : Y). y ∷ map h xs) (same x refl)
  updated_seen h f g (x ∷ xs) (suc n) same = ap (λ (ys : List Y). h x ∷ ys) (updated_seen h f g xs n same)

restood_none : (n : ℕ) (fate : Fate) (ms : List (Option Message)) → slot_at n ms ≡ None → restood_one n fate ms ≡ ms
restood_none n fate [] e = refl
restood_none zero fate (None ∷ ms) e = refl
restood_none zero fate (Some m ∷ ms) e = absurd cc
restood_none (suc n) fate (m ∷ ms) e = ap (λ (xs : List (Option Message)). m ∷ xs) (restood_none n fate ms e)

-- PERIODS
pub before_more : (p : ℕ) (all : List Stored) → AreBefore p all → AreBefore (p + 1) all
before_more p all b = λ place s e f. omega (arith, b place s e f)

pub before_all : (p : ℕ) (all : List Stored) → AreStanding all → AreBefore p all
before_all p all a = λ place s e f. absurd (let on = a place s e in cc)

pub before_push : (p : ℕ) (all : List Stored) (m : Message) → AreBefore p all → AreBefore p (all ++ record { message = m; period = p } ∷ [])
before_push p all m b = λ place s e f.
    let was = b place s in
    let push = get_push all (record { message = m; period = p }) place in
    grind (arith, was, push)

pub before_set : (p : ℕ) (all : List Stored) (i : ℕ) (m : Message) → i < length all → AreBefore p all → AreBefore p (slice_set all i (record { message = m; period = p }))
before_set p all i m h b = λ place s e f.
    let was = b place s in
    let set = set_at all i place (record { message = m; period = p }) h in
    grind (arith, was, set)

-- none of those that stay is finished
pub standing_push : (all : List Stored) (s : Stored) → is_standing s.message.fate ≡ true → AreStanding all → AreStanding (all ++ s ∷ [])
standing_push all s h a = λ place t e.
    let was = a place t in
    let push = get_push all s place in
    grind (arith, was, push)

module _ (p : ℕ) (older : List ℕ) (first : ℕ) (all : List Stored) where
  seen_is : seen_in p older first all ≡ slots_to (given_to older first (length all)) (λ k. shown_in p (item_at k older first all))
  seen_is = slots_seen (shown_in p) (λ k. item_at k older first all) (given_to older first (length all))

  pub seen_length : length (seen_in p older first all) ≡ given_to older first (length all)
  seen_length = length-map (slots_of older first all) (shown_in p) ∙ slots_length older first all

  pub seen_few : AreSlots older first (length all) → length (seen_in p older first all) < 2 ^ 63
  seen_few s = let few = few_slots older first all s in omega (arith, few, length-map (slots_of older first all) (shown_in p))

  -- WHAT A NUMBER FINDS
  pub seen_found : (number place : ℕ) (s : Stored) → AreSlots older first (length all) → place_within number older first (length all) ≡ Some place → slice_get all place ≡ Some s → slot_at number (seen_in p older first all) ≡ shown_in p (Some s)
  seen_found number place s a e there = slot_seen (shown_in p) refl (slots_of older first all) number ∙ ap (shown_in p) (slot_found number older first all place s a e there)

  pub seen_none : (number : ℕ) → AreSlots older first (length all) → place_within number older first (length all) ≡ None → slot_at number (seen_in p older first all) ≡ None
  seen_none number a e = slot_seen (shown_in p) refl (slots_of older first all) number ∙ ap (shown_in p) (slot_none number older first all a e)

  -- ONE JOINS, or stands elsewhere
  pub seen_push : (m : Message) → AreSlots older first (length all) → seen_in p older first (all ++ record { message = m; period = p } ∷ []) ≡ seen_in p older first all ++ Some m ∷ []
  seen_push m a =
      let here : shown_in p (Some (record { message = m; period = p })) ≡ Some m = grind (arith, nat_tests) in
      ap (map (shown_in p)) (push_slots older first all (record { message = m; period = p }) a) ∙ map-append (shown_in p) (slots_of older first all) (Some (record { message = m; period = p }) ∷ []) ∙ ap (λ (o : Option Message). seen_in p older first all ++ o ∷ []) here

  pub seen_still : (number : ℕ) (fate : Fate) → slot_at number (seen_in p older first all) ≡ None → seen_in p older first all ≡ restood_one number fate (seen_in p older first all)
  seen_still number fate e = sym (restood_none number fate (seen_in p older first all) e)

  stood : Fate → Stored → Stored
  stood fate s = record { message = with_fate fate s.message; period = p }

  stood_slot : (fate : Fate) (s : Stored) (m : Message) → shown_in p (Some s) ≡ Some m → shown_in p (Some (stood fate s)) ≡ Some (with_fate fate m)
  unfolding stood
  stood_slot fate s m e = grind (arith, nat_tests)

  pub seen_stood : (number place : ℕ) (s : Stored) (m : Message) (fate : Fate) → AreSlots older first (length all) → place_within number older first (length all) ≡ Some place → slice_get all place ≡ Some s → shown_in p (Some s) ≡ Some m
      → seen_in p older first (slice_set all place (record { message = with_fate fate m; period = p })) ≡ restood_one number fate (seen_in p older first all)
  unfolding stood
  seen_stood number place s m fate a e there shown =
      let was : s.message ≡ m = grind arith in
      let found = slot_found number older first all place s a e there in
      let one : (slot : Option Stored) → slice_get (slots_of older first all) number ≡ Some slot → shown_in p (option_map (stood fate) slot) ≡ option_map (with_fate fate) (shown_in p slot) = λ slot at.
      let is : slot ≡ Some s = sym (slot_get (slots_of older first all) number slot at) ∙ found in
      rw (is, shown) (stood_slot fate s m shown) in
      rw (← was) (ap (map (shown_in p)) (set_slots number older first all place (stood fate) s a e there) ∙ updated_seen (shown_in p) (option_map (stood fate)) (option_map (with_fate fate)) (slots_of older first all) number one ∙ sym (stood_is number fate (seen_in p older first all)))

  -- THE FINISHED ONES ARE FORGOTTEN as the next period begins
  item_before : AreBefore p all → (k : ℕ) (s : Stored) → item_at k older first all ≡ Some s → is_standing s.message.fate ≡ false → s.period ≤ p
  item_before b k s e f = go (place_in k older first) refl
    where
      go : (q : Option ℕ) → place_in k older first ≡ q → s.period ≤ p
      go None is = absurd (let none : item_at k older first all ≡ None = ap (option_and_then (λ place. slice_get all place)) is in cc)
      go (Some q) is = b q s (sym (ap (option_and_then (λ place. slice_get all place)) is) ∙ e) f

  one_forgotten : (o : Option Stored) → ((s : Stored) → o ≡ Some s → is_standing s.message.fate ≡ false → s.period ≤ p) → shown_in (p + 1) o ≡ kept_slot (shown_in p o)
  one_forgotten None b = refl
  one_forgotten (Some s) b = let low = b s refl in grind (arith, nat_tests, low)

  pub seen_forgotten : AreBefore p all → seen_in (p + 1) older first all ≡ unfinished (seen_in p older first all)
  seen_forgotten b =
      slots_seen (shown_in (p + 1)) (λ k. item_at k older first all) (given_to older first (length all))
      ∙ slots_same (λ k. shown_in (p + 1) (item_at k older first all)) (λ k. kept_slot (shown_in p (item_at k older first all))) (given_to older first (length all)) (λ k low. one_forgotten (item_at k older first all) (item_before b k))
      ∙ sym (slots_seen kept_slot (λ k. shown_in p (item_at k older first all)) (given_to older first (length all)))
      ∙ sym (ap (map kept_slot) seen_is)

  -- or are left out of a copy
  one_kept : (o : Option Stored) → shown_in 0 (cond (stays_on o) o None) ≡ kept_slot (shown_in p o)
  one_kept None = refl
  one_kept (Some s) = grind (arith, nat_tests)

  pub seen_kept : (older' : List ℕ) (all' : List Stored) → AreKept (λ k. stays_on (item_at k older first all)) (given_to older first (length all)) older first all older' all' → seen_in 0 older' (given_to older first (length all)) all' ≡ unfinished (seen_in p older first all)
  seen_kept older' all' kept =
      ap (map (shown_in 0)) (kept_all (λ k. stays_on (item_at k older first all)) older first all older' all' kept)
      ∙ slots_seen (shown_in 0) (λ k. cond (stays_on (item_at k older first all)) (item_at k older first all) None) (given_to older first (length all))
      ∙ slots_same (λ k. shown_in 0 (cond (stays_on (item_at k older first all)) (item_at k older first all) None)) (λ k. kept_slot (shown_in p (item_at k older first all))) (given_to older first (length all)) (λ k low. one_kept (item_at k older first all))
      ∙ sym (slots_seen kept_slot (λ k. shown_in p (item_at k older first all)) (given_to older first (length all)))
      ∙ sym (ap (map kept_slot) seen_is)
