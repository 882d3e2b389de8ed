-- WHERE AN ITEM STANDS, by its number.
use Rattle.std.proofs.Common.{refl, arith, ◌≡◌, ◌≢◌, ◌∙◌, ap, ◌<◌, ◌≤◌, ◌+◌, ◌-◌, ◌==◌, ℕ, zero, suc, List, [], ◌∷◌, ◌++◌, length, Option, None, Some, option_map, slice_get, slice_set, cond, nat_lt, min, ◌^◌, get_or, Result, Ok, Err, MatchResult, ◌⊎◌, option_and_then}
use Rattle.std.proofs.lemmas.Bool.Decides.{nat_tests}
use Rattle.std.proofs.lemmas.Bool.{cases_eq, cases_lt}
use Rattle.std.proofs.lemmas.List.{length-append, length-set}
use Rattle.std.proofs.Math.Nat.{min-le_right}
use Rattle.std.proofs.lemmas.Option.{slice_get_past}
use Rattle.set_queues.specs.Buffers.{updated}
use Rattle.set_queues.specs.Slots.{older_place, place_in, place_within, given_to, item_at, room_for, slot_at, slots_to, slots_of, AreOlder, AreSlots}
use Rattle.set_queues.proofs.Standing.{get_push, slot_push}

-- OLDER NUMBERS rise
abbrev Rises : ℕ → List ℕ → ℕ → ℕ → ℕ → Type 0
Rises k ns first i j = (k ≤ get_or ns i 0) × (get_or ns i 0 ≤ get_or ns j 0) × (get_or ns j 0 < first) × (i < j → get_or ns i 0 < get_or ns j 0)

pub rises : (k : ℕ) (ns : List ℕ) (first i j : ℕ) → AreOlder k ns first → i ≤ j → j < length ns → Rises k ns first i j
rises k [] first i j o low h = absurd (omega (arith, h))
rises k (n ∷ ns) first zero zero o low h = (o.0, omega arith, below n ns first o.1, λ e. absurd (omega (arith, e)))
  where
    below : (n : ℕ) (ns : List ℕ) (first : ℕ) → AreOlder (suc n) ns first → n < first
    below n [] first o = o
    below n (m ∷ ns) first o = omega (arith, o.0, below m ns first o.1)
rises k (n ∷ ns) first zero (suc j) o low h = let r = rises (suc n) ns first j j o.1 (omega arith) (omega (arith, h)) in (o.0, omega (arith, r.0), r.2, λ e. omega (arith, r.0))
rises k (n ∷ ns) first (suc i) zero o low h = absurd (omega (arith, low))
rises k (n ∷ ns) first (suc i) (suc j) o low h = let r = rises (suc n) ns first i j o.1 (omega (arith, low)) (omega (arith, h)) in (omega (arith, r.0, o.0), r.1, r.2, λ e. r.3 (omega (arith, e)))

-- what the place of an older number tells
pub older_says : (number : ℕ) (ns : List ℕ) (p : ℕ) → older_place number ns ≡ Some p → (p < length ns) × (get_or ns p 0 ≡ number)
older_says number [] p e = absurd cc
older_says number (n ∷ ns) zero e = grind (arith, nat_tests)
older_says number (n ∷ ns) (suc p) e = grind (arith, nat_tests, older_says number ns p)

pub older_found : (number k : ℕ) (ns : List ℕ) (first p : ℕ) → AreOlder k ns first → p < length ns → get_or ns p 0 ≡ number → older_place number ns ≡ Some p
older_found number k [] first p o h e = absurd (omega (arith, h))
older_found number k (n ∷ ns) first zero o h e = grind (arith, nat_tests)
older_found number k (n ∷ ns) first (suc p) o h e = let r = rises k (n ∷ ns) first 0 (suc p) o (omega arith) h in let again = older_found number (suc n) ns first p o.1 (omega (arith, h)) e in let up = r.3 (omega arith) in grind (arith, nat_tests)

pub older_none : (number : ℕ) (ns : List ℕ) → ((p : ℕ) → p < length ns → get_or ns p 0 ≢ number) → older_place number ns ≡ None
older_none number [] never = refl
older_none number (n ∷ ns) never = let here = never 0 (omega arith) in let rest = older_none number ns (λ p h. never (suc p) (omega (arith, h))) in grind (arith, nat_tests)

-- what the search answers is the place
abbrev pub answered : Result ℕ ℕ → Option ℕ
answered (Ok p) = Some p
answered (Err p) = None

pub search_is : (number : ℕ) (ns : List ℕ) (first : ℕ) (r : Result ℕ ℕ) → AreOlder 0 ns first → MatchResult r (λ i. (i < length ns) × (get_or ns i 0 ≡ number)) (λ i. (i ≤ length ns) × ((k : ℕ) → k < i → get_or ns k 0 < number) × ((k : ℕ) → i ≤ k → k < length ns → number < get_or ns k 0)) → older_place number ns ≡ answered r
search_is number ns first (Ok p) o m = older_found number 0 ns first p o m.0 m.1
search_is number ns first (Err p) o m = older_none number ns (λ k h e. let low = m.1 k in let high = m.2 k in grind (arith, cases_lt k p))

-- PLACES tell numbers apart
pub place_says : (number : ℕ) (older : List ℕ) (first p : ℕ) → AreOlder 0 older first → place_in number older first ≡ Some p → ((first ≤ number) × (p ≡ length older + (number - first))) ⊎ ((number < first) × (p < length older) × (get_or older p 0 ≡ number))
place_says number older first p o e = let says = older_says number older p in grind (arith, nat_tests, says)

pub place_apart : (m n : ℕ) (older : List ℕ) (first p : ℕ) → AreOlder 0 older first → place_in m older first ≡ Some p → place_in n older first ≡ Some p → m ≡ n
place_apart m n older first p o d e = let x = place_says m older first p o d in let y = place_says n older first p o e in grind arith

-- SLOTS
pub length_slots : {X : Type 0} (f : ℕ → Option X) (n : ℕ) → length (slots_to n f) ≡ n
length_slots f zero = refl
length_slots f (suc n) = grind (arith, length-append, length_slots f n)

pub slots_same : {X : Type 0} (f g : ℕ → Option X) (n : ℕ) → ((i : ℕ) → i < n → f i ≡ g i) → slots_to n f ≡ slots_to n g
slots_same f g zero same = refl
slots_same f g (suc n) same = rw (slots_same f g n (λ i h. same i (omega (arith, h))), same n (omega arith)) refl

updated_end : {X : Type 0} (h : X → X) (xs : List X) (y : X) (i : ℕ) → updated i h (xs ++ y ∷ []) ≡ cond (length xs == i) (xs ++ h y ∷ []) (updated i h xs ++ y ∷ [])
updated_end h [] y zero = refl
updated_end h [] y (suc i) = grind arith
updated_end h (x ∷ xs) y zero = grind arith
updated_end h (x ∷ xs) y (suc i) = let again = updated_end h xs y i in grind arith

updated_past : {X : Type 0} (h : X → X) (xs : List X) (i : ℕ) → length xs ≤ i → updated i h xs ≡ xs
updated_past h [] i e = refl
updated_past h (x ∷ xs) zero e = absurd (omega (arith, e))
updated_past h (x ∷ xs) (suc i) e = ap (λ zs. x ∷ zs) (updated_past h xs i (omega (arith, e)))

pub slots_updated : {X : Type 0} (f : ℕ → Option X) (h : Option X → Option X) (n i : ℕ) → updated i h (slots_to n f) ≡ slots_to n (λ k. cond (k == i) (h (f k)) (f k))
slots_updated f h zero i = refl
slots_updated f h (suc n) i = grind (arith, nat_tests, updated_end, length_slots, slots_updated f h n i, updated_past, cases_eq)

-- WHAT A NUMBER FINDS
pub slot_in : {X : Type 0} (f : ℕ → Option X) (n i : ℕ) → slot_at i (slots_to n f) ≡ cond (nat_lt i n) (f i) None
slot_in f zero i = grind (arith, nat_tests)
slot_in f (suc n) i = grind (arith, nat_tests, slot_push, length_slots, slot_in f n i, cases_eq)

pub slot_is : {X : Type 0} (number : ℕ) (older : List ℕ) (first : ℕ) (items : List X) → AreSlots older first (length items) → slot_at number (slots_of older first items) ≡ item_at number older first items
slot_is number older first items s =
    let is = slot_in (λ k. item_at k older first items) (given_to older first (length items)) number in
    grind (arith, nat_tests, is, s.many, slice_get_past, cases_lt number (given_to older first (length items)))

pub within_is : {X : Type 0} (number : ℕ) (older : List ℕ) (first : ℕ) (items : List X) → AreSlots older first (length items) → (p : Option ℕ) → place_within number older first (length items) ≡ p → item_at number older first items ≡ option_and_then (λ place. slice_get items place) p
within_is number older first items s None e = grind (arith, nat_tests, slice_get_past, s.many)
within_is number older first items s (Some p) e = grind (arith, nat_tests)

pub within_says : {X : Type 0} (number : ℕ) (older : List ℕ) (first : ℕ) (items : List X) (p : ℕ) → AreSlots older first (length items) → place_within number older first (length items) ≡ Some p → (place_in number older first ≡ Some p) × (p < length items)
within_says number older first items p s e = let says = older_says number older p in grind (arith, nat_tests, says, s.many)

-- A VALUE CHANGES
pub set_at : {X : Type 0} (xs : List X) (i k : ℕ) (x : X) → i < length xs → slice_get (slice_set xs i x) k ≡ cond (k == i) (Some x) (slice_get xs k)
set_at [] i k x h = absurd (omega (arith, h))
set_at (y ∷ xs) zero zero x h = refl
set_at (y ∷ xs) zero (suc k) x h = grind arith
set_at (y ∷ xs) (suc i) zero x h = grind arith
set_at (y ∷ xs) (suc i) (suc k) x h = let again = set_at xs i k x (omega (arith, h)) in grind arith

pub set_slots : {X : Type 0} (number : ℕ) (older : List ℕ) (first : ℕ) (items : List X) (p : ℕ) (h : X → X) (x : X) → AreSlots older first (length items) → place_within number older first (length items) ≡ Some p → slice_get items p ≡ Some x → slots_of older first (slice_set items p (h x)) ≡ updated number (option_map h) (slots_of older first items)
set_slots number older first items p h x s e there =
    let says = within_says number older first items p s e in
    let one : (k : ℕ) → item_at k older first (slice_set items p (h x)) ≡ cond (k == number) (option_map h (item_at k older first items)) (item_at k older first items) = λ k.
    let apart = λ (q : place_in k older first ≡ Some p). place_apart k number older first p s.order q says.0 in
    let read = λ (q : ℕ). set_at items p q (h x) says.1 in
    grind (arith, nat_tests, says, apart, read, cases_eq, slice_get_past, there) in
    let n : ℕ = first + (length items - length older) in
    rw (slots_updated (λ k. item_at k older first items) (option_map h) n number, length-set items p (h x)) (slots_same (λ k. item_at k older first (slice_set items p (h x))) (λ k. cond (k == number) (option_map h (item_at k older first items)) (item_at k older first items)) n (λ k h. one k))

pub none_slots : {X : Type 0} (number : ℕ) (older : List ℕ) (first : ℕ) (items : List X) (h : X → X) → AreSlots older first (length items) → place_within number older first (length items) ≡ None → updated number (option_map h) (slots_of older first items) ≡ slots_of older first items
none_slots number older first items h s e =
    let none = within_is number older first items s None e in
    let n : ℕ = first + (length items - length older) in
    slots_updated (λ k. item_at k older first items) (option_map h) n number ∙ slots_same (λ k. cond (k == number) (option_map h (item_at k older first items)) (item_at k older first items)) (λ k. item_at k older first items) n (λ k low. grind (arith, nat_tests, none, cases_eq))

-- A FURTHER ONE
pub push_slots : {X : Type 0} (older : List ℕ) (first : ℕ) (items : List X) (v : X) → AreSlots older first (length items) → slots_of older first (items ++ v ∷ []) ≡ slots_of older first items ++ Some v ∷ []
push_slots older first items v s =
    let n : ℕ = first + (length items - length older) in
    let many : first + (length (items ++ v ∷ []) - length older) ≡ suc n = omega (arith, length-append items (v ∷ []), s.many) in
    let last : item_at n older first (items ++ v ∷ []) ≡ Some v = grind (arith, nat_tests, get_push, s.many) in
    let same : (k : ℕ) → k < n → item_at k older first (items ++ v ∷ []) ≡ item_at k older first items = λ k low. let says = place_says k older first (length items) s.order in grind (arith, nat_tests, get_push, s.many, says) in
    rw (many, last, slots_same (λ k. item_at k older first (items ++ v ∷ [])) (λ k. item_at k older first items) n same) refl

-- with so many more
pub slots_length : {X : Type 0} (older : List ℕ) (first : ℕ) (items : List X) → length (slots_of older first items) ≡ given_to older first (length items)
slots_length older first items = length_slots (λ k. item_at k older first items) (given_to older first (length items))

pub few_slots : {X : Type 0} (older : List ℕ) (first : ℕ) (items : List X) → AreSlots older first (length items) → length (slots_of older first items) < 2 ^ 63
few_slots older first items s = omega (arith, slots_length older first items, s.few)

pub one_more : (older : List ℕ) (first n memory : ℕ) → AreSlots older first n → 0 < min memory (room_for older first n) → AreSlots older first (n + 1)
one_more older first n memory s left = record { order = s.order; many = omega (arith, s.many); few = omega (arith, s.many, left, min-le_right memory (room_for older first n)) }

-- what a search finds
pub slot_found : {X : Type 0} (number : ℕ) (older : List ℕ) (first : ℕ) (items : List X) (p : ℕ) (x : X) → AreSlots older first (length items) → place_within number older first (length items) ≡ Some p → slice_get items p ≡ Some x → slot_at number (slots_of older first items) ≡ Some x
slot_found number older first items p x s e there = slot_is number older first items s ∙ within_is number older first items s (Some p) e ∙ there

pub slot_none : {X : Type 0} (number : ℕ) (older : List ℕ) (first : ℕ) (items : List X) → AreSlots older first (length items) → place_within number older first (length items) ≡ None → slot_at number (slots_of older first items) ≡ None
slot_none number older first items s e = slot_is number older first items s ∙ within_is number older first items s None e
