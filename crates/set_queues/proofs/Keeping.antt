-- WHAT STAYS at a checkpoint, place by place.
use Rattle.std.proofs.Common.{refl, arith, ◌≡◌, ◌∙◌, ap, ◌<◌, ◌≤◌, ◌+◌, ◌-◌, ◌==◌, ℕ, zero, suc, Bool, true, false, List, [], ◌∷◌, ◌++◌, length, map, Option, None, Some, option_and_then, slice_get, cond, nat_lt, get_or}
use Rattle.std.proofs.lemmas.Bool.Decides.{nat_tests}
use Rattle.std.proofs.lemmas.Bool.{cases_eq, cases_lt}
use Rattle.std.proofs.lemmas.List.{length-append, map-append}
use Rattle.std.proofs.lemmas.Option.{slice_get_past}
use Rattle.std.specs.Option.{option_or}
use Rattle.set_queues.specs.Slots.{older_place, place_in, given_to, item_at, slots_to, slots_of, number_at, AreOlder, AreKept}
use Rattle.set_queues.proofs.Placing.{rises, older_says, older_found, place_says, slots_same}
use Rattle.set_queues.proofs.Standing.{get_push}

-- PLACES AND NUMBERS
pub number_rises : (older : List ℕ) (first i j : ℕ) → AreOlder 0 older first → i < j → number_at i older first < number_at j older first
number_rises older first i j o low =
    let both = λ (h : j < length older). rises 0 older first i j o (omega (arith, low)) h in
    let one = λ (h : i < length older). rises 0 older first i i o (omega arith) h in
    grind (arith, nat_tests, both, one)

pub number_of : (k : ℕ) (older : List ℕ) (first q : ℕ) → AreOlder 0 older first → place_in k older first ≡ Some q → number_at q older first ≡ k
number_of k older first q o e = let says = place_says k older first q o e in grind (arith, nat_tests, says)

pub place_of_number : (older : List ℕ) (first p : ℕ) → AreOlder 0 older first → place_in (number_at p older first) older first ≡ Some p
place_of_number older first p o =
    let here = λ (h : p < length older). rises 0 older first p p o (omega arith) h in
    let found = λ (h : p < length older). older_found (get_or older p 0) 0 older first p o h refl in
    grind (arith, nat_tests, here, found)

-- no number between those of two places that follow each other
pub none_between : {X : Type 0} (k : ℕ) (older : List ℕ) (first p : ℕ) (items : List X) → AreOlder 0 older first → number_at p older first < k → k < number_at (p + 1) older first → item_at k older first items ≡ None
none_between k older first p items o low high = go (place_in k older first) refl
  where
    go : (q : Option ℕ) → place_in k older first ≡ q → item_at k older first items ≡ None
    go None e = ap (option_and_then (λ place. slice_get items place)) e
    go (Some q) e =
        let is = number_of k older first q o e in
        let below = number_rises older first q p o in
        let above = number_rises older first (p + 1) q o in
        grind (arith, nat_tests, is, below, above, cases_lt q p, cases_lt (p + 1) q, cases_eq)

pub none_first : {X : Type 0} (k : ℕ) (older : List ℕ) (first : ℕ) (items : List X) → AreOlder 0 older first → k < number_at 0 older first → item_at k older first items ≡ None
none_first k older first items o high = go (place_in k older first) refl
  where
    go : (q : Option ℕ) → place_in k older first ≡ q → item_at k older first items ≡ None
    go None e = ap (option_and_then (λ place. slice_get items place)) e
    go (Some zero) e = let is = number_of k older first 0 o e in absurd (omega (arith, is, high))
    go (Some (suc q)) e = let is = number_of k older first (suc q) o e in let above = number_rises older first 0 (suc q) o (omega arith) in absurd (omega (arith, is, high, above))

-- OLDER NUMBERS with one more
pub order_more : (k : ℕ) (ns : List ℕ) (n m : ℕ) → AreOlder k ns n → n ≤ m → AreOlder k ns m
order_more k [] n m o low = omega (arith, o, low)
order_more k (x ∷ ns) n m o low = (o.0, order_more (suc x) ns n m o.1 low)

pub order_push : (k : ℕ) (ns : List ℕ) (n m : ℕ) → AreOlder k ns n → n < m → AreOlder k (ns ++ n ∷ []) m
order_push k [] n m o low = (o, omega (arith, low))
order_push k (x ∷ ns) n m o low = (o.0, order_push (suc x) ns n m o.1 low)

pub older_push : (k : ℕ) (ns : List ℕ) (n : ℕ) → older_place k (ns ++ n ∷ []) ≡ option_or (older_place k ns) (cond (n == k) (Some (length ns)) None)
older_push k [] n = grind (arith, nat_tests)
older_push k (x ∷ ns) n = let again = older_push k ns n in grind (arith, nat_tests, again)

-- what is found with one more, of numbers below n and then below m
each_more : {X : Type 0} (k n m : ℕ) (v : X) (older : List ℕ) (items : List X) (f : ℕ → Option X) → AreOlder 0 older n → length older ≡ length items → n < m → f n ≡ Some v → (n < k → k < m → f k ≡ None) → option_and_then (λ place. slice_get items place) (older_place k older) ≡ cond (nat_lt k n) (f k) None → option_and_then (λ place. slice_get (items ++ v ∷ []) place) (older_place k (older ++ n ∷ [])) ≡ cond (nat_lt k m) (f k) None
each_more k n m v older items f o many low here gap was = rw (older_push k older n) (go (older_place k older) refl)
  where
    go : (q : Option ℕ) → older_place k older ≡ q → option_and_then (λ place. slice_get (items ++ v ∷ []) place) (option_or q (cond (n == k) (Some (length older)) None)) ≡ cond (nat_lt k m) (f k) None
    go (Some q) e = let says = older_says k older q e in let below = rises 0 older n q q o (omega arith) says.0 in grind (arith, nat_tests, was, says, below, get_push, slice_get_past)
    go None e = grind (arith, nat_tests, was, here, gap, get_push, cases_eq, cases_lt n k)

-- ONE PLACE MORE
module _ {X : Type 0} (stays : ℕ → Bool) (older : List ℕ) (first : ℕ) (items : List X) (older' : List ℕ) (items' : List X) (p : ℕ) (v : X) (o : AreOlder 0 older first) (there : slice_get items p ≡ Some v) (a : AreKept stays (number_at p older first) older first items older' items') where
  abbrev n : ℕ
  n = number_at p older first

  next : n < number_at (p + 1) older first
  next = number_rises older first p (p + 1) o (omega arith)

  here : item_at n older first items ≡ Some v
  here = ap (option_and_then (λ place. slice_get items place)) (place_of_number older first p o) ∙ there

  pub one_dropped : stays n ≡ false → AreKept stays (number_at (p + 1) older first) older first items older' items'
  one_dropped out = record {
    order = order_more 0 older' n (number_at (p + 1) older first) a.order (omega (arith, next));
    many = a.many;
    each = λ k. let was = a.each k in let gap = none_between k older first p items o in grind (arith, nat_tests, was, gap, out, next, cases_eq, cases_lt n k);
  }

  pub one_kept : stays n ≡ true → AreKept stays (number_at (p + 1) older first) older first items (older' ++ n ∷ []) (items' ++ v ∷ [])
  one_kept in_ = record {
    order = order_push 0 older' n (number_at (p + 1) older first) a.order next;
    many = omega (arith, length-append older' (n ∷ []), length-append items' (v ∷ []), a.many);
    each = λ k. each_more k n (number_at (p + 1) older first) v older' items' (λ k. cond (stays k) (item_at k older first items) None) a.order a.many next (rw in_ here) (λ low high. let gap = none_between k older first p items o low high in grind (arith, gap)) (a.each k);
  }

pub kept_none : {X : Type 0} (stays : ℕ → Bool) (older : List ℕ) (first : ℕ) (items : List X) → AreOlder 0 older first → AreKept stays (number_at 0 older first) older first items [] []
kept_none stays older first items o = record { order = omega arith; many = refl; each = λ k. let none = none_first k older first items o in grind (arith, nat_tests, none) }

-- what stands at a place, by its number
pub item_there : {X : Type 0} (older : List ℕ) (first : ℕ) (items : List X) (p : ℕ) (v : X) → AreOlder 0 older first → slice_get items p ≡ Some v → item_at (number_at p older first) older first items ≡ Some v
item_there older first items p v o there = ap (option_and_then (λ place. slice_get items place)) (place_of_number older first p o) ∙ there

-- at the end of the places
pub kept_end : {X : Type 0} (stays : ℕ → Bool) (older : List ℕ) (first : ℕ) (items : List X) (older' : List ℕ) (items' : List X) (p : ℕ) → length older ≤ p → p ≡ length items → AreKept stays (number_at p older first) older first items older' items' → AreKept stays (given_to older first (length items)) older first items older' items'
kept_end stays older first items older' items' p many end a =
    let is : number_at p older first ≡ given_to older first (length items) = grind (arith, nat_tests, many, end) in
    rw is at a

-- ALL OF THEM
pub kept_all : {X : Type 0} (stays : ℕ → Bool) (older : List ℕ) (first : ℕ) (items : List X) (older' : List ℕ) (items' : List X) → AreKept stays (given_to older first (length items)) older first items older' items' → slots_of older' (given_to older first (length items)) items' ≡ slots_to (given_to older first (length items)) (λ k. cond (stays k) (item_at k older first items) None)
kept_all stays older first items older' items' a =
    let n : ℕ = given_to older first (length items) in
    let same : n + (length items' - length older') ≡ n = omega (arith, a.many) in
    rw same (slots_same (λ k. item_at k older' n items') (λ k. cond (stays k) (item_at k older first items) None) n (λ k low. let was = a.each k in grind (arith, nat_tests, was)))

pub map_slots : {X : Type 0} (h : Option X → Option X) (f : ℕ → Option X) (n : ℕ) → map h (slots_to n f) ≡ slots_to n (λ k. h (f k))
map_slots h f zero = refl
map_slots h f (suc n) = map-append h (slots_to n f) (f n ∷ []) ∙ ap (λ (xs : List (Option _)). xs ++ h (f n) ∷ []) (map_slots h f n)
