-- What is needed where receipts stand in places.
use Rattle.std.proofs.Common.{arith, refl, ◌≡◌, ◌∙◌, ap, sym, subst, add-one, drop-cons, ◌<◌, ◌≤◌, ◌+◌, ◌-◌, ◌↔◌, ℕ, zero, suc, Bool, true, false, List, [], ◌∷◌, length, take, drop, set, filter, get_or, All, Option, None, Some, is_some, inl, inr, ◌⊎◌}
use Rattle.std.proofs.lemmas.List.{drop_all, length-drop, get_or_default, get_or_past, get_or-set_same, get_or-set_other, length-set, length-take-le, take_all}
use Rattle.std.proofs.lemmas.List.Elements.{All-cons, All-head, All-tail}
use Rattle.std.proofs.lemmas.Bool.{cases_eq, cases_lt}
use Rattle.std.specs.Prelude.{if◌then◌else◌, ◌==◌}
use Rattle.set_events.specs.declared.books.Books.{Books}
use Rattle.set_events.specs.declared.event.Actor.{Actor}
use Rattle.set_events.specs.declared.event.Actor.TheVariants.{User, Terminal}
use Rattle.set_events.specs.declared.history.Entry.{Entry}
use Rattle.set_ledger.specs.Ending.{IsFaithful, calls_at, is_actor, is_by}
use Rattle.set_ledger.specs.Seats.{SeatState}
use Rattle.set_ledger.specs.Places.{place_of, at, AreAt, AreEmpty, AreLeft, ArePut, IsAt, IsLeft, IsNot, IsOwn}
use Rattle.set_ledger.specs.declared.places.Own.{Own}
use Rattle.set_ledger.proofs.Receipts.{decided}

same_actor : (who other : Actor) → is_actor who other ≡ true → who ≡ other
same_actor (User n) (User m) e = let s : n ≡ m = grind (arith, e) in ap User s
same_actor (User n) (Terminal m) e = absurd cc
same_actor (Terminal n) (User m) e = absurd cc
same_actor (Terminal n) (Terminal m) e = let s : n ≡ m = grind (arith, e) in ap Terminal s

is_itself : (who : Actor) → is_actor who who ≡ true
is_itself (User n) = grind arith
is_itself (Terminal n) = grind arith

-- an entry is among an actor's, or not
by_it : (who : Actor) (entry : Entry) (left : List Entry) → who ≡ entry.who → filter (is_by who) (entry ∷ left) ≡ entry ∷ filter (is_by who) left
by_it who entry left same =
    let e : is_actor who entry.who ≡ true = ap (is_actor who) (sym same) ∙ is_itself who in
    ap (λ (b : Bool). if b then entry ∷ filter (is_by who) left else filter (is_by who) left) e

not_by_it : (who : Actor) (entry : Entry) (left : List Entry) → (who ≡ entry.who → ⊥) → filter (is_by who) (entry ∷ left) ≡ filter (is_by who) left
not_by_it who entry left other = go (is_actor who entry.who) refl where
  go : (b : Bool) → is_actor who entry.who ≡ b → filter (is_by who) (entry ∷ left) ≡ filter (is_by who) left
  go true e = absurd (other (same_actor who entry.who e))
  go false e = ap (λ (b : Bool). if b then entry ∷ filter (is_by who) left else filter (is_by who) left) e

-- AN ENTRY IS HEARD in a place: what was left with it is what is left without it
abbrev pub Hears : Option Own → Entry → Option Own → Type 0
Hears old entry new = (left : List Entry) → IsLeft old (entry ∷ left) ↔ IsLeft new left

-- an entry of another actor stays unheard
pub other_hears : (own : Own) (entry : Entry) → (own.who ≡ entry.who → ⊥) → Hears (Some own) entry (Some own)
other_hears own entry other left =
    let e = not_by_it own.who entry left other in ((λ is. is ∙ e), (λ is. is ∙ sym e))

-- an actor's next one is read
first_off : (entry : Entry) (xs ys : List Entry) → entry ∷ xs ≡ entry ∷ ys → xs ≡ ys
first_off entry xs ys e = ap (drop 1) e

pub next_hears : (who : Actor) (entry : Entry) (old new : List Entry) → who ≡ entry.who → old ≡ entry ∷ new → Hears (Some (record { who = who; receipts = old })) entry (Some (record { who = who; receipts = new }))
next_hears who entry old new same next left =
    let e = by_it who entry left same in (
      (λ is. first_off entry new (filter (is_by who) left) (sym next ∙ is ∙ e)),
      (λ is. next ∙ ap (λ (xs : List Entry). entry ∷ xs) is ∙ sym e),
    )

pub next_there : (who : Actor) (entry : Entry) (left old : List Entry) → who ≡ entry.who → old ≡ filter (is_by who) (entry ∷ left) → old ≡ entry ∷ filter (is_by who) left
next_there who entry left old same is = is ∙ by_it who entry left same

-- other places hear nothing of it
other_place : (k : ℕ) (place : Option Own) (entry : Entry) (left : List Entry) → IsAt k place → (k ≡ place_of entry.who → ⊥) → IsLeft place (entry ∷ left) ↔ IsLeft place left
other_place k None entry left is other = ((λ x. x), (λ x. x))
other_place k (Some own) entry left is other = other_hears own entry (λ same. other (sym is ∙ ap place_of same)) left

-- what a place has at another default
pub has_at : (places : List (Option Own)) (k : ℕ) (place : Option Own) → k < length places → place ≡ get_or places k place → at places k ≡ place
has_at places k place within is = get_or_default places k None place within ∙ sym is

-- AN ENTRY IS HEARD in its actor's place
pub heard_on : (places : List (Option Own)) (k : ℕ) (old new : Option Own) (entry : Entry) (left : List Entry) → k < length places → at places k ≡ old → k ≡ place_of entry.who → AreAt places → Hears old entry new
    → AreLeft places (entry ∷ left) ↔ AreLeft (set places k new) left
heard_on places k old new entry left within is here are hears = (
  (λ all j. to j (cases_eq j k) (all j)),
  (λ all j. from j (cases_eq j k) (all j)),
) where
  there : (j : ℕ) → j ≡ k → at (set places k new) j ≡ new
  there j e = rw e (get_or-set_same places k new None within)

  elsewhere : (j : ℕ) → (j ≡ k → ⊥) → at (set places k new) j ≡ at places j
  elsewhere j other = get_or-set_other places k j new None other

  to : (j : ℕ) → (j ≡ k) ⊎ (j ≡ k → ⊥) → IsLeft (at places j) (entry ∷ left) → IsLeft (at (set places k new) j) left
  to j (inl e) stands = subst (λ (p : Option Own). IsLeft p left) (sym (there j e)) ((hears left).0 (subst (λ (p : Option Own). IsLeft p (entry ∷ left)) (ap (at places) e ∙ is) stands))
  to j (inr other) stands = subst (λ (p : Option Own). IsLeft p left) (sym (elsewhere j other)) ((other_place j (at places j) entry left (are.each j) (λ e. other (e ∙ sym here))).0 stands)

  from : (j : ℕ) → (j ≡ k) ⊎ (j ≡ k → ⊥) → IsLeft (at (set places k new) j) left → IsLeft (at places j) (entry ∷ left)
  from j (inl e) stands = subst (λ (p : Option Own). IsLeft p (entry ∷ left)) (sym (ap (at places) e ∙ is)) ((hears left).1 (subst (λ (p : Option Own). IsLeft p left) (there j e) stands))
  from j (inr other) stands = (other_place j (at places j) entry left (are.each j) (λ e. other (e ∙ sym here))).1 (subst (λ (p : Option Own). IsLeft p left) (elsewhere j other) stands)

-- none is heard where its actor has no place
pub unheard : (places : List (Option Own)) (k : ℕ) (entry : Entry) (left : List Entry) → k ≡ place_of entry.who → AreAt places → IsNot entry.who (at places k)
    → AreLeft places (entry ∷ left) ↔ AreLeft places left
unheard places k entry left here are absent = ((λ all j. (each j).0 (all j)), (λ all j. (each j).1 (all j))) where
  in_place : (place : Option Own) → IsNot entry.who place → IsLeft place (entry ∷ left) ↔ IsLeft place left
  in_place None not = ((λ x. x), (λ x. x))
  in_place (Some own) not = other_hears own entry not left

  go : (j : ℕ) → (j ≡ k) ⊎ (j ≡ k → ⊥) → IsLeft (at places j) (entry ∷ left) ↔ IsLeft (at places j) left
  go j (inl e) = rw e (in_place (at places k) absent)
  go j (inr other) = other_place j (at places j) entry left (are.each j) (λ e. other (e ∙ sym here))

  each : (j : ℕ) → IsLeft (at places j) (entry ∷ left) ↔ IsLeft (at places j) left
  each j = go j (cases_eq j k)

pub at_on : (places : List (Option Own)) (k : ℕ) (new : Option Own) → k < length places → AreAt places → IsAt k new → AreAt (set places k new)
at_on places k new within are is = record { long = length-set places k new ∙ are.long; each = λ j. go j (cases_eq j k) } where
  go : (j : ℕ) → (j ≡ k) ⊎ (j ≡ k → ⊥) → IsAt j (at (set places k new) j)
  go j (inl e) = rw (e, get_or-set_same places k new None within) is
  go j (inr other) = subst (λ (p : Option Own). IsAt j p) (sym (get_or-set_other places k j new None other)) (are.each j)

-- ONE PLACE MORE
pub put_on : (places : List (Option Own)) (k : ℕ) (own : Own) (left : List Entry) → k < length places → at places k ≡ None → AreLeft (set places k (Some own)) left ↔ (AreLeft places left × IsLeft (Some own) left)
put_on places k own left within none = (
  (λ all. ((λ j. to j (cases_eq j k) (all j)), subst (λ (p : Option Own). IsLeft p left) (get_or-set_same places k (Some own) None within) (all k))),
  (λ both j. from j (cases_eq j k) (both.0 j) both.1),
) where
  to : (j : ℕ) → (j ≡ k) ⊎ (j ≡ k → ⊥) → IsLeft (at (set places k (Some own)) j) left → IsLeft (at places j) left
  to j (inl e) stands = subst (λ (p : Option Own). IsLeft p left) (sym (ap (at places) e ∙ none)) tt
  to j (inr other) stands = subst (λ (p : Option Own). IsLeft p left) (get_or-set_other places k j (Some own) None other) stands

  from : (j : ℕ) → (j ≡ k) ⊎ (j ≡ k → ⊥) → IsLeft (at places j) left → IsLeft (Some own) left → IsLeft (at (set places k (Some own)) j) left
  from j (inl e) stands new = subst (λ (p : Option Own). IsLeft p left) (sym (ap (at (set places k (Some own))) e ∙ get_or-set_same places k (Some own) None within)) new
  from j (inr other) stands new = subst (λ (p : Option Own). IsLeft p left) (sym (get_or-set_other places k j (Some own) None other)) stands

-- nothing stands in an empty place
pub empty_at : (places : List (Option Own)) → AreEmpty places → AreAt places
empty_at places empty = record { long = empty.long; each = λ k. subst (λ (p : Option Own). IsAt k p) (sym (empty.each k)) tt }

pub empty_left : (places : List (Option Own)) (left : List Entry) → AreEmpty places → AreLeft places left
empty_left places left empty k = subst (λ (p : Option Own). IsLeft p left) (sym (empty.each k)) tt

-- whether something holds of all from one on is whether it does of that one and of those behind it
next_of : {X : Type 0} (xs : List X) (i : ℕ) (x : X) → i < length xs → x ≡ get_or xs i x → drop i xs ≡ x ∷ drop (i + 1) xs
next_of xs i x less is = rw add-one (drop-cons xs i x less ∙ ap (λ y. y ∷ drop (suc i) xs) (sym is))

pub all_split : {X : Type 0} (P : X → Type 0) (xs : List X) (i : ℕ) (x : X) → i < length xs → x ≡ get_or xs i x → All P (drop i xs) ↔ (P x × All P (drop (i + 1) xs))
all_split P xs i x less is =
    let split = next_of xs i x less is in (
      (λ all. let whole = subst (All P) split all in (All-head P x (drop (i + 1) xs) whole, All-tail P x (drop (i + 1) xs) whole)),
      (λ both. subst (All P) (sym split) (All-cons P x (drop (i + 1) xs) both.0 both.1)),
    )

pub all_none : {X : Type 0} (P : X → Type 0) (xs : List X) → length xs ≡ 0 → All P xs
all_none P xs none k d less = absurd (omega (arith, none, less))

-- WHAT DECIDES whether all these seats are faithful: the receipts in their places, and the seats that have none yet
abbrev pub Decide : {S : Type 0} → (S → SeatState) → Books → List S → List (Option Own) → List S → Type 0
Decide of books all places rest = (history : List Entry) → All (λ seat. IsFaithful books history (of seat)) all
    ↔ (AreLeft places history × All (λ seat. IsFaithful books history (of seat)) rest)

pub decide_none : {S : Type 0} (of : S → SeatState) (books : Books) (all : List S) (places : List (Option Own)) → AreEmpty places → Decide of books all places all
decide_none of books all places empty history = ((λ whole. (empty_left places history empty, whole)), (λ both. both.1))

pub decide_more : {S : Type 0} (of : S → SeatState) (books : Books) (all : List S) (places : List (Option Own)) (i : ℕ) (seat : S) (k : ℕ) (own : Own)
    → i < length all → seat ≡ get_or all i seat → k < length places → at places k ≡ None → IsOwn books (of seat) own
    → Decide of books all places (drop i all) → Decide of books all (set places k (Some own)) (drop (i + 1) all)
decide_more of books all places i seat k own less is within none is_own so history =
    let split = all_split (λ seat. IsFaithful books history (of seat)) all i seat less is in
    let more = put_on places k own history within none in
    let way = is_own.decides history in (
      (λ whole. let both = (so history).0 whole in let two = split.0 both.1 in (more.1 (both.0, way.0 two.0), two.1)),
      (λ both. let two = more.0 both.0 in (so history).1 (two.0, split.1 (way.1 two.1, both.1))),
    )

-- nothing is in any of so many places
pub none_at : (places : List (Option Own)) → length places ≡ 80 → ((i : ℕ) (d : Option Own) → i < 80 → get_or places i d ≡ None) → AreEmpty places
none_at places long each = record { long = long; each = λ k. go k (cases_lt k 80) } where
  go : (k : ℕ) → (k < 80) ⊎ (80 ≤ k) → at places k ≡ None
  go k (inl below) = each k None below
  go k (inr past) = get_or_past places k None (omega (arith, long, past))

-- a seat's receipts, but for those before the base
pub own_decides : (books : Books) (seat : SeatState) (who : Actor) (forgotten calls : ℕ) (receipts rest : List Entry)
    → who ≡ seat.who → forgotten ≡ seat.forgotten.calls → receipts ≡ seat.receipts → calls ≡ calls_at who books
    → forgotten ≤ calls → calls - forgotten ≤ length receipts → rest ≡ drop (calls - forgotten) receipts → IsOwn books seat (record { who = who; receipts = rest })
own_decides books seat who forgotten calls receipts rest w f r k enough there is = record {
  who_is = w;
  decides = λ history.
      let way = decided forgotten receipts (filter (is_by who) history) rest calls (calls - forgotten) (omega (arith, enough)) there is in
      rw (← w, ← f, ← r, ← k) (way.1, way.0);
}

-- the places that have a seat decide for it and those before it
pub put_so_far : {S : Type 0} (of : S → SeatState) (books : Books) (all : List S) (i many : ℕ) (places : List (Option Own)) → many ≡ i → i ≤ length all → (0 < length all → 0 < i)
    → AreAt places → Decide of books all places (drop i all) → ArePut of books all many places
put_so_far of books all i many places same few some are so = rw same (record { few = few; some = some; are_at = are; decide = so })

taken_not_none : (place : Option Own) → is_some place ≡ true → place ≡ None → ⊥
taken_not_none None taken none = absurd cc
taken_not_none (Some own) taken none = absurd cc

-- a place that is taken was not empty before
pub some_put : (places initial : List (Option Own)) (i k : ℕ) (place : Option Own) → (i ≡ 0 → places ≡ initial) → AreEmpty initial → k < length places → place ≡ get_or places k place → is_some place ≡ true → 0 < i
some_put places initial zero k place same empty within is taken =
    let here : at initial k ≡ place = ap (λ (xs : List (Option Own)). at xs k) (sym (same refl)) ∙ has_at places k place within is in
    absurd (taken_not_none place taken (sym here ∙ empty.each k))
some_put places initial (suc i) k place same empty within is taken = omega arith

not_taken : (place : Option Own) → is_some place ≡ false → place ≡ None
not_taken None free = refl
not_taken (Some own) free = absurd cc

pub free_at : (places : List (Option Own)) (k : ℕ) (place : Option Own) → k < length places → place ≡ get_or places k place → is_some place ≡ false → at places k ≡ None
free_at places k place within is free = has_at places k place within is ∙ not_taken place free

-- what is left in a place, from one on
pub read_on : (places : List (Option Own)) (i : ℕ) (place : Option Own) → i < length places → place ≡ get_or places i place → IsLeft place [] → ((k : ℕ) → k < i → IsLeft (at places k) []) → (k : ℕ) → k < i + 1 → IsLeft (at places k) []
read_on places i place within is here so k below = go (cases_eq k i) where
  go : (k ≡ i) ⊎ (k ≡ i → ⊥) → IsLeft (at places k) []
  go (inl e) = subst (λ (p : Option Own). IsLeft p []) (sym (ap (at places) e ∙ has_at places i place within is)) here
  go (inr other) = so k (omega (arith, below, other))

pub read_all : (places : List (Option Own)) (n : ℕ) → length places ≤ n → ((k : ℕ) → k < n → IsLeft (at places k) []) → AreLeft places []
read_all places n past so k = go (cases_lt k n) where
  go : (k < n) ⊎ (n ≤ k) → IsLeft (at places k) []
  go (inl below) = so k below
  go (inr over) = subst (λ (p : Option Own). IsLeft p []) (sym (get_or_past places k None (omega (arith, past, over)))) tt

pub left_at : (places : List (Option Own)) (k : ℕ) (place : Option Own) (left : List Entry) → k < length places → place ≡ get_or places k place → AreLeft places left → IsLeft place left
left_at places k place left within is all = subst (λ (p : Option Own). IsLeft p left) (has_at places k place within is) (all k)

-- SEATS THAT ARE LEFT

not_zero : (n : ℕ) → false ≡ (n == 0) → 0 < n
not_zero zero e = absurd cc
not_zero (suc n) e = omega arith

is_zero : (n : ℕ) → true ≡ (n == 0) → n ≡ 0
is_zero n e = grind (arith, e)

pub rest_short : {X : Type 0} (xs : List X) (many : ℕ) → many ≤ length xs → false ≡ (length xs == 0) → (0 < length xs → 0 < many) → length (take (length xs - many) (drop many xs)) < length xs
rest_short xs many few some first =
    let all = not_zero (length xs) some in
    let dropped = length-drop many xs in
    let taken = length-take-le (length xs - many) (drop many xs) (omega (arith, dropped)) in
    omega (arith, taken, few, first all)

pub decide_on : {S : Type 0} (of : S → SeatState) (books : Books) (all left : List S) (many : ℕ) (places : List (Option Own)) (history : List Entry)
    → (All (λ seat. IsFaithful books history (of seat)) all ↔ All (λ seat. IsFaithful books history (of seat)) left)
    → Decide of books left places (drop many left) → AreLeft places history
    → All (λ seat. IsFaithful books history (of seat)) all ↔ All (λ seat. IsFaithful books history (of seat)) (take (length left - many) (drop many left))
decide_on of books all left many places history so decide are =
    let whole = take_all (length left - many) (drop many left) (omega (arith, length-drop many left)) in
    rw whole (
      (λ every. ((decide history).0 (so.0 every)).1),
      (λ rest. so.1 ((decide history).1 (are, rest))),
    )

pub decided_all : {S : Type 0} (of : S → SeatState) (books : Books) (all left : List S) (history : List Entry)
    → (All (λ seat. IsFaithful books history (of seat)) all ↔ All (λ seat. IsFaithful books history (of seat)) left)
    → true ≡ (length left == 0) → All (λ seat. IsFaithful books history (of seat)) all
decided_all of books all left history so none = so.1 (all_none (λ seat. IsFaithful books history (of seat)) left (is_zero (length left) none))

-- THE SEATS SO FAR, while they are put
pub record PutSoFar {S : Type 0} (of : S → SeatState) (books : Books) (all : List S) (initial places : List (Option Own)) (many i : ℕ) : Type 0 where
  pub as_many : many ≡ i
  pub first : i ≡ 0 → places ≡ initial
  pub are_at : AreAt places
  pub decide : Decide of books all places (drop i all)

pub put_all : {S : Type 0} (of : S → SeatState) (books : Books) (all : List S) (i : ℕ) (places : List (Option Own)) → length all ≤ i → AreAt places → Decide of books all places (drop i all) → ArePut of books all (length all) places
put_all of books all i places past are so =
    let least : length all ≤ length all = omega arith in
    let same = drop_all i all past ∙ sym (drop_all (length all) all least) in
    record { few = least; some = λ some. some; are_at = are; decide = subst (λ rest. Decide of books all places rest) same so }
