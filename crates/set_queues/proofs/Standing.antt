-- Messages that come to stand elsewhere, and the queues that name them.
use Rattle.std.proofs.Common.{refl, arith, ◌≡◌, ◌∙◌, ap, sym, ◌<◌, ◌+◌, ◌==◌, [], ◌∷◌, ◌++◌, length, map, replicate, ℕ, zero, suc, cond, get_or, List, Some, slice_get, slice_set, option_map, ◌≤◌, Bool, true, false, Option, None, take, drop, append_assoc}
use Rattle.std.proofs.Math.Seq.{map-set_same}
use Rattle.std.proofs.lemmas.List.{map-append, replicate_more, map-set, take-append-drop, append-nil, set-get_or, get_or-set_same, get_or-set_other}
use Rattle.std.proofs.lemmas.Option.{slice_get-map, get_or_from_slice_get, slice_get_cases, slice_get_within, slice_get_past, slice_get-get_or}
use Rattle.std.specs.Prelude.{IsSome}
use Rattle.set_queues.specs.Messages.{one_if, Message, with_fate, restood_one, restood, slot_at, fate_at}
use Rattle.std.proofs.lemmas.Bool.Decides.{nat_tests}
use Rattle.std.proofs.lemmas.Bool.{eq-eqb}
use Rattle.std.proofs.lemmas.Grind.{take_at_read}
use Rattle.std.specs.Option.{option_map_or}
use Rattle.set_queues.specs.Buffers.{updated, Fate, Lists, is_standing, same_fate, queue_at, Back, with_queue, IsKnown, IsQueued}
use Rattle.set_queues.specs.Queues.{occurs, AreTied, AreGiven}

-- LISTS of which the element at one place changes

module _ {X : Type 0} where
  pub set_updated : (f : X → X) (xs : List X) (n : ℕ) (x : X) → slice_get xs n ≡ Some x → slice_set xs n (f x) ≡ updated n f xs
  set_updated f [] n x e = refl
  set_updated f (y ∷ xs) zero x e = let g : y ≡ x = cc in ap (λ (z : X). f z ∷ xs) (cc)
  set_updated f (y ∷ xs) (suc n) x e = ap (λ (zs : List X). y ∷ zs) (set_updated f xs n x e)

  pub length-updated : (f : X → X) (xs : List X) (n : ℕ) → length (updated n f xs) ≡ length xs
  length-updated f [] n = refl
  length-updated f (y ∷ xs) zero = refl
  length-updated f (y ∷ xs) (suc n) = ap suc (length-updated f xs n)

  pub updated_same : (f : X → X) (xs : List X) (n : ℕ) → slice_get (updated n f xs) n ≡ option_map f (slice_get xs n)
  updated_same f [] n = refl
  updated_same f (y ∷ xs) zero = refl
  updated_same f (y ∷ xs) (suc n) = updated_same f xs n

  pub updated_other : (f : X → X) (xs : List X) (n k : ℕ) → (n ≡ k → ⊥) → slice_get (updated n f xs) k ≡ slice_get xs k
  updated_other f [] n k ne = refl
  updated_other f (y ∷ xs) zero zero ne = absurd (ne refl)
  updated_other f (y ∷ xs) zero (suc k) ne = refl
  updated_other f (y ∷ xs) (suc n) zero ne = refl
  updated_other f (y ∷ xs) (suc n) (suc k) ne = updated_other f xs n k (λ e. ne (ap suc e))

  pub updated_there : (f : X → X) (xs : List X) (n : ℕ) (x : X) → slice_get xs n ≡ Some x → slice_get (updated n f xs) n ≡ Some (f x)
  updated_there f xs n x e = updated_same f xs n ∙ ap (option_map f) e

module _ {X Y : Type 0} where
  -- a changed element is seen as a changed view
  pub map_set_updated : (v : X → Y) (f : Y → Y) (xs : List X) (n : ℕ) (x y : X) → slice_get xs n ≡ Some x → v y ≡ f (v x) → map v (slice_set xs n y) ≡ updated n f (map v xs)
  map_set_updated v f xs n x y e h = map-set v xs n y ∙ ap (slice_set (map v xs) n) h ∙ set_updated f (map v xs) n (v x) (slice_get-map v xs n ∙ ap (option_map v) e)

  pub map_set_same : (v : X → Y) (xs : List X) (n : ℕ) (x y : X) → slice_get xs n ≡ Some x → v y ≡ v x → map v (slice_set xs n y) ≡ map v xs
  map_set_same v xs n x y e h = map-set_same v xs n y x (h ∙ ap v (sym (get_or_from_slice_get xs n x x e)))

module _ {X : Type 0} where
  pub updated_twice : (f g : X → X) (xs : List X) (n : ℕ) → updated n f (updated n g xs) ≡ updated n (λ (x : X). f (g x)) xs
  updated_twice f g [] n = refl
  updated_twice f g (x ∷ xs) zero = refl
  updated_twice f g (x ∷ xs) (suc n) = ap (λ (zs : List X). x ∷ zs) (updated_twice f g xs n)

  pub updated_id : (f : X → X) (xs : List X) (n : ℕ) → ((x : X) → slice_get xs n ≡ Some x → f x ≡ x) → updated n f xs ≡ xs
  updated_id f [] n h = refl
  updated_id f (y ∷ xs) zero h = ap (λ (z : X). z ∷ xs) (h y refl)
  updated_id f (y ∷ xs) (suc n) h = ap (λ (zs : List X). y ∷ zs) (updated_id f xs n h)

  -- one element is set: what an index reads
  pub read_set : (x : X) (xs : List X) (n k : ℕ) (d : X) → n < length xs → get_or (updated n (λ (y : X). x) xs) k d ≡ cond (n == k) x (get_or xs k d)
  read_set x xs n k d h = rw (← set_updated (λ (y : X). x) xs n (get_or xs n x) (slice_get-get_or xs n x h)) (grind (arith, nat_tests, get_or-set_same, get_or-set_other))

  -- one more at the end
  pub get_push : (xs : List X) (y : X) (k : ℕ) → slice_get (xs ++ y ∷ []) k ≡ cond (length xs == k) (Some y) (slice_get xs k)
  get_push [] y zero = refl
  get_push [] y (suc k) = grind arith
  get_push (x ∷ xs) y zero = grind arith
  get_push (x ∷ xs) y (suc k) = let again = get_push xs y k in grind arith

-- MESSAGES that come to stand elsewhere

-- of a fate that isn't final
pub same_is : (f g : Fate) → is_standing g ≡ true → same_fate f g ≡ true → f ≡ g
same_is f g s e = grind arith

-- how often a number stands in a list

pub occurs-append : (m : ℕ) (xs ys : List ℕ) → occurs m (xs ++ ys) ≡ occurs m xs + occurs m ys
occurs-append m [] ys = omega arith
occurs-append m (x ∷ xs) ys = omega (arith, occurs-append m xs ys)

pub occurs-split : (m k : ℕ) (xs : List ℕ) → occurs m (take k xs) + occurs m (drop k xs) ≡ occurs m xs
occurs-split m k xs = omega (arith, occurs-append m (take k xs) (drop k xs), ap (occurs m) (take-append-drop k xs))

pub occurs_here : (x m : ℕ) → x ≡ m → one_if (x == m) ≡ 1
occurs_here x m e = ap one_if (eq-eqb x m e)

length-restood_one : (n : ℕ) (f : Fate) (ms : List (Option Message)) → length (restood_one n f ms) ≡ length ms
length-restood_one n f [] = refl
length-restood_one zero f (m ∷ ms) = refl
length-restood_one (suc n) f (m ∷ ms) = ap suc (length-restood_one n f ms)

pub length-restood : (ns : List ℕ) (f : Fate) (ms : List (Option Message)) → length (restood ns f ms) ≡ length ms
length-restood [] f ms = refl
length-restood (n ∷ ns) f ms = length-restood ns f (restood_one n f ms) ∙ length-restood_one n f ms

pub restood-append : (xs ys : List ℕ) (f : Fate) (ms : List (Option Message)) → restood (xs ++ ys) f ms ≡ restood ys f (restood xs f ms)
restood-append [] ys f ms = refl
restood-append (x ∷ xs) ys f ms = restood-append xs ys f (restood_one x f ms)

-- A SLOT, and a further one
module _ {X : Type 0} where
  pub slot_there : (xs : List (Option X)) (n : ℕ) (x : X) → slot_at n xs ≡ Some x → slice_get xs n ≡ Some (Some x)
  slot_there [] n x e = absurd (cc)
  slot_there (y ∷ ys) zero x e = ap Some e
  slot_there (y ∷ ys) (suc n) x e = slot_there ys n x e

  pub slot_get : (xs : List (Option X)) (n : ℕ) (slot : Option X) → slice_get xs n ≡ Some slot → slot_at n xs ≡ slot
  slot_get [] n slot e = absurd (cc)
  slot_get (y ∷ ys) zero slot e = cc
  slot_get (y ∷ ys) (suc n) slot e = slot_get ys n slot e

  pub slot_push : (xs : List (Option X)) (slot : Option X) (k : ℕ) → slot_at k (xs ++ slot ∷ []) ≡ cond (length xs == k) slot (slot_at k xs)
  slot_push [] slot zero = refl
  slot_push [] slot (suc k) = grind arith
  slot_push (x ∷ xs) slot zero = grind arith
  slot_push (x ∷ xs) slot (suc k) = let again = slot_push xs slot k in grind arith

  pub slot_past : (xs : List (Option X)) (k : ℕ) → length xs ≤ k → slot_at k xs ≡ None
  slot_past [] k h = refl
  slot_past (x ∷ xs) zero h = absurd (omega (arith, h))
  slot_past (x ∷ xs) (suc k) h = slot_past xs k (omega (arith, h))

  pub slot_map : (h : Option X → Option X) → h None ≡ None → (xs : List (Option X)) (k : ℕ) → slot_at k (map h xs) ≡ h (slot_at k xs)
  slot_map h e [] k = sym e
  slot_map h e (x ∷ xs) zero = refl
  slot_map h e (x ∷ xs) (suc k) = slot_map h e xs k

  -- slots are the same where each is
  pub slots_equal : (xs ys : List (Option X)) → length xs ≡ length ys → ((k : ℕ) → slot_at k xs ≡ slot_at k ys) → xs ≡ ys
  slots_equal [] [] e same = refl
  slots_equal [] (y ∷ ys) e same = absurd (omega (arith, e))
  slots_equal (x ∷ xs) [] e same = absurd (omega (arith, e))
  slots_equal (x ∷ xs) (y ∷ ys) e same = rw (same 0, slots_equal xs ys (omega (arith, e)) (λ k. same (suc k))) refl

-- a message that comes to stand elsewhere, and another one
pub stood_is : (n : ℕ) (f : Fate) (ms : List (Option Message)) → restood_one n f ms ≡ updated n (option_map (with_fate f)) ms
stood_is n f [] = refl
stood_is zero f (m ∷ ms) = refl
stood_is (suc n) f (m ∷ ms) = ap (λ (xs : List (Option Message)). m ∷ xs) (stood_is n f ms)

pub stood_same : (n : ℕ) (f : Fate) (ms : List (Option Message)) → slot_at n (restood_one n f ms) ≡ option_map (with_fate f) (slot_at n ms)
stood_same n f [] = refl
stood_same zero f (m ∷ ms) = refl
stood_same (suc n) f (m ∷ ms) = stood_same n f ms

pub stood_other : (n k : ℕ) (f : Fate) (ms : List (Option Message)) → (n ≡ k → ⊥) → slot_at k (restood_one n f ms) ≡ slot_at k ms
stood_other n k f [] ne = refl
stood_other zero zero f (m ∷ ms) ne = absurd (ne refl)
stood_other zero (suc k) f (m ∷ ms) ne = refl
stood_other (suc n) zero f (m ∷ ms) ne = refl
stood_other (suc n) (suc k) f (m ∷ ms) ne = stood_other n k f ms (λ e. ne (ap suc e))

-- each of them has the new fate, and any other stays as it is
pub restood_at : (m : ℕ) (ns : List ℕ) (f : Fate) (ms : List (Option Message)) → slot_at m (restood ns f ms) ≡ cond (occurs m ns == 0) (slot_at m ms) (option_map (with_fate f) (slot_at m ms))
restood_at m [] f ms = refl
restood_at m (n ∷ ns) f ms = let again = restood_at m ns f (restood_one n f ms) in grind (arith, nat_tests, stood_same, stood_other)

pub fate_stays : (m : ℕ) (ns : List ℕ) (f : Fate) (ms : List (Option Message)) → occurs m ns ≡ 0 → fate_at m (restood ns f ms) ≡ fate_at m ms
fate_stays m ns f ms z = grind (arith, restood_at)

pub fate_moves : (m : ℕ) (ns : List ℕ) (f : Fate) (ms : List (Option Message)) → IsSome (slot_at m ms) → 0 < occurs m ns → fate_at m (restood ns f ms) ≡ Some f
fate_moves m ns f ms b z = grind (arith, nat_tests, restood_at)

-- THE TIE, when messages move from one queue to another, or to none

abbrev pub Moves : List ℕ → Fate → Fate → Lists → Lists → Type 0
Moves ns from to q q' = (f : Fate) → is_standing f ≡ true → (m : ℕ) → occurs m (queue_at f q') + cond (same_fate from f) (occurs m ns) 0 ≡ occurs m (queue_at f q) + cond (same_fate to f) (occurs m ns) 0

has_of : (g : Fate) (o : Option Fate) → is_standing g ≡ true → option_map_or (λ (f : Fate). same_fate f g) o false ≡ true → o ≡ Some g
has_of g o s e = grind arith

pub same_self : (f : Fate) → is_standing f ≡ true → same_fate f f ≡ true
same_self f s = grind arith

-- what stands in a queue has been given out
pub given_queue : (q : Lists) (ms : List (Option Message)) (f : Fate) → AreTied q ms → is_standing f ≡ true → AreGiven (queue_at f q) ms
given_queue q ms f tie s n h = let stood = tie f s n in grind arith

pub moved_tie : (q q' : Lists) (ms : List (Option Message)) (ns : List ℕ) (from to : Fate) → AreTied q ms → is_standing from ≡ true → ((m : ℕ) → occurs m ns ≤ occurs m (queue_at from q)) → Moves ns from to q q' → AreTied q' (restood ns to ms)
moved_tie q q' ms ns from to tie s within moves f sf m = let given = given_queue q ms from tie s m in grind (arith, fate_stays, has_of, fate_moves)

-- the first so many, one after another

pub take_get : (xs : List ℕ) (i x : ℕ) → slice_get xs i ≡ Some x → take (i + 1) xs ≡ take i xs ++ x ∷ []
take_get xs i x h = rw (get_or_from_slice_get xs i x x h) at (take_at_read xs i x (slice_get_within xs i x h)).1

pub none_past : (xs : List ℕ) (i : ℕ) → slice_get xs i ≡ None → i < length xs → ⊥
none_past xs i e h = let some = slice_get-get_or xs i 0 h in absurd (cc)

pub ruleset laws = (same_self, slice_get_past, slot_past)

-- A QUEUE is replaced by another list

pub queue_set : (g f : Fate) (numbers : List ℕ) (q : Lists) → is_standing g ≡ true → IsKnown g q → queue_at f (with_queue g numbers q) ≡ cond (same_fate g f) numbers (queue_at f q)
queue_set g f ns q s h = grind (arith, updated_there, updated_other, slice_get_cases, read_set)

-- the links stay as many
pub links_stay : (g : Fate) (numbers : List ℕ) (q : Lists) → length (with_queue g numbers q).links ≡ length q.links
links_stay g ns q = grind (arith, length-updated)

pub ruleset links = (links_stay, length-updated)

-- as many links, and as many codes
pub record SameSize (q q' : Lists) : Type 0 where
  pub links : length q'.links ≡ length q.links
  pub back : length q'.back ≡ length q.back

pub size_stays : (g : Fate) (numbers : List ℕ) (q : Lists) → SameSize q (with_queue g numbers q)
size_stays g ns q = record { links = links_stay g ns q; back = grind (arith, length-updated) }

pub known_on : (f : Fate) (q q' : Lists) → SameSize q q' → IsKnown f q → IsKnown f q'
known_on f q q' e h = grind arith

-- replaced twice; by itself
pub queue_twice : (g : Fate) (xs ys : List ℕ) (q : Lists) → with_queue g xs (with_queue g ys q) ≡ with_queue g xs q
queue_twice g xs ys q = grind (arith, updated_twice)

pub queue_id : (g : Fate) (q : Lists) → IsKnown g q → with_queue g (queue_at g q) q ≡ q
queue_id (Back c) q h = let x = slice_get-get_or q.back c [] h in grind (arith, updated_id)
queue_id g q h = grind (arith, updated_id, slice_get_cases)

pub queued_stands : (f : Fate) → IsQueued f → is_standing f ≡ true
queued_stands f h = grind arith

pub queue_away : (g f : Fate) (xs : List ℕ) (q now : Lists) → now ≡ with_queue g xs q → IsKnown g q → same_fate g f ≡ false → queue_at f now ≡ queue_at f q
queue_away g f xs q now e h n = grind (arith, queue_set)

pub known_with : (f g : Fate) (xs : List ℕ) (q now : Lists) → now ≡ with_queue g xs q → IsKnown f q → IsKnown f now
known_with f g xs q now e h = rw e (known_on f q _ (size_stays g xs q) h)

-- the next of a list stands last in a queue that was replaced
pub queue_next : (g : Fate) (xs ys : List ℕ) (i m : ℕ) (q now new : Lists) → IsKnown g q → now ≡ with_queue g (xs ++ take i ys) q → slice_get ys i ≡ Some m → new ≡ with_queue g (queue_at g now ++ m ∷ []) now → new ≡ with_queue g (xs ++ take (i + 1) ys) q
queue_next g xs ys i m q now new h e f n =
    let more : with_queue g (queue_at g now ++ m ∷ []) now ≡ with_queue g ((xs ++ take i ys) ++ m ∷ []) q = grind (arith, queue_set, same_self, queue_twice) in
    rw (n, more, take_get ys i m f) (simp append_assoc)

pub ruleset passing = (queue_id, queue_away, known_with, none_past, append-nil)
