-- ORDERS ARE SIFTED OUT of a queue, or one message: of its first so many the orders are given up, and the others stand last in it. A message
-- that comes to stand elsewhere stays what it is (`kind_stays`); one more of the queue is an order or another
-- (`orders_more`, `others_more`). By induction on lists. Used by sift (src/messages.rt) and by discard_orders
-- (src/queues.rt), whose queues stay sound (`sound_sifted`).
use Rattle.std.proofs.Common.{refl, arith, ◌≡◌, ◌∙◌, ap, ◌+◌, ◌≤◌, [], ◌∷◌, ◌++◌, ℕ, zero, suc, true, false, not, ◌==◌, List, Option, Some, None, cond, take, drop, slice_get, option_map}
use Rattle.std.proofs.lemmas.List.Elements.{filter-append}
use Rattle.std.proofs.lemmas.Bool.Decides.{nat_tests}
use Rattle.set_queues.specs.Messages.{Message, fate_at, with_fate, restood_one, restood, is_order, is_order_at}
use Rattle.set_queues.specs.Buffers.{Fate, Unacked, Lists, is_standing, same_fate, queue_at, with_queue, IsKnown}
use Rattle.set_queues.specs.Queues.{occurs, AreSound, orders_in, others_in, without}
use Rattle.set_queues.proofs.Standing.{same_self, take_get, moved_tie, queue_set, same_is, Moves, size_stays}
use Rattle.set_queues.proofs.Soundness.{profile_queue, sound_on}
use Rattle.set_queues.proofs.Tallies.{fit_restood}

kind_fated : (f : Fate) (slot : Option Message) → is_order (option_map (with_fate f) slot) ≡ is_order slot
kind_fated f None = refl
kind_fated f (Some m) = refl

kind_one : (n m : ℕ) (f : Fate) (ms : List (Option Message)) → is_order_at (restood_one n f ms) m ≡ is_order_at ms m
kind_one n m f [] = refl
kind_one zero zero f (x ∷ ms) = kind_fated f x
kind_one zero (suc m) f (x ∷ ms) = refl
kind_one (suc n) zero f (x ∷ ms) = refl
kind_one (suc n) (suc m) f (x ∷ ms) = kind_one n m f ms

pub kind_stays : (ns : List ℕ) (m : ℕ) (f : Fate) (ms : List (Option Message)) → is_order_at (restood ns f ms) m ≡ is_order_at ms m
kind_stays [] m f ms = refl
kind_stays (n ∷ ns) m f ms = kind_stays ns m f (restood_one n f ms) ∙ kind_one n m f ms

-- the next of the queue stands in front
pub next_there : (xs : List ℕ) (i x : ℕ) → slice_get xs i ≡ Some x → drop i xs ≡ x ∷ drop (i + 1) xs
next_there [] i x e = absurd cc
next_there (y ∷ xs) zero x e = let same : y ≡ x = cc in ap (λ (z : ℕ). z ∷ xs) same
next_there (y ∷ xs) (suc i) x e = grind (arith, next_there xs i x)

-- and is an order or another
pub orders_more : (ms : List (Option Message)) (xs : List ℕ) (i x : ℕ) → slice_get xs i ≡ Some x
    → orders_in ms (take (i + 1) xs) ≡ orders_in ms (take i xs) ++ cond (is_order_at ms x) (x ∷ []) []
orders_more ms xs i x e =
    ap (orders_in ms) (take_get xs i x e) ∙ filter-append (is_order_at ms) (take i xs) (x ∷ [])
    ∙ ap (λ (ys : List ℕ). orders_in ms (take i xs) ++ ys) (grind arith)

pub others_more : (ms : List (Option Message)) (xs : List ℕ) (i x : ℕ) → slice_get xs i ≡ Some x
    → others_in ms (take (i + 1) xs) ≡ others_in ms (take i xs) ++ cond (is_order_at ms x) [] (x ∷ [])
others_more ms xs i x e =
    ap (others_in ms) (take_get xs i x e) ∙ filter-append (λ (n : ℕ). not (is_order_at ms n)) (take i xs) (x ∷ [])
    ∙ ap (λ (ys : List ℕ). others_in ms (take i xs) ++ ys) (grind arith)

-- each number of a queue is an order's or another's
occurs_parted : (ms : List (Option Message)) (m : ℕ) (xs : List ℕ) → occurs m (others_in ms xs) + occurs m (orders_in ms xs) ≡ occurs m xs
occurs_parted ms m [] = refl
occurs_parted ms m (x ∷ xs) = grind (arith, occurs_parted ms m xs)

-- what holds of every set's queues goes on holding
pub sound_sifted : (from to : Fate) (q q' : Lists) (ms ms' : List (Option Message)) → AreSound q ms → is_standing from ≡ true → IsKnown from q
    → is_standing to ≡ false → ((l : ℕ) → same_fate from (Unacked l) ≡ false)
    → q' ≡ with_queue from (others_in ms (queue_at from q)) q → ms' ≡ restood (orders_in ms (queue_at from q)) to ms → AreSound q' ms'
sound_sifted from to q q' ms ms' s stood known final unsent e m = rw (e, m) (
    let left = others_in ms (queue_at from q) in
    let gone = orders_in ms (queue_at from q) in
    let there : (f : Fate) → is_standing f ≡ true → queue_at f (with_queue from left q) ≡ cond (same_fate from f) left (queue_at f q) =
    λ f t. queue_set from f left q stood known in
    let moves : Moves gone from to q (with_queue from left q) = λ f t m.
    let is = there f t in let parted = occurs_parted ms m (queue_at from q) in let same = same_is from f t in
    let away : same_fate to f ≡ false = grind (arith, same_is) in
    grind (arith, is, parted, same, away) in
    let within : (m : ℕ) → occurs m gone ≤ occurs m (queue_at from q) = λ m. omega (arith, occurs_parted ms m (queue_at from q)) in
    sound_on q _ ms _ s (size_stays from left q)
    (λ l. rw (there (Unacked l) refl, unsent l, profile_queue from left l q) (s.narrow l))
    (moved_tie q _ ms gone from to s.tied stood within moves) (fit_restood gone to ms s.fit))

-- ONE MESSAGE LEAVES a queue: one more of it stays or is that one.
pub without_more : (number : ℕ) (xs : List ℕ) (i x : ℕ) → slice_get xs i ≡ Some x
    → without number (take (i + 1) xs) ≡ without number (take i xs) ++ cond (x == number) [] (x ∷ [])
without_more number xs i x e =
    ap (without number) (take_get xs i x e) ∙ filter-append (λ (n : ℕ). not (n == number)) (take i xs) (x ∷ [])
    ∙ ap (λ (ys : List ℕ). without number (take i xs) ++ ys) (grind arith)

without_parted : (number m : ℕ) (xs : List ℕ) → occurs m (without number xs) + cond (number == m) (occurs number xs) 0 ≡ occurs m xs
without_parted number m [] = grind arith
without_parted number m (x ∷ xs) = grind (arith, nat_tests, without_parted number m xs)

-- what holds of every set's queues goes on holding, where it stands there once
pub sound_without : (number : ℕ) (from to : Fate) (q q' : Lists) (ms ms' : List (Option Message)) → AreSound q ms → is_standing from ≡ true
    → IsKnown from q → is_standing to ≡ false → ((l : ℕ) → same_fate from (Unacked l) ≡ false) → fate_at number ms ≡ Some from
    → q' ≡ with_queue from (without number (queue_at from q)) q → ms' ≡ restood_one number to ms → AreSound q' ms'
sound_without number from to q q' ms ms' s stood known final unsent at e m = rw (e, m) (
    let left = without number (queue_at from q) in
    let once : occurs number (queue_at from q) ≡ 1 = s.tied from stood number ∙ grind (arith, at, same_self) in
    let there : (f : Fate) → is_standing f ≡ true → queue_at f (with_queue from left q) ≡ cond (same_fate from f) left (queue_at f q) =
    λ f t. queue_set from f left q stood known in
    let moves : Moves (number ∷ []) from to q (with_queue from left q) = λ f t m.
    let is = there f t in let parted = without_parted number m (queue_at from q) in let same = same_is from f t in
    let away : same_fate to f ≡ false = grind (arith, same_is) in
    grind (arith, is, parted, same, away, once) in
    let within : (m : ℕ) → occurs m (number ∷ []) ≤ occurs m (queue_at from q) = λ m. grind (arith, nat_tests, once) in
    sound_on q _ ms _ s (size_stays from left q)
    (λ l. rw (there (Unacked l) refl, unsent l, profile_queue from left l q) (s.narrow l))
    (moved_tie q _ ms (number ∷ []) from to s.tied stood within moves) (fit_restood (number ∷ []) to ms s.fit))
