-- A NUMBER GOES BEHIND THE ORDERS that stand foremost in a queue: the search passes one order (`passed_order`), and ends
-- where none stands (`ends`); and what holds of every set's queues holds with it (`sound_ahead`). The inductions are on
-- the queue. The functions orders_ahead and add_ahead (src/queues.rt) use it.
use Rattle.std.proofs.Common.{arith, ◌≡◌, ◌+◌, ◌++◌, ◌∷◌, ◌==◌, [], ℕ, zero, suc, true, false, List, Option, Some, length, take, drop, slice_get}
use Rattle.set_queues.specs.Buffers.{Lists, IsKnown, IsQueued, queue_at, with_queue}
use Rattle.set_queues.specs.Messages.{Message, IsFit, is_order_at, one_if}
use Rattle.set_queues.specs.Queues.{AreSound, behind_orders, occurs}
use Rattle.set_queues.proofs.Soundness.{sound_put}

module _ (ms : List (Option Message)) (n : ℕ) where
  pub passed_order : (i x : ℕ) (xs : List ℕ) → slice_get xs i ≡ Some x → is_order_at ms x ≡ true
      → take i xs ++ behind_orders ms n (drop i xs) ≡ take (i + 1) xs ++ behind_orders ms n (drop (i + 1) xs)
  passed_order i x [] there order = grind arith
  passed_order zero x (y ∷ ys) there order = grind arith
  passed_order (suc i) x (y ∷ ys) there order = grind (arith, passed_order i x ys)

  pub ends : (i x : ℕ) (xs : List ℕ) → slice_get xs i ≡ Some x → is_order_at ms x ≡ false → behind_orders ms n (drop i xs) ≡ n ∷ drop i xs
  ends i x [] there other = grind arith
  ends zero x (y ∷ ys) there other = grind arith
  ends (suc i) x (y ∷ ys) there other = ends i x ys there other

  -- it stands there once more
  pub occurs_ahead : (m : ℕ) (xs : List ℕ) → occurs m (behind_orders ms n xs) ≡ occurs m xs + one_if (n == m)
  occurs_ahead m [] = grind arith
  occurs_ahead m (x ∷ xs) = grind (arith, occurs_ahead m xs)

pub sound_ahead : (q : Lists) (ms : List (Option Message)) (x : Message) → AreSound q ms → IsFit x → IsKnown x.fate q → IsQueued x.fate
    → AreSound (with_queue x.fate (behind_orders ms (length ms) (queue_at x.fate q)) q) (ms ++ Some x ∷ [])
sound_ahead q ms x s fit k u = sound_put q ms x _ s fit k u (λ m. occurs_ahead ms (length ms) m (queue_at x.fate q))
