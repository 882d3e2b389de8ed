-- A MESSAGE PASSES the next one: it stands behind one more of a list. The function insert_reserved (src/queue.rt) uses
-- it. The induction is on the place.
use Rattle.std.proofs.Common.{arith, ◌≡◌, ◌+◌, ◌++◌, ◌∷◌, [], ℕ, zero, suc, List, Some, take, drop, slice_get, slice_set}

pub passes : (i : ℕ) (xs : List ℕ) (message next : ℕ) → slice_get (take i xs ++ message ∷ drop i xs) (i + 1) ≡ Some next
    → slice_set (slice_set (take i xs ++ message ∷ drop i xs) i next) (i + 1) message ≡ take (i + 1) xs ++ message ∷ drop (i + 1) xs
passes zero [] message next e = grind arith
passes zero (x ∷ xs) message next e = grind arith
passes (suc i) [] message next e = grind arith
passes (suc i) (x ∷ xs) message next e = grind (arith, passes i xs message next)
