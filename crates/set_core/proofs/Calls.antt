-- THE CALLS OF ACTORS, entry by entry: an entry is one call more of its own actor (`its_own`) and none of any other
-- (`others`), so the sum of all calls grows by one (`sums_more`), and no actor made more than all did (`in_sum`). The
-- same goes for an earlier history's calls with those that came since (`users_added`, `terminals_added`). The
-- inductions are on the history, and on the lists of 64 users and 16 terminals. Keeping.antt makes a set's books of it;
-- the function apply_into of src/set.rt and history_audit's Heard.antt use it too.
use Rattle.std.proofs.Common.{refl, arith, ◌≡◌, ◌∙◌, ap, sym, ◌<◌, ◌≤◌, [], ◌∷◌, length, ℕ, zero, suc, ◌+◌, Bool, true, false, List, ◌++◌, ◌==◌, All, replicate, slice_index, sum}
use Rattle.std.specs.Prelude.{if◌then◌else◌}
use Rattle.std.proofs.lemmas.Bool.Decides.{nat_tests}
use Rattle.set_events.specs.declared.event.Actor.{Actor}
use Rattle.set_events.specs.declared.history.Entry.{Entry}
use Rattle.set_events.specs.declared.event.Actor.TheVariants.{User, Terminal}
use Rattle.std.proofs.lemmas.List.Sums.{sum_by-set, sum_by-cons, get_or-le-sum_by}
use Rattle.std.proofs.lemmas.List.Folds.{sum_by-replicate}
use Rattle.set_core.specs.Gaining.{one_more, users_after, terminals_after}
use Rattle.set_model.specs.History.{IsActor, added, calls_of, calls_from}

-- one entry more
pub calls_more : (is_it : Actor → Bool) (history : List Entry) (entry : Entry) → calls_of is_it (history ++ entry ∷ []) ≡ calls_of is_it history + (if is_it entry.who then 1 else 0)
calls_more is_it [] entry = omega arith
calls_more is_it (x ∷ entries) entry = omega (arith, calls_more is_it entries entry)

module _ (is_it : ℕ → Actor → Bool) (history : List Entry) (entry : Entry) where
  none_of : (k : ℕ) → is_it k entry.who ≡ false → calls_of (is_it k) (history ++ entry ∷ []) ≡ calls_of (is_it k) history
  none_of k e = calls_more (is_it k) history entry ∙ ap (λ (b : Bool). calls_of (is_it k) history + (if b then 1 else 0)) e ∙ omega arith

  one_of : (k : ℕ) → is_it k entry.who ≡ true → calls_of (is_it k) (history ++ entry ∷ []) ≡ calls_of (is_it k) history + 1
  one_of k e = calls_more (is_it k) history entry ∙ ap (λ (b : Bool). calls_of (is_it k) history + (if b then 1 else 0)) e

  pub others : (k n : ℕ) → ((i : ℕ) → k ≤ i → is_it i entry.who ≡ false) → calls_from is_it k n (history ++ entry ∷ []) ≡ calls_from is_it k n history
  unfolding calls_from
  others k zero h = refl
  others k (suc n) h = rw (none_of k (h k (omega arith)), others (suc k) n (λ i g. h i (omega (arith, g)))) refl

  pub its_own : (m : ℕ) → ((i : ℕ) → is_it i entry.who ≡ (m == i)) → (k n j : ℕ) → m ≡ k + j → j < n → calls_from is_it k n (history ++ entry ∷ []) ≡ one_more j (calls_from is_it k n history)
  unfolding calls_from
  its_own m h k zero j e q = absurd (omega (arith, q))
  its_own m h k (suc n) zero e q =
      let here : (m == k) ≡ true = grind (arith, nat_tests, e) in
      rw (one_of k (h k ∙ here), others (suc k) n (λ i g. h i ∙ passed i g)) refl
    where
      passed : (i : ℕ) → suc k ≤ i → (m == i) ≡ false
      passed i g = grind (arith, nat_tests, e)
  its_own m h k (suc n) (suc j) e q =
      let other : (m == k) ≡ false = grind (arith, nat_tests, e) in
      rw (none_of k (h k ∙ other), its_own m h (suc k) n j (omega (arith, e)) (omega (arith, q))) refl

-- THE SUM of all calls.
pub length-calls : (is_it : ℕ → Actor → Bool) (k n : ℕ) (history : List Entry) → length (calls_from is_it k n history) ≡ n
unfolding calls_from
length-calls is_it k zero history = refl
length-calls is_it k (suc n) history = ap suc (length-calls is_it (suc k) n history)

sum_more : (number : ℕ) (calls : List ℕ) → number < length calls → sum (one_more number calls) ≡ sum calls + 1
sum_more number calls h = omega (arith, sum_by-set (λ n. n) calls number (slice_index calls number + 1) 0 h)

pub sums_more : (who : Actor) (users terminals : List ℕ) → length users ≡ 64 → length terminals ≡ 16 → IsActor who → sum (users_after who users) + sum (terminals_after who terminals) ≡ sum users + sum terminals + 1
sums_more (User number) users terminals u t a = omega (arith, sum_more number users (omega (arith, u, a)))
sums_more (Terminal link) users terminals u t a = omega (arith, sum_more link terminals (omega (arith, t, a)))

-- no actor made more calls than all did
pub in_sum : (calls : List ℕ) (i : ℕ) → slice_index calls i ≤ sum calls
in_sum [] i = omega arith
in_sum (x ∷ xs) zero = omega (arith, sum_by-cons (λ n. n) x xs)
in_sum (x ∷ xs) (suc i) = omega (arith, sum_by-cons (λ n. n) x xs, in_sum xs i)

pub all_in_sum : (calls : List ℕ) (bound : ℕ) → sum calls ≤ bound → All (λ (n : ℕ). n ≤ bound) calls
all_in_sum calls bound few i d low = omega (arith, get_or-le-sum_by (λ n. n) calls i d low, few)

-- THE CALLS of an earlier history, with those that came since added to them.
pub sum-added : (before since : List ℕ) → sum (added before since) ≡ sum before + sum since
sum-added [] ns = omega arith
sum-added (m ∷ ms) [] = omega arith
sum-added (m ∷ ms) (n ∷ ns) = omega (arith, sum_by-cons (λ n. n) (m + n) (added ms ns), sum_by-cons (λ n. n) m ms, sum_by-cons (λ n. n) n ns, sum-added ms ns)

added_more : (number : ℕ) (before since : List ℕ) → length before ≡ length since → number < length since → added before (one_more number since) ≡ one_more number (added before since)
added_more j [] [] e low = absurd (omega (arith, low))
added_more j [] (n ∷ ns) e low = absurd (omega (arith, e))
added_more j (m ∷ ms) [] e low = absurd (omega (arith, low))
added_more zero (m ∷ ms) (n ∷ ns) e low = ap (λ (k : ℕ). k ∷ added ms ns) (omega arith)
added_more (suc j) (m ∷ ms) (n ∷ ns) e low = ap (λ (xs : List ℕ). (m + n) ∷ xs) (added_more j ms ns (omega (arith, e)) (omega (arith, low)))

pub users_added : (who : Actor) (before since : List ℕ) → length before ≡ 64 → length since ≡ 64 → IsActor who → added before (users_after who since) ≡ users_after who (added before since)
users_added (User number) before since b s a = added_more number before since (b ∙ sym s) (omega (arith, s, a))
users_added (Terminal link) before since b s a = refl

pub terminals_added : (who : Actor) (before since : List ℕ) → length before ≡ 16 → length since ≡ 16 → IsActor who → added before (terminals_after who since) ≡ terminals_after who (added before since)
terminals_added (User number) before since b s a = refl
terminals_added (Terminal link) before since b s a = added_more link before since (b ∙ sym s) (omega (arith, s, a))

pub length-added : (before since : List ℕ) → length before ≡ length since → length (added before since) ≡ length before
length-added [] ns e = sym e
length-added (m ∷ ms) [] e = refl
length-added (m ∷ ms) (n ∷ ns) e = ap suc (length-added ms ns (omega (arith, e)))

-- of an empty history
pub none_added : (is_it : ℕ → Actor → Bool) (before : List ℕ) (k n : ℕ) → length before ≡ n → added before (calls_from is_it k n []) ≡ before
unfolding calls_from
none_added is_it [] k n e = grind (arith, e)
none_added is_it (m ∷ ms) k zero e = refl
none_added is_it (m ∷ ms) k (suc n) e = rw (none_added is_it ms (suc k) n (omega (arith, e))) (ap (λ (j : ℕ). j ∷ ms) (omega arith))

pub no_sum : (n : ℕ) → sum (replicate n 0) ≡ 0
no_sum n = omega (arith, sum_by-replicate (λ n. n) n 0)
