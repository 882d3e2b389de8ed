-- FILTERS OF ROWS, and of rows with other fates: what the tests of a state see when some rows turn in their places
-- (`turned_there`, `turned_same`, `turned_left`) or leave them and stand last (`moved_same`, `moved_joined`,
-- `moved_more`, `moved_gone`). And rows that are looked up: each number stands in one (`at_most_one`), a move keeps
-- what is found under it (`place_moved`, `body_moved`), and a row of a filter is the one that its number finds
-- (`row_in_filter`). Most are inductions on the rows, one for all that turn (`where_turned`). States don't occur.
-- Order.antt and Events.antt build on it, and pair_changeover's Reaching.antt.
use Rattle.l2_units.specs.declared.profile.Profile.{Profile}
use Rattle.l2_units.specs.Profile.{longest_body}
use Rattle.std.proofs.Common.{refl, arith, ◌≡◌, ◌∙◌, ap, sym, [], ◌∷◌, length, ◌≤◌, Bool, true, false, List, ◌++◌, map, filter, not, ◌+◌, ◌<◌, ℕ, ◌==◌, None, cond, zero, suc, drop, Some, slice_get, option_map}
use Rattle.set_model.specs.Rows.{Acked, Fate, Each, AreBefore, AreFit, AreMarked, Row, is_users, is_managements, fated, standing, IsNumbered, moved, picked_changed, counts_of, is_parked, stands_back, total_of, users, waits, was_acked, was_discarded, was_held, was_sent, appended, row_of, body_at, owner_at, changed, turned, with_fate, numbers, place}
use Rattle.std.proofs.lemmas.List.{append-nil, length-append, length-map, length_push}
pub use Rattle.std.proofs.lemmas.List.{nil_from_length as no_rows}
use Rattle.std.proofs.lemmas.List.Elements.{filter-append}
use Rattle.std.proofs.lemmas.List.Filters.{length-filter_both}
use Rattle.std.proofs.lemmas.Bool.Decides.{nat_tests}
use Rattle.std.proofs.Math.ListN.{drop_of_length-le}
use Rattle.set_model.proofs.Lists.{at_map}

-- One filter after another.
pub filter_comm : (p q : Row → Bool) (xs : List Row) → filter p (filter q xs) ≡ filter q (filter p xs)
filter_comm p q [] = refl
filter_comm p q (x ∷ xs) = grind (arith, filter_comm p q xs)

-- what the first test keeps passes the second
pub filter_within : (p q : Row → Bool) → ((x : Row) → p x ≡ true → q x ≡ true) → (xs : List Row) → filter p (filter q xs) ≡ filter p xs
filter_within p q w [] = refl
filter_within p q w (x ∷ xs) = grind (arith, filter_within p q w xs)

pub none_within : (test other : Fate → Bool) → ((f : Fate) → test f ≡ true → other f ≡ true) → (rows : List Row)
    → standing other rows ≡ [] → standing test rows ≡ []
none_within test other w rows none = sym (filter_within (λ row. test row.fate) (λ row. other row.fate) (λ row. w row.fate) rows) ∙ ap (standing test) none

-- nothing passes both
pub filter_apart : (p q : Row → Bool) → ((x : Row) → p x ≡ true → q x ≡ false) → (xs : List Row) → filter p (filter q xs) ≡ []
filter_apart p q w [] = refl
filter_apart p q w (x ∷ xs) = grind (arith, filter_apart p q w xs)

pub fewer_filter : (p : Row → Bool) (rows : List Row) → length (filter p rows) ≤ length rows
fewer_filter p rows = omega (arith, length-filter_both p (λ row. not (p row)) (λ row. refl) rows)

-- Rows that all got their fates.
pub filter_fated : (p : Row → Bool) (fate : Row → Fate) → ((x : Row) → p (fated fate x) ≡ p x) → (xs : List Row)
    → filter p (map (fated fate) xs) ≡ map (fated fate) (filter p xs)
filter_fated p fate same [] = refl
filter_fated p fate same (x ∷ xs) = grind (arith, filter_fated p fate same xs)

pub fated_all : (test : Fate → Bool) (fate : Row → Fate) → ((x : Row) → test (fate x) ≡ true) → (xs : List Row)
    → standing test (map (fated fate) xs) ≡ map (fated fate) xs
fated_all test fate h [] = refl
fated_all test fate h (x ∷ xs) = rw (h x) (ap (λ (ys : List Row). fated fate x ∷ ys) (fated_all test fate h xs))

pub fated_none : (test : Fate → Bool) (fate : Row → Fate) → ((x : Row) → test (fate x) ≡ false) → (xs : List Row) → standing test (map (fated fate) xs) ≡ []
fated_none test fate h [] = refl
fated_none test fate h (x ∷ xs) = rw (h x) (fated_none test fate h xs)

-- What holds of each row.
pub each_so : (P Q : Row → Type 0) → ((x : Row) → P x → Q x) → (rows : List Row) → Each P rows → Each Q rows
each_so P Q so [] e = tt
each_so P Q so (x ∷ rows) e = (so x e.0, each_so P Q so rows e.1)

pub each_append : {X : Type 0} (P : X → Type 0) (xs ys : List X) → Each P xs → Each P ys → Each P (xs ++ ys)
each_append P [] ys a b = b
each_append P (x ∷ xs) ys a b = (a.0, each_append P xs ys a.1 b)

pub each_filter : (P Q : Row → Type 0) (p : Row → Bool) → ((x : Row) → p x ≡ true → P x → Q x) → (rows : List Row) → Each P rows → Each Q (filter p rows)
each_filter P Q p so [] e = tt
each_filter P Q p so (x ∷ rows) e = grind (arith, each_filter P Q p so rows e.1)

pub marked_fated : (fate : Row → Fate) (xs : List Row) → AreMarked xs → AreMarked (map (fated fate) xs)
marked_fated fate [] a = a
marked_fated fate (x ∷ xs) a = (a.0, marked_fated fate xs a.1)

pub fit_fated : (p : Profile) (fate : Row → Fate) (xs : List Row) → AreFit p xs → AreFit p (map (fated fate) xs)
fit_fated p fate [] a = a
fit_fated p fate (x ∷ xs) a = (a.0, fit_fated p fate xs a.1)

-- Rows that leave their places and stand at the end, each with its fate.
module _ (test : Fate → Bool) (fate : Row → Fate) where
  pub moved_length : (rows : List Row) → length (moved test fate rows) ≡ length rows
  moved_length rows = grind (arith, length-append, length-map, length-filter_both)

  -- a test that doesn't look at the fate keeps the rows of the move that the list kept
  pub filter_moved : (p : Row → Bool) → ((x : Row) → p (fated fate x) ≡ p x) → (rows : List Row)
      → filter p (moved test fate rows) ≡ moved test fate (filter p rows)
  filter_moved p same rows = search (filter-append, filter_comm, filter_fated)

  pub moved_numbered : (given : ℕ) (rows : List Row) → IsNumbered given rows → IsNumbered given (moved test fate rows)
  moved_numbered given rows numbered number = grind (arith, filter_moved, moved_length, numbered)

  pub moved_fit : (q : Profile) (rows : List Row) → AreFit q rows → AreFit q (moved test fate rows)
  moved_fit q rows a = let fits =
      λ (p : Row → Bool). each_filter _ (λ row. length row.body ≤ longest_body q) p (λ x e f. f) rows a
      in search (each_append, fits, fit_fated)

  pub moved_marked : (rows : List Row) → AreMarked rows → AreMarked (moved test fate rows)
  moved_marked rows a = let marks =
      λ (p : Row → Bool). each_filter _ (λ row. is_users row ≡ not (is_managements row.body)) p (λ x e f. f) rows a
      in search (each_append, marks, marked_fated)

-- WHAT THE FILTERS SEE OF A MOVE.
module _ (test other : Fate → Bool) (fate : Row → Fate) (rows : List Row) where
  parts : standing other (moved test fate rows) ≡ standing other (standing (λ f. not (test f)) rows) ++ standing other (map (fated fate) (standing test rows))
  parts = filter-append (λ (row : Row). other row.fate) (standing (λ f. not (test f)) rows) (map (fated fate) (standing test rows))

  -- those that stay where none goes
  pub others_stay : ((f : Fate) → test f ≡ true → other f ≡ false) → standing other (standing (λ f. not (test f)) rows) ≡ standing other rows
  others_stay w = filter_within (λ (row : Row). other row.fate) (λ (row : Row). not (test row.fate)) (λ x e. grind (arith, w)) rows

  -- a place from which all rows go
  pub moved_gone : ((row : Row) → other (fate row) ≡ false) → ((f : Fate) → other f ≡ true → test f ≡ true) → standing other (moved test fate rows) ≡ []
  moved_gone h w = grind (arith, parts, filter_apart, fated_none)

  -- a place where none goes and none comes
  pub moved_same : ((row : Row) → other (fate row) ≡ false) → ((f : Fate) → test f ≡ true → other f ≡ false)
      → standing other (moved test fate rows) ≡ standing other rows
  moved_same h w = search (parts, others_stay, fated_none, append-nil)

  -- a place where they come, behind those that stand there
  pub moved_joined : ((row : Row) → other (fate row) ≡ true) → ((f : Fate) → test f ≡ true → other f ≡ false)
      → standing other (moved test fate rows) ≡ standing other rows ++ map (fated fate) (standing test rows)
  moved_joined h w = search (parts, others_stay, fated_all)

  -- a place where some of them come, behind those that stand there
  pub moved_more : ((f : Fate) → test f ≡ true → other f ≡ false)
      → standing other (moved test fate rows) ≡ standing other rows
      ++ standing other (map (fated fate) (standing test rows))
  moved_more w = parts ∙ ap (λ (ys : List Row). ys ++ standing other (map (fated fate) (standing test rows))) (others_stay w)

  -- a place from which they go, where none of them comes
  pub moved_off : standing other (map (fated fate) (standing test rows)) ≡ []
      → standing other (moved test fate rows) ≡ standing (λ f. not (test f)) (standing other rows)
  moved_off e = grind (arith, parts, append-nil, filter_comm)

-- where no row moves
pub moved_nothing : (test : Fate → Bool) (fate : Row → Fate) (rows : List Row) → standing test rows ≡ [] → moved test fate rows ≡ rows
moved_nothing test fate [] e = refl
moved_nothing test fate (x ∷ rows) e = grind (arith, moved_nothing test fate rows)

-- Each message is counted in one place.
pub all_counted : (rows : List Row)
    → length (standing waits rows) + length (standing was_sent rows) + length (standing was_acked rows) + length
    (standing was_held rows) + length (standing is_parked rows) + length (standing stands_back rows) + length
    (standing was_discarded rows) ≡ length rows
all_counted [] = refl
all_counted (x ∷ rows) = grind (arith, all_counted rows)

pub total_is : (rows : List Row) → total_of (counts_of rows) ≡ length (users rows)
total_is rows = omega (arith, all_counted (users rows))

-- Rows that are looked up, where each number stands in one row.
abbrev pub with_number : ℕ → List Row → List Row
with_number number rows = filter (λ row. row.number == number) rows

abbrev pub new_row : ℕ → List ℕ → Fate → Row
new_row number body fate = record { number = number; body = body; users = not (is_managements body); fate = fate }

-- and one of the management
abbrev pub new_order : ℕ → List ℕ → Fate → Row
new_order number body fate = record { number = number; body = body; users = false; fate = fate }

pub numbered_appended : (given : ℕ) (rows : List Row) (body : List ℕ) (fate : Fate) → IsNumbered given rows
    → IsNumbered (given + 1) (appended given rows body fate)
numbered_appended given rows body fate numbered number = grind (arith, nat_tests, filter-append, length-append, length_push)

pub same_numbers : (given : ℕ) (rows new : List Row)
    → ((number : ℕ) → length (with_number number new) ≡ length (with_number number rows)) → IsNumbered given rows
    → IsNumbered given new
same_numbers given rows new each numbered number = omega (arith, each number, numbered number)

-- Rows that get another fate in their places: the first n where a test tells. All of them are as many as there are rows.
-- What is kept where a row stays, and where one turns, is kept by the change.
module _ (test : Fate → Bool) (fate : Fate) (P : List Row → List Row → Type 0) (none : P [] [])
    (stays : (x : Row) (xs ys : List Row) → P xs ys → P (x ∷ xs) (x ∷ ys))
    (turns : (x : Row) (xs ys : List Row) → test x.fate ≡ true → P xs ys → P (x ∷ xs) (with_fate fate x ∷ ys)) where
  pub where_turned : (n : ℕ) (rows : List Row) → P rows (turned test fate n rows)
  where_turned zero [] = none
  where_turned zero (x ∷ rows) = stays x rows rows (where_turned zero rows)
  where_turned (suc n) [] = none
  where_turned (suc n) (x ∷ rows) = grind (arith, where_turned n rows, where_turned (suc n) rows)

  -- of those that are picked, where the test tells
  pub where_picked : (picks : Row → Bool) (rows : List Row) → P rows (picked_changed picks test fate rows)
  where_picked picks [] = none
  where_picked picks (x ∷ rows) = grind (arith, where_picked picks rows)

-- WHAT SUCH A CHANGE KEEPS.
pub record InPlace (test : Fate → Bool) (fate : Fate) (xs ys : List Row) : Type 0 where
  pub count : length ys ≡ length xs
  pub fit : (p : Profile) → AreFit p xs → AreFit p ys
  pub marked : AreMarked xs → AreMarked ys
  pub as_many : (p : Row → Bool) → ((f : Fate) (x : Row) → p (with_fate f x) ≡ p x) → length (filter p ys) ≡ length (filter p xs)
  pub bodies : (number : ℕ) → body_at number ys ≡ body_at number xs
  pub owners : (number : ℕ) → owner_at number ys ≡ owner_at number xs
  -- where no acknowledged one turns
  pub acked : ((l : ℕ) → test (Acked l) ≡ false) → length (standing was_acked (users xs)) ≤ length (standing was_acked (users ys))
  -- a place where none comes has no more than before; and where none turns either it has the same
  pub fewer : (other : Fate → Bool) → other fate ≡ false → length (standing other ys) ≤ length (standing other xs)
  pub same : (other : Fate → Bool) → other fate ≡ false → ((f : Fate) → test f ≡ true → other f ≡ false) → standing other ys ≡ standing other xs
  -- places to which none comes that wasn't there
  pub none : (p : Fate → Bool) → ((f : Fate) → test f ≡ true → p fate ≡ true → p f ≡ true) → standing p xs ≡ [] → standing p ys ≡ []
  pub no_users : (p : Fate → Bool) → ((f : Fate) → test f ≡ true → p fate ≡ true → p f ≡ true) → users (standing p xs) ≡ [] → users (standing p ys) ≡ []
  pub before : (p q : Fate → Bool) → ((f : Fate) → test f ≡ true → p fate ≡ true → p f ≡ true)
      → ((f : Fate) → test f ≡ true → q fate ≡ true → q f ≡ true) → AreBefore p q xs → AreBefore p q ys

pub turned_there : (test : Fate → Bool) (fate : Fate) (n : ℕ) (rows : List Row) → InPlace test fate rows (turned test fate n rows)
turned_there test fate n rows = where_turned test fate (InPlace test fate) (grind arith) (λ x xs ys p. grind arith) (λ x xs ys h p. grind arith) n rows

pub picked_there : (picks : Row → Bool) (test : Fate → Bool) (fate : Fate) (rows : List Row) → InPlace test fate rows (picked_changed picks test fate rows)
picked_there picks test fate rows = where_picked test fate (InPlace test fate) (grind arith) (λ x xs ys p. grind arith) (λ x xs ys h p. grind arith) picks rows

-- A place where none turns and none comes.
pub turned_same : (test other : Fate → Bool) (fate : Fate) → other fate ≡ false
    → ((f : Fate) → test f ≡ true → other f ≡ false) → (n : ℕ) (rows : List Row)
    → standing other (turned test fate n rows) ≡ standing other rows
turned_same test other fate o w n rows = (turned_there test fate n rows).same other o w

-- those that turned, or changed, left their place
pub turned_left : (test : Fate → Bool) (fate : Fate) → test fate ≡ false → (n : ℕ) (rows : List Row)
    → standing test (turned test fate n rows) ≡ drop n (standing test rows)
turned_left test fate o zero rows = refl
turned_left test fate o (suc n) [] = refl
turned_left test fate o (suc n) (x ∷ rows) = grind (arith, turned_left test fate o n rows, turned_left test fate o (suc n) rows)

pub changed_left : (test : Fate → Bool) (fate : Fate) → test fate ≡ false → (rows : List Row) → standing test (changed test fate rows) ≡ []
changed_left test fate o rows = turned_left test fate o (length rows) rows ∙ drop_of_length-le (standing test rows) (fewer_filter (λ row. test row.fate) rows)

-- What is found under a number, before and after a change.
pub at_most_one : (given number : ℕ) (rows : List Row) → IsNumbered given rows → length (with_number number rows) ≤ 1
at_most_one given number rows numbered = let one = numbered number in grind (arith, one)

pub row_is_first : (number : ℕ) (rows : List Row) → row_of number rows ≡ slice_get (with_number number rows) 0
row_is_first number [] = refl
row_is_first number (x ∷ rows) = grind (arith, row_is_first number rows)

-- where there are as many rows as before
pub numbered_on : (gone : ℕ) (rows new : List Row) → length new ≡ length rows → IsNumbered (gone + length rows) new → IsNumbered (gone + length new) new
numbered_on gone rows new long numbered = rw long numbered

-- a number that wasn't given out isn't found
pub not_found : (given number : ℕ) (rows : List Row) → IsNumbered given rows → given ≤ number → row_of number rows ≡ None
not_found given number rows numbered above = let none = numbered number in grind (arith, nat_tests, row_is_first, none, no_rows)

-- A MOVE: the row of a number is the one that it was, with the fate if it moved.
module _ (test : Fate → Bool) (fate : Row → Fate) where
  few_moved : (rows : List Row) → length rows ≤ 1
      → slice_get (moved test fate rows) 0
      ≡ option_map (λ row. cond (test row.fate) (fated fate row) row) (slice_get rows 0)
  few_moved [] l = refl
  few_moved (x ∷ []) l = grind arith
  few_moved (x ∷ y ∷ rows) l = absurd (omega (arith, l))

  row_moved : (given number : ℕ) (rows : List Row) → IsNumbered given rows
      → row_of number (moved test fate rows)
      ≡ option_map (λ row. cond (test row.fate) (fated fate row) row) (row_of number rows)
  row_moved given number rows numbered = let few = at_most_one given number rows numbered in grind (arith, row_is_first, filter_moved, few_moved, few)

  pub place_moved : (given number : ℕ) (rows : List Row) → IsNumbered given rows
      → place number (moved test fate rows) ≡ option_map (λ r. cond (test r.fate) (fate r) r.fate) (row_of number rows)
  place_moved given number rows numbered = let one = row_moved given number rows numbered in grind (arith, one)

  pub body_moved : (given number : ℕ) (rows : List Row) → IsNumbered given rows → body_at number (moved test fate rows) ≡ body_at number rows
  body_moved given number rows numbered = let one = row_moved given number rows numbered in grind (arith, one)

  pub owner_moved : (given number : ℕ) (rows : List Row) → IsNumbered given rows → owner_at number (moved test fate rows) ≡ owner_at number rows
  owner_moved given number rows numbered = let one = row_moved given number rows numbered in grind (arith, one)

-- UNIQUE: a row of a filter is the one that its number finds.
found_in : (p : Row → Bool) (rows : List Row) (i k : ℕ) (row : Row) → slice_get (filter p rows) i ≡ Some row
    → row.number ≡ k → length (with_number k rows) ≤ 1 → with_number k rows ≡ row ∷ []
found_in p [] i k row e n l = absurd cc
found_in p (x ∷ rows) zero k row e n l = grind (arith, nat_tests, no_rows (with_number k rows), found_in p rows zero k row)
found_in p (x ∷ rows) (suc i) k row e n l = grind (arith, nat_tests, no_rows (with_number k rows), found_in p rows i k row, found_in p rows (suc i) k row)

pub row_in_filter : (given : ℕ) (p : Row → Bool) (rows : List Row) (i k : ℕ) (row : Row) → IsNumbered given rows
    → slice_get (filter p rows) i ≡ Some row → row.number ≡ k → row_of k rows ≡ Some row
row_in_filter given p rows i k row numbered e n = let one = found_in p rows i k row e n (at_most_one given k rows numbered) in grind (arith, row_is_first)

-- Whoever keeps the numbers of a filter, as a window does, finds under each of them the row of that place.
pub record Found (given : ℕ) (p : Row → Bool) (rows : List Row) (i number : ℕ) : Type 0 where
  pub row : Row
  pub there : slice_get (filter p rows) i ≡ Some row
  pub body_is : body_at number rows ≡ Some row.body
  pub below : number < given

pub found_by_number : (given : ℕ) (p : Row → Bool) (rows : List Row) (i number : ℕ) → IsNumbered given rows
    → slice_get (numbers (filter p rows)) i ≡ Some number → Found given p rows i number
found_by_number given p rows i number numbered e =
    let at = at_map (λ (row : Row). row.number) (filter p rows) i number e in
    let one = found_in p rows i number at.0 at.1 at.2 (at_most_one given number rows numbered) in
    let few = numbered number in
    grind (arith, nat_tests, row_is_first, at, one, few)
