-- WHAT STANDS IN EACH PLACE after rows came to stand elsewhere, queue after queue, and where each number stands then
-- (`Shifts`). The first so many of a place get a fate (`turned_shifts`): they stand last in their new place where none
-- there stands behind one of them. All of one or more places go (`moved_shifts`), a message is new and stands last
-- (`appended_at`) or ahead of users' (`ahead_at`), or rows stand last with their own fates (`parted_at`). Each number stands in one row, so it went or stayed (`GoesTo`),
-- and what stood somewhere has a message (`given_all`). The inductions are on the rows. States.antt alone uses it, and
-- lets the queues follow.
use Rattle.std.proofs.Common.{append_assoc, slice_get, arith, refl, ap, sym, ◌∙◌, Option, ◌≡◌, ◌≤◌, ◌<◌, [], ◌∷◌, length, ℕ, zero, suc, Bool, true, false, List, ◌++◌, Some, None, take, drop, cond, not, ◌&&◌, ◌==◌, filter, option_map}
use Rattle.std.specs.List.{drop-map}
use Rattle.std.proofs.lemmas.Option.{same_Some}
use Rattle.std.proofs.lemmas.Bool.Decides.{nat_tests}
use Rattle.std.proofs.lemmas.Bool.{eq-eqb}
use Rattle.std.proofs.lemmas.List.{map-append, append-nil, length-append}
use Rattle.set_queues.specs.Buffers.{is_standing, same_fate}
use Rattle.set_model.specs.Rows.{Fate, Row, standing, numbers, is_users, turned, picked_changed, moved, all_with, appended, put_ahead, IsNumbered, AreBefore, Each, row_of, place}
use Rattle.set_model.specs.Laws.{SameMessages}
use Rattle.set_model.proofs.Events.{numbers_joined, appended_in, appended_out}
use Rattle.set_model.proofs.Ahead.{put_apart}
use Rattle.set_model.proofs.Rows.{new_order, picked_there, same_numbers, turned_same, turned_left, moved_same, moved_gone, moved_joined, fewer_filter, filter_within, filter_apart, with_number, at_most_one, row_is_first, place_moved, not_found}
use Rattle.set_model.proofs.Staying.{messages_stay}
use Rattle.std.specs.Prelude.{IsSome}
use Rattle.set_queues.specs.Slots.{slot_at}
use Rattle.set_changeover.specs.Agreement.{Message, is_there, label_in, label_of, rows_at}
use Rattle.std.proofs.lemmas.List.Elements.{filter-append}
use Rattle.set_queues.specs.Messages.{is_order_at}
use Rattle.set_queues.specs.Queues.{occurs, without, AreGiven, behind_orders}
use Rattle.set_queues.proofs.Standing.{same_is, same_self, occurs-split}

-- a number occurs among the rows that a test picks as often as its row is picked
occurs_picked : (p : Row → Bool) (n : ℕ) (rows : List Row) → occurs n (numbers (filter p rows)) ≡ length (filter p (with_number n rows))
occurs_picked p n [] = refl
occurs_picked p n (x ∷ rows) = grind (arith, occurs_picked p n rows)

-- the orders among rows
abbrev pub orders : List Row → List Row
orders rows = filter (λ row. not (is_users row)) rows

filter_both : (p q : Row → Bool) (rows : List Row) → filter q (filter p rows) ≡ filter (λ row. p row && q row) rows
filter_both p q [] = refl
filter_both p q (x ∷ rows) = grind (arith, filter_both p q rows)

-- WHERE A NUMBER STANDS when those of a list have come to stand elsewhere
pub record GoesTo (ns : List ℕ) (to : Fate) (n : ℕ) (rows new : List Row) : Type 0 where
  pub stays : occurs n ns ≡ 0 → place n new ≡ place n rows
  pub goes : 0 < occurs n ns → place n new ≡ Some to

-- the first so many of those that stand somewhere
module _ (test : Fate → Bool) (to : Fate) where
  goes_first : (n k : ℕ) (rows : List Row) → length (with_number n rows) ≤ 1 → GoesTo (take k (numbers (standing test rows))) to n rows (turned test to k rows)
  goes_first n zero rows one = record { stays = λ e. refl; goes = λ e. absurd (omega (arith, e)) }
  goes_first n (suc k) [] one = record { stays = λ e. refl; goes = λ e. absurd (omega (arith, e)) }
  goes_first n (suc k) (x ∷ rows) one = let few = fewer_filter (λ (row : Row). test row.fate) (with_number n rows) in grind (arith, nat_tests, goes_first n k rows, goes_first n (suc k) rows, occurs-split n (suc k) (numbers (standing test rows)), occurs-split n k (numbers (standing test rows)), occurs_picked (λ (row : Row). test row.fate) n rows)

  -- a place that is told by the row of the number alone
  told : (n : ℕ) (rows new here : List Row) → with_number n rows ≡ here → length here ≤ 1 → place n new ≡ option_map (λ (row : Row). cond (test row.fate) to row.fate) (row_of n rows) → GoesTo (numbers (standing test rows)) to n rows new
  told n rows new [] is one e = grind (arith, occurs_picked (λ (row : Row). test row.fate) n rows, row_is_first n rows)
  told n rows new (x ∷ here) is one e = grind (arith, occurs_picked (λ (row : Row). test row.fate) n rows, row_is_first n rows, fewer_filter (λ (row : Row). test row.fate) here)

  -- those among them that another test picks
  goes_picked : (picks : Row → Bool) (n : ℕ) (rows : List Row) → length (with_number n rows) ≤ 1 → GoesTo (numbers (filter picks (standing test rows))) to n rows (picked_changed picks test to rows)
  goes_picked picks n [] one = record { stays = λ e. refl; goes = λ e. absurd (omega (arith, e)) }
  goes_picked picks n (x ∷ rows) one =
      let few = fewer_filter (λ (row : Row). test row.fate) (with_number n rows) in
      let picked = occurs_picked (λ (row : Row). test row.fate && picks row) n rows in
      let both = filter_both (λ (row : Row). test row.fate) picks rows in
      let less = fewer_filter (λ (row : Row). test row.fate && picks row) (with_number n rows) in
      grind (arith, nat_tests, goes_picked picks n rows, picked, both, less, few)

-- WHAT STANDS SOMEWHERE has a message.
pub none_at : (given n : ℕ) (rows : List Row) → IsNumbered given rows → given ≤ n → row_of n rows ≡ None
none_at given n rows numbered far = not_found given n rows numbered far

given_one : (slot : Option Message) (row : Option Row) (to : Fate) → option_map (λ (r : Row). r.fate) row ≡ Some to → option_map label_in slot ≡ option_map label_of row → IsSome slot
given_one slot None to there label = absurd cc
given_one None (Some row) to there label = absurd cc
given_one (Some m) (Some row) to there label = refl

pub labels_same : {given : ℕ} (rows new : List Row) → SameMessages given rows new → (n : ℕ) → option_map label_of (row_of n new) ≡ option_map label_of (row_of n rows)
labels_same rows new same n = go (row_of n rows) (row_of n new) (same.bodies n) (same.owners n)
  where
    go : (old now : Option Row) → option_map (λ (r : Row). r.body) now ≡ option_map (λ (r : Row). r.body) old → option_map is_users now ≡ option_map is_users old → option_map label_of now ≡ option_map label_of old
    go None None b u = refl
    go None (Some now) b u = absurd cc
    go (Some old) None b u = absurd cc
    go (Some old) (Some now) b u = rw (same_Some _ _ b, same_Some _ _ u) refl

pub given_all : {given : ℕ} (ns : List ℕ) (to : Fate) (ms : List (Option Message)) (rows new : List Row) → ((n : ℕ) → option_map label_in (slot_at n ms) ≡ option_map label_of (row_of n rows)) → SameMessages given rows new → ((n : ℕ) → GoesTo ns to n rows new) → AreGiven ns ms
given_all ns to ms rows new labels same goes n h = given_one (slot_at n ms) (row_of n new) to ((goes n).goes h) (labels n ∙ sym (labels_same rows new same n))

-- Each row is found under its number, and so are those that a test picks.
first_here : (xs ys : List Row) (x : Row) → length (xs ++ x ∷ ys) ≤ 1 → slice_get (xs ++ x ∷ ys) 0 ≡ Some x
first_here [] ys x one = refl
first_here (y ∷ xs) ys x one = absurd (omega (arith, one, length-append xs (x ∷ ys)))

found_here : (before rest : List Row) (x : Row) → length (with_number x.number (before ++ x ∷ rest)) ≤ 1 → row_of x.number (before ++ x ∷ rest) ≡ Some x
found_here before rest x one =
    let parts : with_number x.number (before ++ x ∷ rest) ≡ with_number x.number before ++ x ∷ with_number x.number rest =
    filter-append (λ (row : Row). row.number == x.number) before (x ∷ rest) ∙ rw (eq-eqb x.number x.number refl) refl in
    row_is_first x.number (before ++ x ∷ rest) ∙ rw parts (first_here (with_number x.number before) (with_number x.number rest) x (rw parts at one))

found_behind : (test : Fate → Bool) (before rest : List Row) → ((n : ℕ) → length (with_number n (before ++ rest)) ≤ 1)
    → Each (λ row. row_of row.number (before ++ rest) ≡ Some row) (standing test rest)
found_behind test before [] one = tt
found_behind test before (x ∷ rest) one =
    let same : (before ++ x ∷ []) ++ rest ≡ before ++ x ∷ rest = append_assoc before (x ∷ []) rest in
    let more = rw same at (found_behind test (before ++ x ∷ []) rest (rw same one)) in
    let own = found_here before rest x (one x.number) in
    go (test x.fate) refl own more
  where
    go : (b : Bool) → test x.fate ≡ b → row_of x.number (before ++ x ∷ rest) ≡ Some x
        → Each (λ row. row_of row.number (before ++ x ∷ rest) ≡ Some row) (standing test rest)
        → Each (λ row. row_of row.number (before ++ x ∷ rest) ≡ Some row) (standing test (x ∷ rest))
    go true e own more = rw e (own, more)
    go false e own more = rw e more

pub all_found : (test : Fate → Bool) (given : ℕ) (rows : List Row) → IsNumbered given rows → Each (λ row. row_of row.number rows ≡ Some row) (standing test rows)
all_found test given rows numbered = found_behind test [] rows (λ n. at_most_one given n rows numbered)

-- A NEW MESSAGE stands last in the place of its fate.
pub appended_at : (number : ℕ) (rows : List Row) (body : List ℕ) (fate f : Fate) → is_standing f ≡ true → numbers (rows_at f (appended number rows body fate)) ≡ cond (same_fate fate f) (numbers (rows_at f rows) ++ number ∷ []) (numbers (rows_at f rows))
appended_at number rows body fate f s = grind (arith, appended_in number rows body fate (is_there f), appended_out number rows body fate (is_there f), map-append)

-- An order is known by its label; a new message stands behind those that stand foremost in the place of its fate, ahead
-- of the first user's there, and under the first number that no row had.
abbrev pub AreTold : List (Option Message) → List Row → Type 0
AreTold ms rows = Each (λ row. is_order_at ms row.number ≡ not (is_users row)) rows

module _ (ms : List (Option Message)) (number : ℕ) (body : List ℕ) (fate : Fate) (stood : is_standing fate ≡ true) where
  ahead_there : (rows : List Row) → AreTold ms (rows_at fate rows)
      → numbers (rows_at fate (put_ahead number rows body fate)) ≡ behind_orders ms number (numbers (rows_at fate rows))
  ahead_there [] known = grind (arith, same_self)
  ahead_there (x ∷ rows) known = go (same_fate x.fate fate) refl (is_users x) refl known (ahead_there rows)
    where
      go : (b : Bool) → same_fate x.fate fate ≡ b → (c : Bool) → is_users x ≡ c → AreTold ms (rows_at fate (x ∷ rows))
          → (AreTold ms (rows_at fate rows) → numbers (rows_at fate (put_ahead number rows body fate)) ≡ behind_orders ms number (numbers (rows_at fate rows)))
          → numbers (rows_at fate (put_ahead number (x ∷ rows) body fate)) ≡ behind_orders ms number (numbers (rows_at fate (x ∷ rows)))
      go true e true u known rest = grind (arith, same_self, known)
      go true e false u known rest = grind (arith, known, rest)
      go false e c u known rest = grind (arith, known, rest)

  pub ahead_at : (rows : List Row) (f : Fate) → is_standing f ≡ true → AreTold ms (rows_at fate rows)
      → numbers (rows_at f (put_ahead number rows body fate)) ≡ cond (same_fate fate f) (behind_orders ms number (numbers (rows_at fate rows))) (numbers (rows_at f rows))
  ahead_at rows f s known = go (same_fate fate f) refl (ahead_there rows known)
    where
      go : (b : Bool) → same_fate fate f ≡ b
          → numbers (rows_at fate (put_ahead number rows body fate)) ≡ behind_orders ms number (numbers (rows_at fate rows))
          → numbers (rows_at f (put_ahead number rows body fate)) ≡ cond b (behind_orders ms number (numbers (rows_at fate rows))) (numbers (rows_at f rows))
      go true e there = rw (← same_is fate f s e) there
      go false e there = ap numbers (put_apart number rows body fate (is_there f) e)

  pub row_ahead : (n : ℕ) (rows : List Row) → row_of number rows ≡ None → row_of n (put_ahead number rows body fate) ≡ cond (number == n) (Some (new_order number body fate)) (row_of n rows)
  row_ahead n [] none = grind arith
  row_ahead n (x ∷ rows) none = grind (arith, nat_tests, row_ahead n rows)

-- where they don't stand
elsewhere : (test : Fate → Bool) (f : Fate) → is_standing f ≡ true → test f ≡ false → (g : Fate) → test g ≡ true → is_there f g ≡ false
elsewhere test f s e g h = grind (arith, same_is)

-- WHAT BECAME OF THE PLACES when the rows of these numbers came to stand there: what is left where they stood, and
-- they stand last where they went.
pub record Shifts (given : ℕ) (test : Fate → Bool) (to : Fate) (ns left : List ℕ) (rows new : List Row) : Type 0 where
  pub places : (f : Fate) → is_standing f ≡ true → numbers (rows_at f new) ≡ cond (test f) left (cond (same_fate to f) (numbers (rows_at f rows) ++ ns) (numbers (rows_at f rows)))
  pub messages : SameMessages given rows new
  pub goes : (n : ℕ) → GoesTo ns to n rows new

-- those that turn stand last in their new place, where none there stands behind one of them
joined : (test there : Fate → Bool) (to : Fate) → there to ≡ true → ((f : Fate) → test f ≡ true → there f ≡ false) → (n : ℕ) (rows : List Row) → AreBefore there test rows → numbers (standing there (turned test to n rows)) ≡ numbers (standing there rows) ++ take n (numbers (standing test rows))
joined test there to own apart zero rows o = grind (arith, append-nil)
joined test there to own apart (suc n) [] o = refl
joined test there to own apart (suc n) (x ∷ rows) o = grind (arith, joined test there to own apart n rows o.1, joined test there to own apart (suc n) rows o.1, o.0, apart x.fate)

-- the first so many of one place, to a final fate, or to such a place
pub turned_shifts : (given : ℕ) (from to : Fate) → is_standing from ≡ true → is_there from to ≡ false → (n : ℕ) (rows : List Row) → IsNumbered given rows → (is_standing to ≡ true → AreBefore (is_there to) (is_there from) rows) → Shifts given (is_there from) to (take n (numbers (rows_at from rows))) (drop n (numbers (rows_at from rows))) rows (turned (is_there from) to n rows)
turned_shifts given from to stood off n rows numbered order = record {
  places = λ f s.
      let left = turned_left (is_there from) to off n rows in
      let come = λ (t : is_standing to ≡ true). joined (is_there from) (is_there to) to (same_self to t) (elsewhere (is_there from) to t off) n rows (order t) in
      let same = λ (e : is_there from f ≡ false) (away : same_fate to f ≡ false). turned_same (is_there from) (is_there f) to away (elsewhere (is_there from) f s e) n rows in
      grind (arith, left, come, same, drop-map, same_is f from stood, same_is to f s);
  messages = (messages_stay (is_there from) to (all_with to) given rows numbered).turned_stay n;
  goes = λ k. goes_first (is_there from) to k n rows (at_most_one given k rows numbered);
}

-- those of one place that another test picks, to a final fate: the others stay there
module _ (picks stays : Row → Bool) (parts : (x : Row) → stays x ≡ not (picks x)) where
  picked_left : (test : Fate → Bool) (to : Fate) → test to ≡ false → (rows : List Row) → standing test (picked_changed picks test to rows) ≡ filter stays (standing test rows)
  picked_left test to off [] = refl
  picked_left test to off (x ∷ rows) = grind (arith, picked_left test to off rows, parts)

  pub picked_shift : (given : ℕ) (from to : Fate) → is_standing from ≡ true → is_standing to ≡ false → is_there from to ≡ false → (rows : List Row) → IsNumbered given rows → Shifts given (is_there from) to (numbers (filter picks (rows_at from rows))) (numbers (filter stays (rows_at from rows))) rows (picked_changed picks (is_there from) to rows)
  picked_shift given from to stood final off rows numbered =
      let place = picked_there picks (is_there from) to rows in
      record {
        places = λ f s.
            let left = picked_left (is_there from) to off rows in
            let away : same_fate to f ≡ false = grind (arith, same_is) in
            let same = λ (e : is_there from f ≡ false). place.same (is_there f) away (elsewhere (is_there from) f s e) in
            grind (arith, left, same, same_is f from stood);
        messages = record {
          count = place.count;
          bodies = place.bodies;
          owners = place.owners;
          numbered = same_numbers given rows (picked_changed picks (is_there from) to rows) (λ number. place.as_many (λ row. row.number == number) (λ f x. refl)) numbered;
        };
        goes = λ k. goes_picked (is_there from) to picks k rows (at_most_one given k rows numbered);
      }

-- the one of a number among those that stand somewhere
none_there : (n : ℕ) (test : Fate → Bool) (rows : List Row) → length (with_number n rows) ≤ 0 → with_number n (standing test rows) ≡ []
none_there n test [] none = refl
none_there n test (x ∷ rows) none = grind (arith, nat_tests, none_there n test rows)

pub one_there : (n : ℕ) (test : Fate → Bool) (f : Fate) (rows : List Row) → length (with_number n rows) ≤ 1 → place n rows ≡ Some f → test f ≡ true
    → numbers (with_number n (standing test rows)) ≡ n ∷ []
one_there n test f [] one at there = absurd cc
one_there n test f (x ∷ rows) one at there = grind (arith, nat_tests, none_there n test rows, one_there n test f rows)

pub numbers_without : (n : ℕ) (rows : List Row) → without n (numbers rows) ≡ numbers (filter (λ row. not (row.number == n)) rows)
numbers_without n [] = refl
numbers_without n (x ∷ rows) = grind (arith, numbers_without n rows)

-- all of one or more places, behind those that stand there
pub moved_shifts : (given : ℕ) (test : Fate → Bool) (to : Fate) (rows : List Row) → IsNumbered given rows → test to ≡ false → is_standing to ≡ true → Shifts given test to (numbers (standing test rows)) [] rows (moved test (all_with to) rows)
moved_shifts given test to rows numbered off there = record {
  places = λ f s.
      let gone : test f ≡ true → standing (is_there f) (moved test (all_with to) rows) ≡ [] = λ e. let away : same_fate to f ≡ false = grind (arith, same_is) in moved_gone test (is_there f) (all_with to) rows (λ x. away) (λ g h. grind (arith, same_is)) in
      grind (arith, gone, moved_joined test (is_there f) (all_with to) rows, moved_same test (is_there f) (all_with to) rows, numbers_joined (all_with to) (rows_at f rows) (standing test rows), elsewhere test f s, same_is to f s);
  messages = (messages_stay test to (all_with to) given rows numbered).moved_stay;
  goes = λ k. told test to k rows _ _ refl (at_most_one given k rows numbered) (place_moved test (all_with to) given k rows numbered);
}

-- ROWS THAT STAND LAST FROM NOW ON, each with its fate: what stands in each place stays
abbrev pub parted : (Fate → Bool) → List Row → List Row
parted test rows = standing (λ f. not (test f)) rows ++ standing test rows

pub parted_at : (test : Fate → Bool) (f : Fate) (rows : List Row) → is_standing f ≡ true → (b : Bool) → test f ≡ b → standing (is_there f) (parted test rows) ≡ standing (is_there f) rows
parted_at test f rows s true e = grind (arith, filter-append, filter_apart, filter_within, same_is)
parted_at test f rows s false e = grind (arith, filter-append, append-nil, filter_apart, filter_within, same_is)
