-- A FATE THAT STAYS: what is acknowledged, or was discarded, is so ever after, whatever changes of other rows
-- (`Stays`). One lemma for each way in which rows change: some of them or all get a fate (`turned_stay`,
-- `changed_stay`, `orders_stay`), some move to the end (`moved_stay`), or more come, last or not (`joined_stay`,
-- `put_stay`). A change whose test doesn't hold of the fate leaves its rows alone; and rows that move are still found
-- by their numbers, as each number stands once (`place_moved`). By induction on the rows, one for all that turn
-- (`where_turned`). Used by Acked.antt, and by pair_streams's Known.antt and Blindly.antt.
use Rattle.std.proofs.Common.{refl, arith, ◌≡◌, ◌∙◌, ap, sym, ℕ, ◌==◌, nat_lt, Bool, true, false, List, [], ◌∷◌, ◌++◌, Option, Some, None, cond, length}
use Rattle.std.specs.Option.{option_map}
use Rattle.std.proofs.lemmas.Bool.Decides.{nat_tests}
use Rattle.std.proofs.lemmas.Option.{same_Some}
use Rattle.set_events.specs.declared.answer.Fate.{Fate}
use Rattle.set_model.specs.Rows.{picked_changed, Row, turned, changed, moved, put_ahead, with_fate, place, row_of, IsNumbered}
use Rattle.set_model.proofs.Ahead.{put_others}
use Rattle.set_model.proofs.Rows.{where_picked, where_turned, place_moved, not_found}
use Rattle.set_model.proofs.Places.{false_true}

abbrev pub Stays : Fate → List Row → List Row → Type 0
Stays kept rows new = (number : ℕ) → place number rows ≡ Some kept → place number new ≡ Some kept

module _ (kept : Fate) (test : Fate → Bool) (w : test kept ≡ false) where
  module _ (fate : Fate) where
    none_stay : Stays kept [] []
    none_stay number e = e

    row_stays : (x : Row) (xs ys : List Row) → Stays kept xs ys → Stays kept (x ∷ xs) (x ∷ ys)
    row_stays x xs ys p number e = go (x.number == number) refl
      where
        go : (b : Bool) → (x.number == number) ≡ b → place number (x ∷ ys) ≡ Some kept
        go true h = let f : Some x.fate ≡ Some kept = rw h at e in rw h f
        go false h = rw h (p number (rw h at e))

    row_turns : (x : Row) (xs ys : List Row) → test x.fate ≡ true → Stays kept xs ys → Stays kept (x ∷ xs) (with_fate fate x ∷ ys)
    row_turns x xs ys t p number e = go (x.number == number) refl
      where
        go : (b : Bool) → (x.number == number) ≡ b → place number (with_fate fate x ∷ ys) ≡ Some kept
        go true h =
            let f : Some x.fate ≡ Some kept = rw h at e in
            false_true (test kept) w (ap test (sym (same_Some x.fate kept f)) ∙ t)
        go false h = rw h (p number (rw h at e))

    pub turned_stay : (n : ℕ) (rows : List Row) → Stays kept rows (turned test fate n rows)
    turned_stay n rows = where_turned test fate (Stays kept) none_stay row_stays row_turns n rows

    pub changed_stay : (rows : List Row) → Stays kept rows (changed test fate rows)
    changed_stay rows = turned_stay (length rows) rows

    pub picked_stay : (picks : Row → Bool) (rows : List Row) → Stays kept rows (picked_changed picks test fate rows)
    picked_stay picks rows = where_picked test fate (Stays kept) none_stay row_stays row_turns picks rows

  pub moved_stay : (given : ℕ) (fate : Row → Fate) (rows : List Row) → IsNumbered given rows → Stays kept rows (moved test fate rows)
  moved_stay given fate rows numbered number e = place_moved test fate given number rows numbered ∙ go (row_of number rows) e
    where
      go : (o : Option Row) → option_map (λ r. r.fate) o ≡ Some kept → option_map (λ r. cond (test r.fate) (fate r) r.fate) o ≡ Some kept
      go None f = absurd cc
      go (Some x) f = let same : x.fate ≡ kept = same_Some x.fate kept f in rw (same, w) refl

pub joined_stay : (kept : Fate) (rows more : List Row) → Stays kept rows (rows ++ more)
joined_stay kept [] more number e = absurd cc
joined_stay kept (x ∷ rows) more number e = go (x.number == number) refl (joined_stay kept rows more number)
  where
    go : (b : Bool) → (x.number == number) ≡ b
        → (place number rows ≡ Some kept → place number (rows ++ more) ≡ Some kept)
        → place number (x ∷ rows ++ more) ≡ Some kept
    go true h later = let f : Some x.fate ≡ Some kept = rw h at e in rw h f
    go false h later = rw h (later (rw h at e))

-- a new message that isn't last: no row has its number
pub put_stay : (kept : Fate) (given : ℕ) (rows : List Row) (body : List ℕ) (fate : Fate) → IsNumbered given rows
    → Stays kept rows (put_ahead given rows body fate)
put_stay kept given rows body fate numbered number e = go (nat_lt number given) refl
  where
    go : (b : Bool) → nat_lt number given ≡ b → place number (put_ahead given rows body fate) ≡ Some kept
    go true low = ap (option_map (λ (row : Row). row.fate)) (put_others given rows body fate number (grind (arith, nat_tests, low))) ∙ e
    go false high =
        let none = not_found given number rows numbered (grind (arith, nat_tests, high)) in
        let no : None ≡ Some kept = sym (ap (option_map (λ (row : Row). row.fate)) none) ∙ e in
        absurd cc
