-- A NEW MESSAGE AHEAD OF USERS': it stands between two parts of the rows (`put_there`), and of what it passes none is a
-- user's in its place, so that it passes orders alone, or stands first. What a filter sees of it follows (`Put`): nothing
-- (`put_out`), or the same with the message among it (`put_in`), and as many as if it stood last (`put_many`). Rows of one
-- kind stay before those of another (`put_before`), and numbers in order where it isn't one of them. The inductions are
-- here, on the rows. Framing.antt, SoundLink.antt, Staying.antt and Soundness.antt use it, and pair_changeover.
use Rattle.std.proofs.Common.{arith, refl, ◌≡◌, ◌∙◌, ap, sym, ℕ, ◌+◌, ◌<◌, ◌==◌, Bool, true, false, List, [], ◌∷◌, ◌++◌, length, filter, slice_get, Some, append_assoc, drop, subst, nat_lt, None, option_map, ◌⊎◌, inl, inr}
use Rattle.std.proofs.lemmas.Option.{same_Some}
use Rattle.std.proofs.lemmas.List.{append-nil, length-append}
use Rattle.std.proofs.lemmas.Bool.{eqb-true}
use Rattle.std.proofs.lemmas.Bool.Decides.{nat_tests}
use Rattle.std.proofs.lemmas.List.Elements.{filter-append}
use Rattle.set_model.specs.Rows.{Fate, Row, AreBefore, Each, IsNumbered, is_users, is_users_at, is_waiting, wait, put_ahead, appended, body_at, row_of, same_fate, standing}
use Rattle.set_model.specs.Frame.{Gains, behind, passed, ahead}
use Rattle.set_model.proofs.Rows.{new_row, new_order, no_rows, not_found, numbered_appended, row_is_first, with_number}

-- WHERE IT STANDS.
pub record Put (number : ℕ) (body : List ℕ) (fate : Fate) (rows new : List Row) : Type 0 where
  pub front : List Row
  pub rest : List Row
  pub was : rows ≡ front ++ rest
  pub is : new ≡ front ++ new_order number body fate ∷ rest
  -- what it passes
  pub passed : filter (is_users_at fate) front ≡ []

put_behind : (number : ℕ) (body : List ℕ) (fate : Fate) (x : Row) (rows new : List Row) → is_users_at fate x ≡ false
    → Put number body fate rows new → Put number body fate (x ∷ rows) (x ∷ new)
put_behind number body fate x rows new order p = record {
  front = x ∷ p.front;
  rest = p.rest;
  was = ap (λ (xs : List Row). x ∷ xs) p.was;
  is = ap (λ (xs : List Row). x ∷ xs) p.is;
  passed = rw order p.passed;
}

pub put_there : (number : ℕ) (rows : List Row) (body : List ℕ) (fate : Fate) → Put number body fate rows (put_ahead number rows body fate)
put_there number [] body fate = record { front = []; rest = []; was = refl; is = refl; passed = refl }
put_there number (x ∷ rows) body fate = go (is_users_at fate x) refl (put_there number rows body fate)
  where
    go : (b : Bool) → is_users_at fate x ≡ b → Put number body fate rows (put_ahead number rows body fate)
        → Put number body fate (x ∷ rows) (put_ahead number (x ∷ rows) body fate)
    go true e rest = rw e (record { front = []; rest = x ∷ rows; was = refl; is = refl; passed = refl })
    go false e rest = rw e (put_behind number body fate x rows (put_ahead number rows body fate) e rest)

-- WHAT A FILTER SEES of it.
pub put_apart : (number : ℕ) (rows : List Row) (body : List ℕ) (fate : Fate) (test : Fate → Bool) → test fate ≡ false
    → standing test (put_ahead number rows body fate) ≡ standing test rows
put_apart number [] body fate test e = rw e refl
put_apart number (x ∷ rows) body fate test e = grind (arith, put_apart number rows body fate test e)

module _ (p : Row → Bool) (number : ℕ) (rows : List Row) (body : List ℕ) (fate : Fate) where
  pub put_out : p (new_order number body fate) ≡ false → filter p (put_ahead number rows body fate) ≡ filter p rows
  put_out e =
      let t = put_there number rows body fate in
      ap (filter p) t.is ∙ filter-append p t.front (new_order number body fate ∷ t.rest)
      ∙ rw e (sym (ap (filter p) t.was ∙ filter-append p t.front t.rest))

  -- those that the filter sees, with the message among them
  pub record Among : Type 0 where
    pub front : List Row
    pub rest : List Row
    pub was : filter p rows ≡ front ++ rest
    pub is : filter p (put_ahead number rows body fate) ≡ front ++ new_order number body fate ∷ rest
    pub passed : filter (is_users_at fate) front ≡ []

  pub put_in : p (new_order number body fate) ≡ true → Among
  put_in e =
      let t = put_there number rows body fate in
      record {
        front = filter p t.front;
        rest = filter p t.rest;
        was = ap (filter p) t.was ∙ filter-append p t.front t.rest;
        is = ap (filter p) t.is ∙ filter-append p t.front (new_order number body fate ∷ t.rest) ∙ rw e refl;
        passed = none_of (is_users_at fate) t.front t.passed;
      }
    where
      none_of : (q : Row → Bool) (xs : List Row) → filter q xs ≡ [] → filter q (filter p xs) ≡ []
      none_of q [] e = refl
      none_of q (x ∷ xs) e = grind (arith, none_of q xs)

  -- as many as if it stood last
  pub put_many : p (new_order number body fate) ≡ p (new_row number body fate)
      → length (filter p (put_ahead number rows body fate)) ≡ length (filter p (appended number rows body fate))
  put_many alike =
      let t = put_there number rows body fate in
      let new = ap (filter p) t.is ∙ filter-append p t.front (new_order number body fate ∷ t.rest) in
      let old = filter-append p rows (new_row number body fate ∷ []) ∙ ap (λ (xs : List Row). xs ++ filter p (new_row number body fate ∷ [])) (ap (filter p) t.was ∙ filter-append p t.front t.rest) in
      grind (arith, new, old, length-append, alike)

pub put_length : (number : ℕ) (rows : List Row) (body : List ℕ) (fate : Fate) → length (put_ahead number rows body fate) ≡ length rows + 1
put_length number rows body fate =
    let t = put_there number rows body fate in
    ap length t.is ∙ length-append t.front (new_order number body fate ∷ t.rest)
    ∙ omega (arith, ap length t.was, length-append t.front t.rest)

pub numbered_put : (given : ℕ) (rows : List Row) (body : List ℕ) (fate : Fate) → IsNumbered given rows
    → IsNumbered (given + 1) (put_ahead given rows body fate)
numbered_put given rows body fate numbered number =
    rw (put_many (λ (row : Row). row.number == number) given rows body fate refl) (numbered_appended given rows body fate numbered number)

-- a fact of each
pub each_put : (P : Row → Type 0) (number : ℕ) (rows : List Row) (body : List ℕ) (fate : Fate) → Each P rows → P (new_order number body fate)
    → Each P (put_ahead number rows body fate)
each_put P number [] body fate each own = (own, tt)
each_put P number (x ∷ rows) body fate each own = go (is_users_at fate x) refl (each_put P number rows body fate each.1 own)
  where
    go : (b : Bool) → is_users_at fate x ≡ b → Each P (put_ahead number rows body fate)
        → Each P (put_ahead number (x ∷ rows) body fate)
    go true e rest = rw e (own, each)
    go false e rest = rw e (each.0, rest)

-- ROWS OF ONE KIND stay before those of another: none of the other kind stands anywhere if the message is of the one, and
-- it isn't of both.
module _ (p q : Fate → Bool) (number : ℕ) (body : List ℕ) (fate : Fate) (apart : q fate ≡ true → p fate ≡ false)
    (one : (f : Fate) → same_fate f fate ≡ true → f ≡ fate) where
  pub put_before : (rows : List Row) → (p fate ≡ true → standing q rows ≡ []) → AreBefore p q rows → AreBefore p q (put_ahead number rows body fate)
  put_before [] none b = grind arith
  put_before (x ∷ rows) none b = go (is_users_at fate x) refl (put_before rows (λ h. fewer (none h)) b.1)
    where
      fewer : standing q (x ∷ rows) ≡ [] → standing q rows ≡ []
      fewer e = grind arith

      -- it stands before one of its own place
      same : is_users_at fate x ≡ true → x.fate ≡ fate
      same e = one x.fate (grind arith)

      go : (c : Bool) → is_users_at fate x ≡ c → AreBefore p q (put_ahead number rows body fate)
          → AreBefore p q (put_ahead number (x ∷ rows) body fate)
      go true e rest = let s = same e in rw e (grind (arith, s, apart))
      go false e rest =
          let out = put_apart number rows body fate p in
          rw e (grind (arith, none, out))

-- THE MESSAGES: the others are as they are, and the new one is found under its number.
pub put_others : (given : ℕ) (rows : List Row) (body : List ℕ) (fate : Fate) (number : ℕ) → number < given
    → row_of number (put_ahead given rows body fate) ≡ row_of number rows
put_others given rows body fate number low =
    let off : (given == number) ≡ false = grind (arith, nat_tests) in
    row_is_first number (put_ahead given rows body fate)
    ∙ ap (λ (xs : List Row). slice_get xs 0) (put_out (λ (row : Row). row.number == number) given rows body fate off)
    ∙ sym (row_is_first number rows)

pub put_found : (given : ℕ) (rows : List Row) (body : List ℕ) (fate : Fate) → IsNumbered given rows
    → row_of given (put_ahead given rows body fate) ≡ Some (new_order given body fate)
put_found given rows body fate numbered =
    let own : (given == given) ≡ true = grind (arith, nat_tests) in
    let t = put_in (λ (row : Row). row.number == given) given rows body fate own in
    let none : with_number given rows ≡ [] = no_rows (with_number given rows) (grind (arith, nat_tests, numbered given)) in
    let front : t.front ≡ [] = no_rows t.front (omega (arith, ap length (sym t.was ∙ none), length-append t.front t.rest)) in
    row_is_first given (put_ahead given rows body fate) ∙ ap (λ (xs : List Row). slice_get xs 0) t.is ∙ rw front refl

-- WHAT WAITS gains an order,
gains_same : (xs : List Row) → Gains xs xs
gains_same xs = behind xs xs [] (sym (append-nil xs))

pub put_gains : (n number : ℕ) (rows : List Row) (body : List ℕ) (fate : Fate)
    → Gains (wait n rows) (wait n (put_ahead number rows body fate))
put_gains n number [] body fate = go (is_waiting n fate) refl
  where
    go : (b : Bool) → is_waiting n fate ≡ b → Gains [] (wait n (put_ahead number [] body fate))
    go true e = rw e (ahead (new_order number body fate) [] [] refl (gains_same []))
    go false e = rw e (gains_same [])
put_gains n number (x ∷ rows) body fate = go (is_users_at fate x) refl (put_gains n number rows body fate)
  where
    first : (b : Bool) → is_waiting n fate ≡ b → Gains (wait n (x ∷ rows)) (wait n (new_order number body fate ∷ x ∷ rows))
    first true e = rw e (ahead (new_order number body fate) (wait n (x ∷ rows)) (wait n (x ∷ rows)) refl (gains_same (wait n (x ∷ rows))))
    first false e = rw e (gains_same (wait n (x ∷ rows)))

    -- behind a user's message that waits for the link nothing comes, and it passes an order
    goes_on : is_users_at fate x ≡ false → (a b : Bool) → is_waiting n x.fate ≡ a → is_users x ≡ b
        → Gains (wait n rows) (wait n (put_ahead number rows body fate))
        → Gains (wait n (x ∷ rows)) (wait n (x ∷ put_ahead number rows body fate))
    goes_on off false b w u g = rw w g
    goes_on off true false w u g = rw w (passed x (wait n rows) (wait n (put_ahead number rows body fate)) u g)
    goes_on off true true w u g =
        let same = put_apart number rows body fate (is_waiting n) (grind arith) in
        rw (w, same) (gains_same (x ∷ wait n rows))

    go : (b : Bool) → is_users_at fate x ≡ b → Gains (wait n rows) (wait n (put_ahead number rows body fate))
        → Gains (wait n (x ∷ rows)) (wait n (put_ahead number (x ∷ rows) body fate))
    go true e g = rw e (first (is_waiting n fate) refl)
    go false e g = rw e (goes_on e (is_waiting n x.fate) (is_users x) refl refl g)

-- and gains more then
gains_more : (a b c more : List Row) → Gains a b → c ≡ b ++ more → Gains a c
gains_more a b c more (behind _ _ some f) e = behind a c (some ++ more) (e ∙ ap (λ (xs : List Row). xs ++ more) f ∙ append_assoc a some more)
gains_more (x ∷ a) (_ ∷ b) c more (passed _ _ _ o p) e = rw e (passed x a (b ++ more) o (gains_more a b (b ++ more) more p refl))
gains_more a (x ∷ b) c more (ahead _ _ _ o p) e = rw e (ahead x a (b ++ more) o (gains_more a b (b ++ more) more p refl))

pub gains_then : (a b c : List Row) → Gains a b → Gains b c → Gains a c
gains_then a b c p (behind _ _ more e) = gains_more a b c more p e
gains_then a b (x ∷ c) p (ahead _ _ _ o q) = ahead x a c o (gains_then a b c p q)
gains_then a (x ∷ b) (_ ∷ c) (ahead _ _ _ o p) (passed _ _ _ u q) = ahead x a c o (gains_then a b c p q)
gains_then (x ∷ a) (_ ∷ b) (_ ∷ c) (passed _ _ _ o p) (passed _ _ _ u q) = passed x a c o (gains_then a b c p q)
gains_then [] (x ∷ b) (_ ∷ c) (behind _ _ more e) (passed _ _ _ u q) = behind [] (x ∷ c) (x ∷ c) refl
gains_then (y ∷ a) (x ∷ b) (_ ∷ c) (behind _ _ more e) (passed _ _ _ u q) = at_head (ap (λ (xs : List Row). slice_get xs 0) e) (gains_then a b c (behind a b more (ap (drop 1) e)) q)
  where
    at_head : Some x ≡ Some y → Gains a c → Gains (y ∷ a) (x ∷ c)
    at_head s g = subst (λ (z : Row). Gains (z ∷ a) (x ∷ c)) (same_Some x y s) (passed x a c u g)

-- a body that's found then was there, or is the new one
pub put_row : (given : ℕ) (rows : List Row) (body : List ℕ) (fate : Fate) → IsNumbered given rows → (number : ℕ) (other : List ℕ)
    → body_at number (put_ahead given rows body fate) ≡ Some other
    → (body_at number rows ≡ Some other) ⊎ ((given ≡ number) × (body ≡ other))
put_row given rows body fate numbered number other e = go (nat_lt number given) (number == given) refl refl
  where
    new : List Row
    new = put_ahead given rows body fate

    go : (low own : Bool) → nat_lt number given ≡ low → (number == given) ≡ own
        → (body_at number rows ≡ Some other) ⊎ ((given ≡ number) × (body ≡ other))
    go true own below is =
        inl (ap (option_map (λ (row : Row). row.body)) (sym (put_others given rows body fate number (grind (arith, nat_tests)))) ∙ e)
    go false true below is =
        let same : number ≡ given = eqb-true number given is in
        let own : row_of number new ≡ Some (new_order given body fate) = rw same (put_found given rows body fate numbered) in
        let found : Some body ≡ Some other = sym (ap (option_map (λ (row : Row). row.body)) own) ∙ e in
        inr (sym same, same_Some body other found)
    go false false below is =
        let none = not_found (given + 1) number new (numbered_put given rows body fate numbered) (grind (arith, nat_tests)) in
        let never : None ≡ Some other = sym (ap (option_map (λ (row : Row). row.body)) none) ∙ e in
        absurd cc
