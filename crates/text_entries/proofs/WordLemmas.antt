-- Words of a line: what the readers' places give, and what stands before and behind octets that end no word.
use Rattle.std.proofs.Common.{refl, arith, ◌≡◌, ◌∙◌, ap, ◌≤◌, [], ◌∷◌, length, ℕ, ◌+◌, ◌-◌, suc, Bool, true, false, nat_lt, List, ◌++◌, Some, None, drop, take, if◌then◌else◌}
use Rattle.std.proofs.lemmas.Grind.{common_steps}
use Rattle.std.proofs.lemmas.Bool.Decides.{nat_tests}
use Rattle.std.specs.List.{position, position_or_len, before_first, after_first}
use Rattle.text_entries.specs.Reading.{until, behind}

pub until_is : (p : ℕ → Bool) (xs : List ℕ) → before_first p xs ≡ until p xs
until_is p [] = refl
until_is p (c ∷ cs) = go (p c) refl (until_is p cs)
  where
    go : (b : Bool) → p c ≡ b → before_first p cs ≡ until p cs → before_first p (c ∷ cs) ≡ until p (c ∷ cs)
    go true e rest = rw e refl
    go false e rest = let n : 1 + position_or_len p cs ≡ suc (position_or_len p cs) = omega arith in rw (e, n) (ap (λ (l : List ℕ). c ∷ l) rest)

pub behind_is : (p : ℕ → Bool) (xs : List ℕ) → after_first p xs ≡ behind p xs
behind_is p [] = refl
behind_is p (c ∷ cs) = go (p c) refl (behind_is p cs)
  where
    go : (b : Bool) → p c ≡ b → after_first p cs ≡ behind p cs → after_first p (c ∷ cs) ≡ behind p (c ∷ cs)
    go true e rest = rw e refl
    go false e rest = let n : (1 + position_or_len p cs) + 1 ≡ suc (position_or_len p cs + 1) = omega arith in rw e (rw n rest)

-- the place of the first such octet
found_at : (p : ℕ → Bool) (xs : List ℕ) (k : ℕ) → Some k ≡ position p xs → k ≡ position_or_len p xs
found_at p xs k e = go (nat_lt (position_or_len p xs) (length xs)) refl
  where
    go : (b : Bool) → nat_lt (position_or_len p xs) (length xs) ≡ b → k ≡ position_or_len p xs
    go true f = let same : Some k ≡ Some (position_or_len p xs) = rw f at e in cc same
    go false f = let none : Some k ≡ None = rw f at e in cc none

missing_at : (p : ℕ → Bool) (xs : List ℕ) → None ≡ position p xs → length xs ≤ position_or_len p xs
missing_at p xs e = go (nat_lt (position_or_len p xs) (length xs)) refl
  where
    go : (b : Bool) → nat_lt (position_or_len p xs) (length xs) ≡ b → length xs ≤ position_or_len p xs
    go true f = let none : None ≡ Some (position_or_len p xs) = rw f at e in cc none
    go false f = grind (arith, nat_tests)

pub found_until : (p : ℕ → Bool) (xs : List ℕ) (k : ℕ) → Some k ≡ position p xs → take k xs ≡ until p xs
found_until p xs k e = rw (found_at p xs k e) (until_is p xs)

pub found_behind : (p : ℕ → Bool) (xs : List ℕ) (k : ℕ) → Some k ≡ position p xs → drop (k + 1) xs ≡ behind p xs
found_behind p xs k e = rw (found_at p xs k e) (behind_is p xs)

pub missing_until : (p : ℕ → Bool) (xs : List ℕ) → None ≡ position p xs → xs ≡ until p xs
missing_until p xs e =
    let long = missing_at p xs e in
    let whole : xs ≡ take (position_or_len p xs) xs = grind (arith, common_steps) in
    whole ∙ until_is p xs

pub missing_behind : (p : ℕ → Bool) (xs : List ℕ) → None ≡ position p xs → [] ≡ behind p xs
missing_behind p xs e =
    let long = missing_at p xs e in
    let none : [] ≡ drop (position_or_len p xs + 1) xs = grind (arith, common_steps) in
    none ∙ behind_is p xs

-- the slice behind a place, and the one behind the end
pub slice_behind : (p : ℕ → Bool) (xs : List ℕ) (k : ℕ) → Some k ≡ position p xs → take (length xs - (k + 1)) (drop (k + 1) xs) ≡ behind p xs
slice_behind p xs k e =
    let all : take (length xs - (k + 1)) (drop (k + 1) xs) ≡ drop (k + 1) xs = grind (arith, common_steps) in
    all ∙ found_behind p xs k e

pub none_left : (xs : List ℕ) → take (length xs - length xs) (drop (length xs) xs) ≡ []
none_left xs = grind (arith, common_steps)

pub slice_missing : (p : ℕ → Bool) (xs : List ℕ) → None ≡ position p xs → take (length xs - length xs) (drop (length xs) xs) ≡ behind p xs
slice_missing p xs e = none_left xs ∙ missing_behind p xs e

-- octets of which none is of a kind
abbrev pub passes : (ℕ → Bool) → List ℕ → Bool
passes p [] = true
passes p (c ∷ cs) = if p c then false else passes p cs

pub until_passed : (p : ℕ → Bool) (xs : List ℕ) (g : ℕ) (ys : List ℕ) → passes p xs ≡ true → p g ≡ true → until p (xs ++ g ∷ ys) ≡ xs
until_passed p [] g ys h e = rw e refl
until_passed p (c ∷ cs) g ys h e = go (p c) refl (λ more. until_passed p cs g ys more e)
  where
    go : (b : Bool) → p c ≡ b → (passes p cs ≡ true → until p (cs ++ g ∷ ys) ≡ cs) → until p ((c ∷ cs) ++ g ∷ ys) ≡ c ∷ cs
    go true f rest = let no : false ≡ true = rw f at h in cc no
    go false f rest = let more : passes p cs ≡ true = rw f at h in rw f (ap (λ (l : List ℕ). c ∷ l) (rest more))

pub behind_passed : (p : ℕ → Bool) (xs ys : List ℕ) → passes p xs ≡ true → behind p (xs ++ ys) ≡ behind p ys
behind_passed p [] ys h = refl
behind_passed p (c ∷ cs) ys h = go (p c) refl (behind_passed p cs ys)
  where
    go : (b : Bool) → p c ≡ b → (passes p cs ≡ true → behind p (cs ++ ys) ≡ behind p ys) → behind p ((c ∷ cs) ++ ys) ≡ behind p ys
    go true f rest = let no : false ≡ true = rw f at h in cc no
    go false f rest = let more : passes p cs ≡ true = rw f at h in rw f (rest more)

pub behind_ended : (p : ℕ → Bool) (xs : List ℕ) (g : ℕ) (ys : List ℕ) → passes p xs ≡ true → p g ≡ true → behind p (xs ++ g ∷ ys) ≡ ys
behind_ended p xs g ys h e = behind_passed p xs (g ∷ ys) h ∙ rw e refl
