-- Entries that are passed over, one by one.
use Rattle.std.proofs.Common.{◌≡◌, ◌≤◌, ◌∙◌, ◌+◌, arith, ap, sym, ℕ, List, [], ◌∷◌, length, drop}
use Rattle.std.proofs.lemmas.List.{drop-drop, length-drop}

pub none_left : {X : Type 0} (xs : List X) (n : ℕ) → drop n xs ≡ [] → length xs ≤ n
none_left xs n is = let left = sym (length-drop n xs) ∙ ap length is in omega (arith, left)

pub one_passed : {X : Type 0} (xs ys : List X) (x : X) (n : ℕ) → drop n xs ≡ x ∷ ys → ys ≡ drop (n + 1) xs
one_passed xs ys x n is = sym (ap (λ (l : List _). drop 1 l) is) ∙ drop-drop 1 n xs
