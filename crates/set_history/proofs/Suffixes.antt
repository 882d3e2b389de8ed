-- The last of some octets, by how many they are.
use Rattle.std.proofs.Common.{arith, sym, ap, ◌≡◌, ◌∙◌, ◌≤◌, ◌+◌, ◌-◌, ℕ, List, ◌++◌, length, drop, nat_le, Bool, true, false, refl}
use Rattle.std.proofs.lemmas.List.{drop-drop, length-drop, drop_all, drop_at}
use Rattle.std.proofs.lemmas.Bool.Decides.{nat_tests}

by_size : (k : ℕ) (xs : List ℕ) (b : Bool) → nat_le k (length xs) ≡ b → drop (length xs - length (drop k xs)) xs ≡ drop k xs
by_size k xs true e =
    let fits : k ≤ length xs = grind (arith, nat_tests, e) in
    let long = length-drop k xs in
    let same : length xs - length (drop k xs) ≡ k = omega (arith, fits, long) in
    ap (λ (n : ℕ). drop n xs) same
by_size k xs false e =
    let past : length xs ≤ k = grind (arith, nat_tests, e) in
    let long = length-drop k xs in
    let none : length xs ≤ length xs - length (drop k xs) = omega (arith, past, long) in
    drop_all (length xs - length (drop k xs)) xs none ∙ sym (drop_all k xs past)

by_length : (k : ℕ) (ys xs : List ℕ) → ys ≡ drop k xs → drop (length xs - length ys) xs ≡ ys
by_length k ys xs e = ap (λ (zs : List ℕ). drop (length xs - length zs) xs) e ∙ by_size k xs (nat_le k (length xs)) refl ∙ sym e

-- a text stands at `next`, and the rest behind it
module _ (next : ℕ) (octets text rest : List ℕ) (e : drop next octets ≡ text ++ rest) where
  at : rest ≡ drop (next + length text) octets
  at = sym (drop_at text rest (length text) refl) ∙ ap (drop (length text)) (sym e) ∙ drop-drop (length text) next octets

  pub left_behind : drop (length octets - length rest) octets ≡ rest
  left_behind = by_length (next + length text) rest octets at

  pub few_behind : length rest ≤ length octets
  few_behind = let long = ap length at ∙ length-drop (next + length text) octets in omega (arith, long)
