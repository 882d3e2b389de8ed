-- Lines about both ends, one by one.
use Rattle.std.proofs.Common.{refl, arith, ◌≡◌, ◌∙◌, ap, sym, ℕ, suc, ◌+◌, ◌<◌, ◌≤◌, drop, drop-cons, add-one, get_or, List, [], ◌∷◌, ◌++◌, length}
use Rattle.std.proofs.lemmas.List.{append-nil, append_assoc}
use Rattle.run_text.specs.Pairs.{pairs_text}

module _ {T : Type 0} (text_of : ℕ → T → T → List ℕ) where
  -- where the other end has none left, nothing is left to tell
  pub none_left : (number : ℕ) (near far : List T) → length far < 1 → pairs_text text_of number near far ≡ []
  none_left number [] far few = refl
  none_left number (a ∷ near) [] few = refl
  none_left number (a ∷ near) (b ∷ far) few = absurd (omega (arith, few))

  -- one more is told
  pub one_more : (all text text' : List ℕ) (number i : ℕ) (near far left : List T) (a b : T) → left ≡ drop 1 far → all ≡ text ++ pairs_text text_of number (drop i near) far → i < length near → a ≡ get_or near i a
      → 1 ≤ length far → b ≡ get_or far 0 b → text' ≡ text ++ text_of number a b → all ≡ text' ++ pairs_text text_of (number + 1) (drop (i + 1) near) left
  one_more all text text' number i near [] left a b gone is less a_is some b_is more = absurd (omega (arith, some))
  one_more all text text' number i near (x ∷ far) left a b gone is less a_is some b_is more =
      let rest = pairs_text text_of (suc number) (drop (i + 1) near) far in
      let next : drop i near ≡ a ∷ drop (i + 1) near = rw add-one (drop-cons near i a less ∙ ap (λ y. y ∷ drop (suc i) near) (sym a_is)) in
      let counted : suc number ≡ number + 1 = omega arith in
      is ∙ ap (λ (xs : List T). text ++ pairs_text text_of number xs (x ∷ far)) next ∙ ap (λ (y : T). text ++ (text_of number a y ++ rest)) (sym b_is)
      ∙ sym (append_assoc text (text_of number a b) rest) ∙ ap (λ (front : List ℕ). front ++ rest) (sym more)
      ∙ ap (λ (n : ℕ). text' ++ pairs_text text_of n (drop (i + 1) near) far) counted ∙ ap (λ (xs : List T). text' ++ pairs_text text_of (number + 1) (drop (i + 1) near) xs) (sym gone)

-- then the text is whole
pub whole : (all text left : List ℕ) → all ≡ text ++ left → left ≡ [] → text ≡ all
whole all text left is none = sym (is ∙ (ap (λ (rest : List ℕ). text ++ rest) none ∙ append-nil text))
