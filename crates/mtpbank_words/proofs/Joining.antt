-- A text of four parts that were added one after the other.
use Rattle.std.proofs.Common.{◌≡◌, ◌∙◌, ap, ℕ, List, ◌++◌}
use Rattle.std.proofs.lemmas.List.{append_assoc}

pub joined : (all third second first head word middle tail : List ℕ) → all ≡ third ++ tail → third ≡ second ++ middle → second ≡ first ++ word → first ≡ head
    → all ≡ head ++ (word ++ (middle ++ tail))
joined all third second first head word middle tail p q r s =
    p ∙ ap (λ (x : List ℕ). x ++ tail) (q ∙ ap (λ (x : List ℕ). x ++ middle) (r ∙ ap (λ (x : List ℕ). x ++ word) s))
    ∙ append_assoc (head ++ word) middle tail ∙ append_assoc head word (middle ++ tail)
