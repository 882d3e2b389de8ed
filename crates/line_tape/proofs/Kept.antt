-- A tape with an octet more.
use Rattle.std.proofs.Common.{◌≡◌, ◌∙◌, ap, sym, ℕ, List, [], ◌∷◌, ◌++◌, Option, Some}
use Rattle.line_tape.specs.Taping.{Keeps}

one_of : (a b : List ℕ) → ◌≡◌ {A = Option (List ℕ)} (Some a) (Some b) → a ≡ b
one_of a b same = cc same

pub kept_more : (tape : Option (List ℕ)) (old new : List ℕ) (octet : ℕ) → tape ≡ Some old → new ≡ old ++ octet ∷ []
    → (put : List ℕ) → Keeps tape put → (x : List ℕ) → ◌≡◌ {A = Option (List ℕ)} (Some new) (Some x) → x ≡ put ++ octet ∷ []
kept_more tape old new octet was more put keeps x is =
    sym (one_of new x is) ∙ more ∙ ap (λ (xs : List ℕ). xs ++ octet ∷ []) (keeps old was)
