-- THE LINES ABOUT BOTH ENDS of each set, or of each link of a set.
use Rattle.std.specs.Prelude.{ℕ, suc, List, [], ◌∷◌, ◌++◌}

-- of each of these one by one, from this number on; of what stands at one end alone nothing
abbrev pub pairs_text : {T : Type 0} → (ℕ → T → T → List ℕ) → ℕ → List T → List T → List ℕ
pairs_text text number [] far = []
pairs_text text number (a ∷ near) [] = []
pairs_text text number (a ∷ near) (b ∷ far) = text number a b ++ pairs_text text (suc number) near far
