-- Flags, and the bits between them (Q.703 3.1)
use Rattle.std.specs.Prelude.{◌≡◌, Bool, true, false, List, [], ◌∷◌, ◌++◌}

-- 01111110
unfoldable pub flag : List Bool
flag = false ∷ true ∷ true ∷ true ∷ true ∷ true ∷ true ∷ false ∷ []

-- these bits are the last of the line
pub record EndsIn (line tail : List Bool) : Type 0 where
  pub front : List Bool
  pub split : line ≡ front ++ tail

-- A flag ends with the last of the bits fed. One is read as if it had ended just before the first (own)
abbrev pub IsFlagEnd : List Bool → Type 0
IsFlagEnd fed = EndsIn (flag ++ fed) flag

-- the bits fed since the last flag ended
pub record Since (fed since : List Bool) : Type 0 where
  pub before : List Bool
  pub split : fed ≡ before ++ since
  pub ended : IsFlagEnd before
  pub none_later : (a b : List Bool) (bit : Bool) → since ≡ a ++ bit ∷ b
      → IsFlagEnd (before ++ a ++ bit ∷ []) → ⊥

-- With the next bit a flag ends, and these bits stand between the flag before and it. None stand between two
-- flags that share a zero
pub record Closes (past : List Bool) (bit : Bool) (raw : List Bool) : Type 0 where
  pub since : List Bool
  pub is_since : Since past since
  pub closed : since ++ bit ∷ [] ≡ raw ++ flag
