-- The bits between two flags, good where they are the text of a signal unit that checks (Q.703 2.2, 3.2, 4.2)
use Rattle.std.specs.Prelude.{◌≡◌, ℕ, ◌≢◌, ◌≤◌, ◌<◌, ◌^◌, Bool, false, List, [], ◌∷◌, ◌++◌, length, All}
use Rattle.l2_bits.specs.LineBits.{line_bits}
use Rattle.l2_bits.specs.SealedText.{sealed_text}
use Rattle.l2_bits.specs.Flags.{Closes}
use Rattle.l2_bits.specs.Stuffing.{ones, Stuffed}

-- the bits are the text of these octets, 3 to 276, and of their two check octets
pub record IsGood (raw : List Bool) (octets : List ℕ) : Type 0 where
  pub in_range : All (λ octet. octet < 2 ^ 8) octets
  pub shortest : 3 ≤ length octets
  pub longest : length octets ≤ 276
  pub stuffed : Stuffed (line_bits (sealed_text octets)) raw

-- The content up to the next zero, which ends a flag: that of these octets and of their check octets, and then
-- what the flag leaves of itself where zeros are taken out, since its sixth one stands where one would be
pub record IsClosed (content : List Bool) (octets : List ℕ) : Type 0 where
  pub in_range : All (λ octet. octet < 2 ^ 8) octets
  pub shortest : 3 ≤ length octets
  pub longest : length octets ≤ 276
  pub closed : content ≡ line_bits (sealed_text octets) ++ false ∷ ones 5

-- with the next bit a good signal unit ends, of these octets
pub record EndsGood (past : List Bool) (bit : Bool) (octets : List ℕ) : Type 0 where
  pub raw : List Bool
  pub closes : Closes past bit raw
  pub good : IsGood raw octets

-- with the next bit something else ends
pub record EndsBad (past : List Bool) (bit : Bool) : Type 0 where
  pub raw : List Bool
  pub closes : Closes past bit raw
  pub not_empty : raw ≢ []
  pub not_good : (octets : List ℕ) → IsGood raw octets → ⊥
