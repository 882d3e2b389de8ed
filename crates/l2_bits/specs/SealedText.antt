-- A sealed text: the octets of a signal unit, and then their two check octets (Q.703 2.2, 4.2)
use Rattle.std.specs.Prelude.{◌≡◌, ℕ, ◌<◌, ◌^◌, List, [], ◌∷◌, ◌++◌, take, drop}
use Rattle.l2_bits.specs.LineBits.{line_bits, number_of}
use Rattle.l2_bits.specs.CheckBits.{check_bits}

-- the check bits packed into two octets, the first eight into the first, each from its lowest bit on
unfoldable pub check_octets : List ℕ → List ℕ
check_octets octets =
    number_of (take 8 (check_bits (line_bits octets)))
    ∷ number_of (drop 8 (check_bits (line_bits octets)))
    ∷ []

-- the octets, and then their check octets
unfoldable pub sealed_text : List ℕ → List ℕ
sealed_text octets = octets ++ check_octets octets

-- the text is the octets and two more, whose bits on the line are the check bits of the octets
pub record IsSealed (octets text : List ℕ) : Type 0 where
  pub low : ℕ
  pub high : ℕ
  pub low_in_range : low < 2 ^ 8
  pub high_in_range : high < 2 ^ 8
  pub followed : text ≡ octets ++ low ∷ high ∷ []
  pub on_the_line : line_bits (low ∷ high ∷ []) ≡ check_bits (line_bits octets)

-- the sealed text ends in the check bits
abbrev pub SealedTextMeetsCheck : Type 0
SealedTextMeetsCheck = (octets : List ℕ) → IsSealed octets (sealed_text octets)

-- no other text does
abbrev pub SealedTextIsOne : Type 0
SealedTextIsOne = (octets text : List ℕ) → IsSealed octets text → text ≡ sealed_text octets

-- no other octets have that text
abbrev pub SealedTextHasOneContent : Type 0
SealedTextHasOneContent = (a b : List ℕ) → sealed_text a ≡ sealed_text b → a ≡ b
