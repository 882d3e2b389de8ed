-- The check bits of a signal unit, by long division (Q.703 4.2).
-- A polynomial over 0 and 1 is the list of its terms, the highest first. The standard adds the two
-- remainders of the terms of the dividend, modulo 2: that is the remainder of their sum.
use Rattle.std.specs.Prelude.{ℕ, zero, suc, Bool, true, false, not, if◌then◌else◌, List, [], ◌∷◌, ◌++◌, length, map, replicate}

-- the sum modulo 2 of two polynomials from their highest terms on, as long as the first. It is their
-- difference too
unfoldable pub sum_of : List Bool → List Bool → List Bool
sum_of [] ys = []
sum_of (x ∷ xs) [] = x ∷ xs
sum_of (x ∷ xs) (y ∷ ys) = (if x then not y else y) ∷ sum_of xs ys

-- x^16 + x^12 + x^5 + 1 without its highest term: x^15 down to 1
unfoldable pub generator : List Bool
generator =
    false ∷ false ∷ false ∷ true ∷ false ∷ false ∷ false ∷ false ∷
    false ∷ false ∷ true ∷ false ∷ false ∷ false ∷ false ∷ true ∷ []

-- what is left after k steps of long division by the generator: each step takes the highest term away,
-- and where that is 1 subtracts the generator below it
unfoldable pub remainder_after : ℕ → List Bool → List Bool
remainder_after zero terms = terms
remainder_after (suc k) [] = []
remainder_after (suc k) (false ∷ terms) = remainder_after k terms
remainder_after (suc k) (true ∷ terms) = remainder_after k (sum_of terms generator)

-- x^k (x^15 + .. + 1) + x^16 P for content P of k bits, the first bit on the line its highest term
unfoldable pub dividend_of : List Bool → List Bool
dividend_of content =
    sum_of (content ++ replicate 16 false) (replicate 16 true ++ replicate (length content) false)

-- the remainder, each of its 16 bits inverted, the highest sent first
unfoldable pub check_bits : List Bool → List Bool
check_bits content = map not (remainder_after (length content) (dividend_of content))
