-- Long division, and the register that stands for it
use Rattle.std.proofs.Common.{◌≡◌, ℕ, zero, suc, ◌+◌, ◌-◌, ◌/◌, ◌%◌, ◌^◌, ◌<◌, ◌≤◌, ◌==◌, Bool, true, false, not, if◌then◌else◌, List, [], ◌∷◌, ◌++◌, length, map, replicate, bit_xor, refl, ap, sym, ◌∙◌, arith, append_assoc, length-append}
use Rattle.std.proofs.lemmas.List.{length-map}
use Rattle.l2_bits.specs.LineBits.{bits_of}
use Rattle.l2_bits.specs.CheckBits.{sum_of, generator, remainder_after, dividend_of, check_bits}
use Rattle.l2_bits.specs.Register.{DividesTo}
use Rattle.l2_bits.proofs.BitLemmas.{bits_of-suc, bits_of_more, length-bits_of, bits_of-xor, bits_of_not}

pub length-sum_of : (xs ys : List Bool) → length (sum_of xs ys) ≡ length xs
unfolding sum_of
length-sum_of [] ys = refl
length-sum_of (x ∷ xs) [] = refl
length-sum_of (x ∷ xs) (y ∷ ys) = ap suc (length-sum_of xs ys)

pub sum_of-nil : (xs : List Bool) → sum_of xs [] ≡ xs
unfolding sum_of
sum_of-nil [] = refl
sum_of-nil (x ∷ xs) = refl

-- zeros at the end add nothing
pub sum_of-zeros : (xs ys : List Bool) (k : ℕ) → sum_of xs (ys ++ replicate k false) ≡ sum_of xs ys
unfolding sum_of
sum_of-zeros [] ys k = refl
sum_of-zeros (x ∷ xs) [] zero = refl
sum_of-zeros (false ∷ xs) [] (suc k) = ap (λ (rest : List Bool). false ∷ rest) (sum_of-zeros xs [] k ∙ sum_of-nil xs)
sum_of-zeros (true ∷ xs) [] (suc k) = ap (λ (rest : List Bool). true ∷ rest) (sum_of-zeros xs [] k ∙ sum_of-nil xs)
sum_of-zeros (x ∷ xs) (y ∷ ys) k =
    ap (λ (rest : List Bool). (if x then not y else y) ∷ rest) (sum_of-zeros xs ys k)

-- a polynomial added to as many zeros
sum_of_zeros_first : (k : ℕ) (ys : List Bool) → length ys ≡ k → sum_of (replicate k false) ys ≡ ys
unfolding sum_of
sum_of_zeros_first zero [] same = refl
sum_of_zeros_first zero (y ∷ ys) same = absurd (omega arith)
sum_of_zeros_first (suc k) [] same = absurd (omega arith)
sum_of_zeros_first (suc k) (y ∷ ys) same =
    ap (λ (rest : List Bool). y ∷ rest) (sum_of_zeros_first k ys (omega arith))

bit_sum : (x y z : Bool)
    → (if (if x then not y else y) then not z else z)
    ≡ (if x then not (if y then not z else z) else (if y then not z else z))
bit_sum true true true = refl
bit_sum true true false = refl
bit_sum true false true = refl
bit_sum true false false = refl
bit_sum false y z = refl

pub sum_of-sum_of : (xs ys zs : List Bool) → length ys ≡ length zs
    → sum_of (sum_of xs ys) zs ≡ sum_of xs (sum_of ys zs)
unfolding sum_of
sum_of-sum_of [] ys zs same = refl
sum_of-sum_of (x ∷ xs) [] [] same = refl
sum_of-sum_of (x ∷ xs) [] (z ∷ zs) same = absurd (omega arith)
sum_of-sum_of (x ∷ xs) (y ∷ ys) [] same = refl
sum_of-sum_of (x ∷ xs) (y ∷ ys) (z ∷ zs) same =
    rw (bit_sum x y z, sum_of-sum_of xs ys zs (omega arith)) refl

-- 0x8408 is the generator, the highest term in the lowest bit
bits_of_generator : bits_of 16 0x8408 ≡ generator
unfolding bits_of generator
bits_of_generator = refl

bits_of_ones : bits_of 16 0xFFFF ≡ replicate 16 true
unfolding bits_of
bits_of_ones = refl

-- the register without its lowest bit: a zero comes in at the other end
shifted : (register : ℕ) (more : List Bool) → register < 2 ^ 16
    → sum_of more (bits_of 15 (register / 2)) ≡ sum_of more (bits_of 16 (register / 2))
shifted register more fits =
    let half : register / 2 < 2 ^ 15 = omega arith in
    sym (ap (sum_of more) (bits_of_more 15 (register / 2) half) ∙ sum_of-zeros more (bits_of 15 (register / 2)) 1)

-- the highest term that is left, where the next bit meets the register
abbrev pub front_of : ℕ → Bool → Bool
front_of register bit = if bit then not (register % 2 == 1) else (register % 2 == 1)

-- one bit meets the register
first_term : (register : ℕ) (bit : Bool) (more : List Bool) → register < 2 ^ 16
    → sum_of (bit ∷ more) (bits_of 16 register)
    ≡ front_of register bit ∷ sum_of more (bits_of 16 (register / 2))
unfolding sum_of
first_term register bit more fits =
    ap (sum_of (bit ∷ more)) (bits_of-suc 15 register)
    ∙ ap (λ (rest : List Bool). front_of register bit ∷ rest) (shifted register more fits)

-- the generator is subtracted from the terms by way of the register
subtracted : (register : ℕ) (more : List Bool)
    → sum_of (sum_of more (bits_of 16 register)) generator ≡ sum_of more (bits_of 16 (bit_xor register 0x8408))
subtracted register more =
    ap (sum_of (sum_of more (bits_of 16 register))) (sym bits_of_generator)
    ∙ sum_of-sum_of more (bits_of 16 register) (bits_of 16 0x8408) (length-bits_of 16 register ∙ sym (length-bits_of 16 0x8408))
    ∙ ap (sum_of more) (sym (bits_of-xor 16 register 0x8408))

one_step : (k : ℕ) (terms : List Bool) → remainder_after (1 + k) terms ≡ remainder_after (suc k) terms
one_step k terms = ap (λ (n : ℕ). remainder_after n terms) (omega arith)

-- the front term is 0
pub DividesTo_zero : (register : ℕ) (bit : Bool) → register < 2 ^ 16
    → front_of register bit ≡ false → DividesTo register (bit ∷ []) (register / 2)
unfolding remainder_after
DividesTo_zero register bit fits front = record {
  divides = λ k more.
      one_step k (sum_of (bit ∷ more) (bits_of 16 register))
      ∙ ap (remainder_after (suc k)) (first_term register bit more fits ∙ ap (λ (term : Bool). term ∷ sum_of more (bits_of 16 (register / 2))) front);
}

-- the front term is 1
pub DividesTo_one : (register : ℕ) (bit : Bool) → register < 2 ^ 16
    → front_of register bit ≡ true → DividesTo register (bit ∷ []) (bit_xor (register / 2) 0x8408)
unfolding remainder_after
DividesTo_one register bit fits front = record {
  divides = λ k more.
      one_step k (sum_of (bit ∷ more) (bits_of 16 register))
      ∙ ap (remainder_after (suc k)) (first_term register bit more fits ∙ ap (λ (term : Bool). term ∷ sum_of more (bits_of 16 (register / 2))) front)
      ∙ ap (remainder_after k) (subtracted (register / 2) more);
}

-- no bit leaves the register as it is
pub DividesTo_none : (register : ℕ) → DividesTo register [] register
DividesTo_none register = record {
  divides = λ k more. ap (λ (n : ℕ). remainder_after n (sum_of more (bits_of 16 register))) (omega arith);
}

-- the bits of one list and then of another
pub DividesTo-append : (old middle new : ℕ) (xs ys : List Bool)
    → DividesTo old xs middle → DividesTo middle ys new → DividesTo old (xs ++ ys) new
DividesTo-append old middle new xs ys first second = record {
  divides = λ k more.
      ap (λ (n : ℕ). remainder_after n (sum_of ((xs ++ ys) ++ more) (bits_of 16 old))) (omega (arith, length-append xs ys))
      ∙ ap (λ (terms : List Bool). remainder_after (length xs + (length ys + k)) (sum_of terms (bits_of 16 old))) (append_assoc xs ys more)
      ∙ first.divides (length ys + k) (ys ++ more)
      ∙ second.divides k more;
}

-- the register after all the bits of the content, inverted, is the check bits
pub check_bits_of_register : (content : List Bool) (register : ℕ) → register < 2 ^ 16
    → DividesTo 0xFFFF content register → bits_of 16 (65535 - register) ≡ check_bits content
unfolding check_bits dividend_of remainder_after
check_bits_of_register content register fits divided =
    let zeros : List Bool = replicate 16 false in
    let dividend : sum_of (content ++ zeros) (replicate 16 true ++ replicate (length content) false) ≡ sum_of (content ++ zeros) (bits_of 16 0xFFFF) =
    sum_of-zeros (content ++ zeros) (replicate 16 true) (length content) ∙ ap (sum_of (content ++ zeros)) (sym bits_of_ones) in
    let remainder : remainder_after (length content) (sum_of (content ++ zeros) (bits_of 16 0xFFFF)) ≡ bits_of 16 register =
    ap (λ (n : ℕ). remainder_after n (sum_of (content ++ zeros) (bits_of 16 0xFFFF))) (omega arith)
    ∙ divided.divides 0 zeros
    ∙ sum_of_zeros_first 16 (bits_of 16 register) (length-bits_of 16 register) in
    bits_of_not 16 register fits
    ∙ ap (map not) (sym (ap (remainder_after (length content)) dividend ∙ remainder))

-- each step of the division takes one term away
length-remainder_after : (k : ℕ) (terms : List Bool)
    → k ≤ length terms → length (remainder_after k terms) + k ≡ length terms
unfolding remainder_after
length-remainder_after zero terms room = omega arith
length-remainder_after (suc k) [] room = absurd (omega arith)
length-remainder_after (suc k) (false ∷ terms) room = omega (arith, length-remainder_after k terms (omega arith))
length-remainder_after (suc k) (true ∷ terms) room =
    let same : length (sum_of terms generator) ≡ length terms = length-sum_of terms generator in
    omega (arith, length-remainder_after k (sum_of terms generator) (omega arith))

pub length-check_bits : (content : List Bool) → length (check_bits content) ≡ 16
unfolding check_bits dividend_of
length-check_bits content =
    let dividend : List Bool = sum_of (content ++ replicate 16 false) (replicate 16 true ++ replicate (length content) false) in
    let terms : length dividend ≡ length content + 16 =
    length-sum_of (content ++ replicate 16 false) (replicate 16 true ++ replicate (length content) false)
    ∙ length-append content (replicate 16 false) in
    length-map (remainder_after (length content) dividend) not
    ∙ omega (arith, length-remainder_after (length content) dividend (omega arith))
