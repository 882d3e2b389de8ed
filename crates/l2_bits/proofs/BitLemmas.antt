-- The bits of a number and the number of bits
use Rattle.std.proofs.Common.{◌≡◌, ℕ, zero, suc, ◌+◌, ◌-◌, ◌*◌, ◌/◌, ◌%◌, ◌^◌, ◌<◌, ◌==◌, Bool, true, false, not, if◌then◌else◌, List, [], ◌∷◌, ◌++◌, length, map, bit_and, bit_xor, refl, ap, sym, ◌∙◌, arith}
use Rattle.std.proofs.Math.Nat.{pow-suc}
use Rattle.std.proofs.lemmas.Nat.{xor_shr, mod-pow-add, shr-shr, and_mask}
use Rattle.std.proofs.lemmas.Nat.Bits.{bit_at_xor, bit_at_lowest}
use Rattle.std.proofs.lemmas.Bool.Decides.{nat_tests}
use Rattle.l2_bits.specs.LineBits.{bits_of, number_of}
use Rattle.l2_bits.specs.CheckBits.{sum_of}

pub bits_of-suc : (k n : ℕ) → bits_of (suc k) n ≡ (n % 2 == 1) ∷ bits_of k (n / 2)
unfolding bits_of
bits_of-suc k n = refl

pub bits_of-zero : (n : ℕ) → bits_of zero n ≡ []
unfolding bits_of
bits_of-zero n = refl

pub length-bits_of : (k n : ℕ) → length (bits_of k n) ≡ k
unfolding bits_of
length-bits_of zero n = refl
length-bits_of (suc k) n = ap suc (length-bits_of k (n / 2))

-- a number below 2 ^ k has a zero for its next bit
pub bits_of_more : (k n : ℕ) → n < 2 ^ k → bits_of (suc k) n ≡ bits_of k n ++ false ∷ []
unfolding bits_of
bits_of_more zero n below = let none : n ≡ 0 = omega arith in rw none refl
bits_of_more (suc k) n below =
    let half : n / 2 < 2 ^ k = omega (arith, pow-suc 2 k) in
    ap (λ (bits : List Bool). (n % 2 == 1) ∷ bits) (bits_of_more k (n / 2) half)

-- the first j bits, and then the next k
pub bits_of-add : (j k n : ℕ) → bits_of (j + k) n ≡ bits_of j n ++ bits_of k (n / 2 ^ j)
unfolding bits_of
bits_of-add zero k n =
    let sum : 0 + k ≡ k = omega arith in
    let whole : n / 1 ≡ n = omega arith in
    rw (sum, whole) refl
bits_of-add (suc j) k n =
    let sum : suc j + k ≡ suc (j + k) = omega arith in
    let place : 1 + j ≡ suc j = omega arith in
    let halves : n / 2 / 2 ^ j ≡ n / 2 ^ suc j = shr-shr n 1 j ∙ ap (λ (i : ℕ). n / 2 ^ i) place in
    rw (sum, bits_of-add j k (n / 2), halves) refl

-- the bits of a number from a place on: the one that the code reads there, and the others
pub bits_of_place : (count octet place : ℕ) → place < count
    → bits_of (count - place) (octet / 2 ^ place)
    ≡ (bit_and (octet / 2 ^ place) 1 == 1) ∷ bits_of (count - (place + 1)) (octet / 2 ^ (place + 1))
unfolding bits_of
bits_of_place count octet place within =
    let left : count - place ≡ suc (count - (place + 1)) = omega arith in
    let lowest : bit_and (octet / 2 ^ place) 1 ≡ octet / 2 ^ place % 2 = and_mask (octet / 2 ^ place) 1 in
    rw (left, lowest, ← shr-shr octet place 1) refl

-- the lowest bit of a sum modulo 2
odd_sum : (a b c : ℕ) → c % 2 ≡ (a % 2 + b % 2) % 2
    → (c % 2 == 1) ≡ (if a % 2 == 1 then not (b % 2 == 1) else (b % 2 == 1))
odd_sum a b c h = grind (arith, nat_tests)

-- an exclusive or of numbers is a sum modulo 2 of their bits
pub bits_of-xor : (k a b : ℕ) → bits_of k (bit_xor a b) ≡ sum_of (bits_of k a) (bits_of k b)
unfolding bits_of sum_of
bits_of-xor zero a b = refl
bits_of-xor (suc k) a b =
    let lowest : bit_xor a b % 2 ≡ (a % 2 + b % 2) % 2 =
    sym (bit_at_lowest (bit_xor a b)) ∙ bit_at_xor a b 0
    ∙ ap (λ (n : ℕ). n % 2) (omega (arith, bit_at_lowest a, bit_at_lowest b)) in
    let rest : bits_of k (bit_xor a b / 2) ≡ sum_of (bits_of k (a / 2)) (bits_of k (b / 2)) =
    ap (bits_of k) (xor_shr a b 1) ∙ bits_of-xor k (a / 2) (b / 2) in
    rw (odd_sum a b (bit_xor a b) lowest, rest) refl

-- the lowest bit of a complement
odd_not : (a c : ℕ) → c % 2 + a % 2 ≡ 1 → (c % 2 == 1) ≡ not (a % 2 == 1)
odd_not a c h = grind (arith, nat_tests)

-- the complement of a number of k bits inverts each of them
pub bits_of_not : (k n : ℕ) → n < 2 ^ k → bits_of k (2 ^ k - 1 - n) ≡ map not (bits_of k n)
unfolding bits_of
bits_of_not zero n below = refl
bits_of_not (suc k) n below =
    let double : 2 ^ suc k ≡ 2 ^ k * 2 = pow-suc 2 k in
    let half : n / 2 < 2 ^ k = omega arith in
    let lowest : (2 ^ suc k - 1 - n) % 2 + n % 2 ≡ 1 = omega arith in
    let rest : (2 ^ suc k - 1 - n) / 2 ≡ 2 ^ k - 1 - n / 2 = omega arith in
    rw (odd_not n (2 ^ suc k - 1 - n) lowest, rest, bits_of_not k (n / 2) half) refl

bit_value : (n : ℕ) → (if n % 2 == 1 then 1 else 0) ≡ n % 2
bit_value n = grind (arith, nat_tests)

-- the number of the k lowest bits of n
pub number_of-bits_of : (k n : ℕ) → number_of (bits_of k n) ≡ n % 2 ^ k
unfolding bits_of number_of
number_of-bits_of zero n = omega arith
number_of-bits_of (suc k) n =
    let rest : number_of (bits_of k (n / 2)) ≡ n / 2 % 2 ^ k = number_of-bits_of k (n / 2) in
    let parts : n % 2 ^ (k + 1) ≡ (n / 2 % 2 ^ k) * 2 + n % 2 = mod-pow-add n k 1 in
    let place : suc k ≡ k + 1 = omega arith in
    rw (bit_value n, rest, place) (omega arith)

-- a number has no more bits than it is made of
pub number_of_below : (bits : List Bool) → number_of bits < 2 ^ length bits
unfolding number_of
number_of_below [] = omega arith
number_of_below (false ∷ bits) = omega (arith, pow-suc 2 (length bits), number_of_below bits)
number_of_below (true ∷ bits) = omega (arith, pow-suc 2 (length bits), number_of_below bits)

-- the bits of the number of bits are these bits
pub bits_of-number_of : (bits : List Bool) → bits_of (length bits) (number_of bits) ≡ bits
unfolding bits_of number_of
bits_of-number_of [] = refl
bits_of-number_of (false ∷ bits) =
    let even : (0 + 2 * number_of bits) % 2 ≡ 0 = omega arith in
    let half : (0 + 2 * number_of bits) / 2 ≡ number_of bits = omega arith in
    rw (even, half, bits_of-number_of bits) refl
bits_of-number_of (true ∷ bits) =
    let odd : (1 + 2 * number_of bits) % 2 ≡ 1 = omega arith in
    let half : (1 + 2 * number_of bits) / 2 ≡ number_of bits = omega arith in
    rw (odd, half, bits_of-number_of bits) refl
