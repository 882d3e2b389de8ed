-- Octets and their bits on the line, read back
use Rattle.std.proofs.Common.{◌≡◌, ℕ, ◌+◌, ◌-◌, ◌*◌, ◌/◌, ◌%◌, ◌^◌, ◌<◌, ◌≤◌, Bool, true, false, List, [], ◌∷◌, ◌++◌, length, take, drop, bit_or, All, refl, ap, sym, ◌∙◌, arith, append_assoc, length-append}
use Rattle.std.proofs.lemmas.List.{take_at, drop_at, drop-append-le, drop-drop}
use Rattle.std.proofs.lemmas.List.Elements.{All-head, All-tail}
use Rattle.std.proofs.Math.Nat.{mod-eq_of_lt}
use Rattle.std.proofs.lemmas.Nat.{or_block}
use Rattle.std.specs.Int.Bits.{or_zero_r}
use Rattle.l2_bits.specs.LineBits.{bits_of, number_of, line_bits}
use Rattle.l2_bits.proofs.BitLemmas.{length-bits_of, number_of-bits_of, bits_of-number_of, bits_of-add}

-- the k lowest bits know nothing of the others
pub bits_of_mod : (k n : ℕ) → bits_of k (n % 2 ^ k) ≡ bits_of k n
bits_of_mod k n =
    ap (bits_of k) (sym (number_of-bits_of k n))
    ∙ rw length-bits_of at (bits_of-number_of (bits_of k n))

-- the first i of them
pub first_bits : (i k n : ℕ) → i ≤ k → take i (bits_of k n) ≡ bits_of i n
first_bits i k n within =
    let split : k ≡ i + (k - i) = omega arith in
    ap (λ (m : ℕ). take i (bits_of m n)) split ∙ ap (take i) (bits_of-add i (k - i) n)
    ∙ take_at (bits_of i n) (bits_of (k - i) (n / 2 ^ i)) i (length-bits_of i n)

-- a register of eight bits after one more: the lowest goes, the new one comes in at the top
pub shifted_one : (register : ℕ) → register < 2 ^ 8
    → bits_of 8 (register / 2 + 128) ≡ drop 1 (bits_of 8 register) ++ true ∷ []
unfolding bits_of
shifted_one register fits =
    let low : (register / 2 + 128) % 2 ^ 7 ≡ register / 2 = omega arith in
    let high : (register / 2 + 128) / 2 ^ 7 ≡ 1 = omega arith in
    let front : bits_of 7 (register / 2 + 128) ≡ bits_of 7 (register / 2) =
    sym (bits_of_mod 7 (register / 2 + 128)) ∙ ap (bits_of 7) low in
    bits_of-add 7 1 (register / 2 + 128)
    ∙ ap (λ (bits : List Bool). bits ++ bits_of 1 ((register / 2 + 128) / 2 ^ 7)) front
    ∙ ap (λ (n : ℕ). bits_of 7 (register / 2) ++ bits_of 1 n) high

pub shifted_zero : (register : ℕ) → register < 2 ^ 8
    → bits_of 8 (register / 2) ≡ drop 1 (bits_of 8 register) ++ false ∷ []
unfolding bits_of
shifted_zero register fits =
    let high : register / 2 / 2 ^ 7 ≡ 0 = omega arith in
    bits_of-add 7 1 (register / 2) ∙ ap (λ (n : ℕ). bits_of 7 (register / 2) ++ bits_of 1 n) high

-- equal bits, equal octets
pub octet_alone : (a b : ℕ) → a < 2 ^ 8 → b < 2 ^ 8 → bits_of 8 a ≡ bits_of 8 b → a ≡ b
octet_alone a b first second same =
    sym (mod-eq_of_lt first) ∙ sym (number_of-bits_of 8 a) ∙ ap number_of same
    ∙ number_of-bits_of 8 b ∙ mod-eq_of_lt second

pub length-line_bits : (octets : List ℕ) → length (line_bits octets) ≡ 8 * length octets
length-line_bits [] = refl
length-line_bits (octet ∷ octets) =
    omega (arith, length-append (bits_of 8 octet) (line_bits octets), length-bits_of 8 octet, length-line_bits octets)

pub line_bits-append : (a b : List ℕ) → line_bits (a ++ b) ≡ line_bits a ++ line_bits b
line_bits-append [] b = refl
line_bits-append (octet ∷ a) b =
    ap (λ (bits : List Bool). bits_of 8 octet ++ bits) (line_bits-append a b)
    ∙ sym (append_assoc (bits_of 8 octet) (line_bits a) (line_bits b))

-- equal bits on the line, equal octets
abbrev pub IsOctet : ℕ → Type 0
IsOctet octet = octet < 2 ^ 8

pub octets_alone : (a b : List ℕ) → All IsOctet a → All IsOctet b
    → line_bits a ≡ line_bits b → a ≡ b
octets_alone [] [] first second same = refl
octets_alone [] (y ∷ b) first second same =
    absurd (omega (arith, ap length same, length-line_bits (y ∷ b)))
octets_alone (x ∷ a) [] first second same =
    absurd (omega (arith, ap length same, length-line_bits (x ∷ a)))
octets_alone (x ∷ a) (y ∷ b) first second same =
    let here : bits_of 8 x ≡ bits_of 8 y =
    sym (take_at (bits_of 8 x) (line_bits a) 8 (length-bits_of 8 x)) ∙ ap (take 8) same
    ∙ take_at (bits_of 8 y) (line_bits b) 8 (length-bits_of 8 y) in
    let there : line_bits a ≡ line_bits b =
    sym (drop_at (bits_of 8 x) (line_bits a) 8 (length-bits_of 8 x)) ∙ ap (drop 8) same
    ∙ drop_at (bits_of 8 y) (line_bits b) 8 (length-bits_of 8 y) in
    let head : x ≡ y = octet_alone x y (All-head IsOctet x a first) (All-head IsOctet y b second) here in
    let tail : a ≡ b = octets_alone a b (All-tail IsOctet x a first) (All-tail IsOctet y b second) there in
    cc

-- a register that has driven its first zeros out
pub driven_on : (zeros bits : List Bool) (bit : Bool) → (i : ℕ) → i < length zeros → i ≤ length bits
    → drop 1 (drop i (zeros ++ take i bits)) ++ bit ∷ [] ≡ drop (i + 1) (zeros ++ (take i bits ++ bit ∷ []))
driven_on zeros bits bit i within has =
    let long : i + 1 ≤ length (zeros ++ take i bits) = omega (arith, length-append zeros (take i bits)) in
    ap (λ (left : List Bool). left ++ bit ∷ []) (drop-drop 1 i (zeros ++ take i bits))
    ∙ sym (drop-append-le (i + 1) (zeros ++ take i bits) (bit ∷ []) long)
    ∙ ap (drop (i + 1)) (append_assoc zeros (take i bits) (bit ∷ []))

-- the top bit of an octet that has none
pub or_top : (n : ℕ) → n < 128 → bit_or n 128 ≡ n + 128
or_top n below =
    let parts : bit_or (0 * 2 ^ 7 + n) (1 * 2 ^ 7 + 0) ≡ bit_or 0 1 * 2 ^ 7 + bit_or n 0 = or_block 7 0 1 n 0 (omega arith) (omega arith) in
    let left : 0 * 2 ^ 7 + n ≡ n = omega arith in
    ap (λ (m : ℕ). bit_or m 128) (sym left) ∙ parts ∙ rw or_zero_r (omega arith)
