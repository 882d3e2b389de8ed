-- The octets of a number, the lowest first
use Rattle.std.proofs.Common.{◌≡◌, ℕ, zero, suc, ◌+◌, ◌-◌, ◌*◌, ◌/◌, ◌%◌, ◌^◌, ◌<◌, ◌≤◌, Bool, List, [], ◌∷◌, ◌++◌, length, take, drop, slice_index_or, All, refl, ap, sym, ◌∙◌, arith, append_assoc, append-nil}
use Rattle.std.proofs.lemmas.List.{take_at}
use Rattle.std.proofs.lemmas.List.Elements.{All-nil, All-cons}
use Rattle.std.proofs.lemmas.Nat.{mod-mul-add, div-mul-add}
use Rattle.std.proofs.Math.Nat.{div-div-eq-div-mul, pow-suc}
use Rattle.std.specs.Int.{w64, byte_at, bytes_low_first, from_le_bytes}
use Rattle.l2_bits.specs.LineBits.{bits_of, line_bits}
use Rattle.l2_bits.proofs.BitLemmas.{bits_of-zero, bits_of-add}
use Rattle.l2_bits.proofs.OctetLemmas.{IsOctet, bits_of_mod, line_bits-append}

byte_is : (i n : ℕ) → byte_at i n ≡ n / 256 ^ i % 2 ^ 8
byte_is zero n = let whole : n / 1 ≡ n = omega arith in rw whole refl
byte_is (suc i) n = refl

pub length-bytes : (i k n : ℕ) → length (bytes_low_first i k n) ≡ k
length-bytes i zero n = refl
length-bytes i (suc k) n = ap suc (length-bytes (suc i) k n)

pub bytes_in_range : (i k n : ℕ) → All IsOctet (bytes_low_first i k n)
bytes_in_range i zero n = All-nil IsOctet
bytes_in_range i (suc k) n =
    let low : byte_at i n < 2 ^ 8 = omega (arith, byte_is i n) in All-cons IsOctet (byte_at i n) (bytes_low_first (suc i) k n) low (bytes_in_range (suc i) k n)

-- their bits are those of the number
bytes_bits : (i k n : ℕ) → line_bits (bytes_low_first i k n) ≡ bits_of (8 * k) (n / 256 ^ i)
bytes_bits i zero n = sym (bits_of-zero (n / 256 ^ i))
bytes_bits i (suc k) n =
    let more : 8 * suc k ≡ 8 + 8 * k = omega arith in
    let next : n / 256 ^ i / 2 ^ 8 ≡ n / 256 ^ suc i = div-div-eq-div-mul n (256 ^ i) 256 ∙ ap (λ (m : ℕ). n / m) (sym (pow-suc 256 i)) in
    ap (λ (octet : ℕ). bits_of 8 octet ++ line_bits (bytes_low_first (suc i) k n)) (byte_is i n)
    ∙ ap (λ (front : List Bool). front ++ line_bits (bytes_low_first (suc i) k n)) (bits_of_mod 8 (n / 256 ^ i))
    ∙ ap (λ (rest : List Bool). bits_of 8 (n / 256 ^ i) ++ rest) (bytes_bits (suc i) k n ∙ ap (bits_of (8 * k)) (sym next))
    ∙ sym (bits_of-add 8 (8 * k) (n / 256 ^ i)) ∙ ap (λ (m : ℕ). bits_of m (n / 256 ^ i)) (sym more)

pub lowest_bytes : (k n : ℕ) → line_bits (bytes_low_first 0 k n) ≡ bits_of (8 * k) n
lowest_bytes k n = let whole : n / 1 ≡ n = omega arith in bytes_bits 0 k n ∙ ap (bits_of (8 * k)) whole

-- the first of more
bytes_apart : (i j k n : ℕ) → (rest : List ℕ) × (bytes_low_first i (j + k) n ≡ bytes_low_first i j n ++ rest)
bytes_apart i zero k n = let none : 0 + k ≡ k = omega arith in (bytes_low_first i k n, ap (λ (m : ℕ). bytes_low_first i m n) none)
bytes_apart i (suc j) k n =
    let later = bytes_apart (suc i) j k n in
    let more : suc j + k ≡ suc (j + k) = omega arith in
    (later.0, ap (λ (m : ℕ). bytes_low_first i m n) more ∙ ap (λ (octets : List ℕ). byte_at i n ∷ octets) later.1)

pub first_bytes : (k n : ℕ) (others : List ℕ) → k ≤ 8 → take k (bytes_low_first 0 8 n ++ others) ≡ bytes_low_first 0 k n
first_bytes k n others few =
    let sum : 8 ≡ k + (8 - k) = omega arith in
    let apart = bytes_apart 0 k (8 - k) n in
    ap (λ (m : ℕ). take k (bytes_low_first 0 m n ++ others)) sum ∙ ap (λ (octets : List ℕ). take k (octets ++ others)) apart.1
    ∙ ap (take k) (append_assoc (bytes_low_first 0 k n) apart.0 others) ∙ take_at (bytes_low_first 0 k n) (apart.0 ++ others) k (length-bytes 0 k n)

-- a few behind a front
pub take_behind : (front rest : List ℕ) (len k : ℕ) → length front ≡ len → take (len + k) (front ++ rest) ≡ front ++ take k rest
take_behind [] rest len k is = let none : len + k ≡ k = omega (arith, is) in ap (λ (n : ℕ). take n rest) none
take_behind (x ∷ front) rest zero k is = absurd (omega (arith, is))
take_behind (x ∷ front) rest (suc len) k is =
    let more : suc len + k ≡ suc (len + k) = omega arith in
    ap (λ (n : ℕ). take n (x ∷ (front ++ rest))) more ∙ ap (λ (octets : List ℕ). x ∷ octets) (take_behind front rest len k (omega (arith, is)))

-- Octets read as a number.

octet_first : (k a m n : ℕ) → a < 256 → n ≡ m * 256 + a → bits_of (8 + k) n ≡ bits_of 8 a ++ bits_of k m
octet_first k a m n fits is =
    let low : n % 2 ^ 8 ≡ a = ap (λ (x : ℕ). x % 2 ^ 8) is ∙ mod-mul-add m 256 a fits in
    let high : n / 2 ^ 8 ≡ m = ap (λ (x : ℕ). x / 2 ^ 8) is ∙ div-mul-add m 256 a fits in
    bits_of-add 8 k n ∙ ap (λ (front : List Bool). front ++ bits_of k (n / 2 ^ 8)) (sym (bits_of_mod 8 n) ∙ ap (bits_of 8) low)
    ∙ ap (λ (x : ℕ). bits_of 8 a ++ bits_of k x) high

pub seven_bits : (a b c d e f g n : ℕ) → a < 256 → b < 256 → c < 256 → d < 256 → e < 256 → f < 256 → g < 256
    → n ≡ from_le_bytes w64 (a ∷ b ∷ c ∷ d ∷ e ∷ f ∷ g ∷ 0 ∷ []) → bits_of 56 n ≡ line_bits (a ∷ b ∷ c ∷ d ∷ e ∷ f ∷ g ∷ [])
seven_bits a b c d e f g n fa fb fc fd fe ff fg is =
    let n5 : ℕ = g * 256 + f in
    let n4 : ℕ = (g * 256 + f) * 256 + e in
    let n3 : ℕ = ((g * 256 + f) * 256 + e) * 256 + d in
    let n2 : ℕ = (((g * 256 + f) * 256 + e) * 256 + d) * 256 + c in
    let n1 : ℕ = ((((g * 256 + f) * 256 + e) * 256 + d) * 256 + c) * 256 + b in
    octet_first 48 a n1 n fa (omega (arith, is))
    ∙ ap (λ (rest : List Bool). bits_of 8 a ++ rest) (octet_first 40 b n2 n1 fb refl
    ∙ ap (λ (rest : List Bool). bits_of 8 b ++ rest) (octet_first 32 c n3 n2 fc refl
    ∙ ap (λ (rest : List Bool). bits_of 8 c ++ rest) (octet_first 24 d n4 n3 fd refl
    ∙ ap (λ (rest : List Bool). bits_of 8 d ++ rest) (octet_first 16 e n5 n4 fe refl
    ∙ ap (λ (rest : List Bool). bits_of 8 e ++ rest) (octet_first 8 f g n5 ff refl
    ∙ ap (λ (rest : List Bool). bits_of 8 f ++ rest) (sym (append-nil (bits_of 8 g))))))))

-- Octets that come next, where nothing was left of those before.

none_left : (left bits : ℕ) (others : List Bool) → left ≡ 0 → others ≡ bits_of left bits ++ others
none_left left bits others none = ap (λ (front : List Bool). front ++ others) (sym (bits_of-zero bits) ∙ ap (λ (k : ℕ). bits_of k bits) (sym none))

pub nothing_next : (left bits : ℕ) (octets : List ℕ) → left ≡ 0 → length octets < 1 → bits_of left bits ++ line_bits octets ≡ []
nothing_next left bits [] none few = sym (none_left left bits [] none)
nothing_next left bits (x ∷ octets) none few = absurd (omega arith)

pub one_next : (left bits d : ℕ) (octets : List ℕ) → left ≡ 0 → 1 ≤ length octets
    → bits_of 8 (slice_index_or octets 0 d) ++ line_bits (drop 1 octets) ≡ bits_of left bits ++ line_bits octets
one_next left bits d [] none some = absurd (omega arith)
one_next left bits d (x ∷ octets) none some = none_left left bits (line_bits (x ∷ octets)) none

pub seven_next : (left bits h : ℕ) (octets : List ℕ) (new : List Bool) → left ≡ 0 → 7 ≤ length octets
    → new ≡ line_bits (slice_index_or octets 0 h ∷ slice_index_or octets 1 h ∷ slice_index_or octets 2 h ∷ slice_index_or octets 3 h ∷ slice_index_or octets 4 h ∷ slice_index_or octets 5 h ∷ slice_index_or octets 6 h ∷ [])
    → new ++ line_bits (drop 7 octets) ≡ bits_of left bits ++ line_bits octets
seven_next left bits h (a ∷ b ∷ c ∷ d ∷ e ∷ f ∷ g ∷ octets) new none some is =
    ap (λ (front : List Bool). front ++ line_bits octets) is ∙ sym (line_bits-append (a ∷ b ∷ c ∷ d ∷ e ∷ f ∷ g ∷ []) octets)
    ∙ none_left left bits (line_bits (a ∷ b ∷ c ∷ d ∷ e ∷ f ∷ g ∷ octets)) none
seven_next left bits h (a ∷ b ∷ c ∷ d ∷ e ∷ f ∷ []) new none some is = absurd (omega arith)
seven_next left bits h (a ∷ b ∷ c ∷ d ∷ e ∷ []) new none some is = absurd (omega arith)
seven_next left bits h (a ∷ b ∷ c ∷ d ∷ []) new none some is = absurd (omega arith)
seven_next left bits h (a ∷ b ∷ c ∷ []) new none some is = absurd (omega arith)
seven_next left bits h (a ∷ b ∷ []) new none some is = absurd (omega arith)
seven_next left bits h (a ∷ []) new none some is = absurd (omega arith)
seven_next left bits h [] new none some is = absurd (omega arith)
