-- What leaves: the bits of octets of which some were put, and of a part
use Rattle.std.proofs.Common.{◌≡◌, ℕ, ◌+◌, ◌-◌, ◌*◌, ◌^◌, ◌<◌, ◌≤◌, ◌==◌, nat_lt, Bool, List, [], ◌∷◌, ◌++◌, length, take, drop, get_or, refl, ap, sym, ◌∙◌, arith, append_assoc, length-append, length-drop, drop-cons, add-one}
use Rattle.std.proofs.lemmas.List.{take_at, drop_at, take_all, drop_all}
use Rattle.std.proofs.lemmas.Bool.Decides.{nat_tests}
use Rattle.std.proofs.Math.Nat.{mod-eq_of_lt}
use Rattle.l2_bits.specs.Flags.{flag}
use Rattle.l2_bits.specs.LineBits.{bits_of, number_of, line_bits}
use Rattle.l2_bits.proofs.BitLemmas.{bits_of-zero, length-bits_of, number_of-bits_of}
use Rattle.l2_bits.proofs.OctetLemmas.{length-line_bits}

abbrev pub left : ℕ → List ℕ → ℕ → ℕ → List Bool
left sent octets count bits = line_bits (drop sent octets) ++ bits_of count bits

length_left : (sent : ℕ) (octets : List ℕ) (count bits : ℕ) → length (left sent octets count bits) ≡ 8 * (length octets - sent) + count
length_left sent octets count bits =
    omega (arith, length-append (line_bits (drop sent octets)) (bits_of count bits), length-line_bits (drop sent octets), length-drop sent octets, length-bits_of count bits)

pub short_is : (sent : ℕ) (octets : List ℕ) (count bits : ℕ) → sent ≤ length octets → count < 8
    → (sent == length octets) ≡ nat_lt (length (left sent octets count bits)) 8
short_is sent octets count bits within few =
    let len : length (left sent octets count bits) ≡ 8 * (length octets - sent) + count = length_left sent octets count bits in
    rw len (grind (arith, nat_tests))

-- no whole octet is left
pub part_left : (sent : ℕ) (octets : List ℕ) (count bits : ℕ) → length octets ≤ sent → left sent octets count bits ≡ bits_of count bits
part_left sent octets count bits past =
    ap (λ (rest : List ℕ). line_bits rest ++ bits_of count bits) (drop_all sent octets past)

pub short_left : (sent : ℕ) (octets : List ℕ) (count bits : ℕ) → length (left sent octets count bits) < 8
    → left sent octets count bits ≡ bits_of count bits
short_left sent octets count bits short =
    part_left sent octets count bits (omega (arith, length_left sent octets count bits))

pub part_number : (sent : ℕ) (octets : List ℕ) (count bits : ℕ) → length octets ≤ sent → count < 8 → bits < 2 ^ count
    → number_of (take 8 (left sent octets count bits)) ≡ bits
part_number sent octets count bits past few fits =
    ap (λ (rest : List Bool). number_of (take 8 rest)) (part_left sent octets count bits past)
    ∙ ap number_of (take_all 8 (bits_of count bits) (omega (arith, length-bits_of count bits)))
    ∙ number_of-bits_of count bits ∙ mod-eq_of_lt fits

pub part_dropped : (sent : ℕ) (octets : List ℕ) (count bits none : ℕ) → length octets ≤ sent → count < 8
    → left sent octets 0 none ≡ drop 8 (left sent octets count bits)
part_dropped sent octets count bits none past few =
    part_left sent octets 0 none past ∙ bits_of-zero none
    ∙ sym (ap (drop 8) (part_left sent octets count bits past) ∙ drop_all 8 (bits_of count bits) (omega (arith, length-bits_of count bits)))

-- one is
octet_first : (sent : ℕ) (octets : List ℕ) (count bits d : ℕ) → sent < length octets
    → left sent octets count bits ≡ bits_of 8 (get_or octets sent d) ++ left (sent + 1) octets count bits
octet_first sent octets count bits d within =
    let first : drop sent octets ≡ get_or octets sent d ∷ drop (sent + 1) octets = rw (add-one, drop-cons octets sent d) refl in
    ap (λ (rest : List ℕ). line_bits rest ++ bits_of count bits) first
    ∙ append_assoc (bits_of 8 (get_or octets sent d)) (line_bits (drop (sent + 1) octets)) (bits_of count bits)

first_number : (sent : ℕ) (octets : List ℕ) (count bits : ℕ) → sent < length octets → get_or octets sent 0 < 2 ^ 8
    → number_of (take 8 (left sent octets count bits)) ≡ get_or octets sent 0
first_number sent octets count bits within fits =
    ap (λ (rest : List Bool). number_of (take 8 rest)) (octet_first sent octets count bits 0 within)
    ∙ ap number_of (take_at (bits_of 8 (get_or octets sent 0)) (left (sent + 1) octets count bits) 8 (length-bits_of 8 (get_or octets sent 0)))
    ∙ number_of-bits_of 8 (get_or octets sent 0) ∙ mod-eq_of_lt fits

-- read from a copy of the list
pub octet_number : (sent : ℕ) (octets copy : List ℕ) (count bits : ℕ) → copy ≡ octets → sent < length copy
    → get_or copy sent 0 < 2 ^ 8 → number_of (take 8 (left sent octets count bits)) ≡ get_or copy sent 0
octet_number sent octets copy count bits is within fits =
    let here : sent < length octets = rw is at within in
    let read : get_or octets sent 0 < 2 ^ 8 = rw is at fits in
    first_number sent octets count bits here read ∙ ap (λ (items : List ℕ). get_or items sent 0) (sym is)

pub octet_dropped : (sent : ℕ) (octets : List ℕ) (count bits : ℕ) → sent < length octets
    → left (sent + 1) octets count bits ≡ drop 8 (left sent octets count bits)
octet_dropped sent octets count bits within =
    sym (ap (drop 8) (octet_first sent octets count bits 0 within)
    ∙ drop_at (bits_of 8 (get_or octets sent 0)) (left (sent + 1) octets count bits) 8 (length-bits_of 8 (get_or octets sent 0)))

-- a flag alone
pub flag_alone : (bits : ℕ) → left 0 (126 ∷ []) 0 bits ≡ flag
unfolding bits_of flag
flag_alone bits = refl

pub flag_bits : bits_of 8 126 ≡ flag
unfolding bits_of flag
flag_bits = refl
