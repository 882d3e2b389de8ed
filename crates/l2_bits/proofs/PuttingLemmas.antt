-- Bits put behind others, packed into octets
use Rattle.std.proofs.Common.{◌≡◌, ℕ, ◌+◌, ◌*◌, ◌/◌, ◌%◌, ◌^◌, ◌<◌, ◌≤◌, Bool, List, [], ◌∷◌, ◌++◌, bit_and, bit_or, ap, sym, ◌∙◌, arith, append_assoc}
use Rattle.std.proofs.lemmas.List.{append-nil}
use Rattle.std.proofs.lemmas.Nat.{and_mask, or_shifted, or_comm, shl_whole, shr_below}
use Rattle.l2_bits.specs.LineBits.{bits_of, line_bits}
use Rattle.l2_bits.proofs.BitLemmas.{bits_of-add}
use Rattle.l2_bits.proofs.OctetLemmas.{bits_of_mod, line_bits-append}
use Rattle.l2_bits.proofs.PackingLemmas.{joined_bits, joined_fits}

-- the number that the code makes of a part and of the bits behind it
pub whole_is : (more count part bits : ℕ) → more < 8 → count ≤ 8 → part < 2 ^ more → bits < 2 ^ count
    → bit_or part (bits * 2 ^ more % 2 ^ 16) ≡ bits * 2 ^ more + part
whole_is more count part bits less most part_fits bits_fit =
    ap (bit_or part) (shl_whole bits count more 16 bits_fit (omega arith))
    ∙ or_comm part (bits * 2 ^ more) ∙ or_shifted bits more part part_fits

-- no octet is whole yet
pub put_part : (front : List Bool) (more count part bits whole : ℕ) → part < 2 ^ more → whole ≡ bits * 2 ^ more + part
    → front ++ bits_of (more + count) whole ≡ (front ++ bits_of more part) ++ bits_of count bits
put_part front more count part bits whole part_fits is =
    ap (λ (n : ℕ). front ++ bits_of (more + count) n) is
    ∙ ap (λ (rest : List Bool). front ++ rest) (joined_bits more count part bits part_fits)
    ∙ sym (append_assoc front (bits_of more part) (bits_of count bits))

-- one is
pub put_whole : (octets : List ℕ) (more count part bits whole low high left : ℕ) → part < 2 ^ more
    → whole ≡ bits * 2 ^ more + part → low ≡ whole % 2 ^ 8 → high ≡ whole / 2 ^ 8 → more + count ≡ 8 + left
    → line_bits (octets ++ low ∷ []) ++ bits_of left high ≡ (line_bits octets ++ bits_of more part) ++ bits_of count bits
put_whole octets more count part bits whole low high left part_fits is is_low is_high split =
    let octet : bits_of 8 low ≡ bits_of 8 whole = ap (bits_of 8) is_low ∙ bits_of_mod 8 whole in
    let apart : bits_of (more + count) whole ≡ bits_of 8 low ++ bits_of left high =
    ap (λ (k : ℕ). bits_of k whole) split ∙ bits_of-add 8 left whole
    ∙ ap (λ (front : List Bool). front ++ bits_of left (whole / 2 ^ 8)) (sym octet)
    ∙ ap (λ (n : ℕ). bits_of 8 low ++ bits_of left n) (sym is_high) in
    ap (λ (front : List Bool). front ++ bits_of left high) (line_bits-append octets (low ∷ []) ∙ ap (λ (rest : List Bool). line_bits octets ++ rest) (append-nil (bits_of 8 low)))
    ∙ append_assoc (line_bits octets) (bits_of 8 low) (bits_of left high)
    ∙ ap (λ (rest : List Bool). line_bits octets ++ rest) (sym apart)
    ∙ put_part (line_bits octets) more count part bits whole part_fits is

pub high_fits : (more count part bits whole left : ℕ) → part < 2 ^ more → bits < 2 ^ count → whole ≡ bits * 2 ^ more + part
    → more + count ≡ 8 + left → whole / 2 ^ 8 < 2 ^ left
high_fits more count part bits whole left part_fits bits_fit is split =
    let turned : left + 8 ≡ more + count = omega arith in
    shr_below whole left 8 (rw (turned, is) (joined_fits more count part bits part_fits bits_fit))

-- an octet's halves
pub halves : (octet : ℕ) → bits_of 8 octet ≡ bits_of 4 (bit_and octet 15) ++ bits_of 4 (octet / 16)
halves octet =
    bits_of-add 4 4 octet
    ∙ ap (λ (front : List Bool). front ++ bits_of 4 (octet / 16)) (sym (ap (bits_of 4) (and_mask octet 4) ∙ bits_of_mod 4 octet))
