-- Five ones before a bit, by the last eight bits and up to 56 that follow
use Rattle.std.proofs.Common.{◌≡◌, ℕ, ◌+◌, ◌*◌, ◌/◌, ◌%◌, ◌^◌, ◌<◌, ◌≤◌, min, Bool, true, List, ◌∷◌, ◌++◌, length, take, bit_and, bit_or, refl, ap, sym, ◌∙◌, arith, append_assoc, length-append}
use Rattle.std.proofs.lemmas.List.{take_at, length-replicate}
use Rattle.std.proofs.lemmas.Nat.{shr-shr, or_shifted, mod-mul-add, div-mul-add}
use Rattle.std.proofs.lemmas.Nat.Bits.{bit_at_and}
use Rattle.l2_bits.specs.LineBits.{bits_of, number_of}
use Rattle.l2_bits.specs.Flags.{flag, EndsIn, Since}
use Rattle.l2_bits.specs.Stuffing.{ones}
use Rattle.l2_bits.proofs.BitLemmas.{bits_of-add, length-bits_of, number_of-bits_of}
use Rattle.l2_bits.proofs.OctetLemmas.{bits_of_mod, first_bits}
use Rattle.l2_bits.proofs.LineLemmas.{ends_same}
use Rattle.l2_bits.proofs.RunLemmas.{run_of, run_since, run_ends, ones_bits}
use Rattle.l2_bits.proofs.DeframingLemmas.{Plain}

-- the bits of the window that the code compares
abbrev pub window_fives : ℕ → ℕ
window_fives w = bit_and (bit_and (bit_and w (w / 2)) (bit_and w (w / 2) / 4)) (w / 16)

shr_at : (n k i : ℕ) → n / 2 ^ k / 2 ^ i % 2 ≡ n / 2 ^ i / 2 ^ k % 2
shr_at n k i =
    let turned : k + i ≡ i + k = omega arith in
    ap (λ (m : ℕ). m % 2) (shr-shr n k i ∙ ap (λ (e : ℕ). n / 2 ^ e) turned ∙ sym (shr-shr n i k))

five_seen : (w i : ℕ) → w / 2 ^ i % 32 ≡ 31 → window_fives w / 2 ^ i % 2 ≡ 1
five_seen w i all =
    let b0 : w / 2 ^ i % 2 ≡ 1 = omega arith in
    let b1 : w / 2 / 2 ^ i % 2 ≡ 1 = shr_at w 1 i ∙ omega arith in
    let pairs : bit_and w (w / 2) / 2 ^ i % 2 ≡ 1 = bit_at_and w (w / 2) i ∙ ap (λ (x : ℕ). min x (w / 2 / 2 ^ i % 2)) b0 ∙ ap (min 1) b1 in
    let turned : 2 + i ≡ i + 2 = omega arith in
    let third : w / 2 ^ (2 + i) ≡ w / 2 ^ i / 4 = ap (λ (e : ℕ). w / 2 ^ e) turned ∙ sym (shr-shr w i 2) in
    let b2 : w / 2 ^ (2 + i) % 2 ≡ 1 = ap (λ (x : ℕ). x % 2) third ∙ omega arith in
    let b3 : w / 2 / 2 ^ (2 + i) % 2 ≡ 1 = shr_at w 1 (2 + i) ∙ ap (λ (x : ℕ). x / 2 % 2) third ∙ omega arith in
    let later : bit_and w (w / 2) / 4 / 2 ^ i % 2 ≡ 1 =
    ap (λ (x : ℕ). x % 2) (shr-shr (bit_and w (w / 2)) 2 i) ∙ bit_at_and w (w / 2) (2 + i) ∙ ap (λ (x : ℕ). min x (w / 2 / 2 ^ (2 + i) % 2)) b2 ∙ ap (min 1) b3 in
    let b4 : w / 16 / 2 ^ i % 2 ≡ 1 = shr_at w 4 i ∙ omega arith in
    let both : bit_and (bit_and w (w / 2)) (bit_and w (w / 2) / 4) / 2 ^ i % 2 ≡ 1 =
    bit_at_and (bit_and w (w / 2)) (bit_and w (w / 2) / 4) i ∙ ap (λ (x : ℕ). min x (bit_and w (w / 2) / 4 / 2 ^ i % 2)) pairs ∙ ap (min 1) later in
    bit_at_and (bit_and (bit_and w (w / 2)) (bit_and w (w / 2) / 4)) (w / 16) i ∙ ap (λ (x : ℕ). min x (w / 16 / 2 ^ i % 2)) both ∙ ap (min 1) b4

-- two octets in one number
pub pair_is : (low high : ℕ) → low < 256 → high < 256 → bit_or (high * 256 % 65536) low ≡ high * 2 ^ 8 + low
pair_is low high low_fits high_fits =
    let whole : high * 256 % 65536 ≡ high * 2 ^ 8 = omega arith in
    ap (λ (n : ℕ). bit_or n low) whole ∙ or_shifted high 8 low low_fits

-- the last eight bits and those that follow in one number
pub window_is : (last bits : ℕ) → last < 256 → bit_or (bits * 256 % 2 ^ 64) last ≡ (bits % 2 ^ 56) * 2 ^ 8 + last
window_is last bits last_fits =
    let low : bits * 256 % 2 ^ 64 ≡ (bits % 2 ^ 56) * 2 ^ 8 = omega arith in
    ap (λ (n : ℕ). bit_or n last) low ∙ or_shifted (bits % 2 ^ 56) 8 last last_fits

front_bits : (last bits i : ℕ) → last < 256 → i < 56
    → bits_of 8 last ++ take i (bits_of 56 bits) ≡ bits_of (3 + i) ((bits % 2 ^ 56) * 2 ^ 8 + last) ++ bits_of 5 (((bits % 2 ^ 56) * 2 ^ 8 + last) / 2 ^ (3 + i))
front_bits last bits i last_fits within =
    let whole = (bits % 2 ^ 56) * 2 ^ 8 + last in
    let low : whole % 2 ^ 8 ≡ last = mod-mul-add (bits % 2 ^ 56) (2 ^ 8) last last_fits in
    let high : whole / 2 ^ 8 ≡ bits % 2 ^ 56 = div-mul-add (bits % 2 ^ 56) (2 ^ 8) last last_fits in
    let turned : 8 + i ≡ 3 + i + 5 = omega arith in
    let some : take i (bits_of 56 bits) ≡ bits_of i (bits % 2 ^ 56) =
    ap (take i) (sym (bits_of_mod 56 bits)) ∙ first_bits i 56 (bits % 2 ^ 56) (omega arith) in
    ap (λ (rest : List Bool). bits_of 8 last ++ rest) some
    ∙ ap (λ (n : ℕ). bits_of 8 n ++ bits_of i (bits % 2 ^ 56)) (sym low) ∙ ap (λ (front : List Bool). front ++ bits_of i (bits % 2 ^ 56)) (bits_of_mod 8 whole)
    ∙ ap (λ (n : ℕ). bits_of 8 whole ++ bits_of i n) (sym high) ∙ sym (bits_of-add 8 i whole)
    ∙ ap (λ (k : ℕ). bits_of k whole) turned ∙ bits_of-add (3 + i) 5 whole

pub no_five : (last bits fives : ℕ) → last < 256 → fives ≡ window_fives (bit_or (bits * 256 % 2 ^ 64) last / 8)
    → (front : List Bool) (i : ℕ) → i < 56 → fives / 2 ^ i % 2 ≡ 0
    → EndsIn (front ++ (bits_of 8 last ++ take i (bits_of 56 bits))) (ones 5) → ⊥
no_five last bits fives last_fits is front i within none ends =
    let whole = (bits % 2 ^ 56) * 2 ^ 8 + last in
    let tail : EndsIn (front ++ (bits_of 8 last ++ take i (bits_of 56 bits))) (bits_of 5 (whole / 2 ^ (3 + i))) =
    record {
      front = front ++ bits_of (3 + i) whole;
      split =
          ap (λ (rest : List Bool). front ++ rest) (front_bits last bits i last_fits within)
          ∙ sym (append_assoc front (bits_of (3 + i) whole) (bits_of 5 (whole / 2 ^ (3 + i))));
    } in
    let same : bits_of 5 (whole / 2 ^ (3 + i)) ≡ ones 5 = ends_same _ _ _ tail ends (length-bits_of 5 (whole / 2 ^ (3 + i)) ∙ sym (length-replicate 5 true)) in
    let all : whole / 2 ^ (3 + i) % 2 ^ 5 ≡ 31 =
    sym (number_of-bits_of 5 (whole / 2 ^ (3 + i))) ∙ ap number_of (same ∙ sym (ones_bits 5)) ∙ number_of-bits_of 5 31 in
    let window : bit_or (bits * 256 % 2 ^ 64) last / 8 / 2 ^ i ≡ whole / 2 ^ (3 + i) =
    ap (λ (n : ℕ). n / 8 / 2 ^ i) (window_is last bits last_fits) ∙ shr-shr whole 3 i in
    let seen : window_fives (bit_or (bits * 256 % 2 ^ 64) last / 8) / 2 ^ i % 2 ≡ 1 =
    five_seen (bit_or (bits * 256 % 2 ^ 64) last / 8) i (ap (λ (n : ℕ). n % 32) window ∙ all) in
    omega (arith, none, seen, ap (λ (n : ℕ). n / 2 ^ i % 2) is)

-- so none of these bits comes after five ones
pub plain_by : (past since bits : List Bool) (last : ℕ) → Since past since → EndsIn (flag ++ past) (bits_of 8 last)
    → ((front : List Bool) (i : ℕ) → i < length bits → EndsIn (front ++ (bits_of 8 last ++ take i bits)) (ones 5) → ⊥)
    → Plain since bits
plain_by past since bits last is ends none a b bit same = omega (arith, over)
  where
    over : 5 ≤ run_of 0 (since ++ a) → ⊥
    over five =
        let first : take (length a) bits ≡ a = ap (take (length a)) same ∙ take_at a (bit ∷ b) (length a) refl in
        let line : flag ++ (is.before ++ (since ++ a)) ≡ ends.front ++ (bits_of 8 last ++ a) =
        ap (λ (rest : List Bool). flag ++ rest) (sym (append_assoc is.before since a) ∙ ap (λ (front : List Bool). front ++ a) (sym is.split))
        ∙ sym (append_assoc flag past a) ∙ ap (λ (front : List Bool). front ++ a) ends.split ∙ append_assoc ends.front (bits_of 8 last) a in
        let run : run_of 0 (flag ++ (is.before ++ (since ++ a))) ≡ run_of 0 (since ++ a) = run_since is.before (since ++ a) bit is.ended in
        let there : EndsIn (flag ++ (is.before ++ (since ++ a))) (ones 5) = run_ends (flag ++ (is.before ++ (since ++ a))) 5 (omega (arith, run)) in
        none ends.front (length a) (omega (arith, ap length same, length-append a (bit ∷ b))) (rw first (rw line at there))
