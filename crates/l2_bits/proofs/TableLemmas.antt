-- An octet at a time: the register after eight bits, by a table
use Rattle.std.proofs.Common.{◌≡◌, ℕ, zero, suc, ◌+◌, ◌*◌, ◌/◌, ◌%◌, ◌^◌, ◌<◌, ◌==◌, Bool, true, false, if◌then◌else◌, List, [], ◌∷◌, ◌++◌, length, replicate, get_or, bit_and, bit_xor, refl, ap, sym, ◌∙◌, arith}
use Rattle.std.proofs.lemmas.Nat.{and_mask, xor_comm, xor_lt, xor_shr, xor_mod, xor_block}
use Rattle.std.proofs.Math.Nat.{pow-suc, mul_assoc}
use Rattle.std.specs.Int.Bits.{xor_assoc, xor_self, xor_zero_l, xor_zero_r}
use Rattle.l2_bits.specs.LineBits.{bits_of}
use Rattle.l2_bits.specs.CheckBits.{sum_of, remainder_after}
use Rattle.l2_bits.specs.Register.{DividesTo}
use Rattle.l2_bits.proofs.BitLemmas.{bits_of-add, bits_of-xor, length-bits_of}
use Rattle.l2_bits.proofs.OctetLemmas.{bits_of_mod}
use Rattle.l2_bits.proofs.DivisionLemmas.{sum_of-nil, sum_of-zeros, sum_of-sum_of, DividesTo_none, DividesTo_zero, DividesTo_one, DividesTo-append}
use Rattle.std.proofs.lemmas.Bool.{false≢true}
use Rattle.std.proofs.lemmas.Bool.Decides.{nat_tests}
use Rattle.l2_bits.specs.declared.check.TheConstants.{AFTER_ZEROS, AFTER_MORE_ZEROS}
use Rattle.l2_bits.specs.Register.{steps}

-- the entries from a place on are those that the steps give
are_steps : ℕ → ℕ → List ℕ → Bool
are_steps k place [] = true
are_steps k place (entry ∷ entries) = if entry == steps k place then are_steps k (suc place) entries else false

pub both : (a b : Bool) → (if a then b else false) ≡ true → (a ≡ true) × (b ≡ true)
both true b h = (refl, h)
both false b h = absurd (false≢true h)

entry_at : (k from place : ℕ) (entries : List ℕ) → are_steps k from entries ≡ true → place < length entries
    → get_or entries place 0 ≡ steps k (from + place)
unfolding are_steps
entry_at k from place [] passes within = absurd (omega arith)
entry_at k from zero (entry ∷ entries) passes within =
    let here = both (entry == steps k from) (are_steps k (suc from) entries) passes in
    let sum : from + 0 ≡ from = omega arith in
    rw sum (equal (here.0))
  where
    equal : (entry == steps k from) ≡ true → entry ≡ steps k from
    equal h = grind (arith, nat_tests)
entry_at k from (suc place) (entry ∷ entries) passes within =
    let here = both (entry == steps k from) (are_steps k (suc from) entries) passes in
    let sum : from + suc place ≡ suc from + place = omega arith in
    rw sum (entry_at k (suc from) place entries here.1 (omega arith))

passes : are_steps 8 0 AFTER_ZEROS ≡ true
unfolding are_steps steps
passes = refl

more_passes : are_steps 16 0 AFTER_MORE_ZEROS ≡ true
unfolding are_steps steps
more_passes = refl

pub table_at : (place : ℕ) → place < 256 → get_or AFTER_ZEROS place 0 ≡ steps 8 place
table_at place within = entry_at 8 0 place AFTER_ZEROS passes within ∙ ap (steps 8) (omega arith)

pub more_table_at : (place : ℕ) → place < 256 → get_or AFTER_MORE_ZEROS place 0 ≡ steps 16 place
more_table_at place within = entry_at 16 0 place AFTER_MORE_ZEROS more_passes within ∙ ap (steps 16) (omega arith)

-- one bit of zero
abbrev one : ℕ → ℕ
one register = if register % 2 == 1 then bit_xor (register / 2) 0x8408 else register / 2

steps-suc : (k register : ℕ) → steps (suc k) register ≡ steps k (one register)
unfolding steps
steps-suc k register = refl

one_fits : (register : ℕ) → register < 2 ^ 16 → one register < 2 ^ 16
one_fits register fits = by (register % 2 == 1)
  where
    by : (b : Bool) → (if b then bit_xor (register / 2) 0x8408 else register / 2) < 2 ^ 16
    by true = xor_lt 16 (register / 2) 0x8408 (omega arith) (omega arith)
    by false = omega arith

one_divides : (register : ℕ) → register < 2 ^ 16 → DividesTo register (false ∷ []) (one register)
one_divides register fits = by (register % 2 == 1) refl
  where
    by : (b : Bool) → (register % 2 == 1) ≡ b → DividesTo register (false ∷ []) (if b then bit_xor (register / 2) 0x8408 else register / 2)
    by true is = DividesTo_one register false fits is
    by false is = DividesTo_zero register false fits is

steps_divide : (k register : ℕ) → register < 2 ^ 16 → DividesTo register (replicate k false) (steps k register)
unfolding steps
steps_divide zero register fits = DividesTo_none register
steps_divide (suc k) register fits =
    DividesTo-append register (one register) (steps k (one register)) (false ∷ []) (replicate k false)
    (one_divides register fits) (steps_divide k (one register) (one_fits register fits))

-- bits meet the register as zeros meet their sum
zeros_first : (k : ℕ) (more ys : List Bool) → length ys ≡ k → sum_of (replicate k false ++ more) ys ≡ ys ++ more
unfolding sum_of
zeros_first zero more [] same = sum_of-nil more
zeros_first zero more (y ∷ ys) same = absurd (omega arith)
zeros_first (suc k) more [] same = absurd (omega arith)
zeros_first (suc k) more (y ∷ ys) same = ap (λ (rest : List Bool). y ∷ rest) (zeros_first k more ys (omega arith))

octet_bits : (octet : ℕ) → octet < 256 → bits_of 16 octet ≡ bits_of 8 octet ++ replicate 8 false
unfolding bits_of
octet_bits octet fits =
    let high : octet / 2 ^ 8 ≡ 0 = omega arith in
    bits_of-add 8 8 octet ∙ ap (λ (n : ℕ). bits_of 8 octet ++ bits_of 8 n) high

met : (register octet : ℕ) (more : List Bool) → octet < 256
    → sum_of (bits_of 8 octet ++ more) (bits_of 16 register)
    ≡ sum_of (replicate 8 false ++ more) (bits_of 16 (bit_xor register octet))
met register octet more fits =
    let zeros = replicate 8 false ++ more in
    let alone : sum_of zeros (bits_of 16 octet) ≡ bits_of 8 octet ++ more =
    ap (sum_of zeros) (octet_bits octet fits) ∙ sum_of-zeros zeros (bits_of 8 octet) 8 ∙ zeros_first 8 more (bits_of 8 octet) (length-bits_of 8 octet) in
    sym (ap (λ (terms : List Bool). sum_of terms (bits_of 16 register)) alone)
    ∙ sum_of-sum_of zeros (bits_of 16 octet) (bits_of 16 register) (length-bits_of 16 octet ∙ sym (length-bits_of 16 register))
    ∙ ap (sum_of zeros) (sym (bits_of-xor 16 octet register) ∙ ap (bits_of 16) (xor_comm octet register))

-- the register's high part is only moved along
one_apart : (k low high : ℕ) → one (bit_xor low (high * 2 ^ suc k)) ≡ bit_xor (one low) (high * 2 ^ k)
one_apart k low high =
    let double : high * 2 ^ suc k ≡ high * 2 ^ k * 2 = ap (λ (n : ℕ). high * n) (pow-suc 2 k) ∙ sym (mul_assoc high (2 ^ k) 2) in
    let even : (high * 2 ^ suc k) % 2 ^ 1 ≡ 0 = omega arith in
    let half : (high * 2 ^ suc k) / 2 ^ 1 ≡ high * 2 ^ k = omega arith in
    let lowest : bit_xor low (high * 2 ^ suc k) % 2 ≡ low % 2 = xor_mod low (high * 2 ^ suc k) 1 ∙ ap (bit_xor (low % 2)) even ∙ xor_zero_r (low % 2) in
    let rest : bit_xor low (high * 2 ^ suc k) / 2 ≡ bit_xor (low / 2) (high * 2 ^ k) = xor_shr low (high * 2 ^ suc k) 1 ∙ ap (bit_xor (low / 2)) half in
    rw (lowest, rest) (by (low % 2 == 1))
  where
    by : (b : Bool) → (if b then bit_xor (bit_xor (low / 2) (high * 2 ^ k)) 0x8408 else bit_xor (low / 2) (high * 2 ^ k))
        ≡ bit_xor (if b then bit_xor (low / 2) 0x8408 else low / 2) (high * 2 ^ k)
    by true =
        xor_assoc (low / 2) (high * 2 ^ k) 0x8408 ∙ ap (bit_xor (low / 2)) (xor_comm (high * 2 ^ k) 0x8408)
        ∙ sym (xor_assoc (low / 2) 0x8408 (high * 2 ^ k))
    by false = refl

steps_apart : (k low high : ℕ) → steps k (bit_xor low (high * 2 ^ k)) ≡ bit_xor (steps k low) high
unfolding steps
steps_apart zero low high = ap (bit_xor low) (omega arith)
steps_apart (suc k) low high =
    ap (steps k) (one_apart k low high) ∙ steps_apart k (one low) high

-- a register's two octets
octets_joined : (n : ℕ) → bit_xor (n % 2 ^ 8) (n / 2 ^ 8 * 2 ^ 8) ≡ n
octets_joined n =
    let low = n % 2 ^ 8 in
    let moved = n / 2 ^ 8 * 2 ^ 8 in
    let parts : bit_xor (0 * 2 ^ 8 + low) (n / 2 ^ 8 * 2 ^ 8 + 0) ≡ bit_xor 0 (n / 2 ^ 8) * 2 ^ 8 + bit_xor low 0 =
    xor_block 8 0 (n / 2 ^ 8) low 0 (omega arith) (omega arith) in
    let left : 0 * 2 ^ 8 + low ≡ low = omega arith in
    let right : moved + 0 ≡ moved = omega arith in
    ap (λ (m : ℕ). bit_xor m moved) (sym left) ∙ ap (bit_xor (0 * 2 ^ 8 + low)) (sym right) ∙ parts
    ∙ omega (arith, xor_zero_l (n / 2 ^ 8), xor_zero_r low)

-- an octet at a time
pub octet_divides : (register octet entry : ℕ) → register < 2 ^ 16 → octet < 256
    → entry ≡ steps 8 (bit_and (bit_xor register octet) 255)
    → DividesTo register (bits_of 8 octet) (bit_xor (register / 256) entry)
octet_divides register octet entry fits octet_fits is = record {
  divides = λ k more.
      let both = bit_xor register octet in
      let low = both % 2 ^ 8 in
      let high : both / 2 ^ 8 ≡ register / 2 ^ 8 = xor_shr register octet 8 ∙ ap (bit_xor (register / 2 ^ 8)) (omega arith) ∙ xor_zero_r (register / 2 ^ 8) in
      let moved = register / 2 ^ 8 * 2 ^ 8 in
      let parts : bit_xor (0 * 2 ^ 8 + low) (register / 2 ^ 8 * 2 ^ 8 + 0) ≡ bit_xor 0 (register / 2 ^ 8) * 2 ^ 8 + bit_xor low 0 =
      xor_block 8 0 (register / 2 ^ 8) low 0 (omega arith) (omega arith) in
      let left : 0 * 2 ^ 8 + low ≡ low = omega arith in
      let right : moved + 0 ≡ moved = omega arith in
      let joined : bit_xor low moved ≡ both = ap (λ (n : ℕ). bit_xor n moved) (sym left) ∙ ap (bit_xor (0 * 2 ^ 8 + low)) (sym right) ∙ parts
      ∙ omega (arith, xor_zero_l (register / 2 ^ 8), xor_zero_r low, high) in
      let masked : bit_and both 255 ≡ low = and_mask both 8 in
      let after : steps 8 both ≡ bit_xor (register / 256) entry =
      ap (steps 8) (sym joined) ∙ steps_apart 8 low (register / 2 ^ 8) ∙ xor_comm (steps 8 low) (register / 2 ^ 8)
      ∙ ap (λ (n : ℕ). bit_xor (register / 2 ^ 8) (steps 8 n)) (sym masked) ∙ ap (bit_xor (register / 256)) (sym is) in
      let both_fits : both < 2 ^ 16 = xor_lt 16 register octet (omega arith) (omega arith) in
      let lengths : length (bits_of 8 octet) ≡ length (replicate 8 false) = length-bits_of 8 octet in
      ap (λ (n : ℕ). remainder_after (n + k) (sum_of (bits_of 8 octet ++ more) (bits_of 16 register))) lengths
      ∙ ap (remainder_after (8 + k)) (met register octet more octet_fits)
      ∙ (steps_divide 8 both both_fits).divides k more
      ∙ ap (λ (n : ℕ). remainder_after k (sum_of more (bits_of 16 n))) after;
}

-- the steps of a sum are the sum of the steps
halves : (a b x y : ℕ) → x < 2 → y < 2
    → (if bit_xor x y == 1 then bit_xor (bit_xor a b) 0x8408 else bit_xor a b)
    ≡ bit_xor (if x == 1 then bit_xor a 0x8408 else a) (if y == 1 then bit_xor b 0x8408 else b)
halves a b zero zero first second = refl
halves a b zero (suc zero) first second = xor_assoc a b 0x8408
halves a b (suc zero) zero first second =
    xor_assoc a b 0x8408 ∙ ap (bit_xor a) (xor_comm b 0x8408) ∙ sym (xor_assoc a 0x8408 b)
halves a b (suc zero) (suc zero) first second =
    sym (xor_assoc a 0x8408 (bit_xor b 0x8408)
    ∙ ap (bit_xor a) (ap (bit_xor 0x8408) (xor_comm b 0x8408) ∙ sym (xor_assoc 0x8408 0x8408 b)
    ∙ ap (λ (n : ℕ). bit_xor n b) (xor_self 0x8408) ∙ xor_zero_l b))
halves a b zero (suc (suc y)) first second = absurd (omega arith)
halves a b (suc zero) (suc (suc y)) first second = absurd (omega arith)
halves a b (suc (suc x)) y first second = absurd (omega arith)

one_sum : (a b : ℕ) → one (bit_xor a b) ≡ bit_xor (one a) (one b)
one_sum a b =
    let lowest : bit_xor a b % 2 ≡ bit_xor (a % 2) (b % 2) = xor_mod a b 1 in
    let rest : bit_xor a b / 2 ≡ bit_xor (a / 2) (b / 2) = xor_shr a b 1 in
    rw (lowest, rest) (halves (a / 2) (b / 2) (a % 2) (b % 2) (omega arith) (omega arith))

steps_sum : (k a b : ℕ) → steps k (bit_xor a b) ≡ bit_xor (steps k a) (steps k b)
unfolding steps
steps_sum zero a b = refl
steps_sum (suc k) a b = ap (steps k) (one_sum a b) ∙ steps_sum k (one a) (one b)

steps_more : (j k register : ℕ) → steps (j + k) register ≡ steps k (steps j register)
unfolding steps
steps_more zero k register =
    let same : 0 + k ≡ k = omega arith in
    ap (λ (n : ℕ). steps n register) same
steps_more (suc j) k register =
    let same : suc j + k ≡ suc (j + k) = omega arith in
    ap (λ (n : ℕ). steps n register) same ∙ steps_more j k (one register)

pair_steps : (low high : ℕ) → steps 16 (bit_xor low (high * 2 ^ 8)) ≡ bit_xor (steps 16 low) (steps 8 high)
pair_steps low high =
    steps_more 8 8 (bit_xor low (high * 2 ^ 8)) ∙ ap (steps 8) (steps_apart 8 low high) ∙ steps_sum 8 (steps 8 low) high
    ∙ ap (λ (n : ℕ). bit_xor n (steps 8 high)) (sym (steps_more 8 8 low))

pair_met : (register word : ℕ) (more : List Bool)
    → sum_of (bits_of 16 word ++ more) (bits_of 16 register) ≡ sum_of (replicate 16 false ++ more) (bits_of 16 (bit_xor register word))
pair_met register word more =
    let zeros = replicate 16 false ++ more in
    let alone : sum_of zeros (bits_of 16 word) ≡ bits_of 16 word ++ more = zeros_first 16 more (bits_of 16 word) (length-bits_of 16 word) in
    sym (ap (λ (terms : List Bool). sum_of terms (bits_of 16 register)) alone)
    ∙ sum_of-sum_of zeros (bits_of 16 word) (bits_of 16 register) (length-bits_of 16 word ∙ sym (length-bits_of 16 register))
    ∙ ap (sum_of zeros) (sym (bits_of-xor 16 word register) ∙ ap (bits_of 16) (xor_comm word register))

-- two octets at a time
pub pair_divides : (register first second word low high : ℕ) → register < 2 ^ 16 → first < 2 ^ 8 → second < 2 ^ 8
    → word ≡ second * 2 ^ 8 + first
    → low ≡ steps 16 (bit_and (bit_xor register word) 255) → high ≡ steps 8 (bit_xor register word / 256)
    → DividesTo register (bits_of 8 first ++ bits_of 8 second) (bit_xor low high)
pair_divides register first second word low high fits first_fits second_fits is low_is high_is =
    let both = bit_xor register word in
    let word_fits : word < 2 ^ 16 = omega arith in
    let both_fits : both < 2 ^ 16 = xor_lt 16 register word fits word_fits in
    let front : word % 2 ^ 8 ≡ first = omega arith in
    let back : word / 2 ^ 8 ≡ second = omega arith in
    let bits : bits_of 16 word ≡ bits_of 8 first ++ bits_of 8 second =
    bits_of-add 8 8 word ∙ ap (λ (b : List Bool). b ++ bits_of 8 (word / 2 ^ 8)) (sym (bits_of_mod 8 word) ∙ ap (bits_of 8) front)
    ∙ ap (λ (n : ℕ). bits_of 8 first ++ bits_of 8 n) back in
    let masked : bit_and both 255 ≡ both % 2 ^ 8 = and_mask both 8 in
    let after : steps 16 both ≡ bit_xor low high =
    ap (steps 16) (sym (octets_joined both)) ∙ pair_steps (both % 2 ^ 8) (both / 2 ^ 8)
    ∙ ap (λ (n : ℕ). bit_xor (steps 16 n) (steps 8 (both / 2 ^ 8))) (sym masked)
    ∙ ap (λ (n : ℕ). bit_xor n (steps 8 (both / 2 ^ 8))) (sym low_is) ∙ ap (bit_xor low) (sym high_is) in
    let lengths : length (bits_of 16 word) ≡ length (replicate 16 false) = length-bits_of 16 word in
    let divides : DividesTo register (bits_of 16 word) (bit_xor low high) = record {
      divides = λ k more.
          ap (λ (n : ℕ). remainder_after (n + k) (sum_of (bits_of 16 word ++ more) (bits_of 16 register))) lengths
          ∙ ap (remainder_after (16 + k)) (pair_met register word more)
          ∙ (steps_divide 16 both both_fits).divides k more
          ∙ ap (λ (n : ℕ). remainder_after k (sum_of more (bits_of 16 n))) after;
    } in
    rw bits at divides
