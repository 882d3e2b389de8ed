-- Numbers and octets that are written are read back, and no octet of theirs ends a word.
use Rattle.std.proofs.Common.{refl, arith, ◌≡◌, ◌∙◌, ap, ◌<◌, ◌≤◌, [], ◌∷◌, ℕ, zero, suc, ◌+◌, ◌-◌, ◌*◌, ◌/◌, ◌%◌, ◌^◌, ◌==◌, Bool, true, false, nat_lt, nat_le, List, Some, None, get_or, decimal, if◌then◌else◌}
use Rattle.std.proofs.lemmas.Bool.Decides.{nat_tests}
use Rattle.std.proofs.lemmas.Fmt.{decimal_is_IsNumeral, decimal_digit, first_decimal}
use Rattle.std.proofs.lemmas.Str.Parse.{FoldsDigits, numerals_by_fold, tells_digits}
use Rattle.std.specs.Str.Parse.{AllDigits, digits_value}
use Rattle.std.specs.Option.{option_and_then}
use Rattle.text_base.specs.Figures.{is_digit, digits_behind, below_2_64, number_of, number_below, hex_value, hex_digit, hex_text, octets_of}
use Rattle.text_entries.specs.Entries.{AreOctets}
use Rattle.text_entries.specs.Reading.{is_gap, is_arrow}
use Rattle.text_entries.proofs.WordLemmas.{passes}

-- Numbers.

abbrev folded : ℕ → List ℕ → ℕ
folded value [] = value
folded value (c ∷ cs) = folded (10 * value + (c - 48)) cs

folds : FoldsDigits folded
folds = record { empty = λ n. refl; more = λ n c cs k. let e : 10 * n + (c - 48) ≡ n * 10 + (c - 48) = omega arith in ap (λ (m : ℕ). folded m cs) e }

read_folded : (value : ℕ) (ds : List ℕ) → AllDigits 10 ds → digits_behind value ds ≡ Some (folded value ds)
read_folded value [] d = refl
read_folded value (c ∷ cs) d =
    let parts = tells_digits.parts c cs d in
    let low = parts.0.0 in
    let high = parts.0.1 in
    let is : is_digit c ≡ true = grind (arith, nat_tests) in
    rw is (read_folded (10 * value + (c - 48)) cs parts.1)

digits_read : (ds : List ℕ) (n : ℕ) → AllDigits 10 ds → digits_value 10 ds ≡ n → n < 2 ^ 64 → 48 < get_or ds 0 0 → number_of ds ≡ Some n
digits_read [] n d e small first = absurd (omega (arith, first))
digits_read (c ∷ cs) n d e small first =
    let no_zero : (c == 48) ≡ false = grind (arith, nat_tests) in
    let fits : nat_lt n (2 ^ 64) ≡ true = grind (arith, nat_tests) in
    let is : folded 0 (c ∷ cs) ≡ n = (numerals_by_fold (AllDigits 10) tells_digits folded folds).same (c ∷ cs) d ∙ e in
    rw no_zero (ap (option_and_then below_2_64) (read_folded 0 (c ∷ cs) d) ∙ ap below_2_64 is ∙ rw fits refl)

pub number_again : (n : ℕ) → n < 2 ^ 64 → number_of (decimal n) ≡ Some n
number_again zero h = ap number_of (decimal_digit 0 (omega arith))
number_again (suc n) h =
    let is = decimal_is_IsNumeral (suc n) h in
    digits_read (decimal (suc n)) (suc n) is.0.1 is.1 h (first_decimal (suc n) (omega arith) h)

pub below_again : (bound n : ℕ) → n < bound → n < 2 ^ 64 → number_below bound (decimal n) ≡ Some n
below_again bound n low h =
    let fits : nat_lt n bound ≡ true = grind (arith, nat_tests) in
    ap (option_and_then (λ (m : ℕ). if nat_lt m bound then Some m else None)) (number_again n h) ∙ rw fits refl

digits_pass_gap : (ds : List ℕ) → AllDigits 10 ds → passes is_gap ds ≡ true
digits_pass_gap [] d = refl
digits_pass_gap (c ∷ cs) d =
    let parts = tells_digits.parts c cs d in
    let low = parts.0.0 in
    let no : is_gap c ≡ false = grind (arith, nat_tests) in
    rw no (digits_pass_gap cs parts.1)

digits_pass_arrow : (ds : List ℕ) → AllDigits 10 ds → passes is_arrow ds ≡ true
digits_pass_arrow [] d = refl
digits_pass_arrow (c ∷ cs) d =
    let parts = tells_digits.parts c cs d in
    let high = parts.0.1 in
    let no : is_arrow c ≡ false = grind (arith, nat_tests) in
    rw no (digits_pass_arrow cs parts.1)

pub number_is_word : (n : ℕ) → n < 2 ^ 64 → passes is_gap (decimal n) ≡ true
number_is_word n h = digits_pass_gap (decimal n) (decimal_is_IsNumeral n h).0.1

pub number_no_arrow : (n : ℕ) → n < 2 ^ 64 → passes is_arrow (decimal n) ≡ true
number_no_arrow n h = digits_pass_arrow (decimal n) (decimal_is_IsNumeral n h).0.1

-- Octets.

pub first_octet : (o : ℕ) (os : List ℕ) → AreOctets (o ∷ os) → o < 2 ^ 8
first_octet o os h = h 0 0 (omega arith)

pub other_octets : (o : ℕ) (os : List ℕ) → AreOctets (o ∷ os) → AreOctets os
other_octets o os h = λ k d l. h (suc k) d (omega (arith, l))

pub digit_again : (v : ℕ) → v < 16 → hex_value (hex_digit v) ≡ Some v
digit_again v h = go (nat_lt v 10) refl
  where
    go : (b : Bool) → nat_lt v 10 ≡ b → hex_value (hex_digit v) ≡ Some v
    go true e =
        let low : v < 10 = grind (arith, nat_tests) in
        let is : is_digit (v + 48) ≡ true = grind (arith, nat_tests) in
        let back : v + 48 - 48 ≡ v = omega arith in
        rw (e, is) (ap Some back)
    go false e =
        let high : 10 ≤ v = grind (arith, nat_tests) in
        let no : nat_le (v + 87) 57 ≡ false = grind (arith, nat_tests) in
        let above : nat_le 48 (v + 87) ≡ true = grind (arith, nat_tests) in
        let past : nat_le (v + 87) 70 ≡ false = grind (arith, nat_tests) in
        let from : nat_le 65 (v + 87) ≡ true = grind (arith, nat_tests) in
        let lower : nat_le 97 (v + 87) ≡ true = grind (arith, nat_tests) in
        let upper : nat_le (v + 87) 102 ≡ true = grind (arith, nat_tests) in
        let back : v + 87 - 87 ≡ v = omega arith in
        rw (e, above, no, from, past, lower, upper) (ap Some back)

digit_is_word : (v : ℕ) → v < 16 → is_gap (hex_digit v) ≡ false
digit_is_word v h = go (nat_lt v 10) refl
  where
    go : (b : Bool) → nat_lt v 10 ≡ b → is_gap (hex_digit v) ≡ false
    go true e = rw e (grind (arith, nat_tests))
    go false e = rw e (grind (arith, nat_tests))

digit_no_arrow : (v : ℕ) → v < 16 → is_arrow (hex_digit v) ≡ false
digit_no_arrow v h = go (nat_lt v 10) refl
  where
    go : (b : Bool) → nat_lt v 10 ≡ b → is_arrow (hex_digit v) ≡ false
    go true e = let low : v < 10 = grind (arith, nat_tests) in rw e (grind (arith, nat_tests))
    go false e = rw e (grind (arith, nat_tests))

pub octets_again : (os : List ℕ) → AreOctets os → octets_of (hex_text os) ≡ Some os
octets_again [] h = refl
octets_again (o ∷ os) h =
    let small = first_octet o os h in
    let back : 16 * (o / 16) + o % 16 ≡ o = omega arith in
    rw (digit_again (o / 16) (omega (arith, small)), digit_again (o % 16) (omega arith), octets_again os (other_octets o os h))
    (ap (λ (n : ℕ). Some (n ∷ os)) back)

pub octets_are_word : (os : List ℕ) → AreOctets os → passes is_gap (hex_text os) ≡ true
octets_are_word [] h = refl
octets_are_word (o ∷ os) h =
    let small = first_octet o os h in
    rw (digit_is_word (o / 16) (omega (arith, small)), digit_is_word (o % 16) (omega arith)) (octets_are_word os (other_octets o os h))

pub octets_no_arrow : (os : List ℕ) → AreOctets os → passes is_arrow (hex_text os) ≡ true
octets_no_arrow [] h = refl
octets_no_arrow (o ∷ os) h =
    let small = first_octet o os h in
    rw (digit_no_arrow (o / 16) (omega (arith, small)), digit_no_arrow (o % 16) (omega arith)) (octets_no_arrow os (other_octets o os h))
