-- Steps of the readers of numbers and hexadecimal.
use Rattle.std.proofs.Common.{refl, arith, ◌≡◌, ◌∙◌, ap, sym, ◌<◌, ◌≤◌, [], ◌∷◌, length, ℕ, ◌+◌, ◌-◌, ◌*◌, ◌%◌, ◌^◌, Bool, true, false, nat_lt, List, ◌++◌, Option, Some, None, append_assoc, drop, drop-cons, add-one, suc, slice_index_or, inl, inr, append-nil, take, ◌/◌, set, zero}
use Rattle.std.proofs.lemmas.Grind.{common_steps}
use Rattle.std.proofs.lemmas.Bool.Decides.{nat_tests}
use Rattle.std.proofs.lemmas.Fmt.{decimal_step, decimal_digit}
use Rattle.std.proofs.lemmas.List.{drop-set, take_more_set, length-set}
use Rattle.std.proofs.lemmas.Grind.{take-set_at}
use Rattle.std.proofs.Math.Seq.{take-suc}
use Rattle.std.specs.Fmt.{decimal}
use Rattle.std.specs.Option.{option_map, option_and_then}
use Rattle.text_base.specs.Figures.{digits_behind, below_2_64, is_digit, hex_value, octet_of, octets_of, octet_before, NoDigitFits, hex_text, hex_digit}

-- a value that has passed 2^64 stays past it
pub too_big : (value : ℕ) (cs : List ℕ) → 2 ^ 64 ≤ value → option_and_then below_2_64 (digits_behind value cs) ≡ None
too_big value [] h = let no : nat_lt value (2 ^ 64) ≡ false = grind (arith, nat_tests) in rw no refl
too_big value (c ∷ cs) h = go (is_digit c) refl (too_big (10 * value + (c - 48)) cs (omega arith))
  where
    go : (b : Bool) → is_digit c ≡ b → option_and_then below_2_64 (digits_behind (10 * value + (c - 48)) cs) ≡ None → option_and_then below_2_64 (digits_behind value (c ∷ cs)) ≡ None
    go true e rest = rw e rest
    go false e rest = rw e refl

pub no_digit : (value c i : ℕ) (word : List ℕ) → i < length word → c ≡ slice_index_or word i 0 → NoDigitFits value c → option_and_then below_2_64 (digits_behind value (drop i word)) ≡ None
no_digit value c i word h e (inl bad) =
    rw (drop-cons word i 0 h, ← e, bad) refl
no_digit value c i word h e (inr big) =
    rw (drop-cons word i 0 h, ← e) (go (is_digit c) refl)
  where
    go : (b : Bool) → is_digit c ≡ b → option_and_then below_2_64 (digits_behind value (c ∷ drop (suc i) word)) ≡ None
    go true f = rw f (too_big (10 * value + (c - 48)) (drop (suc i) word) big)
    go false f = rw f refl

pub one_digit : (value next c i : ℕ) (word : List ℕ) → i < length word → c ≡ slice_index_or word i 0 → is_digit c ≡ true → next ≡ 10 * value + (c - 48) → digits_behind value (drop i word) ≡ digits_behind next (drop (i + 1) word)
one_digit value next c i word h e good is = rw (drop-cons word i 0 h, ← e, good, add-one, is) refl

pub all_digits : (value i : ℕ) (word : List ℕ) → length word ≤ i → value < 2 ^ 64 → option_and_then below_2_64 (digits_behind value (drop i word)) ≡ Some value
all_digits value i word h p =
    let none : drop i word ≡ [] = grind (arith, common_steps) in
    let small : nat_lt value (2 ^ 64) ≡ true = grind (arith, nat_tests) in
    rw none (rw small refl)

-- two digits more are an octet more
pub one_octet : (h l octet : ℕ) (octets cs : List ℕ) → Some octet ≡ octet_of (h ∷ l ∷ []) → option_map (λ more. octets ++ more) (octets_of (h ∷ l ∷ cs)) ≡ option_map (λ more. (octets ++ octet ∷ []) ++ more) (octets_of cs)
one_octet h l octet octets cs e = go (hex_value h) (hex_value l) (octets_of cs) e
  where
    go : (x y : Option ℕ) (z : Option (List ℕ)) → Some octet ≡ option_and_then (λ high. option_map (λ low. 16 * high + low) y) x → option_map (λ more. octets ++ more) (octet_before x y z) ≡ option_map (λ more. (octets ++ octet ∷ []) ++ more) z
    go None y z e = cc
    go (Some x) None z e = cc
    go (Some x) (Some y) None e = refl
    go (Some x) (Some y) (Some more) e = let same : octet ≡ 16 * x + y = cc in rw same (ap Some (sym (append_assoc octets ((16 * x + y) ∷ []) more)))

-- what isn't two digits is no octets
pub no_octet : (h l : ℕ) (cs : List ℕ) → None ≡ octet_of (h ∷ l ∷ []) → octets_of (h ∷ l ∷ cs) ≡ None
no_octet h l cs e = go (hex_value h) (hex_value l) (octets_of cs) e
  where
    go : (x y : Option ℕ) (z : Option (List ℕ)) → None ≡ option_and_then (λ high. option_map (λ low. 16 * high + low) y) x → octet_before x y z ≡ None
    go None y z e = refl
    go (Some x) None z e = refl
    go (Some x) (Some y) None e = refl
    go (Some x) (Some y) (Some more) e = cc

-- an odd number of digits is no octets
pub odd_digits : (word : List ℕ) → length word % 2 ≡ 1 → octets_of word ≡ None
odd_digits [] e = absurd (omega arith)
odd_digits (c ∷ []) e = refl
odd_digits (c ∷ d ∷ cs) e = rw (odd_digits cs (omega (arith, e))) (go (hex_value c) (hex_value d))
  where
    go : (x y : Option ℕ) → octet_before x y None ≡ None
    go None y = refl
    go (Some x) None = refl
    go (Some x) (Some y) = refl

-- the digits from a place on
pub two_digits : (word : List ℕ) (p h l : ℕ) → 2 * p + 1 < length word → h ≡ slice_index_or word (2 * p) 0 → l ≡ slice_index_or word (2 * p + 1) 0 → drop (2 * p) word ≡ h ∷ l ∷ drop (2 * (p + 1)) word
two_digits word p h l in_range e f =
    let first : 2 * p < length word = omega arith in
    let again : suc (suc (2 * p)) ≡ 2 * (p + 1) = omega arith in
    let second : suc (2 * p) < length word = omega arith in
    let place : suc (2 * p) ≡ 2 * p + 1 = omega arith in
    drop-cons word (2 * p) 0 first ∙ ap (λ (rest : List ℕ). slice_index_or word (2 * p) 0 ∷ rest) (drop-cons word (suc (2 * p)) 0 second)
    ∙ rw (again, place, ← e, ← f) refl

pub octet_step : (word octets : List ℕ) (p h l octet : ℕ) → 2 * p + 1 < length word → h ≡ slice_index_or word (2 * p) 0 → l ≡ slice_index_or word (2 * p + 1) 0 → Some octet ≡ octet_of (h ∷ l ∷ [])
    → octets_of word ≡ option_map (λ more. octets ++ more) (octets_of (drop (2 * p) word)) → octets_of word ≡ option_map (λ more. (octets ++ octet ∷ []) ++ more) (octets_of (drop (2 * (p + 1)) word))
octet_step word octets p h l octet in_range e f o before =
    before ∙ rw (two_digits word p h l in_range e f) (one_octet h l octet octets (drop (2 * (p + 1)) word) o)

pub octet_stop : (word octets : List ℕ) (p h l : ℕ) → 2 * p + 1 < length word → h ≡ slice_index_or word (2 * p) 0 → l ≡ slice_index_or word (2 * p + 1) 0 → None ≡ octet_of (h ∷ l ∷ [])
    → octets_of word ≡ option_map (λ more. octets ++ more) (octets_of (drop (2 * p) word)) → None ≡ octets_of word
octet_stop word octets p h l in_range e f o before =
    sym (before ∙ rw (two_digits word p h l in_range e f, no_octet h l (drop (2 * (p + 1)) word) o) refl)

pub octet_end : (word octets : List ℕ) (p : ℕ) → length word ≤ 2 * p → octets_of word ≡ option_map (λ more. octets ++ more) (octets_of (drop (2 * p) word)) → Some octets ≡ octets_of word
octet_end word octets p h before =
    let none : drop (2 * p) word ≡ [] = grind (arith, common_steps) in
    sym (before ∙ rw none (ap Some (append-nil octets)))

pub octet_begin : (word : List ℕ) → octets_of word ≡ option_map (λ more. [] ++ more) (octets_of (drop (2 * 0) word))
octet_begin word = go (octets_of word)
  where
    go : (x : Option (List ℕ)) → x ≡ option_map (λ more. [] ++ more) x
    go None = refl
    go (Some octets) = refl

-- one decimal digit more
pub digit_before : (left place value : ℕ) (digits : List ℕ) → 10 ≤ left → left < 2 ^ 64 → left < 10 ^ (place + 1) → place < length digits
    → decimal left ++ drop (place + 1) digits ≡ decimal value
    → decimal (left / 10) ++ drop (place - 1 + 1) (set digits place (48 + left % 10)) ≡ decimal value
digit_before left zero value digits more fits room within before = absurd (omega (arith, room))
digit_before left (suc place) value digits more fits room within before =
    let e : suc place - 1 + 1 ≡ suc place = omega arith in
    rw (e, drop-set digits (suc place) (48 + left % 10) within) (rw (decimal_step left more fits, append_assoc) at before)

-- the first decimal digit
pub first_digit : (left place value : ℕ) (digits : List ℕ) → left < 10 → place < length digits
    → decimal left ++ drop (place + 1) digits ≡ decimal value → drop place (set digits place (48 + left)) ≡ decimal value
first_digit left place value digits small within before =
    rw (drop-set digits place (48 + left) within) (rw (decimal_digit left small) at before)

-- a digit less wants a place less
pub place_fewer : (left place : ℕ) → 10 ≤ left → left < 10 ^ (place + 1) → left / 10 < 10 ^ (place - 1 + 1)
place_fewer left zero more room = absurd (omega (arith, room))
place_fewer left (suc place) more room =
    let e : suc place - 1 + 1 ≡ suc place = omega arith in
    let whole : left < 10 ^ suc (suc place) = rw (add-one) at room in
    rw e (omega (arith, whole))

-- hexadecimal of one list behind another
pub hex_append : (xs ys : List ℕ) → hex_text (xs ++ ys) ≡ hex_text xs ++ hex_text ys
hex_append [] ys = refl
hex_append (x ∷ xs) ys = ap (λ (digits : List ℕ). hex_digit (x / 16) ∷ hex_digit (x % 16) ∷ digits) (hex_append xs ys)

-- two digits more are written at the front
pub hex_more : (octets digits : List ℕ) (p high low : ℕ) → p < length octets → 2 * p + 1 < length digits
    → high ≡ hex_digit (slice_index_or octets p 0 / 16) → low ≡ hex_digit (slice_index_or octets p 0 % 16)
    → take (2 * p) digits ≡ hex_text (take p octets)
    → take (2 * (p + 1)) (set (set digits (2 * p) high) (2 * p + 1) low) ≡ hex_text (take (p + 1) octets)
hex_more octets digits p high low within room high_is low_is before =
    let here : 2 * p + 1 < length (set digits (2 * p) high) = omega (arith, room, length-set digits (2 * p) high) in
    let next : suc p ≡ p + 1 = omega arith in
    let more : take (p + 1) octets ≡ take p octets ++ slice_index_or octets p 0 ∷ [] = rw next at (take-suc octets p 0 within) in
    let both : hex_text (slice_index_or octets p 0 ∷ []) ≡ high ∷ low ∷ [] = rw (high_is, low_is) refl in
    take-set_at (set digits (2 * p) high) (2 * p + 1) (2 * (p + 1)) low (omega arith) here
    ∙ ap (λ (front : List ℕ). front ++ low ∷ []) (take_more_set digits (2 * p) high (omega (arith, room)))
    ∙ append_assoc (take (2 * p) digits) (high ∷ []) (low ∷ [])
    ∙ ap (λ (front : List ℕ). front ++ high ∷ low ∷ []) before
    ∙ ap (λ (back : List ℕ). hex_text (take p octets) ++ back) (sym both)
    ∙ sym (ap hex_text more ∙ hex_append (take p octets) (slice_index_or octets p 0 ∷ []))

-- some octets are written, and others are left
pub hex_split : (start before new left front rest : List ℕ) → front ++ rest ≡ left → new ≡ before ++ hex_text front
    → before ++ hex_text left ≡ start → new ++ hex_text rest ≡ start
hex_split start before new left front rest all added is =
    ap (λ (text : List ℕ). text ++ hex_text rest) added ∙ append_assoc before (hex_text front) (hex_text rest)
    ∙ ap (λ (text : List ℕ). before ++ text) (sym (hex_append front rest) ∙ ap hex_text all) ∙ is

-- a number of two digits
pub two_decimals : (value high low : ℕ) (before : List ℕ) → 10 ≤ value → value < 2 ^ 64 → high ∷ [] ≡ decimal (value / 10) → low ∷ [] ≡ decimal (value % 10)
    → (before ++ high ∷ []) ++ low ∷ [] ≡ before ++ decimal value
two_decimals value high low before more fits first second =
    let last : low ∷ [] ≡ (48 + value % 10) ∷ [] = second ∙ decimal_digit (value % 10) (omega arith) in
    append_assoc before (high ∷ []) (low ∷ [])
    ∙ ap (λ (digits : List ℕ). before ++ digits) (ap (λ (front : List ℕ). front ++ low ∷ []) first ∙ ap (λ (back : List ℕ). decimal (value / 10) ++ back) last ∙ sym (decimal_step value more fits))
