-- What reads as a number or as octets is one word: it has no space.
use Rattle.std.proofs.Common.{refl, arith, ap, sym, ◌≡◌, ◌∙◌, ◌==◌, ◌+◌, ◌-◌, ◌*◌, ℕ, Bool, true, false, cond, List, [], ◌∷◌, length, nat_lt, Option, Some, None, Ok, unwrap_or}
use Rattle.std.proofs.lemmas.Bool.Decides.{nat_tests}
use Rattle.std.proofs.lemmas.List.{take_all}
use Rattle.std.proofs.lemmas.Option.{option_and_then_some}
use Rattle.std.specs.List.{position_or_len}
use Rattle.std.specs.Option.{option_and_then, option_map}
use Rattle.text_base.specs.Figures.{below_2_64, digits_behind, hex_value, is_digit, number_of, octet_before, octets_of}
use Rattle.text_forms.specs.Places.{link_of, some_octets}
use Rattle.text_forms.specs.Words.{Place, Rest, behind, first_word, is_space, next_at, other_words, read_as, read_then, word_in}

abbrev HasNoSpace : List ℕ → Type 0
HasNoSpace w = position_or_len is_space w ≡ length w

one_more : (c : ℕ) (cs : List ℕ) → is_space c ≡ false → HasNoSpace cs → HasNoSpace (c ∷ cs)
one_more c cs e h = rw e (rw h (omega arith))

-- The characters of a number.

digit_is_none : (c : ℕ) → is_digit c ≡ true → is_space c ≡ false
digit_is_none c e = grind (arith, nat_tests)

digits : (value : ℕ) (w : List ℕ) (n : ℕ) → digits_behind value w ≡ Some n → HasNoSpace w
digits value [] n e = refl
digits value (c ∷ cs) n e = by (is_digit c) refl e (digits (10 * value + (c - 48)) cs n)
  where
    next : Option ℕ
    next = digits_behind (10 * value + (c - 48)) cs

    by : (b : Bool) → is_digit c ≡ b → cond b next None ≡ Some n → (next ≡ Some n → HasNoSpace cs) → HasNoSpace (c ∷ cs)
    by true f g rest = one_more c cs (digit_is_none c f) (rest g)
    by false f g rest = absurd cc

zero_alone : (c : ℕ) (cs : List ℕ) (n : ℕ) → (c == 48) ≡ true → cond (length cs == 0) (Some 0) None ≡ Some n → HasNoSpace (c ∷ cs)
zero_alone c [] n e f = one_more c [] (grind (arith, nat_tests)) refl
zero_alone c (d ∷ cs) n e f =
    let more : (length (d ∷ cs) == 0) ≡ false = grind (arith, nat_tests) in
    let no : None ≡ Some n = rw more at f in
    absurd cc

number : (w : List ℕ) (n : ℕ) → number_of w ≡ Some n → HasNoSpace w
number [] n e = refl
number (c ∷ cs) n e = by (c == 48) refl e
  where
    by : (b : Bool) → (c == 48) ≡ b
        → cond b (cond (length cs == 0) (Some 0) None) (option_and_then below_2_64 (digits_behind 0 (c ∷ cs))) ≡ Some n → HasNoSpace (c ∷ cs)
    by true f g = zero_alone c cs n f g
    by false f g = option_and_then_some below_2_64 (digits_behind 0 (c ∷ cs)) n g (λ m o p. digits 0 (c ∷ cs) m o)

-- The digits of octets.

hex_is_none : (c v : ℕ) → hex_value c ≡ Some v → is_space c ≡ false
hex_is_none c v e = by (is_space c) refl
  where
    by : (b : Bool) → is_space c ≡ b → b ≡ false
    by false f = refl
    by true f =
        let same : c ≡ 32 = grind (arith, nat_tests) in
        let no : None ≡ Some v = ap hex_value (sym same) ∙ e in
        absurd cc

octets : (w os : List ℕ) → octets_of w ≡ Some os → HasNoSpace w
octets [] os e = refl
octets (c ∷ []) os e = absurd cc
octets (c ∷ d ∷ cs) os e = by (hex_value c) (hex_value d) (octets_of cs) refl refl e (octets cs)
  where
    by : (x y : Option ℕ) (z : Option (List ℕ)) → hex_value c ≡ x → hex_value d ≡ y → octet_before x y z ≡ Some os
        → ((more : List ℕ) → z ≡ Some more → HasNoSpace cs) → HasNoSpace (c ∷ d ∷ cs)
    by None y z f g h rest = absurd cc
    by (Some x) None z f g h rest = absurd cc
    by (Some x) (Some y) None f g h rest = absurd cc
    by (Some x) (Some y) (Some more) f g h rest =
        one_more c (d ∷ cs) (hex_is_none c x f) (one_more d cs (hex_is_none d y g) (rest more refl))

-- A word without a space is all of the words that are left.

pub record IsOneWord (w : List ℕ) : Type 0 where
  pub first : first_word w ≡ w
  pub others : other_words w ≡ None

one_word : (w : List ℕ) → HasNoSpace w → IsOneWord w
one_word w h = record {
  first = take_all (position_or_len is_space w) w (omega (arith, h));
  others = let all : nat_lt (position_or_len is_space w) (length w) ≡ false = grind (arith, nat_tests, h) in rw all refl;
}

pub number_is_one : (w : List ℕ) (n : ℕ) → number_of w ≡ Some n → IsOneWord w
number_is_one w n e = one_word w (number w n e)

mapped : {A B : Type 0} (f : A → B) (o : Option A) (b : B) {P : Type 0} → option_map f o ≡ Some b → ((a : A) → o ≡ Some a → P) → P
mapped f None b e k = absurd cc
mapped f (Some a) b e k = k a refl

pub link_is_one : (w : List ℕ) (n : ℕ) → link_of w ≡ Some n → IsOneWord w
link_is_one w n e = mapped (λ m. cond (nat_lt m 256) m 255) (number_of w) n e (λ m f. number_is_one w m f)

pub octets_are_one : (w os : List ℕ) → some_octets w ≡ Some os → IsOneWord w
octets_are_one w os e = by (length w == 0) e
  where
    by : (b : Bool) → cond b None (octets_of w) ≡ Some os → IsOneWord w
    by true g = absurd cc
    by false g = one_word w (octets w os g)

-- A place that has a value in all that is left: it's the last word.

module _ {A : Type 0} (place : Place A) (one : (w : List ℕ) (a : A) → place.value w ≡ Some a → IsOneWord w) (empty : place.value [] ≡ None)
    (rest : Rest) (a : A) (e : place.value (unwrap_or rest.left []) ≡ Some a) where
  pub last_read : next_at place rest ≡ Ok a
  last_read = by rest.left e
    where
      by : (left : Option (List ℕ)) → place.value (unwrap_or left []) ≡ Some a → read_then (read_as place) (word_in rest left) ≡ Ok a
      by None f = let no : None ≡ Some a = sym empty ∙ f in absurd cc
      by (Some w) f = let o = one w a f in rw (o.first, f) refl

  pub last_behind : record { size = rest.size; short = rest.short; left = None } ≡ behind rest
  last_behind = ap (λ (left : Option (List ℕ)). record { size = rest.size; short = rest.short; left = left }) (by rest.left e)
    where
      by : (left : Option (List ℕ)) → place.value (unwrap_or left []) ≡ Some a → None ≡ option_and_then other_words left
      by None f = refl
      by (Some w) f = sym (one w a f).others
