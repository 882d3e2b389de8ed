-- The first line is read back, word by word.
use Rattle.std.proofs.Common.{refl, arith, sym, subst, ◌≡◌, ◌∙◌, ap, ◌<◌, ◌≤◌, ◌^◌, ◌+◌, ◌*◌, ◌/◌, ◌%◌, ◌==◌, ◌&&◌, [], ◌∷◌, ◌++◌, length, ℕ, zero, suc, Bool, true, false, List, Option, Some, None, Ok, unwrap_or, decimal, codes, nat_lt, nat_le, append-nil}
use Rattle.std.proofs.lemmas.Bool.Decides.{nat_tests}
use Rattle.std.proofs.lemmas.Fmt.{decimal_is_IsNumeral}
use Rattle.std.proofs.lemmas.List.{take_all}
use Rattle.std.proofs.lemmas.Str.Parse.{tells_digits}
use Rattle.std.specs.Str.Parse.{AllDigits}
use Rattle.std.specs.Option.{option_and_then, option_map}
use Rattle.std.specs.Result.{result_ok}
use Rattle.std.specs.List.{position_or_len, before_first, after_first}
use Rattle.text_base.specs.Figures.{number_below, hex_text}
use Rattle.text_entries.specs.Entries.{AreOctets}
use Rattle.text_entries.specs.Reading.{is_gap}
use Rattle.text_entries.proofs.WordLemmas.{passes, until_is, behind_is, until_passed, behind_ended}
use Rattle.text_entries.proofs.FigureLemmas.{below_again, digit_again, number_again, number_is_word, octets_are_word}
use Rattle.text_forms.specs.declared.mistake.Mistake.TheVariants.{OpeningShort}
use Rattle.text_forms.specs.Words.{Place, Read, Rest, at_place, at_place_or, at_end, behind, behind_name, first_word, is_space, other_words}
use Rattle.text_forms.specs.Opening.{a_method, a_profile, an_sio, code_a, code_b, code_of, few_links, is_colon, links, links_of, met, method_of, n1_of, n2_of, of_orders, opening, opening_read, profile_of, sio_of, told_profile}
use Rattle.text_forms.proofs.Fitting.{from_method as behind_links, from_a as behind_method, from_b as behind_a, from_sio as behind_b, from_profile as behind_sio}
use Rattle.text_forms.specs.declared.opened.Values.{Values}
use Rattle.l2_units.specs.declared.profile.Profile.{Profile}
use Rattle.l2_units.specs.declared.profile.Profile.TheVariants.{Narrow, Wide}
use Rattle.l2_units.specs.Profile.{most_unacked}
use Rattle.set_events.specs.Method.{is_method, is_limit, most_octets}
use Rattle.set_events.specs.declared.config.Method.{Method}
use Rattle.set_events.specs.declared.config.Method.TheVariants.{Basic, Cyclic}
use Rattle.set_model.specs.State.{Settings}
use Rattle.text_entries.specs.FirstLine.{method_text, profile_text, settings_text, own_settings, SettingsFit, IsReadBack}

-- A word that is cut off.

found_in : (p : ℕ → Bool) (xs : List ℕ) (g : ℕ) (ys : List ℕ) → p g ≡ true → position_or_len p (xs ++ g ∷ ys) < length (xs ++ g ∷ ys)
found_in p [] g ys e = rw e (omega arith)
found_in p (c ∷ cs) g ys e = go (p c) refl (found_in p cs g ys e)
  where
    go : (b : Bool) → p c ≡ b → position_or_len p (cs ++ g ∷ ys) < length (cs ++ g ∷ ys) → position_or_len p ((c ∷ cs) ++ g ∷ ys) < length ((c ∷ cs) ++ g ∷ ys)
    go true f rest = rw f (omega arith)
    go false f rest = rw f (omega (arith, rest))

before_it : (p : ℕ → Bool) (xs : List ℕ) (g : ℕ) (ys : List ℕ) → passes p xs ≡ true → p g ≡ true → before_first p (xs ++ g ∷ ys) ≡ xs
before_it p xs g ys h e = until_is p (xs ++ g ∷ ys) ∙ until_passed p xs g ys h e

after_it : (p : ℕ → Bool) (xs : List ℕ) (g : ℕ) (ys : List ℕ) → passes p xs ≡ true → p g ≡ true → after_first p (xs ++ g ∷ ys) ≡ ys
after_it p xs g ys h e = behind_is p (xs ++ g ∷ ys) ∙ behind_ended p xs g ys h e

first_is : (xs ys : List ℕ) → passes is_space xs ≡ true → first_word (xs ++ 32 ∷ ys) ≡ xs
first_is xs ys h = before_it is_space xs 32 ys h refl

others_are : (xs ys : List ℕ) → passes is_space xs ≡ true → other_words (xs ++ 32 ∷ ys) ≡ Some ys
others_are xs ys h =
    let there : nat_lt (position_or_len is_space (xs ++ 32 ∷ ys)) (length (xs ++ 32 ∷ ys)) ≡ true = grind (arith, nat_tests, found_in is_space xs 32 ys refl) in
    rw there (ap Some (after_it is_space xs 32 ys h refl))

both_true : (a b : Bool) → (a && b) ≡ true → (a ≡ true) × (b ≡ true)
both_true true b h = (refl, h)
both_true false b h = cc h

-- Words of the line hold no space, and N1 no colon.

no_space : (xs : List ℕ) → passes is_gap xs ≡ true → passes is_space xs ≡ true
no_space [] h = refl
no_space (c ∷ cs) h = go (is_gap c) refl (no_space cs)
  where
    go : (b : Bool) → is_gap c ≡ b → (passes is_gap cs ≡ true → passes is_space cs ≡ true) → passes is_space (c ∷ cs) ≡ true
    go true f rest = let no : false ≡ true = rw f at h in cc no
    go false f rest =
        let more : passes is_gap cs ≡ true = rw f at h in
        let other : (c == 32) ≡ false = grind (arith, nat_tests, f) in
        rw other (rest more)

passes_both : (p : ℕ → Bool) (xs ys : List ℕ) → passes p xs ≡ true → passes p ys ≡ true → passes p (xs ++ ys) ≡ true
passes_both p [] ys h k = k
passes_both p (c ∷ cs) ys h k = go (p c) refl (λ more. passes_both p cs ys more k)
  where
    go : (b : Bool) → p c ≡ b → (passes p cs ≡ true → passes p (cs ++ ys) ≡ true) → passes p ((c ∷ cs) ++ ys) ≡ true
    go true f rest = let no : false ≡ true = rw f at h in cc no
    go false f rest = let more : passes p cs ≡ true = rw f at h in rw f (rest more)

digits_no_colon : (ds : List ℕ) → AllDigits 10 ds → passes is_colon ds ≡ true
digits_no_colon [] d = refl
digits_no_colon (c ∷ cs) d =
    let parts = tells_digits.parts c cs d in
    let high = parts.0.1 in
    let no : (c == 58) ≡ false = grind (arith, nat_tests) in
    rw no (digits_no_colon cs parts.1)

number_no_space : (n : ℕ) → n < 2 ^ 64 → passes is_space (decimal n) ≡ true
number_no_space n h = no_space (decimal n) (number_is_word n h)

-- the limits of a method, as numbers
limits_low : (p : Profile) (n1 n2 : ℕ) → is_method p (Cyclic n1 n2) ≡ true → (n1 < 2 ^ 16) × (n2 < 2 ^ 32)
limits_low Narrow n1 n2 h =
    let parts : (is_limit (most_unacked Narrow) n1 ≡ true) × (is_limit (most_octets Narrow) n2 ≡ true) = both_true (is_limit (most_unacked Narrow) n1) (is_limit (most_octets Narrow) n2) h in
    let a = both_true (nat_le 1 n1) (nat_le n1 127) parts.0 in
    let b = both_true (nat_le 1 n2) (nat_le n2 34671) parts.1 in
    let x : n1 ≤ 127 = grind (arith, nat_tests, a.1) in
    let y : n2 ≤ 34671 = grind (arith, nat_tests, b.1) in
    (omega (arith, x), omega (arith, y))
limits_low Wide n1 n2 h =
    let parts : (is_limit (most_unacked Wide) n1 ≡ true) × (is_limit (most_octets Wide) n2 ≡ true) = both_true (is_limit (most_unacked Wide) n1) (is_limit (most_octets Wide) n2) h in
    let a = both_true (nat_le 1 n1) (nat_le n1 4095) parts.0 in
    let b = both_true (nat_le 1 n2) (nat_le n2 1113840) parts.1 in
    let x : n1 ≤ 4095 = grind (arith, nat_tests, a.1) in
    let y : n2 ≤ 1113840 = grind (arith, nat_tests, b.1) in
    (omega (arith, x), omega (arith, y))

method_no_space : (p : Profile) (m : Method) → is_method p m ≡ true → passes is_space (codes "method=" ++ method_text m) ≡ true
method_no_space p Basic h = refl
method_no_space p (Cyclic n1 n2) h =
    let low = limits_low p n1 n2 h in
    passes_both is_space (decimal n1) (58 ∷ decimal n2) (number_no_space n1 (omega (arith, low.0))) (number_no_space n2 (omega (arith, low.1)))

-- The words.

links_again : (n : ℕ) → 1 ≤ n → n ≤ 16 → links_of (codes "links=" ++ decimal n) ≡ Some n
links_again n l h =
    let low : nat_le 1 n ≡ true = grind (arith, nat_tests, l) in
    let high : nat_le n 16 ≡ true = grind (arith, nat_tests, h) in
    ap (option_and_then few_links) (number_again n (omega (arith, h))) ∙ rw (low, high) refl

code_a_again : (n : ℕ) → n < 2 ^ 14 → code_of (codes "a=") (codes "a=" ++ decimal n) ≡ Some n
code_a_again n h = below_again (2 ^ 14) n h (omega (arith, h))

code_b_again : (n : ℕ) → n < 2 ^ 14 → code_of (codes "b=") (codes "b=" ++ decimal n) ≡ Some n
code_b_again n h = below_again (2 ^ 14) n h (omega (arith, h))

sio_again : (n : ℕ) → n < 2 ^ 8 → sio_of (codes "sio=" ++ hex_text (n ∷ [])) ≡ Some n
sio_again n h =
    let back : 16 * (n / 16) + n % 16 ≡ n = omega arith in
    rw (digit_again (n / 16) (omega (arith, h)), digit_again (n % 16) (omega arith)) (ap Some back)

sio_managed : (n : ℕ) → n < 2 ^ 8 → n % 16 ≡ 0 → option_and_then of_orders (sio_of (codes "sio=" ++ hex_text (n ∷ []))) ≡ Some n
sio_managed n h z =
    let zero_is : (n % 16 == 0) ≡ true = grind (arith, nat_tests, z) in
    ap (option_and_then of_orders) (sio_again n h) ∙ rw zero_is refl

method_again : (p : Profile) (m : Method) → is_method p m ≡ true → method_of (codes "method=" ++ method_text m) ≡ Some m
method_again p Basic h = refl
method_again p (Cyclic n1 n2) h =
    let low = limits_low p n1 n2 h in
    let whole = decimal n1 ++ 58 ∷ decimal n2 in
    let plain = digits_no_colon (decimal n1) (decimal_is_IsNumeral n1 (omega (arith, low.0))).0.1 in
    let there : nat_lt (position_or_len is_colon whole) (length whole) ≡ true = grind (arith, nat_tests, found_in is_colon (decimal n1) 58 (decimal n2) refl) in
    let first : n1_of whole ≡ Some n1 = ap (number_below (2 ^ 16)) (before_it is_colon (decimal n1) 58 (decimal n2) plain refl) ∙ below_again (2 ^ 16) n1 low.0 (omega (arith, low.0)) in
    let second : n2_of whole ≡ Some n2 = ap (number_below (2 ^ 32)) (after_it is_colon (decimal n1) 58 (decimal n2) plain refl) ∙ below_again (2 ^ 32) n2 low.1 (omega (arith, low.1)) in
    rw (there, first, second) refl

method_met : (p : Profile) (m : Method) → is_method p m ≡ true → option_and_then (met p) (method_of (codes "method=" ++ method_text m)) ≡ Some m
method_met p m h = ap (option_and_then (met p)) (method_again p m h) ∙ rw h refl

-- The words, and their values.

abbrev links_word : Settings → List ℕ
links_word s = codes "links=" ++ decimal s.links

abbrev method_word : Settings → List ℕ
method_word s = codes "method=" ++ method_text s.method

abbrev a_word : Settings → List ℕ
a_word s = codes "a=" ++ decimal s.opc

abbrev b_word : Settings → List ℕ
b_word s = codes "b=" ++ decimal s.dpc

abbrev sio_word : Settings → List ℕ
sio_word s = codes "sio=" ++ hex_text (s.sio ∷ [])

-- an SIO has no space
one_octet : (n : ℕ) → n < 2 ^ 8 → AreOctets (n ∷ [])
one_octet n h zero d l = h
one_octet n h (suc k) d l = absurd (omega (arith, l))

sio_no_space : (s : Settings) → s.sio < 2 ^ 8 → passes is_space (sio_word s) ≡ true
sio_no_space s h = no_space (hex_text (s.sio ∷ [])) (octets_are_word (s.sio ∷ []) (one_octet s.sio h))

-- what stands behind the sixth word
profile_word : Profile → Option (List ℕ)
profile_word Narrow = None
profile_word Wide = Some (codes "profile=wide")

abbrev from_sio : Settings → List ℕ
from_sio s = sio_word s ++ profile_text s.profile

none_found : (p : ℕ → Bool) (xs : List ℕ) → passes p xs ≡ true → position_or_len p xs ≡ length xs
none_found p [] h = refl
none_found p (c ∷ cs) h = go (p c) refl (none_found p cs)
  where
    go : (b : Bool) → p c ≡ b → (passes p cs ≡ true → position_or_len p cs ≡ length cs) → position_or_len p (c ∷ cs) ≡ length (c ∷ cs)
    go true f rest = let no : false ≡ true = rw f at h in cc no
    go false f rest =
        let more : passes p cs ≡ true = rw f at h in
        let same = rest more in
        rw f (omega (arith, same))

last_is : (p : Profile) (xs : List ℕ) → passes is_space xs ≡ true → (first_word (xs ++ profile_text p) ≡ xs) × (other_words (xs ++ profile_text p) ≡ profile_word p)
unfolding profile_word
last_is Narrow xs h =
    let e = none_found is_space xs h in
    let no : nat_lt (position_or_len is_space xs) (length xs) ≡ false = grind (arith, nat_tests, e) in
    rw (append-nil xs) (take_all (position_or_len is_space xs) xs (omega (arith, e)), rw no refl)
last_is Wide xs h = (first_is xs (codes "profile=wide") h, others_are xs (codes "profile=wide") h)

abbrev from_b : Settings → List ℕ
from_b s = b_word s ++ 32 ∷ from_sio s

abbrev from_a : Settings → List ℕ
from_a s = a_word s ++ 32 ∷ from_b s

abbrev from_method : Settings → List ℕ
from_method s = method_word s ++ 32 ∷ from_a s

abbrev from_links : Settings → List ℕ
from_links s = links_word s ++ 32 ∷ from_method s

abbrev values : Settings → Values
values s = record { links = s.links; method = s.method; code_a = s.opc; code_b = s.dpc; sio = s.sio; profile = s.profile }

line_is : (s : Settings) → settings_text s ≡ codes "set" ++ 32 ∷ from_links s
line_is s = refl

-- THE LINE, place by place.

-- the next word, in a place where it's read so
place_again : {A B : Type 0} (place : Place A) (form : A → Rest → Read B) (rest : Rest) (words : List ℕ) (a : A) → rest.left ≡ Some words
    → place.value (first_word words) ≡ Some a → at_place place form rest ≡ form a (behind rest)
place_again place form rest words a left read = rw (left, read) refl

profile_again : (p : Profile) (v : Values) (rest : Rest) → rest.left ≡ profile_word p → at_place_or a_profile p (λ q. at_end v) rest ≡ Ok v
unfolding profile_word
profile_again Narrow v rest e = rw e refl
profile_again Wide v rest e = rw e refl

-- the profile that is told is this one
told_of : (p : Profile) → unwrap_or (profile_of (first_word (unwrap_or (profile_word p) []))) Narrow ≡ p
unfolding profile_word
told_of Narrow = refl
told_of Wide = refl

module _ (s : Settings) (f : SettingsFit s) where
  abbrev line : List ℕ
  line = codes "set" ++ 32 ∷ from_links s

  links_plain : passes is_space (links_word s) ≡ true
  links_plain = number_no_space s.links (omega (arith, f.links_in_range))

  method_plain : passes is_space (method_word s) ≡ true
  method_plain = method_no_space s.profile s.method f.limits_in_range

  a_plain : passes is_space (a_word s) ≡ true
  a_plain = number_no_space s.opc (omega (arith, f.opc_in_range))

  b_plain : passes is_space (b_word s) ≡ true
  b_plain = number_no_space s.dpc (omega (arith, f.dpc_in_range))

  told_again : told_profile line ≡ s.profile
  told_again =
      let last = last_is s.profile (sio_word s) (sio_no_space s f.octet) in
      rw (
        others_are (codes "set") (from_links s) refl,
        others_are (links_word s) (from_method s) links_plain,
        others_are (method_word s) (from_a s) method_plain,
        others_are (a_word s) (from_b s) a_plain,
        others_are (b_word s) (from_sio s) b_plain,
        last.1,
      ) (told_of s.profile)

  walk : (rest : Rest) → rest.left ≡ Some (from_links s) → opening s.profile rest ≡ Ok (values s)
  walk rest l0 =
      let last = last_is s.profile (sio_word s) (sio_no_space s f.octet) in
      let r1 = behind rest in
      let r2 = behind r1 in
      let r3 = behind r2 in
      let r4 = behind r3 in
      let r5 = behind r4 in
      let l1 : r1.left ≡ Some (from_method s) = ap (option_and_then other_words) l0 ∙ others_are (links_word s) (from_method s) links_plain in
      let l2 : r2.left ≡ Some (from_a s) = ap (option_and_then other_words) l1 ∙ others_are (method_word s) (from_a s) method_plain in
      let l3 : r3.left ≡ Some (from_b s) = ap (option_and_then other_words) l2 ∙ others_are (a_word s) (from_b s) a_plain in
      let l4 : r4.left ≡ Some (from_sio s) = ap (option_and_then other_words) l3 ∙ others_are (b_word s) (from_sio s) b_plain in
      let l5 : r5.left ≡ profile_word s.profile = ap (option_and_then other_words) l4 ∙ last.1 in
      place_again links (behind_links s.profile) rest (from_links s) s.links l0
      (ap links_of (first_is (links_word s) (from_method s) links_plain) ∙ links_again s.links f.has_links f.links_in_range)
      ∙ place_again (a_method s.profile) (λ m. behind_method s.profile s.links m) r1 (from_method s) s.method l1
      (ap (λ w. option_and_then (met s.profile) (method_of w)) (first_is (method_word s) (from_a s) method_plain)
      ∙ method_met s.profile s.method f.limits_in_range)
      ∙ place_again code_a (λ a. behind_a s.profile s.links s.method a) r2 (from_a s) s.opc l2
      (ap (code_of (codes "a=")) (first_is (a_word s) (from_b s) a_plain) ∙ code_a_again s.opc f.opc_in_range)
      ∙ place_again code_b (λ b. behind_b s.profile s.links s.method s.opc b) r3 (from_b s) s.dpc l3
      (ap (code_of (codes "b=")) (first_is (b_word s) (from_sio s) b_plain) ∙ code_b_again s.dpc f.dpc_in_range)
      ∙ place_again an_sio (λ n. behind_sio s.profile s.links s.method s.opc s.dpc n) r4 (from_sio s) s.sio l4
      (ap (λ w. option_and_then of_orders (sio_of w)) last.0 ∙ sio_managed s.sio f.octet f.management)
      ∙ profile_again s.profile (values s) r5 l5

  line_again : opening_read line ≡ Ok (values s)
  line_again =
      subst (λ (p : Profile). opening p (behind_name line OpeningShort) ≡ Ok (values s)) (sym told_again)
      (walk (behind_name line OpeningShort) (others_are (codes "set") (from_links s) refl))

own_is : (s : Settings) → s.set ≡ 0 → own_settings (values s) ≡ s
own_is s e = rw e refl

pub read_back_each : IsReadBack
read_back_each s f = ap (option_map own_settings) (ap result_ok (line_again s f)) ∙ ap Some (own_is s f.numbered)
