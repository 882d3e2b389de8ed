-- The characters of an input, one by one.
use Rattle.std.proofs.Common.{refl, arith, ◌≡◌, ◌∙◌, ap, sym, ◌<◌, ◌≤◌, [], ◌∷◌, length, ℕ, ◌+◌, ◌-◌, ◌*◌, ◌^◌, Bool, true, false, nat_lt, ◌||◌, List, ◌++◌, take, drop, slice_index_or, Option, Some, None, append_assoc, append-nil, length-append}
use Rattle.std.proofs.lemmas.Grind.{flat_map-append, common_steps}
use Rattle.std.proofs.lemmas.Bool.Decides.{nat_tests}
use Rattle.std.specs.Option.{option_to_list, option_map, option_and_then, is_some}
use Rattle.text_base.specs.declared.fault.Stop.{Stop}
use Rattle.text_base.specs.declared.fault.Stop.TheVariants.{Input, Memory}
use Rattle.text_units.specs.declared.digit.Digit.{Digit}
use Rattle.text_units.specs.declared.digits.Digits.{Digits}
use Rattle.text_units.specs.declared.fault.UnreadableOctet.{UnreadableOctet}
use Rattle.text_base.specs.Figures.{hex_value, octet_of, octets_of, octet_before}
use Rattle.text_units.specs.UnitsText.{is_blank, readable, values_of, paired, left_over, octets_in}
use Rattle.text_units.specs.UnitsReading.{BeginsWithOctet, Decodes, DecodesFirst, Halts, HaltsIn, ReadsPairs}

-- Digits.

-- what was read is read the same, whatever follows
readable_front : (past cs : List ℕ) → readable past ≡ past → readable (past ++ cs) ≡ past ++ readable cs
readable_front [] cs e = refl
readable_front (c ∷ past) cs e = go (is_blank c || is_some (hex_value c)) refl (readable_front past cs)
  where
    go : (b : Bool) → (is_blank c || is_some (hex_value c)) ≡ b → (readable past ≡ past → readable (past ++ cs) ≡ past ++ readable cs) → readable (c ∷ (past ++ cs)) ≡ c ∷ (past ++ readable cs)
    go true f later =
        let whole : c ∷ readable past ≡ c ∷ past = rw f at e in
        rw f (ap (λ (xs : List ℕ). c ∷ xs) (later (ap (drop 1) whole)))
    go false f later = let none : [] ≡ c ∷ past = rw f at e in cc

values_front : (xs ys : List ℕ) → values_of (xs ++ ys) ≡ values_of xs ++ values_of ys
values_front xs ys = flat_map-append _ xs ys

paired_even : (vs ws : List ℕ) → left_over vs ≡ None → paired (vs ++ ws) ≡ paired vs ++ paired ws
paired_even [] ws e = refl
paired_even (high ∷ []) ws e = cc
paired_even (high ∷ low ∷ vs) ws e = ap (λ (octets : List ℕ). (16 * high + low) ∷ octets) (paired_even vs ws e)

left_even : (vs ws : List ℕ) → left_over vs ≡ None → left_over (vs ++ ws) ≡ left_over ws
left_even [] ws e = refl
left_even (high ∷ []) ws e = cc
left_even (high ∷ low ∷ vs) ws e = left_even vs ws e

paired_odd : (vs ws : List ℕ) (high low : ℕ) → left_over vs ≡ Some high → paired (vs ++ low ∷ ws) ≡ paired vs ++ (16 * high + low) ∷ paired ws
paired_odd [] ws high low e = cc
paired_odd (first ∷ []) ws high low e = let same : first ≡ high = cc in ap (λ (n : ℕ). (16 * n + low) ∷ paired ws) same
paired_odd (first ∷ second ∷ vs) ws high low e = ap (λ (octets : List ℕ). (16 * first + second) ∷ octets) (paired_odd vs ws high low e)

left_odd : (vs ws : List ℕ) (high low : ℕ) → left_over vs ≡ Some high → left_over (vs ++ low ∷ ws) ≡ left_over ws
left_odd [] ws high low e = cc
left_odd (first ∷ []) ws high low e = refl
left_odd (first ∷ second ∷ vs) ws high low e = left_odd vs ws high low e

-- a line has few bits
few_values : (cs : List ℕ) → length (values_of cs) ≤ length cs
few_values [] = omega arith
few_values (c ∷ cs) = one (hex_value c) (few_values cs)
  where
    one : (value : Option ℕ) → length (values_of cs) ≤ length cs → length (option_to_list value ++ values_of cs) ≤ length (c ∷ cs)
    one None h = omega (arith, h)
    one (Some v) h = omega (arith, h)

few_octets : (vs : List ℕ) → length (paired vs) ≤ length vs
few_octets [] = omega arith
few_octets (high ∷ []) = omega arith
few_octets (high ∷ low ∷ vs) = omega (arith, few_octets vs)

pub few_paired : (past : List ℕ) → length (paired (values_of past)) ≤ length past
few_paired past = omega (arith, few_octets (values_of past), few_values past)

-- One character.

or_true : (b : Bool) → (b || true) ≡ true
or_true true = refl
or_true false = refl

-- a blank is no digit
blank_alone : (c : ℕ) → is_blank c ≡ true → hex_value c ≡ None
blank_alone c e = grind (arith, nat_tests)

blank_front : (c : ℕ) (cs : List ℕ) → is_blank c ≡ true → readable (c ∷ cs) ≡ c ∷ readable cs
blank_front c cs e = rw e refl

digit_front : (c v : ℕ) (cs : List ℕ) → hex_value c ≡ Some v → readable (c ∷ cs) ≡ c ∷ readable cs
digit_front c v cs e = rw (e, or_true (is_blank c)) refl

bad_front : (c : ℕ) (cs : List ℕ) → is_blank c ≡ false → hex_value c ≡ None → readable (c ∷ cs) ≡ []
bad_front c cs e f = rw (e, f) refl

blank_values : (past : List ℕ) (c : ℕ) → hex_value c ≡ None → values_of (past ++ c ∷ []) ≡ values_of past
blank_values past c e = values_front past (c ∷ []) ∙ rw e (append-nil (values_of past))

digit_values : (past cs : List ℕ) (c v : ℕ) → hex_value c ≡ Some v → values_of (past ++ c ∷ cs) ≡ values_of past ++ v ∷ values_of cs
digit_values past cs c v e = values_front past (c ∷ cs) ∙ rw e refl

one_more : (old new : ℕ) (past : List ℕ) (c : ℕ) → length past + 1 ≤ 2 ^ 60 → (old + 1 < 2 ^ 64 → new ≡ old + 1) → old ≡ length past → new ≡ length (past ++ c ∷ [])
one_more old new past c fits step is = omega (arith, fits, is, step (omega (arith, fits, is)), length-append past (c ∷ []))

pub decodes_blank : (old new : Digits) (c : ℕ) (before : List ℕ) → hex_value c ≡ None → is_blank c ≡ true → new.high ≡ old.high → (old.place + 1 < 2 ^ 64 → new.place ≡ old.place + 1) → Decodes old (c ∷ []) before before new
decodes_blank old new c before none blank high_is place_is = record {
  octets = [];
  added = sym (append-nil before);
  few = omega arith;
  goes_on = λ past fits has.
      let same : values_of (past ++ c ∷ []) ≡ values_of past = blank_values past c none in (
        record {
          all_readable = readable_front past (c ∷ []) has.all_readable ∙ ap (λ (cs : List ℕ). past ++ cs) (blank_front c [] blank);
          place = one_more old.place new.place past c fits place_is has.place;
          digit = rw (same, high_is) has.digit;
        },
        ap paired same ∙ sym (append-nil (paired (values_of past))),
      );
}

pub decodes_first : (old new : Digits) (c v : ℕ) (before : List ℕ) → hex_value c ≡ Some v → old.high ≡ None → option_map (λ (digit : Digit). digit.value) new.high ≡ Some v → (old.place + 1 < 2 ^ 64 → new.place ≡ old.place + 1) → Decodes old (c ∷ []) before before new
decodes_first old new c v before value none high_is place_is = record {
  octets = [];
  added = sym (append-nil before);
  few = omega arith;
  goes_on = λ past fits has.
      let more : values_of (past ++ c ∷ []) ≡ values_of past ++ v ∷ [] = digit_values past [] c v value in
      let even : left_over (values_of past) ≡ None = sym has.digit ∙ ap (option_map (λ (digit : Digit). digit.value)) none in (
        record {
          all_readable = readable_front past (c ∷ []) has.all_readable ∙ ap (λ (cs : List ℕ). past ++ cs) (digit_front c v [] value);
          place = one_more old.place new.place past c fits place_is has.place;
          digit = high_is ∙ sym (ap left_over more ∙ left_even (values_of past) (v ∷ []) even);
        },
        ap paired more ∙ paired_even (values_of past) (v ∷ []) even,
      );
}

pub decodes_second : (old new : Digits) (c h v : ℕ) (before after : List ℕ) → hex_value c ≡ Some v → option_map (λ (digit : Digit). digit.value) old.high ≡ Some h → new.high ≡ None → (old.place + 1 < 2 ^ 64 → new.place ≡ old.place + 1) → after ≡ before ++ (16 * h + v) ∷ [] → Decodes old (c ∷ []) before after new
decodes_second old new c h v before after value high_is none place_is added = record {
  octets = (16 * h + v) ∷ [];
  added = added;
  few = omega arith;
  goes_on = λ past fits has.
      let more : values_of (past ++ c ∷ []) ≡ values_of past ++ v ∷ [] = digit_values past [] c v value in
      let odd : left_over (values_of past) ≡ Some h = sym has.digit ∙ high_is in (
        record {
          all_readable = readable_front past (c ∷ []) has.all_readable ∙ ap (λ (cs : List ℕ). past ++ cs) (digit_front c v [] value);
          place = one_more old.place new.place past c fits place_is has.place;
          digit = ap (option_map (λ (digit : Digit). digit.value)) none ∙ sym (ap left_over more ∙ left_odd (values_of past) [] h v odd);
        },
        ap paired more ∙ paired_odd (values_of past) [] h v odd,
      );
}

paired_begins : (vs ws : List ℕ) → (more : List ℕ) × (paired (vs ++ ws) ≡ paired vs ++ more)
paired_begins [] ws = (paired ws, refl)
paired_begins (high ∷ []) ws = (paired (high ∷ ws), refl)
paired_begins (high ∷ low ∷ vs) ws =
    let rest = paired_begins vs ws in (rest.0, ap (λ (octets : List ℕ). (16 * high + low) ∷ octets) rest.1)

-- what was read is read the same, whatever follows
pub past_octets : (past left : List ℕ) → readable past ≡ past → (more : List ℕ) × (octets_in (past ++ left) ≡ paired (values_of past) ++ more)
past_octets past left all =
    let rest = paired_begins (values_of past) (values_of (readable left)) in
    (rest.0, rw (readable_front past left all, values_front past (readable left)) rest.1)

-- Where they stop.

-- memory is wanted
pub halts_for_memory : (old : Digits) (text before after : List ℕ) → after ≡ before → Halts Memory old text before after
halts_for_memory old text before after same = record {
  octets = [];
  added = same ∙ sym (append-nil before);
  few = omega arith;
  ends = λ past fits has left.
      let begun = past_octets past (text ++ left) has.all_readable in
      (begun.0, begun.1 ∙ ap (λ (front : List ℕ). front ++ begun.0) (sym (append-nil (paired (values_of past)))));
}

-- a character that can't be read
pub halts_bad : (old : Digits) (c : ℕ) (before : List ℕ) → is_blank c ≡ false → hex_value c ≡ None → Halts (Input (record { place = old.place })) old (c ∷ []) before before
halts_bad old c before no_blank no_digit = record {
  octets = [];
  added = sym (append-nil before);
  few = omega arith;
  ends = λ past fits has left.
      let front : readable (past ++ c ∷ left) ≡ past =
      readable_front past (c ∷ left) has.all_readable ∙ ap (λ (cs : List ℕ). past ++ cs) (bad_front c left no_blank no_digit) ∙ append-nil past in
      let inside : nat_lt (length past) (length (past ++ c ∷ left)) ≡ true = grind (arith, nat_tests, length-append past (c ∷ left)) in
      (rw (front, append-nil (paired (values_of past))) refl, rw (front, inside, has.place) refl);
}

-- One after another.

pub decodes_none : (digits : Digits) (before : List ℕ) → Decodes digits [] before before digits
decodes_none digits before = record {
  octets = [];
  added = sym (append-nil before);
  few = omega arith;
  goes_on = λ past fits has. (rw (append-nil past) has, rw (append-nil past, append-nil (paired (values_of past))) refl);
}

pub decodes_then : (a b d : Digits) (cs ds x y z : List ℕ) → Decodes a cs x y b → Decodes b ds y z d → Decodes a (cs ++ ds) x z d
decodes_then a b d cs ds x y z f g = record {
  octets = f.octets ++ g.octets;
  added = g.added ∙ ap (λ (front : List ℕ). front ++ g.octets) f.added ∙ append_assoc x f.octets g.octets;
  few = omega (arith, f.few, g.few, length-append f.octets g.octets, length-append cs ds);
  goes_on = λ past fits has.
      let past_is : (past ++ cs) ++ ds ≡ past ++ (cs ++ ds) = append_assoc past cs ds in
      let first = f.goes_on past (omega (arith, fits, length-append cs ds)) has in
      let more = g.goes_on (past ++ cs) (omega (arith, fits, length-append past cs, length-append cs ds)) first.0 in (
        rw past_is at more.0,
        ap (λ (text : List ℕ). paired (values_of text)) (sym past_is) ∙ more.1 ∙ ap (λ (front : List ℕ). front ++ g.octets) first.1
            ∙ append_assoc (paired (values_of past)) f.octets g.octets,
      );
}

halts_on : (stop : Stop UnreadableOctet) (input before a b : List ℕ) → HaltsIn stop input ((before ++ a) ++ b) → HaltsIn stop input (before ++ (a ++ b))
halts_on stop input before a b h = rw (append_assoc before a b) at h

pub halts_then : (stop : Stop UnreadableOctet) (a b : Digits) (cs ds x y z : List ℕ) → Decodes a cs x y b → Halts stop b ds y z → Halts stop a (cs ++ ds) x z
halts_then stop a b cs ds x y z f g = record {
  octets = f.octets ++ g.octets;
  added = g.added ∙ ap (λ (front : List ℕ). front ++ g.octets) f.added ∙ append_assoc x f.octets g.octets;
  few = omega (arith, f.few, g.few, length-append f.octets g.octets, length-append cs ds);
  ends = λ past fits has left.
      let past_is : (past ++ cs) ++ (ds ++ left) ≡ past ++ ((cs ++ ds) ++ left) = append_assoc past cs (ds ++ left) ∙ ap (λ (rest : List ℕ). past ++ rest) (sym (append_assoc cs ds left)) in
      let first = f.goes_on past (omega (arith, fits, length-append cs ds)) has in
      let more = g.ends (past ++ cs) (omega (arith, fits, length-append past cs, length-append cs ds)) first.0 left in
      halts_on stop (past ++ ((cs ++ ds) ++ left)) (paired (values_of past)) f.octets g.octets (rw (past_is, first.1) at more);
}

pub halts_more : (stop : Stop UnreadableOctet) (a : Digits) (c : ℕ) (cs : List ℕ) (x z : List ℕ) → Halts stop a (c ∷ []) x z → Halts stop a (c ∷ cs) x z
halts_more stop a c cs x z halts = record {
  octets = halts.octets;
  added = halts.added;
  few = omega (arith, halts.few);
  ends = λ past fits has left. halts.ends past (omega (arith, fits)) has (cs ++ left);
}

-- Octets whose two digits stand side by side.

-- the characters are digits, two of each octet
record AreDigits (digits octets : List ℕ) : Type 0 where
  all_readable : readable digits ≡ digits
  even : left_over (values_of digits) ≡ None
  are : paired (values_of digits) ≡ octets
  few : length octets ≤ length digits

are_digits : (digits octets : List ℕ) → octets_of digits ≡ Some octets → AreDigits digits octets
are_digits [] octets e = let none : [] ≡ octets = cc in rw (← none) (record {
  all_readable = refl;
  even = refl;
  are = refl;
  few = omega arith;
})
are_digits (c ∷ []) octets e = cc
are_digits (c ∷ d ∷ cs) octets e = go (hex_value c) (hex_value d) (octets_of cs) refl refl refl e (are_digits cs)
  where
    go : (x y : Option ℕ) (z : Option (List ℕ)) → hex_value c ≡ x → hex_value d ≡ y → octets_of cs ≡ z → octet_before x y z ≡ Some octets
        → ((more : List ℕ) → octets_of cs ≡ Some more → AreDigits cs more) → AreDigits (c ∷ d ∷ cs) octets
    go None y z h l rest is later = cc
    go (Some high) None z h l rest is later = cc
    go (Some high) (Some low) None h l rest is later = cc
    go (Some high) (Some low) (Some more) h l rest is later =
        let on = later more rest in
        let all : (16 * high + low) ∷ more ≡ octets = cc in
        let values : values_of (c ∷ d ∷ cs) ≡ high ∷ low ∷ values_of cs = rw (h, l) refl in
        rw (← all) (record {
          all_readable = digit_front c high (d ∷ cs) h ∙ ap (λ (text : List ℕ). c ∷ text) (digit_front d low cs l ∙ ap (λ (text : List ℕ). d ∷ text) on.all_readable);
          even = ap left_over values ∙ on.even;
          are = ap paired values ∙ ap (λ (octets : List ℕ). (16 * high + low) ∷ octets) on.are;
          few = omega (arith, on.few);
        })

decodes_pairs : (old new : Digits) (digits octets before : List ℕ) → octets_of digits ≡ Some octets → old.high ≡ None → new.high ≡ old.high
    → (old.place + length digits < 2 ^ 64 → new.place ≡ old.place + length digits) → Decodes old digits before (before ++ octets) new
decodes_pairs old new digits octets before are none high_is place_is =
    let is = are_digits digits octets are in
    record {
      octets = octets;
      added = refl;
      few = is.few;
      goes_on = λ past fits has.
          let even : left_over (values_of past) ≡ None = sym has.digit ∙ ap (option_map (λ (digit : Digit). digit.value)) none in
          let values : values_of (past ++ digits) ≡ values_of past ++ values_of digits = values_front past digits in (
            record {
              all_readable = readable_front past digits has.all_readable ∙ ap (λ (cs : List ℕ). past ++ cs) is.all_readable;
              place = omega (arith, fits, has.place, place_is (omega (arith, fits, has.place)), length-append past digits);
              digit = ap (option_map (λ (digit : Digit). digit.value)) (high_is ∙ none) ∙ sym (ap left_over values ∙ left_even (values_of past) (values_of digits) even ∙ is.even);
            },
            ap paired values ∙ paired_even (values_of past) (values_of digits) even ∙ ap (λ (more : List ℕ). paired (values_of past) ++ more) is.are,
          );
    }

-- the octets of pairs were added
pub pairs_decoded : (old new : Digits) (text left before after : List ℕ) → ReadsPairs text left before after → old.high ≡ None → new.high ≡ old.high
    → (old.place + (length text - length left) < 2 ^ 64 → new.place ≡ old.place + (length text - length left)) → DecodesFirst old text before left after new
pairs_decoded old new text left before after pairs none high_is place_is =
    let size : length text - length left ≡ length pairs.digits = omega (arith, ap length pairs.split, length-append pairs.digits left) in
    let first : Decodes old pairs.digits before after new =
    rw (← pairs.added) at (decodes_pairs old new pairs.digits pairs.octets before pairs.are none high_is (rw size at place_is)) in
    record {
      decodes = λ last_is last later. rw pairs.split (decodes_then old new last pairs.digits left before after last_is first later);
      halts = λ stop last_is later. rw pairs.split (halts_then stop old new pairs.digits left before after last_is first later);
    }

-- none was read
pub none_decoded : (old : Digits) (text before : List ℕ) → DecodesFirst old text before text before old
none_decoded old text before = record {
  decodes = λ after last later. later;
  halts = λ stop after later. later;
}

pub no_pairs : (text before : List ℕ) → ReadsPairs text text before before
no_pairs text before = record {
  digits = [];
  octets = [];
  split = refl;
  are = refl;
  added = sym (append-nil before);
}

-- a pair more
pub pairs_then : (octet : ℕ) (text rest left before middle after : List ℕ) → BeginsWithOctet text octet rest → middle ≡ before ++ octet ∷ []
    → ReadsPairs rest left middle after → ReadsPairs text left before after
pairs_then octet text rest left before middle after begins added pairs = record {
  digits = begins.high ∷ begins.low ∷ pairs.digits;
  octets = octet ∷ pairs.octets;
  split = begins.split ∙ ap (λ (text : List ℕ). begins.high ∷ begins.low ∷ text) pairs.split;
  are = go (hex_value begins.high) (hex_value begins.low) begins.is;
  added = pairs.added ∙ ap (λ (front : List ℕ). front ++ pairs.octets) added ∙ append_assoc before (octet ∷ []) pairs.octets;
}
  where
    go : (x y : Option ℕ) → Some octet ≡ option_and_then (λ high. option_map (λ low. 16 * high + low) y) x → octet_before x y (octets_of pairs.digits) ≡ Some (octet ∷ pairs.octets)
    go None y e = cc
    go (Some high) None e = cc
    go (Some high) (Some low) e =
        let same : 16 * high + low ≡ octet = cc in
        rw (pairs.are, same) refl

pub first_of_two : (text : List ℕ) (octet : ℕ) → 2 ≤ length text → Some octet ≡ octet_of (slice_index_or text 0 0 ∷ slice_index_or text 1 0 ∷ [])
    → BeginsWithOctet text octet (take (length text - 2) (drop 2 text))
first_of_two [] octet two is = absurd (omega arith)
first_of_two (high ∷ []) octet two is = absurd (omega arith)
first_of_two (high ∷ low ∷ rest) octet two is =
    let same : take (length (high ∷ low ∷ rest) - 2) rest ≡ rest = grind (arith, common_steps) in
    record {
      high = high;
      low = low;
      split = ap (λ (text : List ℕ). high ∷ low ∷ text) (sym same);
      is = is;
    }

pub none_waits : (high : Option Digit) → is_some high ≡ false → high ≡ None
none_waits None e = refl
none_waits (Some digit) e = cc

-- a character more, behind those that were read in pairs
pub decodes_on : (a b d last : Digits) (text left x y z after : List ℕ) → 1 ≤ length left → DecodesFirst a text x left y b
    → Decodes b (slice_index_or left 0 0 ∷ []) y z d → Decodes d (take (length left - 1) (drop 1 left)) z after last → Decodes a text x after last
decodes_on a b d last text [] x y z after one pairs first later = absurd (omega arith)
decodes_on a b d last text (c ∷ rest) x y z after one pairs first later =
    let same : take (length (c ∷ rest) - 1) rest ≡ rest = grind (arith, common_steps) in
    pairs.decodes after last (decodes_then b d last (c ∷ []) rest y z after first (rw same at later))

pub halts_on_later : (stop : Stop UnreadableOctet) (a b d : Digits) (text left x y z after : List ℕ) → 1 ≤ length left → DecodesFirst a text x left y b
    → Decodes b (slice_index_or left 0 0 ∷ []) y z d → Halts stop d (take (length left - 1) (drop 1 left)) z after → Halts stop a text x after
halts_on_later stop a b d text [] x y z after one pairs first later = absurd (omega arith)
halts_on_later stop a b d text (c ∷ rest) x y z after one pairs first later =
    let same : take (length (c ∷ rest) - 1) rest ≡ rest = grind (arith, common_steps) in
    pairs.halts stop after (halts_then stop b d (c ∷ []) rest y z after first (rw same at later))
