-- A line of octets alone.
use Rattle.std.proofs.Common.{refl, sym, arith, ◌≡◌, ◌∙◌, ◌==◌, ◌-◌, ℕ, Bool, true, false, List, length, cond, nat_lt, Option, Some, None, is_some}
use Rattle.std.proofs.lemmas.Bool.Decides.{nat_tests}
use Rattle.std.proofs.lemmas.List.{take_all}
use Rattle.std.specs.List.{after_first, position_or_len}
use Rattle.std.specs.Result.{result_err}
use Rattle.text_base.specs.Figures.{octets_of}
use Rattle.text_forms.specs.OctetLines.{NoOctetsAreBlamed, whole_line}
use Rattle.text_forms.specs.Places.{octets, some_octets}
use Rattle.text_forms.specs.Words.{at_end, behind, first_word, is_space, or_blamed, other_words, read_into, read_then, surplus_in, word_in}

-- a line without a space is one word
one_word : (text : List ℕ) → other_words text ≡ None → first_word text ≡ text
one_word text e = by (nat_lt (position_or_len is_space text) (length text)) refl e
  where
    by : (b : Bool) → nat_lt (position_or_len is_space text) (length text) ≡ b → cond b (Some (after_first is_space text)) None ≡ None → first_word text ≡ text
    by true f g = absurd cc
    by false f g = take_all (position_or_len is_space text) text (grind (arith, nat_tests, f))

filled : (word : List ℕ) (os : List ℕ) → some_octets word ≡ Some os → octets_of word ≡ Some os
filled word os e = by (length word == 0) e
  where
    by : (b : Bool) → cond b None (octets_of word) ≡ Some os → octets_of word ≡ Some os
    by true g = absurd cc
    by false g = g

module _ (text : List ℕ) (none : octets_of text ≡ None) where
  by_rest : (os : List ℕ) (left : Option (List ℕ)) → other_words text ≡ left → some_octets (first_word text) ≡ Some os
      → is_some (result_err (read_into (surplus_in (word_in (behind (whole_line text)) left)) os)) ≡ true
  by_rest os None e f = let whole : first_word text ≡ text = one_word text e in let no : Some os ≡ None = sym (filled text os (rw whole at f)) ∙ none in cc no
  by_rest os (Some words) e f = refl

  by_word : (column : ℕ) (read : Option (List ℕ)) → some_octets (first_word text) ≡ read
      → is_some (result_err (read_then (λ os. at_end os (behind (whole_line text))) (or_blamed read (record { column = column; octets = first_word text }) (octets.wrong (first_word text))))) ≡ true
  by_word column None e = refl
  by_word column (Some os) e = by_rest os (other_words text) refl e

pub no_octets_blamed : NoOctetsAreBlamed
no_octets_blamed text none = by_word text none (length text - length text) (some_octets (first_word text)) refl
