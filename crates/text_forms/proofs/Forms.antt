-- What a form reads, place by place.
use Rattle.std.proofs.Common.{refl, ◌≡◌, ℕ, List, Option, Some, None, Ok, Err}
use Rattle.text_forms.specs.Words.{Place, Read, Rest, Word, at_place, at_place_or, at_end, behind, ended, next_if, next_word, or_blamed, read_as, read_into, read_then}

module _ {A B : Type 0} (place : Place A) (form : A → Rest → Read B) (rest : Rest) (b : B) {P : Type 0} where
  pub at_place_ok : at_place place form rest ≡ Ok b
      → ((a : A) (w : List ℕ) → place.value w ≡ Some a → form a (behind rest) ≡ Ok b → P) → P
  at_place_ok e k = by (next_word rest) e
    where
      by_value : (word : Word) (o : Option A) → place.value word.octets ≡ o → read_then (λ a. form a (behind rest)) (or_blamed o word (place.wrong word.octets)) ≡ Ok b → P
      by_value word (Some a) f g = k a word.octets f g
      by_value word None f g = absurd cc

      by : (read : Read Word) → read_then (λ a. form a (behind rest)) (read_then (read_as place) read) ≡ Ok b → P
      by (Ok word) g = by_value word (place.value word.octets) refl g
      by (Err blame) g = absurd cc

  pub at_place_or_ok : (usual : A) → at_place_or place usual form rest ≡ Ok b → ((a : A) → form a (behind rest) ≡ Ok b → P) → P
  at_place_or_ok usual e k = by (next_if place usual rest rest.left) e
    where
      by : (read : Read A) → read_then (λ a. form a (behind rest)) read ≡ Ok b → P
      by (Ok a) g = k a g
      by (Err blame) g = absurd cc

pub at_end_ok : {A : Type 0} (a b : A) (rest : Rest) → at_end a rest ≡ Ok b → a ≡ b
at_end_ok a b rest e = by (ended rest) e
  where
    by : (read : Read (Unit {0})) → read_into read a ≡ Ok b → a ≡ b
    by (Ok done) g = cc
    by (Err blame) g = absurd cc
