-- Each length that a line of timers tells is at least 1.
use Rattle.std.proofs.Common.{refl, arith, subst, ◌≡◌, ◌<◌, ◌≤◌, ◌&&◌, ℕ, Bool, true, false, List, Some, None, Ok, Err, cond, nat_le, codes}
use Rattle.std.proofs.lemmas.Bool.Decides.{nat_tests}
use Rattle.std.proofs.lemmas.Option.{option_and_then_some}
use Rattle.std.specs.Option.{option_and_then}
use Rattle.std.specs.Str.{bytes_eq}
use Rattle.text_base.specs.Figures.{number_of}
use Rattle.text_forms.specs.declared.mistake.Mistake.TheVariants.{Terminal}
use Rattle.text_forms.specs.declared.terminal_mistake.TerminalMistake.TheVariants.{TimersWants, UnknownWord}
use Rattle.text_forms.specs.declared.named.Named.{Named}
use Rattle.text_forms.specs.declared.named.Named.TheVariants.{T1, T2, T3, T5, T6, T7}
use Rattle.text_forms.specs.Named.{least, most, name_of, named_of, within}
use Rattle.text_forms.specs.Places.{a_named}
use Rattle.text_forms.specs.Timers.{Lengths, lengths, timers_read}
use Rattle.text_forms.specs.Words.{Read, Rest, at_place, at_end, behind, behind_name, first_word, judged, value_in}
use Rattle.text_forms.proofs.Forms.{at_place_ok, at_end_ok}

abbrev pub Run : Lengths → Type 0
Run l = (0 < l.t1) × (0 < l.t2) × (0 < l.t3) × (0 < l.t5) × (0 < l.t6) × (0 < l.t7)

within_least : (low high n x : ℕ) → within low high n ≡ Some x → low ≤ x
within_least low high n x e = by (nat_le low n && nat_le n high) refl e
  where
    by : (b : Bool) → (nat_le low n && nat_le n high) ≡ b → cond b (Some n) None ≡ Some x → low ≤ x
    by true f g = let same : n ≡ x = cc in subst (λ (m : ℕ). low ≤ m) same (grind (arith, nat_tests, f))
    by false f g = absurd cc

pub named_least : (n : Named) (w : List ℕ) (x : ℕ) → named_of n w ≡ Some x → least n ≤ x
named_least n w x e =
    option_and_then_some (within (least n) (most n)) (option_and_then number_of (value_in (name_of n) w)) x e (λ m o f.
    within_least (least n) (most n) m x f)

abbrev told : (t1 t2 t3 t5 t6 t7 : ℕ) → Lengths
told t1 t2 t3 t5 t6 t7 = record { t1 = t1; t2 = t2; t3 = t3; t5 = t5; t6 = t6; t7 = t7 }

abbrev from_t7 : (t1 t2 t3 t5 t6 : ℕ) → Rest → Read Lengths
from_t7 t1 t2 t3 t5 t6 = at_place (a_named T7) (λ t7. at_end (told t1 t2 t3 t5 t6 t7))

abbrev from_t6 : (t1 t2 t3 t5 : ℕ) → Rest → Read Lengths
from_t6 t1 t2 t3 t5 = at_place (a_named T6) (λ t6. from_t7 t1 t2 t3 t5 t6)

abbrev from_t5 : (t1 t2 t3 : ℕ) → Rest → Read Lengths
from_t5 t1 t2 t3 = at_place (a_named T5) (λ t5. from_t6 t1 t2 t3 t5)

abbrev from_t3 : (t1 t2 : ℕ) → Rest → Read Lengths
from_t3 t1 t2 = at_place (a_named T3) (λ t3. from_t5 t1 t2 t3)

abbrev from_t2 : ℕ → Rest → Read Lengths
from_t2 t1 = at_place (a_named T2) (λ t2. from_t3 t1 t2)

lengths_run : (rest : Rest) (l : Lengths) → lengths rest ≡ Ok l → Run l
lengths_run rest l e =
    let r1 = behind rest in
    let r2 = behind r1 in
    let r3 = behind r2 in
    let r4 = behind r3 in
    let r5 = behind r4 in
    let r6 = behind r5 in
    at_place_ok (a_named T1) (λ t1. from_t2 t1) rest l e (λ t1 w1 is1 e1.
    at_place_ok (a_named T2) (λ t2. from_t3 t1 t2) r1 l e1 (λ t2 w2 is2 e2.
    at_place_ok (a_named T3) (λ t3. from_t5 t1 t2 t3) r2 l e2 (λ t3 w3 is3 e3.
    at_place_ok (a_named T5) (λ t5. from_t6 t1 t2 t3 t5) r3 l e3 (λ t5 w5 is5 e5.
    at_place_ok (a_named T6) (λ t6. from_t7 t1 t2 t3 t5 t6) r4 l e5 (λ t6 w6 is6 e6.
    at_place_ok (a_named T7) (λ t7. at_end (told t1 t2 t3 t5 t6 t7)) r5 l e6 (λ t7 w7 is7 e7.
    subst Run (at_end_ok (told t1 t2 t3 t5 t6 t7) l r6 e7)
    (named_least T1 w1 t1 is1, named_least T2 w2 t2 is2, named_least T3 w3 t3 is3, named_least T5 w5 t5 is5, named_least T6 w6 t6 is6, named_least T7 w7 t7 is7)))))))

pub timers_run : (text : List ℕ) (l : Lengths) → timers_read text ≡ Ok l → Run l
timers_run text l e = by (bytes_eq (first_word text) (codes "timers")) e
  where
    by : (b : Bool)
        → cond b (lengths (behind_name text (Terminal TimersWants))) (Err (record { column = 0; mistake = judged (first_word text) (Terminal UnknownWord) })) ≡ Ok l
        → Run l
    by true g = lengths_run (behind_name text (Terminal TimersWants)) l g
    by false g = absurd cc
