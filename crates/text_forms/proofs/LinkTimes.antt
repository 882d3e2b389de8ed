-- Each length that a line of level 3's times tells is at least 1.
use Rattle.std.proofs.Common.{subst, ◌≡◌, ◌<◌, ℕ, Bool, true, false, List, Ok, Err, cond, codes}
use Rattle.std.specs.Str.{bytes_eq}
use Rattle.text_forms.specs.declared.mistake.Mistake.TheVariants.{Terminal}
use Rattle.text_forms.specs.declared.terminal_mistake.TerminalMistake.TheVariants.{Level3Wants, UnknownWord}
use Rattle.text_forms.specs.declared.named.Named.TheVariants.{T1, T2, T4, T5, T17, K1, K2}
use Rattle.text_forms.specs.Places.{a_named}
use Rattle.text_forms.specs.Times.{LinkTimes, times, times_read}
use Rattle.text_forms.specs.Words.{Read, Rest, at_place, at_end, behind, behind_name, first_word, judged}
use Rattle.text_forms.proofs.Forms.{at_place_ok, at_end_ok}
use Rattle.text_forms.proofs.Lengths.{named_least}

abbrev pub AreSet : LinkTimes → Type 0
AreSet l = (0 < l.t1) × (0 < l.t2) × (0 < l.t4) × (0 < l.t5) × (0 < l.t17) × (0 < l.k1) × (0 < l.k2)

abbrev told : (t1 t2 t4 t5 t17 k1 k2 : ℕ) → LinkTimes
told t1 t2 t4 t5 t17 k1 k2 = record { t1 = t1; t2 = t2; t4 = t4; t5 = t5; t17 = t17; k1 = k1; k2 = k2 }

abbrev from_k2 : (t1 t2 t4 t5 t17 k1 : ℕ) → Rest → Read LinkTimes
from_k2 t1 t2 t4 t5 t17 k1 = at_place (a_named K2) (λ k2. at_end (told t1 t2 t4 t5 t17 k1 k2))

abbrev from_k1 : (t1 t2 t4 t5 t17 : ℕ) → Rest → Read LinkTimes
from_k1 t1 t2 t4 t5 t17 = at_place (a_named K1) (λ k1. from_k2 t1 t2 t4 t5 t17 k1)

abbrev from_t17 : (t1 t2 t4 t5 : ℕ) → Rest → Read LinkTimes
from_t17 t1 t2 t4 t5 = at_place (a_named T17) (λ t17. from_k1 t1 t2 t4 t5 t17)

abbrev from_t5 : (t1 t2 t4 : ℕ) → Rest → Read LinkTimes
from_t5 t1 t2 t4 = at_place (a_named T5) (λ t5. from_t17 t1 t2 t4 t5)

abbrev from_t4 : (t1 t2 : ℕ) → Rest → Read LinkTimes
from_t4 t1 t2 = at_place (a_named T4) (λ t4. from_t5 t1 t2 t4)

abbrev from_t2 : ℕ → Rest → Read LinkTimes
from_t2 t1 = at_place (a_named T2) (λ t2. from_t4 t1 t2)

times_set : (rest : Rest) (l : LinkTimes) → times rest ≡ Ok l → AreSet l
times_set rest l e =
    let r1 = behind rest in
    let r2 = behind r1 in
    let r3 = behind r2 in
    let r4 = behind r3 in
    let r5 = behind r4 in
    let r6 = behind r5 in
    let r7 = behind r6 in
    at_place_ok (a_named T1) (λ t1. from_t2 t1) rest l e (λ t1 w1 is1 e1.
    at_place_ok (a_named T2) (λ t2. from_t4 t1 t2) r1 l e1 (λ t2 w2 is2 e2.
    at_place_ok (a_named T4) (λ t4. from_t5 t1 t2 t4) r2 l e2 (λ t4 w4 is4 e4.
    at_place_ok (a_named T5) (λ t5. from_t17 t1 t2 t4 t5) r3 l e4 (λ t5 w5 is5 e5.
    at_place_ok (a_named T17) (λ t17. from_k1 t1 t2 t4 t5 t17) r4 l e5 (λ t17 w17 is17 e17.
    at_place_ok (a_named K1) (λ k1. from_k2 t1 t2 t4 t5 t17 k1) r5 l e17 (λ k1 v1 so1 f1.
    at_place_ok (a_named K2) (λ k2. at_end (told t1 t2 t4 t5 t17 k1 k2)) r6 l f1 (λ k2 v2 so2 f2.
    subst AreSet (at_end_ok (told t1 t2 t4 t5 t17 k1 k2) l r7 f2) (
      named_least T1 w1 t1 is1,
      named_least T2 w2 t2 is2,
      named_least T4 w4 t4 is4,
      named_least T5 w5 t5 is5,
      named_least T17 w17 t17 is17,
      named_least K1 v1 k1 so1,
      named_least K2 v2 k2 so2,
    ))))))))

pub link_times_set : (text : List ℕ) (l : LinkTimes) → times_read text ≡ Ok l → AreSet l
link_times_set text l e = by (bytes_eq (first_word text) (codes "level3")) e
  where
    by : (b : Bool)
        → cond b (times (behind_name text (Terminal Level3Wants))) (Err (record { column = 0; mistake = judged (first_word text) (Terminal UnknownWord) })) ≡ Ok l
        → AreSet l
    by true g = times_set (behind_name text (Terminal Level3Wants)) l g
    by false g = absurd cc
