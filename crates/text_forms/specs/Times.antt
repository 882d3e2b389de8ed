-- THE LINE OF LEVEL 3'S TIMES: level3 t1=N t2=N t4=N t5=N t17=N k1=N k2=N, each 1 to 2^32 - 1, in turns (Q.704 16.8; Q.707).
use Rattle.std.specs.Prelude.{ℕ, List, Option, Err, if◌then◌else◌, codes}
use Rattle.std.specs.Result.{result_ok}
use Rattle.std.specs.Str.{bytes_eq}
use Rattle.l3_link.specs.declared.times.Times.{Times}
use Rattle.text_forms.specs.declared.mistake.Mistake.TheVariants.{Terminal}
use Rattle.text_forms.specs.declared.terminal_mistake.TerminalMistake.TheVariants.{Level3Wants, UnknownWord}
use Rattle.text_forms.specs.declared.named.Named.TheVariants.{T1, T2, T4, T5, T17, K1, K2}
use Rattle.text_forms.specs.Words.{Read, Rest, at_place, at_end, behind_name, first_word, judged}
use Rattle.text_forms.specs.Places.{a_named}

-- the seven lengths
pub record LinkTimes : Type 0 where
  pub t1 : ℕ
  pub t2 : ℕ
  pub t4 : ℕ
  pub t5 : ℕ
  pub t17 : ℕ
  pub k1 : ℕ
  pub k2 : ℕ

abbrev pub times_of : Times → LinkTimes
times_of t = record { t1 = t.t1; t2 = t.t2; t4 = t.t4; t5 = t.t5; t17 = t.t17; k1 = t.k1; k2 = t.k2 }

abbrev pub times : Rest → Read LinkTimes
times =
    at_place (a_named T1) (λ t1. at_place (a_named T2) (λ t2. at_place (a_named T4) (λ t4.
    at_place (a_named T5) (λ t5. at_place (a_named T17) (λ t17. at_place (a_named K1) (λ k1.
    at_place (a_named K2) (λ k2. at_end
    (record { t1 = t1; t2 = t2; t4 = t4; t5 = t5; t17 = t17; k1 = k1; k2 = k2 }))))))))

-- WHAT THE LINE TELLS, or the word at fault
abbrev pub times_read : List ℕ → Read LinkTimes
times_read text =
    if bytes_eq (first_word text) (codes "level3") then times (behind_name text (Terminal Level3Wants))
    else Err (record { column = 0; mistake = judged (first_word text) (Terminal UnknownWord) })

abbrev pub link_times_of : List ℕ → Option LinkTimes
link_times_of text = result_ok (times_read text)
