-- THE LINE OF TIMERS: timers t1=N t2=N t3=N t5=N t6=N t7=N, each 1 to 2^32 - 1, in octet times.
use Rattle.std.specs.Prelude.{ℕ, List, Option, Err, if◌then◌else◌, codes}
use Rattle.std.specs.Result.{result_ok}
use Rattle.std.specs.Str.{bytes_eq}
use Rattle.term_model.specs.declared.timers.Timers.{Timers}
use Rattle.text_forms.specs.declared.mistake.Mistake.TheVariants.{Terminal}
use Rattle.text_forms.specs.declared.terminal_mistake.TerminalMistake.TheVariants.{TimersWants, UnknownWord}
use Rattle.text_forms.specs.declared.named.Named.TheVariants.{T1, T2, T3, T5, T6, T7}
use Rattle.text_forms.specs.Words.{Read, Rest, at_place, at_end, behind_name, first_word, judged}
use Rattle.text_forms.specs.Places.{a_named}

-- the six lengths
pub record Lengths : Type 0 where
  pub t1 : ℕ
  pub t2 : ℕ
  pub t3 : ℕ
  pub t5 : ℕ
  pub t6 : ℕ
  pub t7 : ℕ

abbrev pub timers_of : Timers → Lengths
timers_of t = record { t1 = t.t1; t2 = t.t2; t3 = t.t3; t5 = t.t5; t6 = t.t6; t7 = t.t7 }

abbrev pub lengths : Rest → Read Lengths
lengths =
    at_place (a_named T1) (λ t1. at_place (a_named T2) (λ t2. at_place (a_named T3) (λ t3.
    at_place (a_named T5) (λ t5. at_place (a_named T6) (λ t6. at_place (a_named T7) (λ t7. at_end
    (record { t1 = t1; t2 = t2; t3 = t3; t5 = t5; t6 = t6; t7 = t7 })))))))

-- WHAT THE LINE TELLS, or the word at fault
abbrev pub timers_read : List ℕ → Read Lengths
timers_read text =
    if bytes_eq (first_word text) (codes "timers") then lengths (behind_name text (Terminal TimersWants))
    else Err (record { column = 0; mistake = judged (first_word text) (Terminal UnknownWord) })

abbrev pub lengths_of : List ℕ → Option Lengths
lengths_of text = result_ok (timers_read text)
