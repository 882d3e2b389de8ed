-- The timers of the plan: that their lengths are set is one fact, however it's known.
use Rattle.std.proofs.Common.{◌≡◌, ◌∙◌, ap, ℕ, ◌<◌}
use Rattle.std.proofs.Props.{props}
use Rattle.term_model.specs.declared.timers.Timers.{Timers}

is_above : (n : ℕ) → IsProp (0 < n)
is_above n = hlevel props

abbrev timers_by : 0 < 100000 → 0 < 100000 → 0 < 100000 → 0 < 800 → 0 < 100000 → 0 < 100000 → Timers
timers_by s1 s2 s3 s5 s6 s7 = record {
  t1 = 100000;
  t2 = 100000;
  t3 = 100000;
  t5 = 800;
  t6 = 100000;
  t7 = 100000;
  t1_set = s1;
  t2_set = s2;
  t3_set = s3;
  t5_set = s5;
  t6_set = s6;
  t7_set = s7;
}

pub same_timers : (a1 b1 : 0 < 100000) (a2 b2 : 0 < 100000) (a3 b3 : 0 < 100000) (a5 b5 : 0 < 800) (a6 b6 : 0 < 100000) (a7 b7 : 0 < 100000)
    → timers_by a1 a2 a3 a5 a6 a7 ≡ timers_by b1 b2 b3 b5 b6 b7
same_timers a1 b1 a2 b2 a3 b3 a5 b5 a6 b6 a7 b7 =
    ap (λ (s : 0 < 100000). timers_by s a2 a3 a5 a6 a7) (is_above 100000 a1 b1)
    ∙ ap (λ (s : 0 < 100000). timers_by b1 s a3 a5 a6 a7) (is_above 100000 a2 b2)
    ∙ ap (λ (s : 0 < 100000). timers_by b1 b2 s a5 a6 a7) (is_above 100000 a3 b3)
    ∙ ap (λ (s : 0 < 800). timers_by b1 b2 b3 s a6 a7) (is_above 800 a5 b5)
    ∙ ap (λ (s : 0 < 100000). timers_by b1 b2 b3 b5 s a7) (is_above 100000 a6 b6)
    ∙ ap (λ (s : 0 < 100000). timers_by b1 b2 b3 b5 b6 s) (is_above 100000 a7 b7)
