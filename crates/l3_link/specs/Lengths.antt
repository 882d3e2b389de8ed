-- The lengths of timers, and what is left of them.
use Rattle.std.specs.Prelude.{ℕ, nat_le, ◌-◌, ◌==◌, Bool, true, false, Option, Some, None, if◌then◌else◌}
use Rattle.l3_link.specs.declared.clocks.Clocks.{Clocks}
use Rattle.l3_link.specs.declared.times.TimesFault.{TimesFault}

-- the first of these lengths that is 0, if one is
abbrev pub first_zero : ℕ → ℕ → ℕ → ℕ → ℕ → ℕ → ℕ → Option TimesFault
first_zero t1 t2 t4 t5 t17 k1 k2 =
    if t1 == 0 then Some TimesFault.T1 else
    if t2 == 0 then Some TimesFault.T2 else
    if t4 == 0 then Some TimesFault.T4 else
    if t5 == 0 then Some TimesFault.T5 else
    if t17 == 0 then Some TimesFault.T17 else
    if k1 == 0 then Some TimesFault.K1 else
    if k2 == 0 then Some TimesFault.K2 else None

abbrev pub number_of : TimesFault → ℕ
number_of TimesFault.T1 = 1
number_of TimesFault.T2 = 2
number_of TimesFault.T4 = 3
number_of TimesFault.T5 = 4
number_of TimesFault.T17 = 5
number_of TimesFault.K1 = 6
number_of TimesFault.K2 = 7

-- it runs, or has ended in this turn
abbrev pub runs : Option ℕ → Bool
runs None = false
runs (Some left) = true

-- it has ended, and nothing was asked at its end yet
abbrev pub is_over : Option ℕ → Bool
is_over None = false
is_over (Some left) = left == 0

-- it runs, and has at most so many turns left
abbrev pub within : ℕ → Option ℕ → Bool
within n None = false
within n (Some left) = nat_le left n

abbrev pub one_less : Option ℕ → Option ℕ
one_less None = None
one_less (Some left) = Some (left - 1)

-- no timer runs
abbrev pub no_clocks : Clocks
no_clocks = record { t1 = None; t2 = None; t4 = None; t5 = None; t17 = None; k1 = None; k2 = None; p = None }

-- one turn less is left of each timer that runs
abbrev pub lessened : Clocks → Clocks
lessened c = record {
  t1 = one_less c.t1;
  t2 = one_less c.t2;
  t4 = one_less c.t4;
  t5 = one_less c.t5;
  t17 = one_less c.t17;
  k1 = one_less c.k1;
  k2 = one_less c.k2;
  p = one_less c.p;
}
