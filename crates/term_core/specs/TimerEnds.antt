-- The timers by their names (Q.703 12.3).
use Rattle.std.specs.Prelude.{◌≡◌, ℕ, ◌||◌, Bool, true, false, Option, Some, None, if◌then◌else◌}
use Rattle.term_model.specs.declared.timers.Clocks.{Clocks}
use Rattle.term_model.specs.Talk.{done}
use Rattle.term_model.specs.Terminal.{Terminal}
use Rattle.term_model.specs.Timing.{is_over, lessened, timed}
use Rattle.term_core.specs.declared.clocks.Timer.{Timer}

-- what is left of a timer
abbrev pub clock_of : Timer → Clocks → Option ℕ
clock_of Timer.T1 clocks = clocks.t1
clock_of Timer.T2 clocks = clocks.t2
clock_of Timer.T3 clocks = clocks.t3
clock_of Timer.T4 clocks = clocks.t4
clock_of Timer.T5 clocks = clocks.t5
clock_of Timer.T6 clocks = clocks.t6
clock_of Timer.T7 clocks = clocks.t7

-- it doesn't run
abbrev pub without : Timer → Clocks → Clocks
without Timer.T1 clocks = record clocks { t1 = None }
without Timer.T2 clocks = record clocks { t2 = None }
without Timer.T3 clocks = record clocks { t3 = None }
without Timer.T4 clocks = record clocks { t4 = None }
without Timer.T5 clocks = record clocks { t5 = None }
without Timer.T6 clocks = record clocks { t6 = None }
without Timer.T7 clocks = record clocks { t7 = None }

-- it runs
abbrev pub is_running : Option ℕ → Bool
is_running None = false
is_running (Some left) = true

-- of the seven, from T1 on, one is such
abbrev pub has_such : (Option ℕ → Bool) → Clocks → Bool
has_such such clocks = ((((((such clocks.t1 || such clocks.t2) || such clocks.t3) || such clocks.t4)
    || such clocks.t5) || such clocks.t6) || such clocks.t7)

-- LAW: where none has ended once all are lessened, nothing comes of timers in this turn
abbrev pub NoEndNoTalk : Type 0
NoEndNoTalk = (t : Terminal) → has_such is_over (lessened t).clocks ≡ false → timed t ≡ done (lessened t)

-- a timer that has nothing left doesn't run any more
abbrev pub ended_now : Timer → Terminal → Terminal
ended_now timer t = if is_over (clock_of timer t.clocks) then record t { clocks = without timer t.clocks } else t
