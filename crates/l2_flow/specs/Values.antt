-- What flow control keeps.
use Rattle.std.specs.Prelude.{Bool, false}

pub record Values : Type 0 where
  -- this end is busy
  pub busy : Bool
  -- the far end is busy
  pub far_busy : Bool
  -- T7 was started and not stopped
  pub t7_runs : Bool

-- at the start and after a reset
abbrev pub cleared : Values
cleared = record { busy = false; far_busy = false; t7_runs = false }
