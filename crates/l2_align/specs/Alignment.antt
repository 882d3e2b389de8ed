-- What clients see of initial alignment control: its state and its values.
use Rattle.std.specs.Prelude.{ℕ, Bool, false}
use Rattle.l2_align.specs.declared.align.State.{State}

pub record Alignment : Type 0 where
  pub state : State
  -- emergency was asked for at this end
  pub local : Bool
  -- the proving period is, or will be, that of emergency
  pub short : Bool
  -- proving periods that were aborted since Aligned was left
  pub aborts : ℕ
  -- an aborted proving period waits to begin anew
  pub pending : Bool

-- a new machine
abbrev pub initial : Alignment
initial = record { state = State.Idle; local = false; short = false; aborts = 0; pending = false }
