-- What clients see of the management of a link.
use Rattle.std.specs.Prelude.{Bool, true, false}
use Rattle.l3_link.specs.Lengths.{no_clocks}
use Rattle.l3_link.specs.declared.clocks.Clocks.{Clocks}
use Rattle.l3_link.specs.declared.management.Awaited.{Awaited}
use Rattle.l3_link.specs.declared.management.State.{State}
use Rattle.l3_link.specs.declared.signals.Level2.{Level2}
use Rattle.l3_link.specs.declared.signals.Phase.{Phase}
use Rattle.l3_link.specs.declared.signals.Seen.{Seen}
use Rattle.l3_link.specs.declared.times.Times.{Times}

pub record Management : Type 0 where
  pub times : Times
  -- the set has link tests (Q.707)
  pub tests : Bool
  pub state : State
  -- the turns left of each timer
  pub clocks : Clocks
  -- what was seen last; where the set has settled the link since, it's seen settled
  pub seen : Seen
  -- whose answer decides how the turn goes on
  pub awaited : Awaited

-- a link before anything was seen of it
abbrev pub unseen : Seen
unseen = record { level2 = Level2.Out; phase = Phase.Settled; passed = false; others = false; hopes = false }

-- one that isn't activated
abbrev pub fresh : Times → Bool → Management
fresh times tests = record {
  times = times;
  tests = tests;
  state = State.Off;
  clocks = no_clocks;
  seen = unseen;
  awaited = Awaited.Nothing;
}

abbrev pub is_off : State → Bool
is_off State.Off = true
is_off _ = false

abbrev pub is_rest : State → Bool
is_rest State.Rest = true
is_rest _ = false

abbrev pub is_rising : State → Bool
is_rising State.Rising = true
is_rising _ = false

-- level 2 is out of service
abbrev pub is_out : Level2 → Bool
is_out Level2.Out = true
is_out _ = false

-- the far end has a processor outage
abbrev pub is_paused : Level2 → Bool
is_paused Level2.Paused = true
is_paused _ = false

abbrev pub is_settled : Phase → Bool
is_settled Phase.Settled = true
is_settled _ = false

abbrev pub is_up : Phase → Bool
is_up Phase.Up = true
is_up _ = false

-- it failed, and what the far end has isn't known yet
abbrev pub is_left : Phase → Bool
is_left Phase.Left = true
is_left _ = false
