-- WHERE A LINK STANDS AT ITS TERMINAL AND AT ITS SET: up at the set where it's served alone, and settled there while
-- it's on its way.
use Rattle.std.specs.Prelude.{◌≡◌, ℕ, Bool, true, List, Option}
use Rattle.l2_bits.specs.declared.marks.Mark.{Mark}
use Rattle.l2_units.specs.declared.unit.Unit.{Unit as SignalUnit}
use Rattle.set_events.specs.declared.history.Entry.{Entry}
use Rattle.set_model.specs.History.{IsLegal, after}
use Rattle.set_model.specs.State.{State, is_settled, is_up}
use Rattle.term_asks.specs.Asking.{Standing, out, aligning, ready, waiting, served, AsksSo}

-- on its way into service
abbrev pub IsStarting : Standing → Type 0
IsStarting out = ⊥
IsStarting aligning = Unit {0}
IsStarting ready = Unit {0}
IsStarting waiting = Unit {0}
IsStarting served = ⊥

pub record StandsAt (link : ℕ) (standing : Standing) (s : State) : Type 0 where
  pub up : is_up link s ≡ true → standing ≡ served
  pub settled : IsStarting standing → is_settled link s ≡ true

-- LAW: a turn leaves it so, if it isn't told to start where the set has left the link and not settled it
abbrev pub TurnsKeepStanding : Type 0
TurnsKeepStanding =
    (link : ℕ) (started stopped : Bool) (marks : List Mark) (was now : Standing) (entries : List Entry) (unit : Option SignalUnit) (s : State)
    → AsksSo link started stopped marks was now entries unit → IsLegal s entries → StandsAt link was s
    → (started ≡ true → was ≡ out → is_settled link s ≡ true) → StandsAt link now (after s entries)
