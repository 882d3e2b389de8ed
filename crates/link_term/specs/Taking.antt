-- TURNS ARE TAKEN of a terminal: they went, or a fault broke them off, or one had broken off a turn before.
use Rattle.std.specs.Prelude.{◌≡◌, true, false, Option, Result, Err, IfOk, IfErr, OnOk, OnErr}
use Rattle.l2_units.specs.declared.unit.Unit.{Unit as SignalUnit}
use Rattle.line_ring.specs.declared.line.Line as line_end
use Rattle.link_term.specs.declared.counts.Turned.{Turned}
use Rattle.link_term.specs.declared.door.Door as set_door
use Rattle.link_term.specs.declared.fault.TermFault.{TermFault}
use Rattle.link_term.specs.Standing.{Standing, TerminalState, stands}
use Rattle.link_term.specs.Turning.{TurnsOnce}

-- WHAT IS PROMISED OF TURNS, by what they are where they go and where a fault breaks them off
pub record TakesTurns {D L A : Type 0} (d : set_door.Ghosts D) (l : line_end.Ghosts L)
    (Went : Standing → A → Standing → Type 0) (Fails : TermFault → Standing → Standing → Type 0)
    (before : TerminalState D L) (result : Result A TermFault) (after : TerminalState D L) : Type 0 where
  pub went : IfOk result (λ told. (before.failed ≡ false) × Went (stands d l before) told (stands d l after))
  pub breaks : before.failed ≡ false → IfErr result (λ fault. Fails fault (stands d l before) (stands d l after))
  -- once a turn was broken off nothing is done
  pub failed : before.failed ≡ true → (result ≡ Err TermFault.Failed) × (after ≡ before)
  pub fails : OnErr result (after.failed ≡ true)
  pub goes_on : OnOk result (after.failed ≡ false)
  -- it's the same terminal at the same door, over the same line
  pub at : d.number after.door ≡ after.inside.link
  pub number : d.number after.door ≡ d.number before.door
  pub door : d.is_same before.door after.door
  pub same : l.is_same before.line after.line

-- a turn where a tap looks on: of the unit that was appended, if any, this is so
abbrev pub TurnsTapped : (Option SignalUnit → Type 0) → Standing → Turned → Standing → Type 0
TurnsTapped IsTold before turned after = (turns : TurnsOnce before turned after) × IsTold turns.turn.chosen.unit
