-- WHAT A CHANGEOVER DIVERTS in the runs in which links come up one after the other (Q.704 5): it's told of the sets as
-- they are, and what counts as acknowledged of each link as it's seen.
use Rattle.std.specs.Prelude.{Bool, false, List}
use Rattle.set_events.specs.declared.config.SetConfig.{SetConfig}
use Rattle.pair_steps.specs.declared.step.Shown.{Shown}
use Rattle.pair_changeover.specs.Diverted.{OrdersTell, DivertsTheRest, IsLostNothing}
use Rattle.pair_streams.specs.Streams.{AckedAreTaken}
use Rattle.pair_rises.specs.declared.moves.Move.{Move}
use Rattle.pair_rises.specs.declared.moves.Move.TheVariants.{Step as MoveStep, Rise, Fill}
use Rattle.pair_rises.specs.Rises.{Rising, opening, as_seen, HoldsAllAlong, HoldsAtEachMove, IsRun}

-- an order that is heard about a link that hasn't settled tells the last message that its end accepted
abbrev pub OrdersTellAt : Rising → Move → Shown → Type 0
OrdersTellAt g (MoveStep step) shown = OrdersTell g.stage step shown
OrdersTellAt g (Rise end link) shown = Unit {0}
OrdersTellAt g (Fill end link) shown = Unit {0}

pub record IsDivertedAt (before : Rising) (move : Move) (shown : Shown) (after : Rising) : Type 0 where
  pub told : OrdersTellAt before move shown
  pub diverted : DivertsTheRest before.stage after.stage

pub record MovesChangeOver (g : Rising) (moves : List Move) : Type 0 where
  pub lost_nothing : HoldsAllAlong (λ g. IsLostNothing (as_seen g)) g moves
  pub diverted : HoldsAtEachMove IsDivertedAt g moves

-- LAWS
abbrev pub EveryRisingRunDivertsTheRest : Type 0
EveryRisingRunDivertsTheRest =
    (a b : SetConfig) (moves : List Move) → IsRun false a b moves
    → MovesChangeOver (opening a b) moves

-- in emergencies too
abbrev pub EveryRisingRunTellsNumbers : Type 0
EveryRisingRunTellsNumbers =
    (emergencies : Bool) (a b : SetConfig) (moves : List Move) → IsRun emergencies a b moves
    → HoldsAtEachMove (λ before move shown after. OrdersTellAt before move shown) (opening a b) moves

-- and so what counts as acknowledged of a link was accepted, settled or not
abbrev pub EveryRisingRunAcksTheTaken : Type 0
EveryRisingRunAcksTheTaken =
    (emergencies : Bool) (a b : SetConfig) (moves : List Move) → IsRun emergencies a b moves
    → HoldsAllAlong (λ g. AckedAreTaken (as_seen g)) (opening a b) moves
