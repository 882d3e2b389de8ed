-- Laws above the table, over all lists of inputs from a link out of service.
use Rattle.std.specs.Prelude.{◌≡◌, ◌⊎◌, Some, List, ◌∷◌, ◌++◌}
use Rattle.l2_state.specs.declared.link_state.State.{State}
use Rattle.l2_units.specs.declared.cause.Cause.{Cause}
use Rattle.l2_state.specs.declared.signals.StateIn.{StateIn}
use Rattle.l2_state.specs.declared.signals.Indication.{Indication}
use Rattle.l2_state.specs.Runs.{after, told_at}

-- a FISU or an MSU was heard
abbrev pub IsFisuOrMsu : StateIn → Type 0
IsFisuOrMsu input = (input ≡ StateIn.Fisu) ⊎ (input ≡ StateIn.Msu)

-- Up is told only from Ready, at a FISU or an MSU
abbrev pub UpOnlyFromReady : Type 0
UpOnlyFromReady =
    (past : List StateIn) (input : StateIn) → told_at past input ≡ Some Indication.Up →
    (after State.OutOfService past ≡ State.Ready) × IsFisuOrMsu input

-- a Start is among these inputs
pub record HasStart (inputs : List StateIn) : Type 0 where
  pub before : List StateIn
  pub since : List StateIn
  pub split : inputs ≡ before ++ StateIn.Start ∷ since

-- between two inputs that tell Down there is a Start
abbrev pub StartBetweenDowns : Type 0
StartBetweenDowns =
    (past : List StateIn) (first : StateIn) (between : List StateIn) (second : StateIn) (c d : Cause) →
    told_at past first ≡ Some (Indication.Down c) →
    told_at (past ++ first ∷ between) second ≡ Some (Indication.Down d) →
    HasStart between
