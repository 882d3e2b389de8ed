-- What one row does, by cases on the state, the input and the status that is heard.
use Rattle.std.proofs.Common.{◌≡◌, ◌≢◌, Bool, inl, inr, Some, refl}
use Rattle.l2_units.specs.declared.cause.Cause.{Cause}
use Rattle.l2_units.specs.declared.status.Status.{Status}
use Rattle.l2_state.specs.declared.link_state.State.{State}
use Rattle.l2_state.specs.declared.signals.StateIn.{StateIn}
use Rattle.l2_state.specs.declared.signals.Indication.{Indication}
use Rattle.l2_state.specs.Laws.{IsFisuOrMsu}
use Rattle.l2_state.specs.Table.{Row, row, heard_ready, heard_in_service}

-- Up is told from Ready, at a FISU or an MSU.

no_up_ready : (s : Status) → (heard_ready s).out.indication ≢ Some Indication.Up
no_up_ready Status.Normal h = cc
no_up_ready _ h = cc

no_up_in_service : (s : Status) (p : Bool) → (heard_in_service s p).out.indication ≢ Some Indication.Up
no_up_in_service Status.Normal p h = cc
no_up_in_service _ p h = cc

pub up_from : (s : State) (i : StateIn) → (row s i).out.indication ≡ Some Indication.Up → (s ≡ State.Ready) × IsFisuOrMsu i
up_from State.OutOfService StateIn.Start h = absurd cc
up_from State.Aligning StateIn.Stop h = absurd cc
up_from State.Ready StateIn.Fisu h = (refl, inl refl)
up_from State.Ready StateIn.Msu h = (refl, inr refl)
up_from State.Ready (StateIn.Heard status) h = absurd (no_up_ready status h)
up_from (State.InService p) (StateIn.Heard status) h = absurd (no_up_in_service status p h)
up_from _ _ h = absurd cc

-- A row that tells Down leaves the link out of service.

abbrev LeadsDown : Row → Type 0
LeadsDown r = (c : Cause) → r.out.indication ≡ Some (Indication.Down c) → r.next ≡ State.OutOfService

down_ready : (s : Status) → LeadsDown (heard_ready s)
down_ready Status.Normal c h = absurd cc
down_ready Status.ProcessorOutage c h = absurd cc
down_ready _ c h = cc

down_in_service : (s : Status) (p : Bool) → LeadsDown (heard_in_service s p)
down_in_service Status.ProcessorOutage p c h = absurd cc
down_in_service _ p c h = cc

pub down_leads : (s : State) (i : StateIn) → LeadsDown (row s i)
down_leads State.OutOfService StateIn.Start c h = absurd cc
down_leads State.Aligning StateIn.Stop c h = refl
down_leads State.Ready (StateIn.Heard status) c h = down_ready status c h
down_leads (State.InService p) (StateIn.Heard status) c h = down_in_service status p c h
down_leads _ _ c h = cc

-- a link out of service tells no Down
pub no_down : (i : StateIn) (c : Cause) → (row State.OutOfService i).out.indication ≢ Some (Indication.Down c)
no_down StateIn.Start c h = cc
no_down _ c h = cc
