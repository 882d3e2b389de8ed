-- The table of link state control (Q.703 8, 12): a row for each state and input that isn't ignored.
use Rattle.std.specs.Prelude.{Bool, true, false, Option, Some, None}
use Rattle.l2_units.specs.declared.cause.Cause.{Cause}
use Rattle.l2_units.specs.declared.status.Status.{Status}
use Rattle.l2_units.specs.declared.timer.TimerOrder.{TimerOrder}
use Rattle.l2_state.specs.declared.link_state.State.{State}
use Rattle.l2_state.specs.declared.signals.Sending.{Sending}
use Rattle.l2_state.specs.declared.signals.StateIn.{StateIn}
use Rattle.l2_state.specs.declared.signals.StateOut.{StateOut}
use Rattle.l2_state.specs.declared.signals.Switch.{Switch}
use Rattle.l2_state.specs.declared.signals.Indication.{Indication}

-- what a row does: what is told, and the state afterwards; and whether this end has a processor outage from now on, where
-- that changes
pub record Row : Type 0 where
  pub out : StateOut
  pub next : State
  pub outage : Option Bool

-- the far end has a processor outage
abbrev pub is_paused : State → Bool
is_paused (State.InService paused) = paused
is_paused _ = false

-- nothing sent, no timer touched, nothing told
abbrev pub silent : State → Row
silent next = record {
  out = record {
    send = None;
    t1 = TimerOrder.Keep;
    alignment = None;
    new_suerm = false;
    indication = None;
    paused = is_paused next;
  };
  next = next;
  outage = None;
}

-- a row with one thing more told
abbrev pub sending : Sending → Row → Row
sending what r = record r { out = record r.out { send = Some what } }

abbrev pub timing : TimerOrder → Row → Row
timing order r = record r { out = record r.out { t1 = order } }

abbrev pub switching : Switch → Row → Row
switching switch r = record r { out = record r.out { alignment = Some switch } }

abbrev pub watching : Row → Row
watching r = record r { out = record r.out { new_suerm = true } }

abbrev pub telling : Indication → Row → Row
telling what r = record r { out = record r.out { indication = Some what } }

abbrev pub changing : Bool → Row → Row
changing outage r = record r { outage = Some outage }

-- from OutOfService: initial alignment begins
abbrev pub aligning : Row
aligning = sending Sending.Alignment (switching Switch.Start (silent State.Aligning))

-- from Aligning: this end is ready
abbrev pub ready : Row
ready = sending Sending.FillIn (timing TimerOrder.Start (watching (silent State.Ready)))

-- from Ready: the far end is ready too
abbrev pub raised : Row
raised = sending Sending.Traffic (timing TimerOrder.Stop (telling Indication.Up (silent (State.InService false))))

-- out of service, for this cause; an outage of this end is over then (own)
abbrev pub down : Cause → Row
down cause =
    changing false (sending Sending.OutOfService
    (timing TimerOrder.Stop (telling (Indication.Down cause) (silent State.OutOfService))))

-- taken out of service at this end
abbrev pub stopped : Row
stopped = switching Switch.Stop (down Cause.Stop)

-- An outage of this end begins or ends: what is sent is named anew (in an outage SIPO stands for it, below).

abbrev pub sent_in : State → Option Sending
sent_in State.OutOfService = None
sent_in State.Aligning = None
sent_in State.Ready = Some Sending.FillIn
sent_in (State.InService paused) = Some Sending.Traffic

abbrev pub out_or_not : Bool → State → Row
out_or_not outage state = let r = silent state in
    changing outage (record r { out = record r.out { send = sent_in state } })

-- The rows, in order, by the state and by the status that is heard; what has none is ignored. Those of PO, and of a
-- FISU or an MSU in service, are (own).

abbrev pub when_out_of_service : StateIn → Row
when_out_of_service StateIn.Start = aligning
when_out_of_service StateIn.Outage = out_or_not true State.OutOfService
when_out_of_service StateIn.Recover = out_or_not false State.OutOfService
when_out_of_service _ = silent State.OutOfService

abbrev pub when_aligning : StateIn → Row
when_aligning StateIn.Complete = ready
when_aligning StateIn.NotPossible = down Cause.NotPossible
when_aligning StateIn.Stop = stopped
when_aligning StateIn.Outage = out_or_not true State.Aligning
when_aligning StateIn.Recover = out_or_not false State.Aligning
when_aligning _ = silent State.Aligning

abbrev pub heard_ready : Status → Row
heard_ready Status.ProcessorOutage = timing TimerOrder.Stop (silent State.Ready)
heard_ready Status.OutOfAlignment = down Cause.Status
heard_ready Status.OutOfService = down Cause.Status
heard_ready _ = silent State.Ready

abbrev pub when_ready : StateIn → Row
when_ready StateIn.Fisu = raised
when_ready StateIn.Msu = raised
when_ready (StateIn.Heard status) = heard_ready status
when_ready StateIn.T1 = down Cause.T1
when_ready (StateIn.Failure cause) = down cause
when_ready StateIn.Stop = stopped
when_ready StateIn.Outage = out_or_not true State.Ready
when_ready StateIn.Recover = out_or_not false State.Ready
when_ready _ = silent State.Ready

abbrev pub heard_in_service : Status → Bool → Row
heard_in_service Status.ProcessorOutage paused = silent (State.InService true)
heard_in_service Status.OutOfAlignment paused = down Cause.Status
heard_in_service Status.Normal paused = down Cause.Status
heard_in_service Status.Emergency paused = down Cause.Status
heard_in_service Status.OutOfService paused = down Cause.Status
heard_in_service _ paused = silent (State.InService paused)

abbrev pub when_in_service : StateIn → Bool → Row
when_in_service StateIn.Fisu paused = silent (State.InService false)
when_in_service StateIn.Msu paused = silent (State.InService false)
when_in_service (StateIn.Heard status) paused = heard_in_service status paused
when_in_service (StateIn.Failure cause) paused = down cause
when_in_service StateIn.Stop paused = stopped
when_in_service StateIn.Outage paused = out_or_not true (State.InService paused)
when_in_service StateIn.Recover paused = out_or_not false (State.InService paused)
when_in_service _ paused = silent (State.InService paused)

abbrev pub row : State → StateIn → Row
row State.OutOfService input = when_out_of_service input
row State.Aligning input = when_aligning input
row State.Ready input = when_ready input
row (State.InService paused) input = when_in_service input paused

-- THIS END'S PROCESSOR OUTAGE (Q.703 8.1), which no other row looks at.

-- where a link stands, and whether this end has a processor outage
pub record Link : Type 0 where
  pub state : State
  pub out : Bool

abbrev pub outage_after : Option Bool → Bool → Bool
outage_after None out = out
outage_after (Some changed) out = changed

-- in it SIPO is sent in place of fill-in units and of messages
abbrev pub as_sent : Bool → Sending → Sending
as_sent true Sending.FillIn = Sending.ProcessorOutage
as_sent true Sending.Traffic = Sending.ProcessorOutage
as_sent out what = what

abbrev pub sent_while : Bool → Option Sending → Option Sending
sent_while out None = None
sent_while out (Some what) = Some (as_sent out what)

-- the row's answer, by whether this end has an outage then
abbrev pub told_while : Bool → StateOut → StateOut
told_while out told = record told { send = sent_while out told.send }

abbrev pub link_after : Row → Link → Link
link_after r link = record { state = r.next; out = outage_after r.outage link.out }

abbrev pub told_by : Row → Link → StateOut
told_by r link = told_while (outage_after r.outage link.out) r.out
