-- STEP 3 OF A TURN: MARKS. Each mark goes to the monitor that runs, and a readable unit to the machines, and then,
-- where the link is up at the set, to the set.
use Rattle.std.specs.Prelude.{ℕ, ◌==◌, ◌||◌, Bool, true, false, not, nat_lt, List, [], ◌∷◌, Option, Some, None, if◌then◌else◌}
use Rattle.l2_units.specs.declared.cause.Cause.{Cause}
use Rattle.l2_units.specs.declared.cause.ControlFault.{ControlFault}
use Rattle.l2_units.specs.declared.status.Status.{Status}
use Rattle.l2_units.specs.Numbers.{cause_of}
use Rattle.l2_bits.specs.declared.marks.Mark.{Mark}
use Rattle.l2_units.specs.declared.unit.Unit.{Unit as SignalUnit}
use Rattle.l2_units.specs.Grammar.{unit_of, head_of}
use Rattle.l2_units.specs.declared.profile.Profile.TheVariants.{Narrow}
use Rattle.l2_monitors.specs.Suerm.{Kept}
use Rattle.l2_align.specs.declared.align.State.{State as AlignState}
use Rattle.l2_align.specs.declared.signals.AlignIn.{AlignIn}
use Rattle.l2_state.specs.declared.link_state.State.{State}
use Rattle.l2_state.specs.declared.signals.StateIn.{StateIn}
use Rattle.l2_state.specs.Table.{is_paused}
use Rattle.l2_flow.specs.declared.input.FlowIn.{FlowIn}
use Rattle.set_events.specs.declared.answer.Answer.{Answer}
use Rattle.set_events.specs.declared.answer.Refusal.{Refusal}
use Rattle.set_events.specs.declared.answer.Report.{Report}
use Rattle.set_events.specs.declared.event.Event.{Event}
use Rattle.term_model.specs.Machines.{state_in, align_in, flow_in, stops_quietly}
use Rattle.l2_monitors.specs.Aerm.{after_mark as after_aerm_mark}
use Rattle.l2_monitors.specs.Suerm.{after_mark}
use Rattle.term_model.specs.Talk.{Talk, done, ask, and_then}
use Rattle.term_model.specs.Terminal.{Terminal}

-- the unit that a mark brings; a text that checks and that no unit has brings none, and is an error too (own)
abbrev pub unit_in : Mark → Option SignalUnit
unit_in (Mark.Good octets) = unit_of Narrow octets.items
unit_in Mark.Bad = None
unit_in Mark.Sixteen = None

abbrev pub is_error : Option SignalUnit → Bool
is_error None = true
is_error (Some unit) = false

-- THE MONITORS.

-- Q.703 10.3: the error that leaves none to wait for aborts the proving
abbrev pub aerm_judges : Option ℕ → Bool → Terminal → Talk Terminal
aerm_judges None error t = done t
aerm_judges (Some left) error t =
    let now = after_aerm_mark left error in
    let judged = record t { aerm = Some now } in
    if now == 0 then align_in AlignIn.Abort judged else done judged

-- Q.703 10.2: the error that makes the count T is a failure of the link
abbrev pub suerm_judges : Option Kept → Bool → Terminal → Talk Terminal
suerm_judges None error t = done t
suerm_judges (Some kept) error t =
    let now = after_mark kept error in
    let judged = record t { suerm = Some now } in
    if now.tripped then state_in (StateIn.Failure Cause.Suerm) judged else done judged

-- Q.703 10.1: SUERM watches a link that is aligned, ready or in service
abbrev pub service_judges : State → Bool → Terminal → Talk Terminal
service_judges State.OutOfService error t = done t
service_judges State.Aligning error t = done t
service_judges State.Ready error t = suerm_judges t.suerm error t
service_judges (State.InService paused) error t = suerm_judges t.suerm error t

-- and AERM one that is proving
abbrev pub judges : AlignState → Bool → Terminal → Talk Terminal
judges AlignState.Proving error t = aerm_judges t.aerm error t
judges _ error t = service_judges t.state error t

abbrev pub judged : Bool → Terminal → Talk Terminal
judged error t = judges t.align.state error t

-- THE MACHINES.

-- in a processor outage of this end a link that is aligned hears no more than alignment and link state control need:
-- what it heard it couldn't answer for (Q.703 8.1, own)
abbrev pub is_deaf : State → Bool → Bool
is_deaf State.OutOfService outage = false
is_deaf State.Aligning outage = false
is_deaf State.Ready outage = outage
is_deaf (State.InService paused) outage = outage

-- Q.703 9.3: SIB, in every state of the link (own)
abbrev pub flow_hears : Status → Terminal → Talk Terminal
flow_hears Status.Busy t = if is_deaf t.state t.outage then done t else flow_in FlowIn.HeardBusy t
flow_hears _ t = done t

-- Q.703 7.3, 8.2, 11.1: a status goes to alignment, then to link state control, then to flow control; what their
-- tables don't list they ignore, as 6 and 7
abbrev pub machines_hear : SignalUnit → Terminal → Talk Terminal
machines_hear (SignalUnit.Fisu head) t = state_in StateIn.Fisu t
machines_hear (SignalUnit.Lssu head status) t =
    and_then (align_in (AlignIn.Heard status) t) (λ t.
    and_then (state_in (StateIn.Heard status) t) (λ t. flow_hears status t))
machines_hear (SignalUnit.Msu head body) t = state_in StateIn.Msu t

-- THE SET.

-- Q.703 9.3: what acknowledges, or asks for retransmission (own), ends the far end's busy time; T7 goes on where
-- messages are left: where the BSN isn't the FSN of the last one sent
abbrev pub acked : Bool → Terminal → Talk Terminal
acked more t = flow_in (FlowIn.Acked more) (record t { unacked = more })

abbrev pub acks : Report → ℕ → Terminal → Talk Terminal
acks report bsn t = if nat_lt 0 report.acked || report.resend then acked (not (bsn == t.top)) t else done t

-- Q.703 5.3.1, 5.3.2: two abnormal BSNs, or FIBs, in three units are a failure of the link
abbrev pub faults : Option ControlFault → Terminal → Talk Terminal
faults None t = done t
faults (Some fault) t = state_in (StateIn.Failure (cause_of fault)) t

-- what the set answers to a unit: its report; that the link isn't up there, so that it's stopped here; or a report of
-- nothing
abbrev pub reported : Answer → ℕ → Terminal → Talk Terminal
reported (Answer.Heard report) bsn t = and_then (acks report bsn t) (λ t. faults report.fault t)
reported (Answer.Refused Refusal.NotUp) bsn t = done (stops_quietly t)
reported _ bsn t = done t

-- Q.703 5, 6: a unit of any kind, where the link is up at the set after the machines heard it
abbrev pub set_hears : SignalUnit → Terminal → Talk Terminal
set_hears unit t =
    if t.up then ask (Event.Heard t.link unit) (λ answer. reported answer (head_of unit).bsn t) else done t

-- but in a processor outage of this end (Q.703 8.1): a link is up at the set in service alone
abbrev pub reaches_set : SignalUnit → Terminal → Talk Terminal
reaches_set unit t = if t.outage then done t else set_hears unit t

-- A PROCESSOR OUTAGE OF EITHER END (Q.703 8): no acknowledgement is sent meanwhile, or none is heard, so T7 stands still
-- (own).
abbrev pub is_held : Terminal → Bool
is_held t = t.outage || is_paused t.state

-- whether it was so before an input, and is so behind it: then T7 starts anew, where messages are unacknowledged
abbrev pub waits : Bool → Bool → Terminal → Talk Terminal
waits was true t = flow_in FlowIn.Paused t
waits true false t = if t.up then flow_in (FlowIn.Resumed t.unacked) t else done t
waits false false t = done t

-- A UNIT.

-- Q.703 7.3: a correct unit of any kind lets a proving that was aborted begin anew, before the unit itself is heard
abbrev pub all_hear : SignalUnit → Terminal → Talk Terminal
all_hear unit t =
    and_then (align_in AlignIn.Good t) (λ t.
    and_then (machines_hear unit t) (λ t. reaches_set unit t))

abbrev pub heard : Option SignalUnit → Terminal → Talk Terminal
heard None t = done t
heard (Some unit) t = and_then (all_hear unit t) (λ after. waits (is_held t) (is_held after) after)

abbrev pub marked : Mark → Terminal → Talk Terminal
marked mark t = and_then (judged (is_error (unit_in mark)) t) (λ t. heard (unit_in mark) t)

-- the marks of a turn's octet, in order
abbrev pub all_marked : List Mark → Terminal → Talk Terminal
all_marked [] t = done t
all_marked (mark ∷ marks) t = and_then (marked mark t) (λ t. all_marked marks t)
