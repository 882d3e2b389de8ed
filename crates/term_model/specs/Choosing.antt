-- STEP 5 OF A TURN: WHAT IS SENT NEXT. Where fewer than eight bits are left to send, a unit is chosen, by where the
-- link stands (Q.703 11.2, 12.1).
use Rattle.std.specs.Prelude.{ℕ, ◌+◌, ◌%◌, ◌==◌, ◌&&◌, Bool, true, false, nat_lt, length, Option, Some, None, if◌then◌else◌}
use Rattle.l2_units.specs.declared.status.Status.{Status}
use Rattle.l2_units.specs.declared.unit.Header.{Header}
use Rattle.l2_units.specs.declared.unit.Unit.{Unit as SignalUnit}
use Rattle.l2_units.specs.Grammar.{head_of}
use Rattle.l2_state.specs.declared.link_state.State.{State}
use Rattle.l2_flow.specs.declared.input.FlowIn.{FlowIn}
use Rattle.set_events.specs.declared.answer.Answer.{Answer}
use Rattle.set_events.specs.declared.answer.Refusal.{Refusal}
use Rattle.set_events.specs.declared.event.Event.{Event}
use Rattle.term_model.specs.Machines.{asks_up, flow_in, stops_quietly}
use Rattle.term_model.specs.Talk.{Talk, done, ask, and_then}
use Rattle.term_model.specs.Terminal.{Terminal, start_head, last_head}

-- the unit that was chosen, if any; whether it's one that a terminal can send, since the set may give a unit of the wide
-- profile, which ends the turn; and the terminal then
pub record Filled : Type 0 where
  pub unit : Option SignalUnit
  pub narrow : Bool
  pub after : Terminal

-- the unit's header is the last one then
abbrev pub sends : SignalUnit → Terminal → Talk Filled
sends unit t = done (record { unit = Some unit; narrow = true; after = record t { last = Some (head_of unit) } })

-- LSSUs, and FISUs that the set isn't asked for, have the header of the last unit before (own)
abbrev pub sends_status : Status → Terminal → Talk Filled
sends_status status t = sends (SignalUnit.Lssu (last_head t) status) t

abbrev pub sends_fisu : Terminal → Talk Filled
sends_fisu t = sends (SignalUnit.Fisu (last_head t)) t

-- Q.703 12.1: a link that is ready sends FISUs, as one does whose set isn't told Up yet; nothing was sent or accepted
abbrev pub sends_start_fisu : Terminal → Talk Filled
sends_start_fisu t = sends (SignalUnit.Fisu start_head) t

-- A UNIT THAT THE SET GIVES.

-- a new message raises the FSN of the last one sent, a retransmitted one doesn't (Q.703 5.2)
abbrev pub raised_top : ℕ → ℕ → ℕ
raised_top fsn top = if fsn == (top + 1) % 128 then fsn else top

-- Q.703 9.3: T7 runs from the first message on that isn't acknowledged
abbrev pub counts_sent : SignalUnit → Terminal → Talk Terminal
counts_sent (SignalUnit.Msu head body) t =
    flow_in FlowIn.Sent (record t { top = raised_top head.fsn t.top; unacked = true })
counts_sent _ t = done t

-- Q.703 9.3: while this end is busy it withholds acknowledgements: BSN and BIB stay those of the last unit before
abbrev pub withheld : Header → Header → Header
withheld last head = record head { bsn = last.bsn; bib = last.bib; bsn_in_range = last.bsn_in_range }

abbrev pub with_head : Header → SignalUnit → SignalUnit
with_head head (SignalUnit.Fisu old) = SignalUnit.Fisu head
with_head head (SignalUnit.Lssu old status) = SignalUnit.Lssu head status
with_head head (SignalUnit.Msu old body) = SignalUnit.Msu head body

abbrev pub held_back : Terminal → SignalUnit → SignalUnit
held_back t unit = if t.flow.busy then with_head (withheld (last_head t) (head_of unit)) unit else unit

-- a terminal's line has numbers of seven bits (Q.703 2.2)
abbrev pub is_narrow : Header → Bool
is_narrow head = nat_lt head.bsn 128 && nat_lt head.fsn 128

abbrev pub given : SignalUnit → Terminal → Talk Filled
given unit t =
    if is_narrow (head_of unit)
    then and_then (counts_sent unit t) (λ t. sends (held_back t unit) t)
    else done (record { unit = None; narrow = false; after = t })

-- what the set answers to Next: a unit; that the link isn't up there, so that it's stopped here, and SIOS goes out;
-- or anything else, as if paused (own)
abbrev pub sent_by : Answer → Terminal → Talk Filled
sent_by (Answer.Sent unit) t = given unit t
sent_by (Answer.Refused Refusal.NotUp) t = sends_status Status.OutOfService (stops_quietly t)
sent_by _ t = sends_fisu t

-- THE CHOICE.

-- Q.703 11.2: in service first SIB where it's due (9.3); then, in a processor outage of the far end, no messages
-- (8.2, own); else what the set's error control gives (5, 6)
abbrev pub serves : Bool → Terminal → Talk Filled
serves paused t =
    if t.up then (
    if t.b_due then sends_status Status.Busy (record t { b_due = false }) else
    if paused then sends_fisu t else ask (Event.Next t.link) (λ answer. sent_by answer t)
    ) else sends_start_fisu t

-- while the set refuses Up it's asked again before each unit
abbrev pub up_first : Terminal → Talk Terminal
up_first t = if t.up then done t else asks_up t

-- Q.703 8.1: in a processor outage of this end SIPO goes out in place of all that a link sends that is aligned
abbrev pub unless_out : Talk Filled → Terminal → Talk Filled
unless_out talk t = if t.outage then sends_status Status.ProcessorOutage t else talk

-- Q.703 7.2, 12.1: SIOS out of service, alignment's status while aligning, FISUs when ready
abbrev pub chosen : State → Terminal → Talk Filled
chosen State.OutOfService t = sends_status Status.OutOfService t
chosen State.Aligning t = sends_status t.status t
chosen State.Ready t = unless_out (sends_start_fisu t) t
chosen (State.InService paused) t = and_then (up_first t) (λ t. unless_out (serves paused t) t)

abbrev pub filled : Terminal → Talk Filled
filled t = if nat_lt (length t.bits) 8 then chosen t.state t else done (record { unit = None; narrow = true; after = t })
