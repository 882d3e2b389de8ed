-- THE MACHINES' OUTPUTS CARRIED OUT (Q.703 12.1): what an input of each of the three machines makes of the terminal,
-- and what is asked of the set then. Each input asks at most one thing: Up, or one of Down and DownBlind. Three
-- layers, no recursion: alignment without its end; link state, which starts and stops alignment and resets flow
-- control; alignment with its end, and flow control with its failure. That a Start or a Stop never ends alignment,
-- and a Reset never fails, is in the tables.
use Rattle.std.specs.Prelude.{ℕ, ◌||◌, Bool, true, false, Option, Some, None, if◌then◌else◌}
use Rattle.l2_units.specs.declared.cause.Cause.{Cause}
use Rattle.l2_units.specs.declared.status.Status.{Status}
use Rattle.l2_units.specs.declared.timer.TimerOrder.{TimerOrder}
use Rattle.l2_monitors.specs.Aerm.{threshold}
use Rattle.l2_monitors.specs.Suerm.{Kept}
use Rattle.l2_align.specs.declared.signals.AlignIn.{AlignIn}
use Rattle.l2_align.specs.declared.signals.Outcome.{Outcome}
use Rattle.l2_align.specs.declared.signals.Monitor.{Monitor}
use Rattle.l2_align.specs.Table.{Row as AlignRow, row as align_row}
use Rattle.l2_state.specs.declared.signals.StateIn.{StateIn}
use Rattle.l2_state.specs.declared.signals.Switch.{Switch}
use Rattle.l2_state.specs.declared.signals.Indication.{Indication}
use Rattle.l2_state.specs.Table.{Row as StateRow, row as state_row, outage_after}
use Rattle.l2_flow.specs.declared.input.FlowIn.{FlowIn}
use Rattle.l2_flow.specs.Table.{Effect, row_of as flow_row}
use Rattle.set_events.specs.declared.answer.Answer.{Answer}
use Rattle.set_events.specs.declared.event.Event.{Event}
use Rattle.l2_monitors.specs.Suerm.{fresh}
use Rattle.term_model.specs.Talk.{Talk, done, ask}
use Rattle.term_model.specs.Terminal.{Terminal}

-- WITHOUT A WORD TO THE SET.

-- Q.703 12.3: what an order makes of a timer of this length
abbrev pub ordered : TimerOrder → ℕ → Option ℕ → Option ℕ
ordered TimerOrder.Keep length clock = clock
ordered TimerOrder.Start length clock = Some length
ordered (TimerOrder.StartFor octet_times) length clock = Some octet_times
ordered TimerOrder.Stop length clock = None

-- Q.703 7.4: T4 is always started for one of its two lengths, 2^16 octet times or 2^12
abbrev pub normal_proving : ℕ
normal_proving = 65536

-- Q.703 10.3: each proving has a new monitor, with the threshold of its kind; Off: none runs
abbrev pub aerm_after : Monitor → Option ℕ → Option ℕ
aerm_after Monitor.Keep aerm = aerm
aerm_after Monitor.Off aerm = None
aerm_after Monitor.Normal aerm = Some (threshold false)
aerm_after Monitor.Emergency aerm = Some (threshold true)

-- Q.703 7.2: the status that alignment names is sent until it names another
abbrev pub status_after : Option Status → Status → Status
status_after None status = status
status_after (Some named) status = named

-- Q.703 7.3: initial alignment, but for its end
abbrev pub with_align : AlignRow → Terminal → Terminal
with_align row t = record t {
  align = row.next;
  status = status_after row.out.send t.status;
  aerm = aerm_after row.out.monitor t.aerm;
  clocks = record t.clocks {
    t2 = ordered row.out.t2 t.lengths.t2 t.clocks.t2;
    t3 = ordered row.out.t3 t.lengths.t3 t.clocks.t3;
    t4 = ordered row.out.t4 normal_proving t.clocks.t4;
  };
}

abbrev pub aligns : AlignIn → Terminal → Terminal
aligns input t = with_align (align_row t.align input) t

-- Q.703 12.1: link state control starts and stops initial alignment
abbrev pub switched : Option Switch → Terminal → Terminal
switched None t = t
switched (Some Switch.Start) t = aligns AlignIn.Start t
switched (Some Switch.Stop) t = aligns AlignIn.Stop t

-- Q.703 10.2: a new monitor of service, where one is to begin
abbrev pub suerm_after : Bool → Option Kept → Option Kept
suerm_after new suerm = if new then Some fresh else suerm

-- Q.703 12.1: link state control, but for what it tells level 3
abbrev pub with_state : StateRow → Terminal → Terminal
with_state row t = switched row.out.alignment (record t {
  state = row.next;
  outage = outage_after row.outage t.outage;
  suerm = suerm_after row.out.new_suerm t.suerm;
  clocks = record t.clocks { t1 = ordered row.out.t1 t.lengths.t1 t.clocks.t1 };
})

abbrev pub after_state : StateIn → Terminal → Terminal
after_state input t = with_state (state_row t.state input) t

-- Q.703 9.3: flow control, but for its failure; a B that is to be sent waits for the next unit
abbrev pub with_flow : Effect → Terminal → Terminal
with_flow row t = record t {
  flow = row.next;
  b_due = t.b_due || row.out.send_busy;
  clocks = record t.clocks {
    t5 = ordered row.out.t5 t.lengths.t5 t.clocks.t5;
    t6 = ordered row.out.t6 t.lengths.t6 t.clocks.t6;
    t7 = ordered row.out.t7 t.lengths.t7 t.clocks.t7;
  };
}

abbrev pub controls : FlowIn → Terminal → Terminal
controls input t = with_flow (flow_row t.flow input) t

-- Q.703 10.2: no unit is judged out of service; flow control begins anew and no B is due (own)
abbrev pub fallen : Cause → Terminal → Terminal
fallen cause t = record (controls FlowIn.Reset
    (record t { cause = Some cause; suerm = None; up = false })) { b_due = false }

-- WITH A WORD TO THE SET.

-- Q.703 12.1, level 3 is told "link in service": where the set says Done its error control begins anew, from FSN 127;
-- any other answer is a refusal, and leaves all as it is (own)
abbrev pub risen : Answer → Terminal → Terminal
risen Answer.Done t = record t { up = true; blind = false; top = 127; unacked = false }
risen _ t = t

abbrev pub asks_up : Terminal → Talk Terminal
asks_up t = ask (Event.Up t.link) (λ answer. done (risen answer t))

-- Q.703 12.1, level 3 is told "link out of service": the set hears of it only where it was told Up and said Done; its
-- answer is of no account. After a Blind no FSN can be told to the far end (Q.704 5.6).
abbrev pub asks_down : Cause → Terminal → Talk Terminal
asks_down cause t =
    ask (if t.blind then Event.DownBlind t.link else Event.Down t.link) (λ answer. done (fallen cause t))

abbrev pub tells : Option Indication → Terminal → Talk Terminal
tells None t = done t
tells (Some Indication.Up) t = asks_up t
tells (Some (Indication.Down cause)) t = if t.up then asks_down cause t else done (fallen cause t)

-- an input of link state control
abbrev pub state_in : StateIn → Terminal → Talk Terminal
state_in input t = tells (state_row t.state input).out.indication (after_state input t)

-- Q.703 7.3, 12.1: how initial alignment ends, link state control is told
abbrev pub ends : Option Outcome → Terminal → Talk Terminal
ends None t = done t
ends (Some Outcome.Complete) t = state_in StateIn.Complete t
ends (Some Outcome.NotPossible) t = state_in StateIn.NotPossible t

-- an input of initial alignment control
abbrev pub align_in : AlignIn → Terminal → Talk Terminal
align_in input t = ends (align_row t.align input).out.outcome (aligns input t)

-- Q.703 5.3.1, 9.3, 12.1: a failure that flow control tells is one of the link
abbrev pub fails : Option Cause → Terminal → Talk Terminal
fails None t = done t
fails (Some cause) t = state_in (StateIn.Failure cause) t

-- an input of flow control
abbrev pub flow_in : FlowIn → Terminal → Talk Terminal
flow_in input t = fails (flow_row t.flow input).out.failure (controls input t)

-- The set said that the link isn't up: it's stopped here, and the set isn't told (own).
abbrev pub fallen_if : Option Indication → Terminal → Terminal
fallen_if None t = t
fallen_if (Some Indication.Up) t = t
fallen_if (Some (Indication.Down cause)) t = fallen cause t

abbrev pub stops_quietly : Terminal → Terminal
stops_quietly t = fallen_if (state_row t.state StateIn.Stop).out.indication (after_state StateIn.Stop t)
