-- What the three tables order of timers, and what link state control tells: row by row.
use Rattle.std.proofs.Common.{arith, ◌≤◌, ◌+◌, Bool, true, false, nat_lt, Option, Some, None, if◌then◌else◌}
use Rattle.l2_units.specs.declared.status.Status.{Status}
use Rattle.l2_units.specs.declared.timer.TimerOrder.{TimerOrder}
use Rattle.l2_align.specs.declared.align.State.{State as AlignState}
use Rattle.l2_align.specs.declared.signals.AlignIn.{AlignIn}
use Rattle.l2_align.specs.declared.signals.AlignOut.{AlignOut}
use Rattle.l2_align.specs.declared.signals.Outcome.{Outcome}
use Rattle.l2_align.specs.Alignment.{Alignment}
use Rattle.l2_align.specs.Table.{row as align_row, table, calmed, silent, proving, counted_abort, aborted, idle, stop_t4, when_idle, when_not_aligned, when_aligned, when_proving, heard_not_aligned, heard_aligned, heard_proving}
use Rattle.l2_state.specs.declared.link_state.State.{State}
use Rattle.l2_state.specs.declared.signals.StateIn.{StateIn}
use Rattle.l2_state.specs.declared.signals.Indication.{Indication}
use Rattle.l2_state.specs.Table.{Row as StateRow, row as state_row}
use Rattle.l2_flow.specs.declared.input.FlowIn.{FlowIn}
use Rattle.l2_flow.specs.declared.output.FlowOut.{FlowOut}
use Rattle.l2_flow.specs.Table.{row as flow_table, row_of as flow_row}
use Rattle.l2_flow.specs.Values.{Values}
use Rattle.term_model.specs.TurnLaws.{IsInService}

-- an order that names no length
abbrev pub IsPlain : TimerOrder → Type 0
IsPlain TimerOrder.Keep = Unit {0}
IsPlain TimerOrder.Start = Unit {0}
IsPlain (TimerOrder.StartFor octet_times) = ⊥
IsPlain TimerOrder.Stop = Unit {0}

-- T4's: a length that is one of its two
abbrev pub IsProving : TimerOrder → Type 0
IsProving TimerOrder.Keep = Unit {0}
IsProving TimerOrder.Start = Unit {0}
IsProving (TimerOrder.StartFor octet_times) = octet_times ≤ 65536
IsProving TimerOrder.Stop = Unit {0}

abbrev pub AlignOrders : AlignOut → Type 0
AlignOrders out = IsPlain out.t2 × IsPlain out.t3 × IsProving out.t4

length_of : (short : Bool) → (if short then 4096 else 65536) ≤ 65536
length_of true = omega arith
length_of false = omega arith

shortened_if : (short : Bool) (a : Alignment) → AlignOrders (if short then silent a else proving (record a { short = true })).out
shortened_if true a = (tt, tt, tt)
shortened_if false a = (tt, tt, length_of true)

aborted_if : (more : Bool) (a : Alignment) → AlignOrders (if more then counted_abort a else idle stop_t4 (Some Outcome.NotPossible)).out
aborted_if true a = (tt, tt, tt)
aborted_if false a = (tt, tt, tt)

abort_if : (pending : Bool) (a : Alignment) → AlignOrders (if pending then silent a else aborted a).out
abort_if true a = (tt, tt, tt)
abort_if false a = aborted_if (nat_lt (a.aborts + 1) 5) a

good_if : (pending : Bool) (a : Alignment) → AlignOrders (if pending then proving a else silent a).out
good_if true a = (tt, tt, length_of a.short)
good_if false a = (tt, tt, tt)

t4_if : (pending : Bool) (a : Alignment) → AlignOrders (if pending then proving a else idle stop_t4 (Some Outcome.Complete)).out
t4_if true a = (tt, tt, length_of a.short)
t4_if false a = (tt, tt, tt)

idle_orders : (input : AlignIn) (a : Alignment) → AlignOrders (when_idle input a).out
idle_orders AlignIn.Emergency a = (tt, tt, tt)
idle_orders AlignIn.Start a = (tt, tt, tt)
idle_orders _ a = (tt, tt, tt)

heard_not_aligned_orders : (status : Status) (a : Alignment) → AlignOrders (heard_not_aligned status a).out
heard_not_aligned_orders Status.OutOfAlignment a = (tt, tt, tt)
heard_not_aligned_orders _ a = (tt, tt, tt)

not_aligned_orders : (input : AlignIn) (a : Alignment) → AlignOrders (when_not_aligned input a).out
not_aligned_orders (AlignIn.Heard status) a = heard_not_aligned_orders status a
not_aligned_orders _ a = (tt, tt, tt)

heard_aligned_orders : (status : Status) (a : Alignment) → AlignOrders (heard_aligned status a).out
heard_aligned_orders Status.Normal a = (tt, tt, length_of a.short)
heard_aligned_orders Status.Emergency a = (tt, tt, length_of true)
heard_aligned_orders _ a = (tt, tt, tt)

calmed_orders : (local short : Bool) (a : Alignment) → AlignOrders (calmed short (record a { local = local })).out
calmed_orders true short a = (tt, tt, tt)
calmed_orders false short a = (tt, tt, tt)

aligned_orders : (input : AlignIn) (a : Alignment) → AlignOrders (when_aligned input a).out
aligned_orders (AlignIn.Heard status) a = heard_aligned_orders status a
aligned_orders AlignIn.Calm a = calmed_orders a.local false a
aligned_orders _ a = (tt, tt, tt)

heard_proving_orders : (status : Status) (a : Alignment) → AlignOrders (heard_proving status a).out
heard_proving_orders Status.Emergency a = shortened_if a.short a
heard_proving_orders _ a = (tt, tt, tt)

proving_orders : (input : AlignIn) (a : Alignment) → AlignOrders (when_proving input a).out
proving_orders AlignIn.Emergency a = shortened_if a.short (record a { local = true })
proving_orders AlignIn.Calm a = calmed_orders a.local a.short a
proving_orders (AlignIn.Heard status) a = heard_proving_orders status a
proving_orders AlignIn.Abort a = abort_if a.pending a
proving_orders AlignIn.Good a = good_if a.pending a
proving_orders AlignIn.T4 a = t4_if a.pending a
proving_orders _ a = (tt, tt, tt)

table_orders : (s : AlignState) (input : AlignIn) (a : Alignment) → AlignOrders (table s input a).out
table_orders AlignState.Idle input a = idle_orders input a
table_orders AlignState.NotAligned input a = not_aligned_orders input a
table_orders AlignState.Aligned input a = aligned_orders input a
table_orders AlignState.Proving input a = proving_orders input a

pub align_orders : (a : Alignment) (input : AlignIn) → AlignOrders (align_row a input).out
align_orders a input = table_orders a.state input a

-- LINK STATE. Nothing told: in service afterwards where it was so before. Up told: in service.
abbrev pub IsTold : Option Indication → State → State → Type 0
IsTold None old new = IsInService old → IsInService new
IsTold (Some Indication.Up) old new = IsInService new
IsTold (Some (Indication.Down cause)) old new = Unit {0}

abbrev pub StateOrders : State → StateRow → Type 0
StateOrders old row = IsPlain row.out.t1 × IsTold row.out.indication old row.next

pub state_orders : (s : State) (input : StateIn) → StateOrders s (state_row s input)
state_orders State.OutOfService StateIn.Start = (tt, λ not. absurd not)
state_orders State.OutOfService _ = (tt, λ not. absurd not)
state_orders State.Aligning StateIn.Complete = (tt, λ not. absurd not)
state_orders State.Aligning StateIn.NotPossible = (tt, tt)
state_orders State.Aligning StateIn.Stop = (tt, tt)
state_orders State.Aligning _ = (tt, λ not. absurd not)
state_orders State.Ready StateIn.Fisu = (tt, tt)
state_orders State.Ready StateIn.Msu = (tt, tt)
state_orders State.Ready (StateIn.Heard Status.OutOfAlignment) = (tt, tt)
state_orders State.Ready (StateIn.Heard Status.OutOfService) = (tt, tt)
state_orders State.Ready (StateIn.Heard _) = (tt, λ not. absurd not)
state_orders State.Ready StateIn.T1 = (tt, tt)
state_orders State.Ready (StateIn.Failure cause) = (tt, tt)
state_orders State.Ready StateIn.Stop = (tt, tt)
state_orders State.Ready _ = (tt, λ not. absurd not)
state_orders (State.InService paused) (StateIn.Heard Status.OutOfAlignment) = (tt, tt)
state_orders (State.InService paused) (StateIn.Heard Status.Normal) = (tt, tt)
state_orders (State.InService paused) (StateIn.Heard Status.Emergency) = (tt, tt)
state_orders (State.InService paused) (StateIn.Heard Status.OutOfService) = (tt, tt)
state_orders (State.InService paused) (StateIn.Heard _) = (tt, λ is. tt)
state_orders (State.InService paused) (StateIn.Failure cause) = (tt, tt)
state_orders (State.InService paused) StateIn.Stop = (tt, tt)
state_orders (State.InService paused) _ = (tt, λ is. tt)

-- FLOW CONTROL.
abbrev pub FlowOrders : FlowOut → Type 0
FlowOrders out = IsPlain out.t5 × IsPlain out.t6 × IsPlain out.t7

flow_orders_at : (busy far t7 : Bool) (input : FlowIn) → FlowOrders (flow_table busy far t7 input).out
flow_orders_at true true true (FlowIn.Acked true) = (tt, tt, tt)
flow_orders_at true true false (FlowIn.Acked true) = (tt, tt, tt)
flow_orders_at true false true (FlowIn.Acked true) = (tt, tt, tt)
flow_orders_at true false false (FlowIn.Acked true) = (tt, tt, tt)
flow_orders_at false true true (FlowIn.Acked true) = (tt, tt, tt)
flow_orders_at false true false (FlowIn.Acked true) = (tt, tt, tt)
flow_orders_at false false true (FlowIn.Acked true) = (tt, tt, tt)
flow_orders_at false false false (FlowIn.Acked true) = (tt, tt, tt)
flow_orders_at true true false (FlowIn.Resumed true) = (tt, tt, tt)
flow_orders_at true false false (FlowIn.Resumed true) = (tt, tt, tt)
flow_orders_at false true false (FlowIn.Resumed true) = (tt, tt, tt)
flow_orders_at false false false (FlowIn.Resumed true) = (tt, tt, tt)
flow_orders_at _ _ _ _ = (tt, tt, tt)

pub flow_orders : (v : Values) (input : FlowIn) → FlowOrders (flow_row v input).out
flow_orders v input = flow_orders_at v.busy v.far_busy v.t7_runs input
