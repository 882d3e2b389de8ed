-- What the machines' inputs ask: by cases on what the tables tell, and on whether the link is up at the set.
use Rattle.std.proofs.Common.{refl, ◌≡◌, Bool, true, false, Option, Some, None, if◌then◌else◌}
use Rattle.l2_units.specs.declared.cause.Cause.{Cause}
use Rattle.l2_align.specs.declared.align.State.{State}
use Rattle.l2_align.specs.declared.signals.AlignIn.{AlignIn}
use Rattle.l2_align.specs.declared.signals.Outcome.{Outcome}
use Rattle.l2_align.specs.Alignment.{Alignment}
use Rattle.l2_align.specs.Table.{row as align_row, table}
use Rattle.l2_state.specs.declared.signals.Indication.{Indication}
use Rattle.l2_state.specs.declared.signals.StateIn.{StateIn}
use Rattle.l2_state.specs.Table.{row as state_row}
use Rattle.l2_flow.specs.declared.input.FlowIn.{FlowIn}
use Rattle.l2_flow.specs.Table.{row as flow_table, row_of as flow_row}
use Rattle.l2_flow.specs.Values.{Values}
use Rattle.term_model.specs.MachineLaws.{AsksOne, InputsAskOne, EndsNothing}
use Rattle.term_model.specs.Machines.{aligns, controls, after_state, fallen, asks_down, tells, ends, fails, state_in}
use Rattle.term_model.specs.Talk.{done}
use Rattle.term_model.specs.Terminal.{Terminal}

asks_down_if : (up : Bool) (cause : Cause) (t : Terminal) → AsksOne (if up then asks_down cause t else done (fallen cause t))
asks_down_if true cause t = λ answer. tt
asks_down_if false cause t = tt

tells_one : (told : Option Indication) (t : Terminal) → AsksOne (tells told t)
tells_one None t = tt
tells_one (Some Indication.Up) t = λ answer. tt
tells_one (Some (Indication.Down cause)) t = asks_down_if t.up cause t

state_one : (input : StateIn) (t : Terminal) → AsksOne (state_in input t)
state_one input t = tells_one (state_row t.state input).out.indication (after_state input t)

ends_one : (end : Option Outcome) (t : Terminal) → AsksOne (ends end t)
ends_one None t = tt
ends_one (Some Outcome.Complete) t = state_one StateIn.Complete t
ends_one (Some Outcome.NotPossible) t = state_one StateIn.NotPossible t

fails_one : (failure : Option Cause) (t : Terminal) → AsksOne (fails failure t)
fails_one None t = tt
fails_one (Some cause) t = state_one (StateIn.Failure cause) t

pub inputs_ask_one : (t : Terminal) → InputsAskOne t
inputs_ask_one t = record {
  state = λ input. state_one input t;
  align = λ input. ends_one (align_row t.align input).out.outcome (aligns input t);
  flow = λ input. fails_one (flow_row t.flow input).out.failure (controls input t);
}

start_ends : (s : State) (a : Alignment) → (table s AlignIn.Start a).out.outcome ≡ None
start_ends State.Idle a = refl
start_ends State.NotAligned a = refl
start_ends State.Aligned a = refl
start_ends State.Proving a = refl

stop_ends : (s : State) (a : Alignment) → (table s AlignIn.Stop a).out.outcome ≡ None
stop_ends State.Idle a = refl
stop_ends State.NotAligned a = refl
stop_ends State.Aligned a = refl
stop_ends State.Proving a = refl

reset_fails : (busy far t7 : Bool) → (flow_table busy far t7 FlowIn.Reset).out.failure ≡ None
reset_fails true true true = refl
reset_fails true true false = refl
reset_fails true false true = refl
reset_fails true false false = refl
reset_fails false true true = refl
reset_fails false true false = refl
reset_fails false false true = refl
reset_fails false false false = refl

pub ends_nothing : (a : Alignment) (v : Values) → EndsNothing a v
ends_nothing a v = record {
  start = start_ends a.state a;
  stop = stop_ends a.state a;
  reset = reset_fails v.busy v.far_busy v.t7_runs;
}
