-- The table of flow control (Q.703 9), a line for each of its rows, in its order.
use Rattle.std.specs.Prelude.{Bool, true, false, Some, None}
use Rattle.l2_flow.specs.declared.input.FlowIn.{FlowIn}
use Rattle.l2_flow.specs.declared.input.FlowIn.TheVariants.{Busy, Ease, T5, HeardBusy, Acked, Sent, Paused, Resumed, T6, T7, Reset}
use Rattle.l2_flow.specs.declared.output.FlowOut.{FlowOut}
use Rattle.l2_units.specs.declared.timer.TimerOrder.TheVariants.{Keep, Start, Stop}
use Rattle.l2_units.specs.declared.cause.Cause.{Cause}
use Rattle.l2_flow.specs.Values.{Values, cleared}

-- what an input does: what is told, and the values after it
pub record Effect : Type 0 where
  pub out : FlowOut
  pub next : Values

-- nothing is told
abbrev pub quiet : FlowOut
quiet = record { send_busy = false; t5 = Keep; t6 = Keep; t7 = Keep; failure = None }

abbrev pub effect : FlowOut → Bool → Bool → Bool → Effect
effect out busy far t7 = record { out = out; next = record { busy = busy; far_busy = far; t7_runs = t7 } }

-- this end busy, far end busy, T7 running, and an input: what is told, and the three after it; HeardBusy has a
-- line for each of its cases but the last, far end busy and T7 not running, where it does nothing
abbrev pub row : Bool → Bool → Bool → FlowIn → Effect
row false far t7 Busy = effect (record quiet { send_busy = true; t5 = Start }) true far t7
row true far t7 Ease = effect (record quiet { t5 = Stop }) false far t7
row true far t7 T5 = effect (record quiet { send_busy = true; t5 = Start }) true far t7
row busy false false HeardBusy = effect (record quiet { t6 = Start }) busy true false
row busy false true HeardBusy = effect (record quiet { t6 = Start; t7 = Start }) busy true true
row busy true true HeardBusy = effect (record quiet { t7 = Start }) busy true true
row busy far t7 (Acked true) = effect (record quiet { t6 = Stop; t7 = Start }) busy false true
row busy far t7 (Acked false) = effect (record quiet { t6 = Stop; t7 = Stop }) busy false false
row busy far false Sent = effect (record quiet { t7 = Start }) busy far true
-- T7 stands still while an end has a processor outage (Q.703 8, own); T6 runs on
row busy far true Paused = effect (record quiet { t7 = Stop }) busy far false
row busy far false (Resumed true) = effect (record quiet { t7 = Start }) busy far true
row busy far t7 T6 = effect (record quiet { failure = Some Cause.T6 }) busy far t7
row busy far t7 T7 = effect (record quiet { failure = Some Cause.T7 }) busy far t7
row busy far t7 Reset = record { out = record quiet { t5 = Stop; t6 = Stop; t7 = Stop }; next = cleared }
-- an input that no row lists is ignored
row busy far t7 _ = effect quiet busy far t7

abbrev pub row_of : Values → FlowIn → Effect
row_of now input = row now.busy now.far_busy now.t7_runs input
