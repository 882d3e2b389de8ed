-- What each row of the table does to what is kept and to the three timers, in the table's order.
use Rattle.std.proofs.Common.{◌≡◌, Bool, true, false, ◌||◌, refl}
use Rattle.l2_flow.specs.declared.input.FlowIn.{FlowIn}
use Rattle.l2_flow.specs.declared.input.FlowIn.TheVariants.{Busy, Ease, T5, HeardBusy, Acked, Sent, Paused, Resumed, T6, T7, Reset}
use Rattle.l2_units.specs.declared.timer.TimerOrder.{TimerOrder}
use Rattle.l2_flow.specs.Table.{row}
use Rattle.l2_units.specs.Orders.{is_start, is_stop}
use Rattle.l2_flow.specs.Runs.{is_t5, is_t6, is_t7}
use Rattle.l2_flow.specs.Laws.{is_busy, is_ease_or_reset, is_heard_busy, is_acked_or_reset, begins_wait, ends_wait}
use Rattle.l2_flow.proofs.Lasting.{since_next}

-- whether a timer runs after a step
abbrev pub runs_next : TimerOrder → Bool → Bool → Bool
runs_next act ended ran = since_next (is_start act) (is_stop act || ended) ran

-- the values say what the inputs have said
pub told : (busy far t7 : Bool) (input : FlowIn) → (since_next (is_busy input) (is_ease_or_reset input) busy ≡ (row busy far t7 input).next.busy) × (since_next (is_heard_busy input) (is_acked_or_reset input) far ≡ (row busy far t7 input).next.far_busy) × (since_next (begins_wait input) (ends_wait input) t7 ≡ (row busy far t7 input).next.t7_runs)
told false far t7 Busy = (refl, refl, refl)
told true far t7 Ease = (refl, refl, refl)
told true far t7 T5 = (refl, refl, refl)
told busy false false HeardBusy = (refl, refl, refl)
told busy false true HeardBusy = (refl, refl, refl)
told busy true true HeardBusy = (refl, refl, refl)
told busy far t7 (Acked true) = (refl, refl, refl)
told busy far t7 (Acked false) = (refl, refl, refl)
told busy far false Sent = (refl, refl, refl)
told busy far true Paused = (refl, refl, refl)
told busy far false Paused = (refl, refl, refl)
told busy far false (Resumed true) = (refl, refl, refl)
told busy far true (Resumed true) = (refl, refl, refl)
told busy far t7 (Resumed false) = (refl, refl, refl)
told busy far t7 T6 = (refl, refl, refl)
told busy far t7 T7 = (refl, refl, refl)
told busy far t7 Reset = (refl, refl, refl)
told busy far t7 _ = (refl, refl, refl)

-- T5 runs while this end is busy
pub t5_runs : (busy far t7 : Bool) (input : FlowIn) → runs_next (row busy far t7 input).out.t5 (is_t5 input) busy ≡ (row busy far t7 input).next.busy
t5_runs false far t7 Busy = refl
t5_runs true far t7 Ease = refl
t5_runs true far t7 T5 = refl
t5_runs busy false false HeardBusy = refl
t5_runs busy false true HeardBusy = refl
t5_runs busy true true HeardBusy = refl
t5_runs busy far t7 (Acked true) = refl
t5_runs busy far t7 (Acked false) = refl
t5_runs busy far false Sent = refl
t5_runs busy far true Paused = refl
t5_runs busy far false (Resumed true) = refl
t5_runs busy far t7 T6 = refl
t5_runs busy far t7 T7 = refl
t5_runs busy far t7 Reset = refl
t5_runs busy far t7 _ = refl

-- T6 runs only while the far end is busy
pub t6_only : (busy far t7 ran : Bool) (input : FlowIn) → (ran ≡ true → far ≡ true) → runs_next (row busy far t7 input).out.t6 (is_t6 input) ran ≡ true → (row busy far t7 input).next.far_busy ≡ true
t6_only false far t7 ran Busy old = old
t6_only true far t7 ran Ease old = old
t6_only true far t7 ran T5 old = old
t6_only busy false false ran HeardBusy old = λ _. refl
t6_only busy false true ran HeardBusy old = λ _. refl
t6_only busy true true ran HeardBusy old = λ _. refl
t6_only busy far t7 ran (Acked true) old = λ stopped. stopped
t6_only busy far t7 ran (Acked false) old = λ stopped. stopped
t6_only busy far false ran Sent old = old
t6_only busy far true ran Paused old = old
t6_only busy far false ran (Resumed true) old = old
t6_only busy far t7 ran T6 old = λ ended. cc
t6_only busy far t7 ran T7 old = old
t6_only busy far t7 ran Reset old = λ stopped. stopped
t6_only busy far t7 ran _ old = old

-- and all that while, but for its end
pub t6_runs : (busy far t7 : Bool) (input : FlowIn) → is_t6 input ≡ false → runs_next (row busy far t7 input).out.t6 (is_t6 input) far ≡ (row busy far t7 input).next.far_busy
t6_runs false far t7 Busy none = refl
t6_runs true far t7 Ease none = refl
t6_runs true far t7 T5 none = refl
t6_runs busy false false HeardBusy none = refl
t6_runs busy false true HeardBusy none = refl
t6_runs busy true true HeardBusy none = refl
t6_runs busy far t7 (Acked true) none = refl
t6_runs busy far t7 (Acked false) none = refl
t6_runs busy far false Sent none = refl
t6_runs busy far true Paused none = refl
t6_runs busy far false (Resumed true) none = refl
t6_runs busy far t7 T6 none = cc
t6_runs busy far t7 T7 none = refl
t6_runs busy far t7 Reset none = refl
t6_runs busy far t7 _ none = refl

-- T7 runs only while messages are unacknowledged
pub t7_only : (busy far t7 ran : Bool) (input : FlowIn) → (ran ≡ true → t7 ≡ true) → runs_next (row busy far t7 input).out.t7 (is_t7 input) ran ≡ true → (row busy far t7 input).next.t7_runs ≡ true
t7_only false far t7 ran Busy old = old
t7_only true far t7 ran Ease old = old
t7_only true far t7 ran T5 old = old
t7_only busy false false ran HeardBusy old = old
t7_only busy false true ran HeardBusy old = λ _. refl
t7_only busy true true ran HeardBusy old = λ _. refl
t7_only busy far t7 ran (Acked true) old = λ _. refl
t7_only busy far t7 ran (Acked false) old = λ stopped. stopped
t7_only busy far false ran Sent old = λ _. refl
t7_only busy far true ran Paused old = λ stopped. stopped
t7_only busy far false ran (Resumed true) old = λ _. refl
t7_only busy far t7 ran T6 old = old
t7_only busy far t7 ran T7 old = λ ended. cc
t7_only busy far t7 ran Reset old = λ stopped. stopped
t7_only busy far t7 ran _ old = old

-- and all that while, but for its end
pub t7_runs : (busy far t7 : Bool) (input : FlowIn) → is_t7 input ≡ false → runs_next (row busy far t7 input).out.t7 (is_t7 input) t7 ≡ (row busy far t7 input).next.t7_runs
t7_runs false far t7 Busy none = refl
t7_runs true far t7 Ease none = refl
t7_runs true far t7 T5 none = refl
t7_runs busy false false HeardBusy none = refl
t7_runs busy false true HeardBusy none = refl
t7_runs busy true true HeardBusy none = refl
t7_runs busy far t7 (Acked true) none = refl
t7_runs busy far t7 (Acked false) none = refl
t7_runs busy far false Sent none = refl
t7_runs busy far true Paused none = refl
t7_runs busy far false (Resumed true) none = refl
t7_runs busy far t7 T6 none = refl
t7_runs busy far t7 T7 none = cc
t7_runs busy far t7 Reset none = refl
t7_runs busy far t7 _ none = refl
