-- What the rows do, over a whole run.
use Rattle.std.proofs.Common.{◌≡◌, Bool, true, false, ◌||◌, List, [], ◌∷◌, refl, ap, ◌∙◌}
use Rattle.std.specs.List.{list_any}
use Rattle.l2_flow.specs.declared.input.FlowIn.{FlowIn}
use Rattle.l2_flow.specs.declared.output.FlowOut.{FlowOut}
use Rattle.l2_units.specs.declared.timer.TimerOrder.{TimerOrder}
use Rattle.l2_flow.specs.Table.{row_of}
use Rattle.l2_flow.specs.Values.{Values}
use Rattle.l2_units.specs.Orders.{is_start, is_stop}
use Rattle.l2_flow.specs.Runs.{Step, steps_from, values_from, is_t5, is_t6, is_t7}
use Rattle.l2_flow.specs.Laws.{is_busy, is_ease_or_reset, is_heard_busy, is_acked_or_reset, begins_wait, ends_wait}
use Rattle.l2_flow.proofs.Lasting.{since_from, or_false}
use Rattle.l2_flow.proofs.Rows.{told, t5_runs, t6_only, t6_runs, t7_only, t7_runs}

-- whether a timer runs after these steps, where `ran` says it of their start
abbrev pub runs_from : (FlowOut → TimerOrder) → (FlowIn → Bool) → Bool → List Step → Bool
runs_from act is_end ran all = since_from (λ step. is_start (act step.out)) (λ step. is_stop (act step.out) || is_end step.input) ran all

pub busy_told : (now : Values) (inputs : List FlowIn) → since_from is_busy is_ease_or_reset now.busy inputs ≡ (values_from now inputs).busy
busy_told now [] = refl
busy_told now (input ∷ inputs) =
    ap (λ held. since_from is_busy is_ease_or_reset held inputs) (told now.busy now.far_busy now.t7_runs input).0 ∙ busy_told (row_of now input).next inputs

pub far_busy_told : (now : Values) (inputs : List FlowIn) → since_from is_heard_busy is_acked_or_reset now.far_busy inputs ≡ (values_from now inputs).far_busy
far_busy_told now [] = refl
far_busy_told now (input ∷ inputs) =
    ap (λ held. since_from is_heard_busy is_acked_or_reset held inputs) (told now.busy now.far_busy now.t7_runs input).1 ∙ far_busy_told (row_of now input).next inputs

pub t7_told : (now : Values) (inputs : List FlowIn) → since_from begins_wait ends_wait now.t7_runs inputs ≡ (values_from now inputs).t7_runs
t7_told now [] = refl
t7_told now (input ∷ inputs) =
    ap (λ held. since_from begins_wait ends_wait held inputs) (told now.busy now.far_busy now.t7_runs input).2 ∙ t7_told (row_of now input).next inputs

pub t5_runs_from : (now : Values) (inputs : List FlowIn) → runs_from (λ out. out.t5) is_t5 now.busy (steps_from now inputs) ≡ (values_from now inputs).busy
t5_runs_from now [] = refl
t5_runs_from now (input ∷ inputs) =
    let next = (row_of now input).next in
    ap (λ ran. runs_from (λ out. out.t5) is_t5 ran (steps_from next inputs)) (t5_runs now.busy now.far_busy now.t7_runs input) ∙ t5_runs_from next inputs

pub t6_only_from : (now : Values) (ran : Bool) (inputs : List FlowIn) → (ran ≡ true → now.far_busy ≡ true) → runs_from (λ out. out.t6) is_t6 ran (steps_from now inputs) ≡ true → (values_from now inputs).far_busy ≡ true
t6_only_from now ran [] old = old
t6_only_from now ran (input ∷ inputs) old =
    t6_only_from (row_of now input).next _ inputs (t6_only now.busy now.far_busy now.t7_runs ran input old)

pub t6_runs_from : (now : Values) (inputs : List FlowIn) → list_any is_t6 inputs ≡ false → runs_from (λ out. out.t6) is_t6 now.far_busy (steps_from now inputs) ≡ (values_from now inputs).far_busy
t6_runs_from now [] none = refl
t6_runs_from now (input ∷ inputs) none =
    let next = (row_of now input).next in
    let parts = or_false (is_t6 input) (list_any is_t6 inputs) none in
    ap (λ ran. runs_from (λ out. out.t6) is_t6 ran (steps_from next inputs)) (t6_runs now.busy now.far_busy now.t7_runs input parts.0) ∙ t6_runs_from next inputs parts.1

pub t7_only_from : (now : Values) (ran : Bool) (inputs : List FlowIn) → (ran ≡ true → now.t7_runs ≡ true) → runs_from (λ out. out.t7) is_t7 ran (steps_from now inputs) ≡ true → (values_from now inputs).t7_runs ≡ true
t7_only_from now ran [] old = old
t7_only_from now ran (input ∷ inputs) old =
    t7_only_from (row_of now input).next _ inputs (t7_only now.busy now.far_busy now.t7_runs ran input old)

pub t7_runs_from : (now : Values) (inputs : List FlowIn) → list_any is_t7 inputs ≡ false → runs_from (λ out. out.t7) is_t7 now.t7_runs (steps_from now inputs) ≡ (values_from now inputs).t7_runs
t7_runs_from now [] none = refl
t7_runs_from now (input ∷ inputs) none =
    let next = (row_of now input).next in
    let parts = or_false (is_t7 input) (list_any is_t7 inputs) none in
    ap (λ ran. runs_from (λ out. out.t7) is_t7 ran (steps_from next inputs)) (t7_runs now.busy now.far_busy now.t7_runs input parts.0) ∙ t7_runs_from next inputs parts.1
