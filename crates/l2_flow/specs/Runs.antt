-- Runs of flow control from the start: a run is the list of its inputs, and the table gives its steps.
use Rattle.std.specs.Prelude.{Bool, true, false, ◌||◌, List, [], ◌∷◌}
use Rattle.l2_flow.specs.declared.input.FlowIn.{FlowIn}
use Rattle.l2_flow.specs.declared.input.FlowIn.TheVariants.{T5, T6, T7}
use Rattle.l2_flow.specs.declared.output.FlowOut.{FlowOut}
use Rattle.l2_units.specs.Orders.{is_start, is_stop}
use Rattle.l2_units.specs.declared.timer.TimerOrder.{TimerOrder}
use Rattle.l2_flow.specs.Since.{Since}
use Rattle.l2_flow.specs.Table.{row_of}
use Rattle.l2_flow.specs.Values.{Values, cleared}

-- an input and what was told at it
pub record Step : Type 0 where
  pub input : FlowIn
  pub out : FlowOut

-- the steps of a run that begins at these values
abbrev pub steps_from : Values → List FlowIn → List Step
steps_from now [] = []
steps_from now (input ∷ inputs) =
    record { input = input; out = (row_of now input).out } ∷ steps_from (row_of now input).next inputs

-- the values at its end
abbrev pub values_from : Values → List FlowIn → Values
values_from now [] = now
values_from now (input ∷ inputs) = values_from (row_of now input).next inputs

abbrev pub steps : List FlowIn → List Step
steps inputs = steps_from cleared inputs

abbrev pub values_after : List FlowIn → Values
values_after inputs = values_from cleared inputs

-- A timer runs after these steps: it was started, and has neither been stopped nor ended since. `act` picks the
-- timer out of what was told, `is_end` the input that is its end.
abbrev pub Runs : (FlowOut → TimerOrder) → (FlowIn → Bool) → List Step → Type 0
Runs act is_end all =
    Since (λ step. is_start (act step.out)) (λ step. is_stop (act step.out) || is_end step.input) all

abbrev pub is_t5 : FlowIn → Bool
is_t5 T5 = true
is_t5 _ = false

abbrev pub is_t6 : FlowIn → Bool
is_t6 T6 = true
is_t6 _ = false

abbrev pub is_t7 : FlowIn → Bool
is_t7 T7 = true
is_t7 _ = false

abbrev pub T5Runs : List FlowIn → Type 0
T5Runs inputs = Runs (λ out. out.t5) is_t5 (steps inputs)

abbrev pub T6Runs : List FlowIn → Type 0
T6Runs inputs = Runs (λ out. out.t6) is_t6 (steps inputs)

abbrev pub T7Runs : List FlowIn → Type 0
T7Runs inputs = Runs (λ out. out.t7) is_t7 (steps inputs)
