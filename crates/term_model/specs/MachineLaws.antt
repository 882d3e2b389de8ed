-- LAWS of the machines' outputs.
use Rattle.std.specs.Prelude.{◌≡◌, None, ⊤}
use Rattle.l2_align.specs.declared.signals.AlignIn.{AlignIn}
use Rattle.l2_align.specs.Alignment.{Alignment}
use Rattle.l2_align.specs.Table.{row as align_row}
use Rattle.l2_state.specs.declared.signals.StateIn.{StateIn}
use Rattle.l2_flow.specs.declared.input.FlowIn.{FlowIn}
use Rattle.l2_flow.specs.Table.{row_of as flow_row}
use Rattle.l2_flow.specs.Values.{Values}
use Rattle.set_events.specs.declared.answer.Answer.{Answer}
use Rattle.term_model.specs.Machines.{state_in, align_in, flow_in}
use Rattle.term_model.specs.Talk.{Talk, done, ask}
use Rattle.term_model.specs.Terminal.{Terminal}

-- nothing is asked
abbrev pub AsksNone : {A : Type 0} → Talk A → Type 0
AsksNone (done a) = ⊤
AsksNone (ask event more) = ⊥

-- at most one thing is asked
abbrev pub AsksOne : {A : Type 0} → Talk A → Type 0
AsksOne (done a) = ⊤
AsksOne (ask event more) = (answer : Answer) → AsksNone (more answer)

-- LAW: an input of a machine asks at most one thing of the set
pub record InputsAskOne (t : Terminal) : Type 0 where
  pub state : (input : StateIn) → AsksOne (state_in input t)
  pub align : (input : AlignIn) → AsksOne (align_in input t)
  pub flow : (input : FlowIn) → AsksOne (flow_in input t)

abbrev pub EachInputAsksAtMostOne : Type 0
EachInputAsksAtMostOne = (t : Terminal) → InputsAskOne t

-- LAW: what link state control does to the other two is no more than the layers say: a Start and a Stop never end
-- alignment, and a Reset never is a failure
pub record EndsNothing (a : Alignment) (v : Values) : Type 0 where
  pub start : (align_row a AlignIn.Start).out.outcome ≡ None
  pub stop : (align_row a AlignIn.Stop).out.outcome ≡ None
  pub reset : (flow_row v FlowIn.Reset).out.failure ≡ None

abbrev pub LayersAreWhole : Type 0
LayersAreWhole = (a : Alignment) (v : Values) → EndsNothing a v
