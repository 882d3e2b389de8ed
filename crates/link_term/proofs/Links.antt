-- WHAT NO INPUT CHANGES: which link a terminal is of, and what is left to send; and that a message which is sent asks nothing
-- of the set. By cases on what the machines' tables answer, with no induction. The calls of `machines`, `hearing` and
-- `choosing` are given these lemmas, so that their clauses `at` and `bits` prove themselves.
use Rattle.std.proofs.Common.{refl, ap, ◌≡◌, ◌∙◌, ℕ, Bool, true, false, Option, Some, None}
use Rattle.l2_monitors.specs.Suerm.{Kept}
use Rattle.l2_align.specs.declared.align.State.{State as AlignState}
use Rattle.l2_flow.specs.declared.input.FlowIn.{FlowIn}
use Rattle.l2_flow.specs.Table.{row as flow_row}
use Rattle.l2_state.specs.declared.link_state.State.{State}
use Rattle.l2_state.specs.declared.signals.StateIn.{StateIn}
use Rattle.l2_state.specs.declared.signals.Switch.{Switch}
use Rattle.l2_state.specs.declared.signals.Indication.{Indication}
use Rattle.l2_state.specs.Table.{row as state_row}
use Rattle.set_events.specs.declared.answer.Answer.{Answer}
use Rattle.term_core.specs.Judging.{by_aerm, by_suerm, in_state, while_aligning, judgement}
use Rattle.term_model.specs.Machines.{switched, after_state, risen, fallen_if, stops_quietly, controls, fails, flow_in}
use Rattle.term_model.specs.Talk.{done}
use Rattle.term_model.specs.Terminal.{Terminal}

switched_link : (switch : Option Switch) (t : Terminal) → (switched switch t).link ≡ t.link
switched_link None t = refl
switched_link (Some Switch.Start) t = refl
switched_link (Some Switch.Stop) t = refl

pub state_link : (input : StateIn) (t : Terminal) → (after_state input t).link ≡ t.link
state_link input t = switched_link (state_row t.state input).out.alignment _

pub risen_link : (answer : Answer) (t : Terminal) → (risen answer t).link ≡ t.link
risen_link Answer.Done t = refl
risen_link _ t = refl

fallen_link : (told : Option Indication) (t : Terminal) → (fallen_if told t).link ≡ t.link
fallen_link None t = refl
fallen_link (Some Indication.Up) t = refl
fallen_link (Some (Indication.Down cause)) t = refl

pub quiet_link : (t : Terminal) → (stops_quietly t).link ≡ t.link
quiet_link t = fallen_link (state_row t.state StateIn.Stop).out.indication (after_state StateIn.Stop t) ∙ state_link StateIn.Stop t

aerm_link : (aerm : Option ℕ) (error : Bool) (t : Terminal) → (by_aerm aerm error t).after.link ≡ t.link
aerm_link None error t = refl
aerm_link (Some left) error t = refl

suerm_link : (suerm : Option Kept) (error : Bool) (t : Terminal) → (by_suerm suerm error t).after.link ≡ t.link
suerm_link None error t = refl
suerm_link (Some kept) error t = refl

service_link : (state : State) (error : Bool) (t : Terminal) → (in_state state error t).after.link ≡ t.link
service_link State.OutOfService error t = refl
service_link State.Aligning error t = refl
service_link State.Ready error t = suerm_link t.suerm error t
service_link (State.InService paused) error t = suerm_link t.suerm error t

aligning_link : (align : AlignState) (error : Bool) (t : Terminal) → (while_aligning align error t).after.link ≡ t.link
aligning_link AlignState.Proving error t = aerm_link t.aerm error t
aligning_link AlignState.Idle error t = service_link t.state error t
aligning_link AlignState.NotAligned error t = service_link t.state error t
aligning_link AlignState.Aligned error t = service_link t.state error t

pub judged_link : (error : Bool) (t : Terminal) → (judgement error t).after.link ≡ t.link
judged_link error t = aligning_link t.align.state error t

-- nor what is left to send

switched_bits : (switch : Option Switch) (t : Terminal) → (switched switch t).bits ≡ t.bits
switched_bits None t = refl
switched_bits (Some Switch.Start) t = refl
switched_bits (Some Switch.Stop) t = refl

pub state_bits : (input : StateIn) (t : Terminal) → (after_state input t).bits ≡ t.bits
state_bits input t = switched_bits (state_row t.state input).out.alignment _

pub risen_bits : (answer : Answer) (t : Terminal) → (risen answer t).bits ≡ t.bits
risen_bits Answer.Done t = refl
risen_bits _ t = refl

fallen_bits : (told : Option Indication) (t : Terminal) → (fallen_if told t).bits ≡ t.bits
fallen_bits None t = refl
fallen_bits (Some Indication.Up) t = refl
fallen_bits (Some (Indication.Down cause)) t = refl

pub quiet_bits : (t : Terminal) → (stops_quietly t).bits ≡ t.bits
quiet_bits t = fallen_bits (state_row t.state StateIn.Stop).out.indication (after_state StateIn.Stop t) ∙ state_bits StateIn.Stop t

-- that a message is sent is no failure (Q.703 9.3): flow control asks nothing of the set

sent_fails : (busy far t7 : Bool) → (flow_row busy far t7 FlowIn.Sent).out.failure ≡ None
sent_fails true true true = refl
sent_fails true true false = refl
sent_fails true false true = refl
sent_fails true false false = refl
sent_fails false true true = refl
sent_fails false true false = refl
sent_fails false false true = refl
sent_fails false false false = refl

pub sent_asks_nothing : (t : Terminal) → flow_in FlowIn.Sent t ≡ done (controls FlowIn.Sent t)
sent_asks_nothing t =
    ap (λ failure. fails failure (controls FlowIn.Sent t)) (sent_fails t.flow.busy t.flow.far_busy t.flow.t7_runs)
