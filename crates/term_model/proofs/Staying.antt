-- What every step of a turn keeps, whatever the set answers: the link and its timers, and what holds of every terminal.
use Rattle.std.proofs.Common.{refl, sym, ap, subst, arith, ◌≡◌, ◌∙◌, ℕ, ◌<◌, ◌^◌, Bool, true, false, Option, Some, None, if◌then◌else◌}
use Rattle.l2_units.specs.declared.cause.Cause.{Cause}
use Rattle.l2_units.specs.declared.timer.TimerOrder.{TimerOrder}
use Rattle.l2_align.specs.declared.signals.AlignIn.{AlignIn}
use Rattle.l2_align.specs.declared.signals.Outcome.{Outcome}
use Rattle.l2_align.specs.Table.{Row as AlignRow, row as align_row}
use Rattle.l2_state.specs.declared.link_state.State.{State}
use Rattle.l2_state.specs.declared.signals.StateIn.{StateIn}
use Rattle.l2_state.specs.declared.signals.Switch.{Switch}
use Rattle.l2_state.specs.declared.signals.Indication.{Indication}
use Rattle.l2_state.specs.Table.{Row as StateRow, row as state_row}
use Rattle.l2_flow.specs.declared.input.FlowIn.{FlowIn}
use Rattle.l2_flow.specs.Table.{Effect, row_of as flow_row}
use Rattle.set_events.specs.declared.answer.Answer.{Answer}
use Rattle.set_events.specs.declared.event.Event.{Event}
use Rattle.term_model.specs.Machines.{ordered, with_align, aligns, switched, with_state, with_flow, controls, fallen, risen, asks_up, asks_down, tells, state_in, ends, align_in, fails, flow_in, fallen_if, stops_quietly}
use Rattle.term_model.specs.Talk.{done}
use Rattle.term_model.specs.Terminal.{Terminal}
use Rattle.term_model.specs.TurnLaws.{IsOfLink, IsWithin, IsInService}
use Rattle.term_model.proofs.Keeping.{Keeps, if_keeps}
use Rattle.term_model.proofs.Tables.{IsPlain, IsProving, AlignOrders, align_orders, IsTold, StateOrders, state_orders, FlowOrders, flow_orders}

-- all but that the link is up at the set only in service, which is so between the inputs alone
pub record IsTimed (b t : Terminal) : Type 0 where
  pub link_is : t.link ≡ b.link
  pub lengths_are : t.lengths ≡ b.lengths
  pub bits_are : t.bits ≡ b.bits
  pub t1 : IsWithin t.lengths.t1 t.clocks.t1
  pub t2 : IsWithin t.lengths.t2 t.clocks.t2
  pub t3 : IsWithin t.lengths.t3 t.clocks.t3
  pub t4 : IsWithin 65536 t.clocks.t4
  pub t5 : IsWithin t.lengths.t5 t.clocks.t5
  pub t6 : IsWithin t.lengths.t6 t.clocks.t6
  pub t7 : IsWithin t.lengths.t7 t.clocks.t7
  pub top : t.top < 2 ^ 7

abbrev pub IsServed : Terminal → Type 0
IsServed t = t.up ≡ true → IsInService t.state

pub record IsKept (b t : Terminal) : Type 0 where
  pub timed : IsTimed b t
  pub served : IsServed t

-- TIMERS.

plain_within : (order : TimerOrder) (length : ℕ) (clock : Option ℕ) → IsPlain order → IsWithin length clock → IsWithin length (ordered order length clock)
plain_within TimerOrder.Keep length clock plain within = within
plain_within TimerOrder.Start length clock plain within = omega arith
plain_within (TimerOrder.StartFor octet_times) length clock plain within = absurd plain
plain_within TimerOrder.Stop length clock plain within = tt

proving_within : (order : TimerOrder) (clock : Option ℕ) → IsProving order → IsWithin 65536 clock → IsWithin 65536 (ordered order 65536 clock)
proving_within TimerOrder.Keep clock is within = within
proving_within TimerOrder.Start clock is within = omega arith
proving_within (TimerOrder.StartFor octet_times) clock is within = is
proving_within TimerOrder.Stop clock is within = tt

timed_align : (b t : Terminal) (row : AlignRow) → AlignOrders row.out → IsTimed b t → IsTimed b (with_align row t)
timed_align b t row orders timed = record {
  link_is = timed.link_is;
  lengths_are = timed.lengths_are;
  bits_are = timed.bits_are;
  t1 = timed.t1;
  t2 = plain_within row.out.t2 t.lengths.t2 t.clocks.t2 orders.0 timed.t2;
  t3 = plain_within row.out.t3 t.lengths.t3 t.clocks.t3 orders.1 timed.t3;
  t4 = proving_within row.out.t4 t.clocks.t4 orders.2 timed.t4;
  t5 = timed.t5;
  t6 = timed.t6;
  t7 = timed.t7;
  top = timed.top;
}

aligns_timed : (b t : Terminal) (input : AlignIn) → IsTimed b t → IsTimed b (aligns input t)
aligns_timed b t input timed = timed_align b t (align_row t.align input) (align_orders t.align input) timed

switched_timed : (b t : Terminal) (switch : Option Switch) → IsTimed b t → IsTimed b (switched switch t)
switched_timed b t None timed = timed
switched_timed b t (Some Switch.Start) timed = aligns_timed b t AlignIn.Start timed
switched_timed b t (Some Switch.Stop) timed = aligns_timed b t AlignIn.Stop timed

state_timed : (b t : Terminal) (row : StateRow) → IsPlain row.out.t1 → IsTimed b t → IsTimed b (with_state row t)
state_timed b t row plain timed = switched_timed b _ row.out.alignment (record {
  link_is = timed.link_is;
  lengths_are = timed.lengths_are;
  bits_are = timed.bits_are;
  t1 = plain_within row.out.t1 t.lengths.t1 t.clocks.t1 plain timed.t1;
  t2 = timed.t2;
  t3 = timed.t3;
  t4 = timed.t4;
  t5 = timed.t5;
  t6 = timed.t6;
  t7 = timed.t7;
  top = timed.top;
})

flow_timed : (b t : Terminal) (row : Effect) → FlowOrders row.out → IsTimed b t → IsTimed b (with_flow row t)
flow_timed b t row orders timed = record {
  link_is = timed.link_is;
  lengths_are = timed.lengths_are;
  bits_are = timed.bits_are;
  t1 = timed.t1;
  t2 = timed.t2;
  t3 = timed.t3;
  t4 = timed.t4;
  t5 = plain_within row.out.t5 t.lengths.t5 t.clocks.t5 orders.0 timed.t5;
  t6 = plain_within row.out.t6 t.lengths.t6 t.clocks.t6 orders.1 timed.t6;
  t7 = plain_within row.out.t7 t.lengths.t7 t.clocks.t7 orders.2 timed.t7;
  top = timed.top;
}

-- a record of the same facts, where none of what they speak of differs
pub same_timed : (b t u : Terminal) → u.link ≡ t.link → u.lengths ≡ t.lengths → u.bits ≡ t.bits → u.clocks ≡ t.clocks → u.top < 2 ^ 7 → IsTimed b t → IsTimed b u
same_timed b t u link lengths bits clocks top timed = record {
  link_is = link ∙ timed.link_is;
  lengths_are = lengths ∙ timed.lengths_are;
  bits_are = bits ∙ timed.bits_are;
  t1 = both u.lengths.t1 t.lengths.t1 u.clocks.t1 t.clocks.t1 (ap (λ l. l.t1) lengths) (ap (λ c. c.t1) clocks) timed.t1;
  t2 = both u.lengths.t2 t.lengths.t2 u.clocks.t2 t.clocks.t2 (ap (λ l. l.t2) lengths) (ap (λ c. c.t2) clocks) timed.t2;
  t3 = both u.lengths.t3 t.lengths.t3 u.clocks.t3 t.clocks.t3 (ap (λ l. l.t3) lengths) (ap (λ c. c.t3) clocks) timed.t3;
  t4 = both 65536 65536 u.clocks.t4 t.clocks.t4 refl (ap (λ c. c.t4) clocks) timed.t4;
  t5 = both u.lengths.t5 t.lengths.t5 u.clocks.t5 t.clocks.t5 (ap (λ l. l.t5) lengths) (ap (λ c. c.t5) clocks) timed.t5;
  t6 = both u.lengths.t6 t.lengths.t6 u.clocks.t6 t.clocks.t6 (ap (λ l. l.t6) lengths) (ap (λ c. c.t6) clocks) timed.t6;
  t7 = both u.lengths.t7 t.lengths.t7 u.clocks.t7 t.clocks.t7 (ap (λ l. l.t7) lengths) (ap (λ c. c.t7) clocks) timed.t7;
  top = top;
}
  where
    both : (length old_length : ℕ) (clock old_clock : Option ℕ) → length ≡ old_length → clock ≡ old_clock → IsWithin old_length old_clock → IsWithin length clock
    both length old_length clock old_clock at at_clock within =
        subst (λ c. IsWithin length c) (sym at_clock) (subst (λ l. IsWithin l old_clock) (sym at) within)

fallen_timed : (b t : Terminal) (cause : Cause) → IsTimed b t → IsTimed b (fallen cause t)
fallen_timed b t cause timed =
    same_timed b (controls FlowIn.Reset u) (fallen cause t) refl refl refl refl timed.top
    (flow_timed b u (flow_row t.flow FlowIn.Reset) (flow_orders t.flow FlowIn.Reset) (same_timed b t u refl refl refl refl timed.top timed))
  where
    u : Terminal
    u = record t { cause = Some cause; suerm = None; up = false }

pub fallen_kept : (b t : Terminal) (cause : Cause) → IsTimed b t → IsKept b (fallen cause t)
fallen_kept b t cause timed = record { timed = fallen_timed b t cause timed; served = λ up. absurd cc }

-- WITH A WORD TO THE SET.

risen_kept : (b t : Terminal) (answer : Answer) → IsTimed b t → IsInService t.state → IsKept b (risen answer t)
risen_kept b t Answer.Done timed is = record {
  timed = same_timed b t (record t { up = true; blind = false; top = 127; unacked = false }) refl refl refl refl (omega arith) timed;
  served = λ up. is;
}
risen_kept b t _ timed is = record { timed = timed; served = λ up. is }

pub asks_up_kept : (b t : Terminal) → IsTimed b t → IsInService t.state → Keeps (IsOfLink b.link) (IsKept b) (asks_up t)
asks_up_kept b t timed is = (timed.link_is, λ answer. risen_kept b t answer timed is)

asks_down_kept : (b t : Terminal) (cause : Cause) → IsTimed b t → Keeps (IsOfLink b.link) (IsKept b) (asks_down cause t)
asks_down_kept b t cause timed = (down_of t.blind, λ answer. fallen_kept b t cause timed)
  where
    down_of : (blind : Bool) → IsOfLink b.link (if blind then Event.DownBlind t.link else Event.Down t.link)
    down_of true = timed.link_is
    down_of false = timed.link_is

-- what is told is true of the terminal then
abbrev pub IsSo : Option Indication → Terminal → Type 0
IsSo None t = IsServed t
IsSo (Some Indication.Up) t = IsInService t.state
IsSo (Some (Indication.Down cause)) t = Unit {0}

tells_kept : (b t : Terminal) (told : Option Indication) → IsTimed b t → IsSo told t → Keeps (IsOfLink b.link) (IsKept b) (tells told t)
tells_kept b t None timed so = record { timed = timed; served = so }
tells_kept b t (Some Indication.Up) timed so = asks_up_kept b t timed so
tells_kept b t (Some (Indication.Down cause)) timed so =
    if_keeps (IsOfLink b.link) (IsKept b) t.up (asks_down cause t) (done (fallen cause t)) (λ up. asks_down_kept b t cause timed) (λ down. fallen_kept b t cause timed)

-- a start or a stop of alignment doesn't touch what is told
same_state : (t : Terminal) (switch : Option Switch) → (switched switch t).state ≡ t.state
same_state t None = refl
same_state t (Some Switch.Start) = refl
same_state t (Some Switch.Stop) = refl

same_up : (t : Terminal) (switch : Option Switch) → (switched switch t).up ≡ t.up
same_up t None = refl
same_up t (Some Switch.Start) = refl
same_up t (Some Switch.Stop) = refl

so_told : (told : Option Indication) (t u : Terminal) (new : State) → IsTold told t.state new → u.state ≡ new → u.up ≡ t.up → IsServed t → IsSo told u
so_told None t u new is state up served = λ now. subst IsInService (sym state) (is (served (sym up ∙ now)))
so_told (Some Indication.Up) t u new is state up served = subst IsInService (sym state) is
so_told (Some (Indication.Down cause)) t u new is state up served = tt

state_row_kept : (b t : Terminal) (row : StateRow) → StateOrders t.state row → IsKept b t → Keeps (IsOfLink b.link) (IsKept b) (tells row.out.indication (with_state row t))
state_row_kept b t row orders kept =
    tells_kept b (with_state row t) row.out.indication (state_timed b t row orders.0 kept.timed)
    (so_told row.out.indication t (with_state row t) row.next orders.1 (same_state _ row.out.alignment) (same_up _ row.out.alignment) kept.served)

pub state_kept : (b t : Terminal) (input : StateIn) → IsKept b t → Keeps (IsOfLink b.link) (IsKept b) (state_in input t)
state_kept b t input kept = state_row_kept b t (state_row t.state input) (state_orders t.state input) kept

ends_kept : (b t : Terminal) (end : Option Outcome) → IsKept b t → Keeps (IsOfLink b.link) (IsKept b) (ends end t)
ends_kept b t None kept = kept
ends_kept b t (Some Outcome.Complete) kept = state_kept b t StateIn.Complete kept
ends_kept b t (Some Outcome.NotPossible) kept = state_kept b t StateIn.NotPossible kept

pub align_kept : (b t : Terminal) (input : AlignIn) → IsKept b t → Keeps (IsOfLink b.link) (IsKept b) (align_in input t)
align_kept b t input kept =
    ends_kept b (aligns input t) (align_row t.align input).out.outcome (record { timed = aligns_timed b t input kept.timed; served = kept.served })

fails_kept : (b t : Terminal) (failure : Option Cause) → IsKept b t → Keeps (IsOfLink b.link) (IsKept b) (fails failure t)
fails_kept b t None kept = kept
fails_kept b t (Some cause) kept = state_kept b t (StateIn.Failure cause) kept

pub flow_kept : (b t : Terminal) (input : FlowIn) → IsKept b t → Keeps (IsOfLink b.link) (IsKept b) (flow_in input t)
flow_kept b t input kept =
    fails_kept b (controls input t) (flow_row t.flow input).out.failure
    (record { timed = flow_timed b t (flow_row t.flow input) (flow_orders t.flow input) kept.timed; served = kept.served })

fallen_if_kept : (b t : Terminal) (told : Option Indication) → IsTimed b t → IsSo told t → IsKept b (fallen_if told t)
fallen_if_kept b t None timed so = record { timed = timed; served = so }
fallen_if_kept b t (Some Indication.Up) timed so = record { timed = timed; served = λ up. so }
fallen_if_kept b t (Some (Indication.Down cause)) timed so = fallen_kept b t cause timed

quietly_kept : (b t : Terminal) (row : StateRow) → StateOrders t.state row → IsKept b t → IsKept b (fallen_if row.out.indication (with_state row t))
quietly_kept b t row orders kept =
    fallen_if_kept b (with_state row t) row.out.indication (state_timed b t row orders.0 kept.timed)
    (so_told row.out.indication t (with_state row t) row.next orders.1 (same_state _ row.out.alignment) (same_up _ row.out.alignment) kept.served)

pub stops_kept : (b t : Terminal) → IsKept b t → IsKept b (stops_quietly t)
stops_kept b t kept = quietly_kept b t (state_row t.state StateIn.Stop) (state_orders t.state StateIn.Stop) kept
