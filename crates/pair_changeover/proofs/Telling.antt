-- WHAT AN ORDER TELLS where it's heard, with emergencies or without: the FSN of the last message that its end accepted,
-- so it's reasonable where the link hasn't settled (`hears_tells`). Of the orders that carry a number, COO and COA,
-- what holds of those under way says that it's the one that their end counts; that this is the length of what was
-- accepted is pair_model's law of links (`kept_on`), and `told_reasonable` (Obeying.antt) does the arithmetic.
-- Arriving.antt has the same where nothing is discarded; this wants `Both` alone. One step, case by case on the order;
-- pair_streams's Telling.antt takes it along quiet runs.
use Rattle.l2_window.specs.Window.{fsn_count, fsn_before_first}
use Rattle.std.proofs.Common.{refl, arith, ◌≡◌, ◌∙◌, ap, sym, ℕ, ◌<◌, ◌+◌, ◌%◌, Bool, List, ◌∷◌, length, Option, Some, None}
use Rattle.l2_units.specs.declared.unit.Unit.{Unit as SignalUnit}
use Rattle.l3_orders.specs.declared.order.Order.{Order}
use Rattle.l3_orders.specs.declared.order.Order.TheVariants.{Coo, Coa, Cbd, Cba, Eco, Eca}
use Rattle.l3_orders.specs.Grammar.{order_of, link_of}
use Rattle.pair_steps.specs.Lines.{units_on}
use Rattle.set_events.specs.declared.answer.Took.{Took}
use Rattle.set_events.specs.declared.answer.Took.TheVariants.{Nothing as NothingTaken, Message as TookMessage, Order as TookOrder, Ignored}
use Rattle.set_events.specs.declared.config.Method.{Method}
use Rattle.set_model.specs.declared.phase.Phase.TheVariants.{Up}
use Rattle.set_model.specs.State.{LinkState}
use Rattle.set_model.specs.Step.{brought}
use Rattle.set_model.proofs.Walk.{IsAt}
use Rattle.set_model.proofs.Lists.{present, within}
use Rattle.pair_model.specs.Promises.{IsOneMethod}
use Rattle.pair_model.proofs.Kept.{kept_on}
use Rattle.pair_model.proofs.Moving as moving
use Rattle.pair_model.proofs.Pairs.{Two, HoldsOf}
use Rattle.pair_changeover.specs.Diverted.{IsFsnIn, IsToldBy, FrontTells}
use Rattle.pair_changeover.proofs.Changes.{Both}
use Rattle.pair_changeover.proofs.Hearing as hearing
use Rattle.pair_changeover.proofs.Obeying.{told_reasonable}
use Rattle.pair_changeover.proofs.Views.{View, view, IsChangeover, Tells, accepted_of, accepted_on}

module _ {emergencies : Bool} (mx my : Method) (one : IsOneMethod mx my) (p : Two) (h : HoldsOf mx my p)
    (o : Both emergencies p.near p.far) (k : ℕ) (few : k < length p.near.links) (unit : SignalUnit)
    (rest : List SignalUnit) (front : units_on k p.back ≡ unit ∷ rest) (link : LinkState) (at : IsAt k link Up p.near)
  where
    any_tells : (took : Took) → IsToldBy unit p.near p.far_past → FrontTells (unit ∷ rest) took p.near p.far_past
    any_tells NothingTaken t = tt
    any_tells TookMessage t = tt
    any_tells TookOrder t = t
    any_tells Ignored t = tt

    number_is : (fsn : ℕ) (order : Order) (v : View) → IsFsnIn fsn order → Tells emergencies v order → fsn ≡ v.accepted (link_of order)
    number_is fsn (Coo l n) v e t = e ∙ t
    number_is fsn (Coa l n) v e t = e ∙ t
    number_is fsn (Cbd l n) v e t = absurd t
    number_is fsn (Cba l n) v e t = absurd t
    number_is fsn (Eco l) v e t = absurd e
    number_is fsn (Eca l) v e t = absurd t

    is_over : (fsn : ℕ) (order : Order) → IsFsnIn fsn order → IsChangeover order
    is_over fsn (Coo l n) e = tt
    is_over fsn (Coa l n) e = tt
    is_over fsn (Cbd l n) e = absurd e
    is_over fsn (Cba l n) e = absurd e
    is_over fsn (Eco l) e = absurd e
    is_over fsn (Eca l) e = absurd e

    some_tells : (body : List ℕ) → brought (hearing.part mx my one p h o k few unit rest front link at).accept unit ≡ Some body → IsToldBy unit p.near p.far_past
    some_tells body e order fsn state is fsn_in there going =
        let is_order : order_of p.near.settings.profile body ≡ Some order =
        ap (order_of p.near.settings.profile)
        (sym (hearing.is_body mx my one p h o k few unit rest front link at body e)) ∙ is in
        let fsn_is = number_is fsn order (view p.far p.near) fsn_in
        (hearing.tells mx my one p h o k few unit rest front link at body e order is_order (is_over fsn order fsn_in))
        in
        let t = hearing.told_before mx my one p h o k few unit rest front link at body e order is_order (is_over fsn order fsn_in) fsn fsn_is state there going in
        let other = present p.far.links (link_of order) (omega (arith, within p.near.links (link_of order) state there, h.far_links)) in
        let counted : accepted_on (link_of order) p.far ≡ length (p.far_past.taken (link_of order)) =
        ap accepted_of other.1 ∙ (kept_on mx my one p h (link_of order)).accepted other.0 other.1 in
        record {
          last = t.last ∙ ap (λ (n : ℕ). (n + fsn_before_first state.profile) % fsn_count state.profile) counted;
          reasonable = told_reasonable fsn (link_of order) state p.near p.far ((h.near_sound.links (link_of order) state there).window) t;
        }

    pub hears_tells : FrontTells (unit ∷ rest) (moving.report mx my one p h k few unit rest front link at).took p.near p.far_past
    hears_tells = go (brought (hearing.part mx my one p h o k few unit rest front link at).accept unit) refl
      where
        go : (body : Option (List ℕ)) → brought (hearing.part mx my one p h o k few unit rest front link at).accept unit
            ≡ body → FrontTells (unit ∷ rest) (moving.report mx my one p h k few unit rest front link at).took p.near
            p.far_past
        go None e = rw e tt
        go (Some body) e = any_tells (moving.report mx my one p h k few unit rest front link at).took (some_tells body e)
