-- WHAT AN ORDER TELLS where it's heard, at an end as it is, with emergencies or without: a link that hasn't settled there has no
-- veil, so that's told as it's seen (`told_bare`), and there pair_changeover's Telling.antt has it.
use Rattle.std.proofs.Common.{refl, arith, ◌≡◌, ◌∙◌, ap, sym, subst, ℕ, ◌<◌, Bool, false, List, ◌∷◌, length, slice_get, Some, None}
use Rattle.l2_units.specs.declared.profile.Profile.{Profile}
use Rattle.l2_units.specs.declared.unit.Unit.{Unit as SignalUnit}
use Rattle.l2_units.specs.declared.unit.Unit.TheVariants.{Fisu, Lssu, Msu}
use Rattle.l3_orders.specs.declared.order.Order.{Order}
use Rattle.l3_orders.specs.declared.order.Order.TheVariants.{Coo, Coa, Cbd, Cba, Eco, Eca}
use Rattle.l3_orders.specs.Grammar.{order_of, link_of}
use Rattle.pair_steps.specs.Lines.{units_on}
use Rattle.set_events.specs.declared.answer.Answer.TheVariants.{Heard as HeardBack}
use Rattle.set_events.specs.declared.answer.Report.{Report}
use Rattle.set_events.specs.declared.answer.Took.{Took}
use Rattle.set_events.specs.declared.answer.Took.TheVariants.{Nothing as NothingTaken, Message as TookMessage, Order as TookOrder, Ignored}
use Rattle.set_events.specs.declared.config.Method.{Method}
use Rattle.set_events.specs.declared.event.Event.TheVariants.{Heard as HeardEvent}
use Rattle.set_model.specs.declared.phase.Phase.TheVariants.{Up}
use Rattle.set_model.specs.State.{LinkState, State, has_phase_settled, link_is_settled}
use Rattle.set_model.specs.Step.{step}
use Rattle.set_model.proofs.Walk.{IsAt}
use Rattle.pair_model.specs.Promises.{IsOneMethod}
use Rattle.pair_model.specs.Run.{Past, body_in}
use Rattle.pair_model.proofs.Moving as moving
use Rattle.pair_model.proofs.Pairs.{Two, HoldsOf}
use Rattle.pair_changeover.specs.Diverted.{IsFsnIn, TellsTheLast, FrontTells}
use Rattle.pair_changeover.proofs.Telling as telling
use Rattle.pair_streams.proofs.Acting.{Streams}
use Rattle.pair_rises.specs.Rises.{Cover, inside, seen_under}
use Rattle.pair_rises.proofs.Brought.{order_in, elsewhere_in, link_in, of_other}
use Rattle.pair_rises.proofs.Covers.{off_other}
use Rattle.pair_rises.proofs.Heard as under_veils
use Rattle.pair_rises.proofs.Unveiled.{unsettled_inside}
use Rattle.pair_rises.proofs.Veils.{Fits, SameUnder, same_under, seen_off, seen_length}

-- the link of an order that carries a number
linked : (order : Order) (fsn n : ℕ) → IsFsnIn fsn order → link_in (Some order) ≡ Some n → n ≡ link_of order
linked (Coo m number) fsn n in_it e = let same : m ≡ n = cc in sym same
linked (Coa m number) fsn n in_it e = let same : m ≡ n = cc in sym same
linked (Cbd m code) fsn n in_it e = absurd in_it
linked (Cba m code) fsn n in_it e = absurd in_it
linked (Eco m) fsn n in_it e = absurd in_it
linked (Eca m) fsn n in_it e = absurd in_it

linked_in : (profile : Profile) (unit : SignalUnit) (order : Order) (fsn n : ℕ) → order_of profile (body_in unit) ≡ Some order → IsFsnIn fsn order
    → link_in (order_in profile unit) ≡ Some n → n ≡ link_of order
linked_in profile (Fisu head) order fsn n read in_it e = absurd (let no : None ≡ Some n = e in cc)
linked_in profile (Lssu head status) order fsn n read in_it e = absurd (let no : None ≡ Some n = e in cc)
linked_in profile (Msu head body) order fsn n read in_it e = linked order fsn n in_it (sym (ap link_in read) ∙ e)

module _ {emergencies : Bool} (mx my : Method) (one : IsOneMethod mx my) (ox : ℕ → Cover) (s f : State) (x_past y_past : Past)
    (out back : List (List SignalUnit)) (fits : Fits ox s)
    (h : HoldsOf mx my (record { near = seen_under ox s; far = f; near_past = x_past; far_past = y_past; out = out; back = back }))
    (v : Streams emergencies (record { near = seen_under ox s; far = f; near_past = x_past; far_past = y_past; out = out; back = back }))
    (k : ℕ) (few : k < length s.links) (unit : SignalUnit) (rest : List SignalUnit) (front : units_on k back ≡ unit ∷ rest)
    (link : LinkState) (at : IsAt k link Up s) where
  abbrev p : Two
  p = record { near = seen_under ox s; far = f; near_past = x_past; far_past = y_past; out = out; back = back }

  at_seen : IsAt k link Up p.near
  at_seen = record { there = seen_off ox s k (let is = under_veils.k_is ox s fits k link at unit in is) ∙ at.there; phase_is = at.phase_is }

  few_seen : k < length p.near.links
  few_seen = omega (arith, few, seen_length ox s)

  abbrev report_seen : Report
  report_seen = moving.report mx my one p h k few_seen unit rest front link at_seen

  answers_seen : (step p.near (HeardEvent k unit)).answer ≡ HeardBack report_seen
  answers_seen = moving.answers_heard mx my one p h k few_seen unit rest front link at_seen

  told_seen : FrontTells (unit ∷ rest) report_seen.took p.near y_past
  told_seen = telling.hears_tells mx my one p h v.ordered.both k few_seen unit rest front link at_seen

  tell : (report : Report) → (step s (HeardEvent k unit)).answer ≡ HeardBack report → report.took ≡ TookOrder
      → (order : Order) (fsn : ℕ) (state : LinkState) → order_of s.settings.profile (body_in unit) ≡ Some order → IsFsnIn fsn order
      → slice_get s.links (link_of order) ≡ Some state → has_phase_settled state.phase ≡ false
      → TellsTheLast fsn (link_of order) state s.rows (y_past.taken (link_of order))
  tell report answers took order fsn state read in_it there going =
      let off : ox (link_of order) ≡ inside = unsettled_inside ox s fits (link_of order) (ap link_is_settled there ∙ going) in
      let same : SameUnder ox s (HeardEvent k unit) = same_under ox s fits (HeardEvent k unit)
      (λ l on. elsewhere_in l s unit (of_other (order_in s.settings.profile unit) l
      (λ n is. off_other n ox l (ap ox (linked_in s.settings.profile unit order fsn n read in_it is) ∙ off) on))) in
      let answer : HeardBack report_seen ≡ HeardBack report = sym answers_seen ∙ same.answer ∙ answers in
      let is : report_seen ≡ report = cc in
      let told = subst (λ (t : Took). FrontTells (unit ∷ rest) t p.near y_past) (ap (λ (r : Report). r.took) is ∙ took) told_seen in
      told order fsn state read in_it (seen_off ox s (link_of order) off ∙ there) going

  pub told_bare : (report : Report) → (step s (HeardEvent k unit)).answer ≡ HeardBack report → FrontTells (unit ∷ rest) report.took s y_past
  told_bare report answers = go report.took refl
    where
      go : (took : Took) → report.took ≡ took → FrontTells (unit ∷ rest) took s y_past
      go NothingTaken e = tt
      go TookMessage e = tt
      go TookOrder e = tell report answers e
      go Ignored e = tt
