-- THE ORDERS UNDER WAY AT BOTH ENDS, all along a run in which each order is answered, with emergencies or without:
-- every step keeps what holds of them (`Ordered`, seen from the end that acts). `asked_ordered` is for an event that
-- accepts and settles nothing, `heard_ordered` for a unit that is heard, `rises_both` for a link that comes up, and
-- `sends_keep` for a unit that is sent, as no more was accepted than was sent (`sent_enough`). The work is done in
-- Keeping.antt, Hearing.antt, Obeying.antt and Passing.antt; here it's put together for one step. Used by Whole.antt,
-- Arriving.antt and Counted.antt, and by pair_streams's Acting.antt and Hearing.antt.
use Rattle.std.proofs.Common.{arith, ◌≡◌, ap, sym, subst, ℕ, ◌≤◌, ◌<◌, ◌-◌, Bool, List, ◌∷◌, length}
use Rattle.l2_units.specs.declared.unit.Unit.{Unit as SignalUnit}
use Rattle.pair_steps.specs.Lines.{units_on, with_units}
use Rattle.set_events.specs.declared.answer.Answer.TheVariants.{Heard as HeardBack}
use Rattle.set_events.specs.declared.config.Method.{Method}
use Rattle.set_events.specs.declared.event.Event.{Event}
use Rattle.set_events.specs.declared.event.Event.TheVariants.{Heard as HeardEvent}
use Rattle.set_model.specs.declared.phase.Phase.TheVariants.{Up}
use Rattle.set_model.specs.Rows.{unack}
use Rattle.set_model.specs.Sound.{IsSound}
use Rattle.set_model.specs.State.{LinkState, State, has_phase_settled}
use Rattle.set_model.specs.Step.{Outcome, next, step}
use Rattle.set_model.proofs.Lists.{present}
use Rattle.set_model.proofs.Walk.{IsAt}
use Rattle.pair_steps.specs.declared.step.Shown.TheVariants.{Answered}
use Rattle.pair_model.specs.Promises.{IsOneMethod}
use Rattle.pair_model.specs.Run.{Past, past_heard}
use Rattle.pair_model.proofs.Kept.{kept_on}
use Rattle.pair_model.proofs.Moving as moving
use Rattle.pair_model.proofs.Pairs.{Two, swapped, HoldsOf, settings_stay}
use Rattle.pair_changeover.proofs.Changes.{Both, both_back}
use Rattle.pair_changeover.proofs.Hearing as hearing
use Rattle.pair_changeover.proofs.Keeping.{Keeps, next_keeps}
use Rattle.pair_changeover.proofs.Obeying.{obeys_both}
use Rattle.pair_changeover.proofs.Passing.{Rises, rises_orders}
use Rattle.pair_changeover.proofs.Reaching.{reaches}
use Rattle.pair_changeover.proofs.Texts.{AreCodes}
use Rattle.pair_changeover.proofs.Views.{accepted_on}

pub record Ordered (emergencies : Bool) (p : Two) : Type 0 where
  pub both : Both emergencies p.near p.far
  pub near_codes : AreCodes p.near.settings
  pub far_codes : AreCodes p.far.settings

pub ordered_back : {emergencies : Bool} (p : Two) → Ordered emergencies p → Ordered emergencies (swapped p)
ordered_back p o = record { both = both_back p.near p.far o.both; near_codes = o.far_codes; far_codes = o.near_codes }

-- an event at the near end
pub asked_ordered : {emergencies : Bool} (p : Two) (event : Event) (q : Two) → Ordered emergencies p
    → Keeps emergencies p.near (step p.near event).state p.far → q.near ≡ (step p.near event).state → q.far ≡ p.far
    → Ordered emergencies q
asked_ordered p event q o k near far = record {
  both = rw (near, far) (k.both o.both);
  near_codes = rw near (subst AreCodes (sym (settings_stay p.near event)) o.near_codes);
  far_codes = rw far (o.far_codes);
}

-- IT HEARS
module _ {emergencies : Bool} (mx my : Method) (one : IsOneMethod mx my) (p : Two) (h : HoldsOf mx my p)
    (o : Ordered emergencies p) (k : ℕ) (few : k < length p.near.links) (unit : SignalUnit) (rest : List SignalUnit)
    (front : units_on k p.back ≡ unit ∷ rest) (link : LinkState) (at : IsAt k link Up p.near) where
  abbrev mid : State
  mid = hearing.mid mx my one p h o.both k few unit rest front link at

  abbrev then_near : State
  then_near = (step p.near (HeardEvent k unit)).state

  abbrev heard_past : Past
  heard_past = past_heard k unit (p.far_past.sent k) (Answered (HeardBack (moving.report mx my one p h k few unit rest front link at))) p.near_past

  abbrev pub heard : Two
  heard = record p { near = then_near; near_past = heard_past; back = with_units k rest p.back }

  pub state_is : then_near ≡ (hearing.taken mx my one p h o.both k few unit rest front link at).state
  state_is = ap (λ (x : Outcome). x.state) (moving.event_is mx my one p h k few unit rest front link at)

  pub does : hearing.Hears mx my one p h o.both k few unit rest front link at
  does = hearing.hears mx my one p h o.both k few unit rest front link at

  pub mid_sound : IsSound mid
  mid_sound = hearing.mid_sound mx my one p h o.both k few unit rest front link at

  abbrev pub body : List ℕ
  body = hearing.heard_body mx my one p h o.both k few unit rest front link at

  pub both_then : Both emergencies then_near p.far
  both_then = subst (λ (s : State). Both emergencies s p.far) (sym state_is) (obeys_both k body mid p.far mid_sound o.near_codes does.both _ does.obeys)

  pub codes_then : AreCodes then_near.settings
  codes_then = subst AreCodes (sym (settings_stay p.near (HeardEvent k unit))) o.near_codes

  pub heard_ordered : Ordered emergencies heard
  heard_ordered = record { both = both_then; near_codes = codes_then; far_codes = o.far_codes }

-- IT SENDS
module _ (mx my : Method) (one : IsOneMethod mx my) (p : Two) (h : HoldsOf mx my p) (k : ℕ)
    (few : k < length p.near.links) (link : LinkState) (at : IsAt k link Up p.near) where
  -- no more was accepted there than was sent
  pub sent_enough : accepted_on k p.far - link.acked ≤ length (unack k p.near.rows)
  sent_enough =
      let far_at = present p.far.links k (omega (arith, few, h.far_links)) in
      let r = reaches k p.near_past p.far_past p.near p.far (kept_on mx my one p h k) link at.there (ap has_phase_settled at.phase_is) far_at.0 far_at.1 in
      omega (arith, r.due, r.within)

  pub sends_keep : {emergencies : Bool} → Keeps emergencies p.near (next k p.near link).state p.far
  sends_keep = next_keeps k link p.near p.far h.near_sound at sent_enough

-- A LINK COMES UP at both ends
pub rises_both : {emergencies : Bool} (k : ℕ) (s t f g : State) → Rises k s t → Rises k f g → Both emergencies s f → Both emergencies t g
rises_both k s t f g a b o = record { near = rises_orders k s t f g a b o.near; far = rises_orders k f g s t b a o.far }
