-- WHAT A SETTLED LINK COUNTS as acknowledged was accepted, with emergencies or without, in both directions (`Counts`).
-- It's kept by an event that accepts and settles nothing (`counts_kept`), by a link that comes up at both ends, as it
-- isn't settled then (`counts_risen`), and by a unit that is heard (`heard_counts`): a link that settles by it, with a
-- number or without, counts no more than was accepted (`obeys_less`, Obeying.antt), since before it did so as the law
-- of links says (`kept_on`, pair_model's Kept.antt). Each is one step; the induction over the steps of a quiet run is
-- in pair_streams's Counting.antt, which alone uses this.
use Rattle.std.proofs.lemmas.Bool.{eqb-true}
use Rattle.std.proofs.Common.{refl, arith, ◌≡◌, ◌∙◌, ap, sym, subst, ℕ, ◌≤◌, ◌<◌, ◌==◌, Bool, true, false, List, ◌∷◌, length, slice_get, Some}
use Rattle.l2_units.specs.declared.unit.Unit.{Unit as SignalUnit}
use Rattle.pair_steps.specs.Lines.{units_on}
use Rattle.set_events.specs.declared.config.Method.{Method}
use Rattle.set_events.specs.declared.event.Event.TheVariants.{Heard as HeardEvent}
use Rattle.set_model.specs.declared.phase.Phase.TheVariants.{Up}
use Rattle.set_model.specs.State.{LinkState, State, is_up, is_settled, link_is_up, link_is_settled, has_phase_up, has_phase_settled}
use Rattle.set_model.specs.Step.{step}
use Rattle.set_model.proofs.Walk.{IsAt}
use Rattle.set_model.proofs.Lists.{present, within}
use Rattle.pair_model.specs.Promises.{IsOneMethod}
use Rattle.pair_model.proofs.Kept.{kept_on}
use Rattle.pair_model.proofs.Pairs.{Two, HoldsOf}
use Rattle.pair_changeover.proofs.Changes.{by_link, other_then}
use Rattle.pair_changeover.proofs.Hearing as hearing
use Rattle.pair_changeover.proofs.Keeping.{Keeps}
use Rattle.pair_changeover.proofs.Obeying.{obeys_less, obeys_accepted}
use Rattle.pair_changeover.proofs.Ordered.{Ordered}
use Rattle.pair_changeover.proofs.Ordered as orders
use Rattle.pair_changeover.proofs.Passing.{Rises}
use Rattle.pair_changeover.proofs.Reaching.{reaches}
use Rattle.pair_changeover.proofs.Views.{acked_of, acked_on, accepted_of, accepted_on}

-- in both directions
pub record Counts (s f : State) : Type 0 where
  pub near : (l : ℕ) → is_settled l s ≡ true → acked_on l s ≤ accepted_on l f
  pub far : (l : ℕ) → is_settled l f ≡ true → acked_on l f ≤ accepted_on l s

pub counts_back : (s f : State) → Counts s f → Counts f s
counts_back s f c = record { near = c.far; far = c.near }

-- an event that accepts and settles nothing
pub counts_kept : {emergencies : Bool} (s t f : State) → Counts s f → Keeps emergencies s t f → Counts t f
counts_kept s t f c k = record {
  near = λ l e. let was = sym (k.settled l) ∙ e in let same = k.acked l was in let few = c.near l was in omega (arith, same, few);
  far = λ l e. let same = k.accepted l in let few = c.far l e in omega (arith, same, few);
}

-- a link comes up at both ends
risen_less : (k : ℕ) (s t f g : State) → Rises k s t → Rises k f g
    → ((l : ℕ) → is_settled l s ≡ true → acked_on l s ≤ accepted_on l f) → (l : ℕ) → is_settled l t ≡ true
    → acked_on l t ≤ accepted_on l g
risen_less k s t f g a b less l e = go (k == l) refl
  where
    go : (b : Bool) → (k == l) ≡ b → acked_on l t ≤ accepted_on l g
    go true d = absurd (let here : is_settled k t ≡ true =
        subst (λ (n : ℕ). is_settled n t ≡ true) (sym (eqb-true k l d)) e in let no : false ≡ true =
        sym a.unsettled_then ∙ here in cc)
    go false d =
        let acked = ap acked_of (a.links l d) in
        let accepted = ap accepted_of (b.links l d) in
        let few = less l (ap link_is_settled (sym (a.links l d)) ∙ e) in
        omega (arith, acked, accepted, few)

pub counts_risen : (k : ℕ) (s t f g : State) → Rises k s t → Rises k f g → Counts s f → Counts t g
counts_risen k s t f g a b c = record { near = risen_less k s t f g a b c.near; far = risen_less k f g s t b a c.far }

module _ {emergencies : Bool} (mx my : Method) (one : IsOneMethod mx my) (p : Two) (h : HoldsOf mx my p)
    (o : Ordered emergencies p) (c : Counts p.near p.far) (k : ℕ) (few : k < length p.near.links) (unit : SignalUnit)
    (rest : List SignalUnit) (front : units_on k p.back ≡ unit ∷ rest) (link : LinkState) (at : IsAt k link Up p.near)
  where
    abbrev mid : State
    mid = hearing.mid mx my one p h o.both k few unit rest front link at

    abbrev mid_link : LinkState
    mid_link = hearing.mid_link mx my one p h o.both k few unit rest front link at

    abbrev then_near : State
    then_near = (step p.near (HeardEvent k unit)).state

    abbrev body : List ℕ
    body = orders.body mx my one p h o k few unit rest front link at

    does : hearing.Hears mx my one p h o.both k few unit rest front link at
    does = orders.does mx my one p h o k few unit rest front link at

    mid_less : (l : ℕ) → is_settled l mid ≡ true → acked_on l mid ≤ accepted_on l p.far
    mid_less l = by_link k link mid_link p.near mid at.there refl
        (λ n old new. (link_is_settled old ≡ true → acked_of old ≤ accepted_on n p.far) → link_is_settled new ≡ true → acked_of new ≤ accepted_on n p.far)
        (λ before e. absurd (let no : false ≡ true = sym (ap has_phase_settled at.phase_is) ∙ e in cc)) (λ n old d before. before) l (c.near l)

    mid_accepted : (l : ℕ) → is_up l p.near ≡ false → accepted_on l mid ≡ accepted_on l p.near
    mid_accepted = by_link k link mid_link p.near mid at.there refl
        (λ l old new. link_is_up old ≡ false → accepted_of new ≡ accepted_of old)
        (λ e. absurd (let no : true ≡ false = sym (ap has_phase_up at.phase_is) ∙ e in cc)) (λ l old d e. refl)

    due : (n : ℕ) (state : LinkState) → (k == n) ≡ false → slice_get mid.links n ≡ Some state
        → has_phase_settled state.phase ≡ false → state.acked ≤ accepted_on n p.far
    due n state d there going =
        let near : slice_get p.near.links n ≡ Some state = sym (other_then k link mid_link p.near mid at.there refl n d) ∙ there in
        let other = present p.far.links n (omega (arith, within p.near.links n state near, h.far_links)) in
        (reaches n p.near_past p.far_past p.near p.far (kept_on mx my one p h n) state near going other.0 other.1).due

    near_then : (l : ℕ) → is_settled l then_near ≡ true → acked_on l then_near ≤ accepted_on l p.far
    near_then = subst (λ (s : State). (l : ℕ) → is_settled l s ≡ true → acked_on l s ≤ accepted_on l p.far)
        (sym (orders.state_is mx my one p h o k few unit rest front link at))
        (obeys_less k body mid p.far (orders.mid_sound mx my one p h o k few unit rest front link at) o.near_codes due mid_less _ does.obeys)

    far_then : (l : ℕ) → is_settled l p.far ≡ true → acked_on l p.far ≤ accepted_on l then_near
    far_then l e =
        let same : accepted_on l then_near ≡ accepted_on l mid =
        ap (accepted_on l) (orders.state_is mx my one p h o k few unit rest front link at)
        ∙ obeys_accepted k body mid p.far (orders.mid_sound mx my one p h o k few unit rest front link at)
        o.near_codes does.both _ does.obeys l in
        let mid_same = mid_accepted l (o.both.far.apart l e) in
        let enough = c.far l e in
        omega (arith, same, mid_same, enough)

    pub heard_counts : Counts then_near p.far
    heard_counts = record { near = near_then; far = far_then }
