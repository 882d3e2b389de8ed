-- A LINK STAYS SETTLED by every event but its own coming up (`settled_after`): a walk of small changes, of which none
-- takes a link out of that.
use Rattle.std.proofs.Common.{refl, ◌≡◌, ◌∙◌, ap, sym, subst, ℕ, ◌==◌, Bool, true, false, List, slice_get, slice_set, Some}
use Rattle.std.proofs.lemmas.Bool.{eqb-true}
use Rattle.set_events.specs.declared.event.Event.{Event}
use Rattle.set_events.specs.declared.event.Event.TheVariants.{Up as UpEvent}
use Rattle.set_model.specs.State.{LinkState, State, has_phase_settled, is_settled, link_is_settled}
use Rattle.set_model.specs.Step.{step}
use Rattle.set_model.proofs.Lists.{get_set_same, get_set_other, within}
use Rattle.set_model.proofs.Places.{false_true, itself}
use Rattle.set_model.proofs.Walk.{KeptBy, step_walks}

abbrev StaysIn : ℕ → List LinkState → List LinkState → Type 0
StaysIn l links new = link_is_settled (slice_get links l) ≡ true → link_is_settled (slice_get new l) ≡ true

abbrev Stays : ℕ → State → State → Type 0
Stays l s t = StaysIn l s.links t.links

-- one is set, which is settled where it was
stays_set : (l n : ℕ) (link new : LinkState) (links : List LinkState) → slice_get links n ≡ Some link
    → (has_phase_settled link.phase ≡ true → has_phase_settled new.phase ≡ true) → StaysIn l links (slice_set links n new)
stays_set l n link new links there keeps e = go (n == l) refl
  where
    go : (b : Bool) → (n == l) ≡ b → link_is_settled (slice_get (slice_set links n new) l) ≡ true
    go true d =
        let same : n ≡ l = eqb-true n l d in
        let was : has_phase_settled link.phase ≡ true = ap link_is_settled (sym (ap (slice_get links) (sym same) ∙ there)) ∙ e in
        ap (λ (m : ℕ). link_is_settled (slice_get (slice_set links n new) m)) (sym same)
        ∙ ap link_is_settled (get_set_same links n new (within links n link there)) ∙ keeps was
    go false d = ap link_is_settled (get_set_other links n l new (λ same. false_true (n == l) d (ap (λ (m : ℕ). n == m) (sym same) ∙ itself n))) ∙ e

small : (Known : ℕ → Type 0) (May : Type 0) (l : ℕ) → KeptBy Known May (Stays l)
small Known May l = record {
  same = λ s e. e;
  after = λ a b c p q e. q (p e);
  delivers = λ body s e. e;
  queues = λ order s e. e;
  leaves = λ blind n link s known at. stays_set l n link _ s.links at.there
      (λ e. absurd (let no : false ≡ true = sym (ap has_phase_settled at.phase_is) ∙ e in cc));
  acknowledges = λ count n link s known at few g. stays_set l n link _ s.links at.there (λ e. e);
  gives_up = λ sent cause n link s known at g e. e;
  gives_up_orders = λ cause n link s known at g e. e;
  takes_back = λ order from s unsent known g e. e;
  moves_off = λ told n link s known at. stays_set l n link _ s.links at.there (λ e. refl);
  answers = λ n link s known at. stays_set l n link _ s.links at.there (λ e. e);
  withdraws = λ count n link s known at g e. e;
  declares = λ may home alternative s up can e. e;
  redeclares = λ code via s due e. e;
  acknowledges_back = λ code s known e. e;
  releases = λ code s known e. e;
  opens = λ n link s known at shut u. stays_set l n link _ s.links at.there (λ e. e);
}

abbrev pub IsNoRise : ℕ → Event → Type 0
IsNoRise l (UpEvent n) = (n == l) ≡ false
IsNoRise l _ = Unit {0}

pub settled_after : (l : ℕ) (s : State) (event : Event) → IsNoRise l event → is_settled l s ≡ true → is_settled l (step s event).state ≡ true
settled_after l s event apart = step_walks s (Stays l) (Stays l s) event (record {
  small = small _ _ l;
  unmoved = λ e. e;
  rests = λ t u p q e. q (p e);
  offers = λ body e none was. was;
  takes = λ body rest e there was. was;
  sends = λ n link t e same at g was. stays_set l n link _ t.links at.there (λ f. f) (same was);
  hears = λ n unit link e fits at g. stays_set l n link _ s.links at.there (λ f. f);
  rises = λ n link e at was.
      ap link_is_settled (get_set_other s.links n l _ (λ same. false_true (n == l) (subst (IsNoRise l) e apart) (ap (λ (m : ℕ). n == m) (sym same) ∙ itself n))) ∙ was;
})
