-- THE ORDERS UNDER WAY, where a link comes up at one end first (`begins_both`), and then at the other (`joins_both`). In
-- between it is, at the end that hasn't joined, as one that this end left at once and in silence (set_veiled): `Both` of
-- pair_changeover holds of that state, and no order about the link stands at that end (`begins_none`).
use Rattle.std.proofs.Common.{refl, ◌≡◌, ◌∙◌, ap, sym, subst, ℕ, ◌==◌, ◌-◌, Bool, true, false, List, [], slice_get, ◌⊎◌, inl, inr}
use Rattle.set_model.specs.declared.phase.Phase.TheVariants.{Settled}
use Rattle.set_model.specs.Rows.{Row, parked}
use Rattle.set_model.specs.Sound.{IsSound}
use Rattle.set_model.specs.State.{LinkState, State, has_phase_settled, is_up, is_settled, link_is_up, link_is_settled}
use Rattle.set_model.specs.Step.{step}
use Rattle.set_model.proofs.Lists.{get_set_same, get_set_other, within}
use Rattle.set_model.proofs.Places.{false_true, itself}
use Rattle.set_model.proofs.Settling.{settled_empty}
use Rattle.set_model.proofs.Walk.{IsAt}
use Rattle.set_events.specs.declared.event.Event.TheVariants.{Up as UpEvent}
use Rattle.set_veiled.specs.Veil.{dormant, veil}
use Rattle.pair_rises.proofs.Covers.{each, ft}
use Rattle.pair_model.specs.Run.{Message, messages}
use Rattle.pair_changeover.proofs.Arriving.{rises_at}
use Rattle.pair_changeover.proofs.Changes.{Both}
use Rattle.pair_changeover.proofs.Passing.{Rises}
use Rattle.pair_changeover.proofs.Table.{drop_none, queue_untouched}
use Rattle.pair_changeover.proofs.Views.{view, pending, queue, acked_of, acked_on, accepted_of, accepted_on, last_of, last_on, Among, In, stands_on, stands_aside, NoneAbout, Came, stayed, moved, was_in, Passes, carries}

-- a veil over a settled link
pub record Veils (k : ℕ) (f g : State) : Type 0 where
  pub settled_was : is_settled k f ≡ true
  pub down_then : is_up k g ≡ false
  pub unsettled_then : is_settled k g ≡ false
  pub accepted_then : accepted_on k g ≡ 0
  pub rows : g.rows ≡ f.rows
  pub empty : (count : ℕ) → queue count k f.rows ≡ []
  pub links : (l : ℕ) → (k == l) ≡ false → slice_get g.links l ≡ slice_get f.links l

pub veils_at : (k : ℕ) (f : State) → IsSound f → (link : LinkState) → IsAt k link Settled f → Veils k f (veil (dormant f.settings) k f)
veils_at k f sound link at =
    let there = get_set_same f.links k (dormant f.settings) (within f.links k link at.there) in
    let none = settled_empty f k link sound at.there at.phase_is in
    record {
      settled_was = ap link_is_settled at.there ∙ ap has_phase_settled at.phase_is;
      down_then = ap link_is_up there;
      unsettled_then = ap link_is_settled there;
      accepted_then = ap accepted_of there;
      rows = refl;
      empty = λ count. rw (none.unack_none, none.wait_none, none.held_none, drop_none {X = Row} count) refl;
      links = λ l d. get_set_other f.links k l (dormant f.settings) (λ same. false_true (k == l) d (rw same (itself l)));
    }

tf : {X : Type 0} → true ≡ false → X
tf e = absurd cc

-- THE FIRST OF THE TWO
module _ {emergencies : Bool} (k : ℕ) (s t f g : State) (a : Rises k s t) (b : Veils k f g) (o : Both emergencies s f) where
  near_queue : (l : ℕ) → (k == l) ≡ false → pending l t g ≡ pending l s f
  near_queue l d =
      ap (λ (i : ℕ). queue (i - acked_on l t) l t.rows) (ap accepted_of (b.links l d))
      ∙ ap (λ (i : ℕ). queue (accepted_on l f - i) l t.rows) (ap acked_of (a.links l d))
      ∙ queue_untouched (accepted_on l f - acked_on l s) l s.rows t.rows (a.others l d)

  far_queue : (l : ℕ) → (k == l) ≡ false → pending l g t ≡ pending l f s
  far_queue l d =
      ap (λ (i : ℕ). queue (i - acked_on l g) l g.rows) (ap accepted_of (a.links l d))
      ∙ ap (λ (i : ℕ). queue (accepted_on l s - i) l g.rows) (ap acked_of (b.links l d))
      ∙ ap (λ (rows : List Row). queue (accepted_on l s - acked_on l f) l rows) b.rows

  far_own : pending k g t ≡ []
  far_own = ap (λ (rows : List Row). queue (accepted_on k t - acked_on k g) k rows) b.rows ∙ b.empty (accepted_on k t - acked_on k g)

  near_passes : Passes (view s f) (view t g) (view g t)
  near_passes = record {
    came = each k (λ l. (m : Message) → Among m (pending l t g) → Came (view s f) l m)
        (λ m among. let stood : In m (view s f) =
        stands_aside (subst (λ (q : List Message). Among m q) (a.own (accepted_on k g - acked_on k t)) among)
        in moved stood (λ about. o.near.none_settled k b.settled_was m stood about))
        (λ l d m among. stayed (subst (λ (q : List Message). Among m q) (near_queue l d) among));
    came_aside = λ m among. absurd (subst (λ (q : List Message). Among m q) (ap messages a.none_aside) among);
    none_up = each k (λ l. is_up l t ≡ true → NoneAbout l (view s f)) (λ e. o.near.none_settled k b.settled_was)
        (λ l d e. o.near.none_up l (ap link_is_up (sym (a.links l d)) ∙ e));
    none_settled = each k (λ l. is_settled l g ≡ true → NoneAbout l (view s f)) (λ e. ft (sym b.unsettled_then ∙ e))
        (λ l d e. o.near.none_settled l (ap link_is_settled (sym (b.links l d)) ∙ e));
    accepted = each k (λ l. (last_on l t ≡ last_on l s) ⊎ NoneAbout l (view s f)) (inr (o.near.none_settled k b.settled_was)) (λ l d. inl (ap last_of (a.links l d)));
    apart = each k (λ l. is_settled l t ≡ true → is_up l g ≡ false) (λ e. ft (sym a.unsettled_then ∙ e))
        (λ l d e. ap link_is_up (b.links l d) ∙ o.near.apart l (ap link_is_settled (sym (a.links l d)) ∙ e));
  }

  far_passes : Passes (view f s) (view g t) (view t g)
  far_passes = record {
    came = each k (λ l. (m : Message) → Among m (pending l g t) → Came (view f s) l m)
        (λ m among. absurd (subst (λ (q : List Message). Among m q) far_own among))
        (λ l d m among. stayed (subst (λ (q : List Message). Among m q) (far_queue l d) among));
    came_aside = λ m among. was_in (stands_aside (subst (λ (rows : List Row). Among m (messages (parked rows))) b.rows among));
    none_up = each k (λ l. is_up l g ≡ true → NoneAbout l (view f s)) (λ e. ft (sym b.down_then ∙ e))
        (λ l d e. o.far.none_up l (ap link_is_up (sym (b.links l d)) ∙ e));
    none_settled = each k (λ l. is_settled l t ≡ true → NoneAbout l (view f s)) (λ e. ft (sym a.unsettled_then ∙ e))
        (λ l d e. o.far.none_settled l (ap link_is_settled (sym (a.links l d)) ∙ e));
    accepted = each k (λ l. (last_on l g ≡ last_on l f) ⊎ NoneAbout l (view f s)) (inr (o.far.none_settled k a.settled_was)) (λ l d. inl (ap last_of (b.links l d)));
    apart = each k (λ l. is_settled l g ≡ true → is_up l t ≡ false) (λ e. ft (sym b.unsettled_then ∙ e))
        (λ l d e. ap link_is_up (a.links l d) ∙ o.far.apart l (ap link_is_settled (sym (b.links l d)) ∙ e));
  }

  pub begins_so : Both emergencies t g
  begins_so = record {
    near = carries (view s f) (view t g) (view f s) (view g t) near_passes o.near;
    far = carries (view f s) (view g t) (view s f) (view t g) far_passes o.far;
  }

  -- no order about it stands at the end that hasn't joined
  pub begins_none : NoneAbout k (view g t)
  begins_none m (stands_on l among) about = each k (λ l. Among m (pending l g t) → ⊥)
      (λ there. subst (λ (q : List Message). Among m q) far_own there)
      (λ l d there. o.far.none_settled k a.settled_was m (stands_on l (subst (λ (q : List Message). Among m q) (far_queue l d) there)) about) l among
  begins_none m (stands_aside among) about = o.far.none_settled k a.settled_was m
      (stands_aside (subst (λ (rows : List Row). Among m (messages (parked rows))) b.rows among)) about

-- THE SECOND: the end that hadn't joined, seen under its veil
module _ {emergencies : Bool} (k : ℕ) (s v t f : State) (a : Rises k s t) (b : Veils k s v) (o : Both emergencies v f)
    (none : NoneAbout k (view v f)) (goes : is_settled k f ≡ false) where
  joined_queue : (l : ℕ) → (k == l) ≡ false → pending l t f ≡ pending l v f
  joined_queue l d =
      ap (λ (i : ℕ). queue (accepted_on l f - i) l t.rows) (ap acked_of (a.links l d ∙ sym (b.links l d)))
      ∙ queue_untouched (accepted_on l f - acked_on l v) l s.rows t.rows (a.others l d)
      ∙ ap (λ (rows : List Row). queue (accepted_on l f - acked_on l v) l rows) (sym b.rows)

  same_accepted : (l : ℕ) → accepted_on l t ≡ accepted_on l v
  same_accepted = each k (λ l. accepted_on l t ≡ accepted_on l v) (a.accepted_then ∙ sym b.accepted_then) (λ l d. ap accepted_of (a.links l d ∙ sym (b.links l d)))

  joined_passes : Passes (view v f) (view t f) (view f t)
  joined_passes = record {
    came = each k (λ l. (m : Message) → Among m (pending l t f) → Came (view v f) l m)
        (λ m among. let stood : In m (view v f) =
        stands_aside (subst (λ (rows : List Row). Among m (messages (parked rows))) (sym b.rows)
        (subst (λ (q : List Message). Among m q) (a.own (accepted_on k f - acked_on k t)) among))
        in moved stood (λ about. none m stood about))
        (λ l d m among. stayed (subst (λ (q : List Message). Among m q) (joined_queue l d) among));
    came_aside = λ m among. absurd (subst (λ (q : List Message). Among m q) (ap messages a.none_aside) among);
    none_up = each k (λ l. is_up l t ≡ true → NoneAbout l (view v f)) (λ e. none)
        (λ l d e. o.near.none_up l (ap link_is_up (b.links l d ∙ sym (a.links l d)) ∙ e));
    none_settled = λ l e. o.near.none_settled l e;
    accepted = each k (λ l. (last_on l t ≡ last_on l v) ⊎ NoneAbout l (view v f)) (inr none) (λ l d. inl (ap last_of (a.links l d ∙ sym (b.links l d))));
    apart = each k (λ l. is_settled l t ≡ true → is_up l f ≡ false) (λ e. ft (sym a.unsettled_then ∙ e))
        (λ l d e. o.near.apart l (ap link_is_settled (b.links l d ∙ sym (a.links l d)) ∙ e));
  }

  other_passes : Passes (view f v) (view f t) (view t f)
  other_passes = record {
    came = λ l m among. stayed (subst (λ (i : ℕ). Among m (queue (i - acked_on l f) l f.rows)) (same_accepted l) among);
    came_aside = λ m among. was_in (stands_aside among);
    none_up = λ l e. o.far.none_up l e;
    none_settled = each k (λ l. is_settled l t ≡ true → NoneAbout l (view f v)) (λ e. ft (sym a.unsettled_then ∙ e))
        (λ l d e. o.far.none_settled l (ap link_is_settled (b.links l d ∙ sym (a.links l d)) ∙ e));
    accepted = λ l. inl refl;
    apart = each k (λ l. is_settled l f ≡ true → is_up l t ≡ false) (λ e. tf (sym e ∙ goes))
        (λ l d e. ap link_is_up (a.links l d ∙ sym (b.links l d)) ∙ o.far.apart l e);
  }

  pub joins_so : Both emergencies t f
  joins_so = record {
    near = carries (view v f) (view t f) (view f v) (view f t) joined_passes o.near;
    far = carries (view f v) (view f t) (view v f) (view t f) other_passes o.far;
  }

-- THE STEPS
pub begins_both : {emergencies : Bool} (k : ℕ) (s f : State) → IsSound s → IsSound f → (near far : LinkState) → IsAt k near Settled s
    → IsAt k far Settled f → Both emergencies s f → Both emergencies (step s (UpEvent k)).state (veil (dormant f.settings) k f)
begins_both k s f sound far_sound near far at far_at o =
    begins_so k s (step s (UpEvent k)).state f (veil (dormant f.settings) k f) (rises_at k s sound near at) (veils_at k f far_sound far far_at) o

pub joins_both : {emergencies : Bool} (k : ℕ) (s f : State) → IsSound s → (near : LinkState) → IsAt k near Settled s → Both emergencies (veil (dormant s.settings) k s) f
    → NoneAbout k (view (veil (dormant s.settings) k s) f) → is_settled k f ≡ false → Both emergencies (step s (UpEvent k)).state f
joins_both k s f sound near at o none goes =
    joins_so k s (veil (dormant s.settings) k s) (step s (UpEvent k)).state f (rises_at k s sound near at) (veils_at k s sound near at) o none goes
