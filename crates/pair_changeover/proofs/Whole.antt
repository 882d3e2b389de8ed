-- WHAT HOLDS OF BOTH ENDS ALL ALONG, beside each link's tie, and that every step keeps it: seen from the end that acts.
-- `Whole` is `Both` of Changes.antt, and of each end that a settled link counts just what the far end accepted, that
-- the acknowledged are the first that were sent, and that nothing is discarded (`Half`). `asks_did`, `sends_did` and
-- `sends_not` say of events that settle nothing that they keep it, from Keeping.antt, Acked.antt and Overtaken.antt;
-- hearing and coming up are Arriving.antt's. `loses_nothing` reads the promise off it. These are cases of one step;
-- Runs.antt has the induction over the steps.
use Rattle.std.proofs.Common.{refl, arith, ◌≡◌, ◌∙◌, ap, sym, subst, ℕ, ◌≤◌, ◌<◌, Bool, true, false, List, [], length, slice_get, Some}
use Rattle.l2_units.specs.declared.unit.Unit.{Unit as SignalUnit}
use Rattle.set_events.specs.declared.config.Method.{Method}
use Rattle.set_events.specs.declared.event.Event.{Event}
use Rattle.set_events.specs.declared.event.Event.TheVariants.{Offer, Take, Find, Next, Heard as HeardEvent, Up as UpEvent, Down as DownEvent, DownBlind, NoAnswer, Timed, Restore, Redeclare, BackTimeout, Test}
use Rattle.set_model.specs.declared.phase.Phase.TheVariants.{Up}
use Rattle.set_model.specs.Rows.{was_discarded, standing}
use Rattle.set_model.specs.State.{LinkState, State, is_up, is_settled, link_is_settled, has_phase_settled}
use Rattle.set_model.specs.Step.{Outcome, step}
use Rattle.set_model.proofs.Lists.{present, within}
use Rattle.set_model.proofs.Walk.{IsAt}
use Rattle.pair_steps.specs.declared.step.End.{End}
use Rattle.pair_steps.specs.declared.step.Shown.{Shown}
use Rattle.pair_steps.specs.declared.step.Step.TheVariants.{Act}
use Rattle.pair_model.specs.World.{has_own_step}
use Rattle.pair_model.specs.Promises.{IsOneMethod, IsSoundStep}
use Rattle.pair_model.specs.Run.{Past, past_asked, past_sent}
use Rattle.pair_model.proofs.Kept.{kept_on}
use Rattle.pair_model.proofs.Moving.{next_refused}
use Rattle.pair_model.proofs.Pairs.{Two, swapped, HoldsOf, settings_stay}
use Rattle.pair_changeover.specs.Diverted.{Diverts, LosesNothing}
use Rattle.pair_changeover.proofs.Acked.{AckedFirst, sent_then as sent_by, acked_first, emits_first}
use Rattle.pair_changeover.proofs.Changes.{Both}
use Rattle.pair_changeover.proofs.Keeping.{Keeps, keeps_still, offer_kept, take_kept, find_kept, down_kept, restore_kept, redeclare_kept, test_kept, next_keeps}
use Rattle.pair_changeover.proofs.Ordered.{Ordered}
use Rattle.pair_changeover.proofs.Overtaken.{sends_next}
use Rattle.pair_changeover.proofs.Reaching.{Reaches, reaches}
use Rattle.pair_changeover.proofs.Texts.{AreCodes}
use Rattle.pair_changeover.proofs.Views.{acked_of, acked_on, accepted_of, accepted_on}

-- of one end: a link that settled counts just what the far end accepted; what counts as acknowledged are the first that
-- were sent; and nothing is discarded
pub record Half (s f : State) (past : Past) : Type 0 where
  pub equal : (l : ℕ) → is_settled l s ≡ true → acked_on l s ≡ accepted_on l f
  pub acked : (l : ℕ) → AckedFirst l (past.sent l) s
  pub none_discarded : standing was_discarded s.rows ≡ []
  pub codes : AreCodes s.settings

pub record Whole (p : Two) : Type 0 where
  pub both : Both false p.near p.far
  pub near : Half p.near p.far p.near_past
  pub far : Half p.far p.near p.far_past

abbrev pub ordered : (p : Two) → Whole p → Ordered false p
ordered p w = record { both = w.both; near_codes = w.near.codes; far_codes = w.far.codes }

pub whole_back : (p : Two) → Whole p → Whole (swapped p)
whole_back p w = record { both = record { near = w.both.far; far = w.both.near }; near = w.far; far = w.near }

-- what settles at an end diverts the rest
abbrev pub SettlesSo : Past → Past → State → State → Type 0
SettlesSo near far s t = (l : ℕ) → is_settled l s ≡ false → is_settled l t ≡ true → Diverts l (near.sent l) (far.taken l) s t

pub record Did (p q : Two) : Type 0 where
  pub whole : Whole q
  pub near : SettlesSo p.near_past p.far_past p.near q.near
  pub far : SettlesSo p.far_past p.near_past p.far q.far

pub none_settles : (near far : Past) (s t : State) → ((l : ℕ) → is_settled l t ≡ is_settled l s) → SettlesSo near far s t
none_settles near far s t same l e g = absurd (let no : false ≡ true = sym e ∙ sym (same l) ∙ g in cc)

-- the states and what was sent stay
pub stays : (p q : Two) → Whole p → q.near ≡ p.near → q.far ≡ p.far
    → ((l : ℕ) → q.near_past.sent l ≡ p.near_past.sent l) → ((l : ℕ) → q.far_past.sent l ≡ p.far_past.sent l) → Did p q
stays p q w near far near_sent far_sent = record {
  whole = record {
    both = rw (near, far) (w.both);
    near = rw (near, far) (record {
      equal = w.near.equal;
      acked = λ l. rw (near_sent l) (w.near.acked l);
      none_discarded = w.near.none_discarded;
      codes = w.near.codes;
    });
    far = rw (near, far) (record {
      equal = w.far.equal;
      acked = λ l. rw (far_sent l) (w.far.acked l);
      none_discarded = w.far.none_discarded;
      codes = w.far.codes;
    });
  };
  near = none_settles p.near_past p.far_past p.near q.near (λ l. ap (is_settled l) near);
  far = none_settles p.far_past p.near_past p.far q.far (λ l. ap (is_settled l) far);
}

-- AN EVENT AT THE NEAR END that accepts and settles nothing
module _ (p : Two) (w : Whole p) (event : Event) where
  abbrev pub near_then : State
  near_then = (step p.near event).state

  codes_stay : AreCodes near_then.settings
  codes_stay = subst AreCodes (sym (settings_stay p.near event)) w.near.codes

  module _ (past : Past) (out back : List (List SignalUnit)) (k : Keeps false p.near near_then p.far)
      (acked : (l : ℕ) → AckedFirst l (past.sent l) near_then) where
    abbrev pub keeping : Two
    keeping = record { near = near_then; far = p.far; near_past = past; far_past = p.far_past; out = out; back = back }

    pub keeps_did : Did p keeping
    keeps_did = record {
      whole = record {
        both = k.both w.both;
        near = record {
          equal = λ l e. let was = sym (k.settled l) ∙ e in k.acked l was ∙ w.near.equal l was;
          acked = acked;
          none_discarded = k.discards ∙ w.near.none_discarded;
          codes = codes_stay;
        };
        far = record {
          equal = λ l e. w.far.equal l e ∙ sym (k.accepted l);
          acked = w.far.acked;
          none_discarded = w.far.none_discarded;
          codes = w.far.codes;
        };
      };
      near = none_settles p.near_past p.far_past p.near near_then k.settled;
      far = none_settles p.far_past p.near_past p.far p.far (λ l. refl);
    }

module _ (mx my : Method) (one : IsOneMethod mx my) (p : Two) (h : HoldsOf mx my p) (w : Whole p) where
  abbrev after : Event → Shown → Two
  after event shown = record p { near = (step p.near event).state; near_past = past_asked event shown p.near_past }

  first_at : (event : Event) (l : ℕ) → AckedFirst l (sent_by l event p.near (p.near_past.sent l)) (step p.near event).state
  first_at event l = acked_first l p.near event (p.near_past.sent l) h.near_sound (w.near.acked l)

  pub asks_did : (end : End) (event : Event) (shown : Shown) → has_own_step event ≡ false → IsSoundStep (Act end event) → Did p (after event shown)
  asks_did end (Offer body) shown own sound =
      keeps_did p w (Offer body) (past_asked (Offer body) shown p.near_past) p.out p.back
      (offer_kept p.near p.far body h.near_sound) (first_at (Offer body))
  asks_did end Take shown own sound = keeps_did p w Take p.near_past p.out p.back (take_kept p.near p.far) (first_at Take)
  asks_did end (Find number) shown own sound = keeps_did p w (Find number) p.near_past p.out p.back (find_kept p.near p.far number) (first_at (Find number))
  asks_did end (Next k) shown own sound = absurd cc
  asks_did end (HeardEvent k unit) shown own sound = absurd cc
  asks_did end (UpEvent k) shown own sound = absurd cc
  asks_did end (DownEvent k) shown own sound =
      keeps_did p w (DownEvent k) p.near_past p.out p.back (down_kept k p.near p.far h.near_sound w.near.codes)
      (first_at (DownEvent k))
  asks_did end (DownBlind k) shown own sound = absurd sound
  asks_did end (NoAnswer k) shown own sound = absurd sound
  asks_did end (Timed k) shown own sound = absurd sound
  asks_did end (Restore k) shown own sound =
      keeps_did p w (Restore k) p.near_past p.out p.back (restore_kept k p.near p.far h.near_sound)
      (first_at (Restore k))
  asks_did end (Redeclare k) shown own sound =
      keeps_did p w (Redeclare k) p.near_past p.out p.back (redeclare_kept k p.near p.far h.near_sound)
      (first_at (Redeclare k))
  asks_did end (BackTimeout k) shown own sound = absurd sound
  asks_did end (Test k) shown own sound = keeps_did p w (Test k) p.near_past p.out p.back (test_kept k p.near p.far) (first_at (Test k))

  -- IT SENDS
  module _ (k : ℕ) (out : List (List SignalUnit)) where
    abbrev sent_then : Two
    sent_then = record p { near = (step p.near (Next k)).state; near_past = past_sent k p.near (step p.near (Next k)).state p.near_past; out = out }

    pub sends_did : k < length p.near.links → (link : LinkState) → IsAt k link Up p.near → Did p sent_then
    sends_did few link at = keeps_did p w (Next k) (past_sent k p.near (step p.near (Next k)).state p.near_past) out p.back
        (subst (λ (o : Outcome). Keeps false p.near o.state p.far) (sym (sends_next k p.near p.far w.both link at))
        (next_keeps k link p.near p.far h.near_sound at (let r = near_reaches in omega (arith, r.due, r.within))))
        (λ l. emits_first l k p.near p.near_past h.near_sound (w.near.acked l))
      where
        far_at : (other : LinkState) × (slice_get p.far.links k ≡ Some other)
        far_at = present p.far.links k (omega (arith, few, h.far_links))

        near_reaches : Reaches k link p.near p.far (p.near_past.sent k)
        near_reaches = reaches k p.near_past p.far_past p.near p.far (kept_on mx my one p h k) link at.there
            (ap has_phase_settled at.phase_is) far_at.0 far_at.1

    pub sends_not : is_up k p.near ≡ false → Did p sent_then
    sends_not e =
        let same : (step p.near (Next k)).state ≡ p.near = ap (λ (o : Outcome). o.state) (next_refused k p.near e).1 in
        keeps_did p w (Next k) (past_sent k p.near (step p.near (Next k)).state p.near_past) out p.back
        (subst (λ (s : State). Keeps false p.near s p.far) (sym same) (keeps_still p.near p.near p.far refl refl))
        (λ l. emits_first l k p.near p.near_past h.near_sound (w.near.acked l))

  -- WHAT IT SAYS of an end
  pub loses_nothing : LosesNothing p.near p.far_past
  loses_nothing = record { acked = λ link state there. go link state there (has_phase_settled state.phase) refl; none_discarded = w.near.none_discarded }
    where
      go : (link : ℕ) (state : LinkState) → slice_get p.near.links link ≡ Some state → (b : Bool)
          → has_phase_settled state.phase ≡ b → state.acked ≤ length (p.far_past.taken link)
      go link state there false e = ((kept_on mx my one p h link).going state there e).acked
      go link state there true e =
          let other = present p.far.links link (omega (arith, within p.near.links link state there, h.far_links)) in
          let counted : accepted_on link p.far ≡ length (p.far_past.taken link) = ap accepted_of other.1
          ∙ (kept_on mx my one p h link).accepted other.0 other.1 in
          let equal = w.near.equal link (ap link_is_settled there ∙ e) in
          let is : acked_on link p.near ≡ state.acked = ap acked_of there in
          omega (arith, counted, equal, is)
