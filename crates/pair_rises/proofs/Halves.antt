-- WHAT A CHANGEOVER NEEDS OF EACH END (`Half` of pair_changeover), where links come up one after the other: of both ends
-- as they're seen (`Halves`). A unit that is heard keeps it (`hears_halves`), as pair_changeover has it; so do a life that
-- begins (`begins_halves`), the end that joins it (`joins_halves`), an acknowledgement that is queued (`told_halves`), and a
-- link that is shown as another (`shows_halves`). Nothing stands on a covered link, and nothing counts as acknowledged there.
use Rattle.std.proofs.Common.{refl, arith, ◌≡◌, ◌∙◌, ap, sym, subst, ℕ, ◌<◌, ◌==◌, Bool, true, false, List, ◌∷◌, length, take, slice_get, Some, inl, inr}
use Rattle.std.proofs.lemmas.List.Elements.{All-nil}
use Rattle.l2_units.specs.declared.unit.Unit.{Unit as SignalUnit}
use Rattle.l3_orders.specs.declared.order.Order.TheVariants.{Coa}
use Rattle.l3_orders.specs.Grammar.{text}
use Rattle.pair_steps.specs.Lines.{units_on}
use Rattle.set_events.specs.declared.config.Method.{Method}
use Rattle.set_events.specs.declared.event.Event.TheVariants.{Up as UpEvent}
use Rattle.set_model.specs.declared.phase.Phase.TheVariants.{Up, Settled}
use Rattle.set_model.specs.Changeover.{fate_on, queued}
use Rattle.set_model.specs.Rows.{was_discarded, IsNumbered}
use Rattle.set_model.specs.Sound.{IsSound}
use Rattle.set_model.specs.State.{given, late_at, LinkState, State, has_phase_settled, is_settled, link_is_settled, target}
use Rattle.set_model.specs.Step.{opened_link, risen_link, step}
use Rattle.set_model.proofs.Ahead.{put_apart}
use Rattle.set_model.proofs.Lists.{set_twice, get_set_same, same_at, within}
use Rattle.set_model.proofs.Places.{apart_back}
use Rattle.set_model.proofs.Settling.{settled_empty}
use Rattle.set_model.proofs.Soundness.{step_sound}
use Rattle.set_model.proofs.Walk.{IsAt}
use Rattle.set_veiled.specs.Veil.{dormant, veil}
use Rattle.pair_model.specs.Promises.{IsOneMethod}
use Rattle.pair_model.specs.Run.{Message, Past, past_risen}
use Rattle.pair_model.proofs.Kept.{kept_on}
use Rattle.pair_model.proofs.Pairs.{Two, HoldsOf, settings_stay}
use Rattle.pair_model.proofs.Rising.{settled_at}
use Rattle.pair_changeover.specs.Pending.{acked_of, acked_on, accepted_of, accepted_on}
use Rattle.pair_changeover.proofs.Acked.{AckedFirst, AreAcked, IsRest, small, rises_first}
use Rattle.pair_changeover.proofs.Arriving.{rises_at, rises_discards, hears_did}
use Rattle.pair_changeover.proofs.Changes.{Both}
use Rattle.pair_changeover.proofs.Obeying.{not_discarded}
use Rattle.pair_changeover.proofs.Ordered.{heard}
use Rattle.pair_changeover.proofs.Passing.{Rises}
use Rattle.pair_changeover.proofs.Texts.{AreCodes}
use Rattle.pair_changeover.proofs.Whole.{Half, Whole}
use Rattle.pair_streams.proofs.Acting.{Streams}
use Rattle.pair_rises.proofs.Covers.{each}
use Rattle.pair_rises.proofs.Alike.{IsLike}
use Rattle.pair_rises.proofs.Pair.{veil_other, begun_two, joined_two, joins_holds}
use Rattle.pair_rises.proofs.Rising.{Veils, veils_at}

abbrev pub Halves : Two → Type 0
Halves p = Half p.near p.far p.near_past × Half p.far p.near p.far_past

-- with the orders under way it's what pair_changeover keeps
pub whole_of : {emergencies : Bool} (p : Two) → emergencies ≡ false → Streams emergencies p → Halves p → Whole p
whole_of p e v halves = record {
  both = subst (λ (b : Bool). Both b p.near p.far) e v.ordered.both;
  near = halves.0;
  far = halves.1;
}

-- A UNIT IS HEARD
module _ {emergencies : Bool} (mx my : Method) (one : IsOneMethod mx my) (p : Two) (h : HoldsOf mx my p) (v : Streams emergencies p) (e : emergencies ≡ false)
    (k : ℕ) (few : k < length p.near.links) (unit : SignalUnit) (rest : List SignalUnit) (front : units_on k p.back ≡ unit ∷ rest)
    (link : LinkState) (at : IsAt k link Up p.near) where
  pub hears_halves : Halves p → Halves (heard mx my one p h v.ordered k few unit rest front link at)
  hears_halves halves =
      let w = (hears_did mx my one p h (whole_of p e v halves) k few unit rest front link at).whole in
      (w.near, w.far)

-- the same rows, and the same link
first_same : (l : ℕ) (sent : List Message) (s : State) (links : List LinkState) → slice_get links l ≡ slice_get s.links l → AckedFirst l sent s
    → AckedFirst l sent (record s { links = links })
first_same l sent s links same a =
    let count : acked_on l (record s { links = links }) ≡ acked_on l s = ap acked_of same in
    record {
      numbered = a.numbered;
      few = omega (arith, a.few, count);
      first = subst (λ (n : ℕ). AreAcked l s.rows (take n sent)) (sym count) a.first;
      going = λ link there unsettled. a.going link (sym same ∙ there) unsettled;
    }

-- nothing counts as acknowledged
first_none : (l : ℕ) (sent : List Message) (s : State) → IsNumbered (given s) s.rows → acked_on l s ≡ 0
    → ((link : LinkState) → slice_get s.links l ≡ Some link → has_phase_settled link.phase ≡ false → IsRest l link s.rows sent)
    → AckedFirst l sent s
first_none l sent s numbered none rest = record {
  numbered = numbered;
  few = omega (arith, none);
  first = subst (λ (n : ℕ). AreAcked l s.rows (take n sent)) (sym none) (All-nil _);
  going = rest;
}

-- A LINK IS SHOWN AS ANOTHER: where that isn't settled, what is unacknowledged is the rest
module _ (k : ℕ) (s f : State) (link new : LinkState) (there : slice_get s.links k ≡ Some link) (is : IsLike link new) where
  abbrev shown : State
  shown = veil new k s

  there_then : slice_get shown.links k ≡ Some new
  there_then = get_set_same s.links k new (within s.links k link there)

  pub same_acked : (l : ℕ) → acked_on l shown ≡ acked_on l s
  same_acked = each k (λ l. acked_on l shown ≡ acked_on l s) (ap acked_of there_then ∙ is.acked ∙ sym (ap acked_of there)) (λ l d. ap acked_of (veil_other k s new l d))

  pub same_accepted : (l : ℕ) → accepted_on l shown ≡ accepted_on l s
  same_accepted = each k (λ l. accepted_on l shown ≡ accepted_on l s) (ap accepted_of there_then ∙ is.accepted ∙ sym (ap accepted_of there))
      (λ l d. ap accepted_of (veil_other k s new l d))

  pub was_settled : (l : ℕ) → is_settled l shown ≡ true → is_settled l s ≡ true
  was_settled = each k (λ l. is_settled l shown ≡ true → is_settled l s ≡ true)
      (λ e. ap link_is_settled there ∙ is.settled (sym (ap link_is_settled there_then) ∙ e))
      (λ l d e. ap link_is_settled (sym (veil_other k s new l d)) ∙ e)

  pub shown_half : (past : Past) → (has_phase_settled new.phase ≡ false → IsRest k new s.rows (past.sent k)) → Half s f past → Half shown f past
  shown_half past rest half = record {
    equal = λ l e. same_acked l ∙ half.equal l (was_settled l e);
    acked = each k (λ l. AckedFirst l (past.sent l) shown) own (λ l d. first_same l (past.sent l) s shown.links (veil_other k s new l d) (half.acked l));
    none_discarded = half.none_discarded;
    codes = half.codes;
  }
    where
      own : AckedFirst k (past.sent k) shown
      own = record {
        numbered = (half.acked k).numbered;
        few = let few = (half.acked k).few in let same = same_acked k in omega (arith, few, same);
        first = subst (λ (n : ℕ). AreAcked k s.rows (take n (past.sent k))) (sym (same_acked k)) (half.acked k).first;
        going = λ other found unsettled.
            let one : new ≡ other = sym (same_at shown.links k new other there_then found) in
            subst (λ (x : LinkState). IsRest k x s.rows (past.sent k)) one (rest (ap (λ (x : LinkState). has_phase_settled x.phase) one ∙ unsettled));
      }

  pub shown_far : (past : Past) → Half f s past → Half f shown past
  shown_far past half = record {
    equal = λ l e. half.equal l e ∙ sym (same_accepted l);
    acked = half.acked;
    none_discarded = half.none_discarded;
    codes = half.codes;
  }

pub shows_halves : (p : Two) (k : ℕ) (link new : LinkState) → slice_get p.near.links k ≡ Some link → IsLike link new
    → (has_phase_settled new.phase ≡ false → IsRest k new p.near.rows (p.near_past.sent k)) → Halves p → Halves (record p { near = veil new k p.near })
shows_halves p k link new there is rest halves =
    (shown_half k p.near p.far link new there is p.near_past rest halves.0, shown_far k p.near p.far link new there is p.far_past halves.1)

-- AN ACKNOWLEDGEMENT IS QUEUED
pub told_halves : (p : Two) (l fsn : ℕ) → Halves p → Halves (record p { near = queued (Coa l fsn) p.near })
told_halves p l fsn halves = (
  record {
    equal = halves.0.equal;
    acked = λ n. (small n (p.near_past.sent n) (λ m. Unit {0}) ⊥).queues (Coa l fsn) p.near (halves.0.acked n);
    none_discarded = put_apart (given p.near) p.near.rows
        (text p.near.settings.profile (Coa l fsn) p.near.settings.sio p.near.settings.dpc p.near.settings.opc)
        (fate_on (target p.near.links)) was_discarded (not_discarded (target p.near.links)) ∙ halves.0.none_discarded;
    codes = halves.0.codes;
  },
  record { equal = halves.1.equal; acked = halves.1.acked; none_discarded = halves.1.none_discarded; codes = halves.1.codes },
)

-- the link itself isn't settled then
pub ft_settled : {X : Type 0} (k : ℕ) (s : State) → is_settled k s ≡ false → is_settled k s ≡ true → X
ft_settled k s off on = absurd (let no : false ≡ true = sym off ∙ on in cc)

-- A LIFE BEGINS
module _ (mx my : Method) (p : Two) (h : HoldsOf mx my p) (k : ℕ) (few : k < length p.near.links)
    (near_settled : is_settled k p.near ≡ true) (far_settled : is_settled k p.far ≡ true) where
  abbrev t : State
  t = (step p.near (UpEvent k)).state

  abbrev g : State
  g = veil (dormant p.far.settings) k p.far

  abbrev a : Rises k p.near t
  a = let at = settled_at k p.near near_settled in rises_at k p.near h.near_sound at.0 at.1

  abbrev b : Veils k p.far g
  b = let at = settled_at k p.far far_settled in veils_at k p.far h.far_sound at.0 at.1

  dormant_there : slice_get g.links k ≡ Some (dormant p.far.settings)
  dormant_there = let at = settled_at k p.far far_settled in get_set_same p.far.links k (dormant p.far.settings) (within p.far.links k at.0 at.1.there)

  sent_other : (l : ℕ) (past : Past) → (k == l) ≡ false → (past_risen k past).sent l ≡ past.sent l
  sent_other l past d = rw (apart_back k l d) refl

  pub begins_halves : Halves p → Halves (begun_two mx my p h k few near_settled far_settled)
  begins_halves halves = (
    record {
      equal = each k (λ l. is_settled l t ≡ true → acked_on l t ≡ accepted_on l g) (λ e. ft_settled k t a.unsettled_then e)
          (λ l d e. ap acked_of (a.links l d) ∙ halves.0.equal l (ap link_is_settled (sym (a.links l d)) ∙ e) ∙ sym (ap accepted_of (b.links l d)));
      acked = λ l. rises_first l k p.near p.near_past h.near_sound near_settled (halves.0.acked l);
      none_discarded = (let at = settled_at k p.near near_settled in rises_discards k p.near h.near_sound at.0 at.1) ∙ halves.0.none_discarded;
      codes = subst AreCodes (sym (settings_stay p.near (UpEvent k))) halves.0.codes;
    },
    record {
      equal = each k (λ l. is_settled l g ≡ true → acked_on l g ≡ accepted_on l t) (λ e. ft_settled k g b.unsettled_then e)
          (λ l d e. ap acked_of (b.links l d) ∙ halves.1.equal l (ap link_is_settled (sym (b.links l d)) ∙ e) ∙ sym (ap accepted_of (a.links l d)));
      acked = each k (λ l. AckedFirst l ((past_risen k p.far_past).sent l) g)
          (first_none k ((past_risen k p.far_past).sent k) g (halves.1.acked k).numbered (ap acked_of dormant_there)
          (λ link there unsettled. let at = settled_at k p.far far_settled in
          let none = settled_empty p.far k at.0 h.far_sound at.1.there at.1.phase_is in
          let is : dormant p.far.settings ≡ link = sym (same_at g.links k (dormant p.far.settings) link dormant_there there) in
          inr (ap (λ (x : LinkState). x.phase) (sym is), none.unack_none)))
          (λ l d. subst (λ (sent : List Message). AckedFirst l sent g) (sym (sent_other l p.far_past d))
          (first_same l (p.far_past.sent l) p.far g.links (veil_other k p.far (dormant p.far.settings) l d) (halves.1.acked l)));
      none_discarded = halves.1.none_discarded;
      codes = halves.1.codes;
    },
  )

-- THE OTHER END JOINS IT
module _ (mx my : Method) (one : IsOneMethod mx my) (s f : State) (near_past far_past : Past) (out back : List (List SignalUnit)) (k : ℕ)
    (sound : IsSound s) (link : LinkState) (at : IsAt k link Settled s) (few : k < length s.links)
    (h : HoldsOf mx my (record { near = veil (dormant s.settings) k s; far = f; near_past = near_past; far_past = far_past; out = out; back = back })) where
  abbrev under : State
  under = veil (dormant s.settings) k s

  abbrev two : Two
  two = record { near = under; far = f; near_past = near_past; far_past = far_past; out = out; back = back }

  abbrev then_s : State
  then_s = (step s (UpEvent k)).state

  abbrev rise : Rises k s then_s
  rise = rises_at k s sound link at

  abbrev cover : Veils k s under
  cover = veils_at k s sound link at

  abbrev pub joined : Two
  joined = joined_two mx my s f near_past far_past out back k sound link at few h

  under_there : slice_get under.links k ≡ Some (dormant s.settings)
  under_there = get_set_same s.links k (dormant s.settings) (within s.links k link at.there)

  accepted_same : (l : ℕ) → accepted_on l then_s ≡ accepted_on l under
  accepted_same = each k (λ l. accepted_on l then_s ≡ accepted_on l under) (rise.accepted_then ∙ sym cover.accepted_then)
      (λ l d. ap accepted_of (rise.links l d ∙ sym (cover.links l d)))

  none_acked : acked_on k (step s (UpEvent k)).state ≡ 0
  unfolding step
  none_acked = rw (at.there, at.phase_is) (ap (λ (ls : List LinkState). acked_of (slice_get ls k)) (set_twice s.links k (risen_link s.settings.profile s.settings.method (late_at k s)) (opened_link (risen_link s.settings.profile s.settings.method (late_at k s))))
      ∙ ap acked_of (get_set_same s.links k (opened_link (risen_link s.settings.profile s.settings.method (late_at k s))) (within s.links k link at.there)))

  -- it's as it was before the veil
  bare_first : (l : ℕ) → (k == l) ≡ false → AckedFirst l (near_past.sent l) under → AckedFirst l (near_past.sent l) s
  bare_first l d a = first_same l (near_past.sent l) under s.links (sym (cover.links l d)) a

  rises_other : (l : ℕ) → (k == l) ≡ false → AckedFirst l (near_past.sent l) s → AckedFirst l (near_past.sent l) then_s
  rises_other l d a = subst (λ (sent : List Message). AckedFirst l sent then_s) (rw (apart_back k l d) refl)
      (rises_first l k s near_past sound cover.settled_was a)

  -- and what was sent there is nothing yet
  own_first : AckedFirst k (near_past.sent k) then_s
  own_first = first_none k (near_past.sent k) then_s (step_sound s (UpEvent k) sound).numbered none_acked
      (λ other there unsettled. inl ((kept_on mx my one joined (joins_holds mx my s f near_past far_past out back k sound link at few h) k).going other there unsettled).unacked)

  pub joins_halves : Halves two → Halves joined
  joins_halves halves = (
    record {
      equal = each k (λ l. is_settled l then_s ≡ true → acked_on l then_s ≡ accepted_on l f) (λ e. ft_settled k then_s rise.unsettled_then e)
          (λ l d e. let same = rise.links l d ∙ sym (cover.links l d) in ap acked_of same ∙ halves.0.equal l (ap link_is_settled (sym same) ∙ e));
      acked = each k (λ l. AckedFirst l (near_past.sent l) then_s) own_first (λ l d. rises_other l d (bare_first l d (halves.0.acked l)));
      none_discarded = rises_discards k s sound link at ∙ halves.0.none_discarded;
      codes = subst AreCodes (sym (settings_stay s (UpEvent k))) halves.0.codes;
    },
    record {
      equal = λ l e. halves.1.equal l e ∙ sym (accepted_same l);
      acked = halves.1.acked;
      none_discarded = halves.1.none_discarded;
      codes = halves.1.codes;
    },
  )
