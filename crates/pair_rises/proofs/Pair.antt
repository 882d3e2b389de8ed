-- WHAT A RISE DOES TO TWO ENDS, the other one seen under its veil: a life begins (`begins_holds`, `begins_streams`), the other
-- end joins it (`joins_holds`, `joins_streams`), or fills its line before that (`fills_holds`). What holds of both ends
-- in pair_model (`HoldsOf`) and in pair_streams (`Streams`) is kept, word for word.
use Rattle.std.proofs.Common.{refl, arith, ◌≡◌, ◌∙◌, ap, sym, subst, ℕ, ◌<◌, ◌==◌, ◌-◌, Bool, true, false, List, [], ◌∷◌, ◌++◌, length, slice_get}
use Rattle.l2_units.specs.declared.unit.Unit.{Unit as SignalUnit}
use Rattle.pair_steps.specs.Lines.{units_on, with_units, joined_on}
use Rattle.set_events.specs.declared.config.Method.{Method}
use Rattle.set_events.specs.declared.event.Event.TheVariants.{Up as UpEvent}
use Rattle.set_events.specs.declared.answer.Fate.{Fate}
use Rattle.set_events.specs.declared.answer.Fate.TheVariants.{Waiting, Parked}
use Rattle.set_route.specs.Routing.{raised}
use Rattle.set_model.specs.declared.phase.Phase.TheVariants.{Settled}
use Rattle.set_model.specs.Rows.{is_parked, is_back, all_with}
use Rattle.set_model.specs.Sound.{IsSound}
use Rattle.set_model.specs.State.{LinkState, State, Settings, is_settled, link_is_settled}
use Rattle.set_model.specs.Step.{step}
use Rattle.set_model.proofs.Lists.{get_set_other, length_set}
use Rattle.set_model.proofs.Places.{itself, apart_back}
use Rattle.set_model.proofs.Rows.{moved_same}
use Rattle.set_model.proofs.Soundness.{step_sound}
use Rattle.set_model.proofs.Staying.{keeps_messages}
use Rattle.set_model.proofs.Walk.{link_count_stays, IsAt}
use Rattle.set_veiled.specs.Veil.{dormant, veil}
use Rattle.set_veiled.proofs.Sound.{veils_stay_sound}
use Rattle.pair_model.specs.Run.{messages, Past, past_risen, cleared_at}
use Rattle.pair_model.proofs.Counts.{count_stays, CountStays}
use Rattle.pair_model.proofs.Following.{Follows, up_follows}
use Rattle.pair_model.proofs.Moving.{same_side}
use Rattle.pair_model.proofs.Pairs.{Two, side, TiedAt, HoldsOf, on_set, on_other, no_other, like, settings_stay, goes_on}
use Rattle.pair_model.proofs.Rising.{settled_at, new_side}
use Rattle.pair_model.proofs.Tied.{keeps_itself, KeepBodies, keep_bodies, Tied, turned, follows}
use Rattle.pair_changeover.specs.Pending.{queue, pending, acked_of, acked_on, accepted_of, accepted_on}
use Rattle.pair_changeover.proofs.Arriving.{rises_at}
use Rattle.pair_changeover.proofs.Passing.{Rises}
use Rattle.pair_changeover.proofs.Texts.{AreCodes}
use Rattle.pair_changeover.proofs.Views.{view, NoneAbout}
use Rattle.pair_streams.proofs.Acting.{Streams}
use Rattle.pair_streams.proofs.Codes.{far_carried, far_in}
use Rattle.pair_streams.proofs.Flowing.{back_by}
use Rattle.pair_streams.proofs.Known.{covers_on}
use Rattle.pair_streams.proofs.Rising.{rising_on}
use Rattle.pair_rises.specs.Rises.{idle_unit}
use Rattle.pair_rises.proofs.Covers.{each}
use Rattle.pair_rises.proofs.Going.{up_in, up_flow, still_in, still_flow}
use Rattle.pair_rises.proofs.Open.{IsOpen}
use Rattle.pair_rises.proofs.Rising.{Veils, veils_at, begins_both, begins_none, joins_both}
use Rattle.pair_rises.proofs.Tying.{first_tied, joins_tied, fills_tied}

-- another link follows under a veil
module _ (k : ℕ) (s : State) (cover : LinkState) where
  pub veil_other : (l : ℕ) → (k == l) ≡ false → slice_get (veil cover k s).links l ≡ slice_get s.links l
  veil_other l d = get_set_other s.links k l cover (no_other k l d)

  pub veil_follows : (l : ℕ) → (k == l) ≡ false → Follows l s (veil cover k s)
  veil_follows l d = λ link there unsettled. record {
    link = link;
    there = sym (veil_other l d) ∙ there;
    unsettled = unsettled;
    control = refl;
    profile = refl;
    acked = refl;
    unack_same = refl;
  }

  pub veil_counts : (l : ℕ) → (k == l) ≡ false → CountStays l s (veil cover k s)
  veil_counts l d = λ link there. (link, sym (veil_other l d) ∙ there, refl)

  -- from under it
  follows_from : (t : State) (l : ℕ) → (k == l) ≡ false → Follows l s t → Follows l (veil cover k s) t
  follows_from t l d f = λ link there unsettled.
      let g = f link there unsettled in
      record {
        link = g.link;
        there = veil_other l d ∙ g.there;
        unsettled = g.unsettled;
        control = g.control;
        profile = g.profile;
        acked = g.acked;
        unack_same = g.unack_same;
      }

  counts_from : (t : State) (l : ℕ) → (k == l) ≡ false → CountStays l s t → CountStays l (veil cover k s) t
  counts_from t l d c = λ link there. let g = c link there in (g.0, veil_other l d ∙ g.1, g.2)

-- what a rise does to routing and to what waits for a code
rises_routing : (k : ℕ) (s : State) (link : LinkState) → IsAt k link Settled s → (step s (UpEvent k)).state.routing ≡ raised k s.routing
unfolding step
rises_routing k s link at = rw (at.there, at.phase_is) refl

parked_not_back : (c : ℕ) (fate : Fate) → is_parked fate ≡ true → is_back c fate ≡ false
parked_not_back c Parked e = refl
parked_not_back c _ e = absurd cc

rises_backs : (k c : ℕ) (s : State) (link : LinkState) → IsAt k link Settled s → back_by c (step s (UpEvent k)).state ≡ back_by c s
unfolding step
rises_backs k c s link at = rw (at.there, at.phase_is)
    (ap messages (moved_same is_parked (is_back c) (all_with (Waiting k)) s.rows (λ row. refl)
    (λ fate e. parked_not_back c fate e)))

-- A LIFE BEGINS
module _ (mx my : Method) (p : Two) (h : HoldsOf mx my p) (k : ℕ) (few : k < length p.near.links)
    (near_settled : is_settled k p.near ≡ true) (far_settled : is_settled k p.far ≡ true) where
  abbrev near_then : State
  near_then = (step p.near (UpEvent k)).state

  abbrev far_then : State
  far_then = veil (dormant p.far.settings) k p.far

  abbrev pub begun_two : Two
  begun_two = record {
    near = near_then;
    far = far_then;
    near_past = past_risen k p.near_past;
    far_past = past_risen k p.far_past;
    out = with_units k [] p.out;
    back = with_units k [] p.back;
  }

  cleared_here : {X : Type 0} (f : ℕ → List X) → cleared_at k f k ≡ []
  cleared_here f = rw (itself k) refl

  cleared_other : {X : Type 0} (l : ℕ) (f : ℕ → List X) → (k == l) ≡ false → cleared_at k f l ≡ f l
  cleared_other l f d = rw (apart_back k l d) refl

  begun_here : TiedAt k mx my begun_two
  begun_here =
      let a = settled_at k p.near near_settled in
      let b = settled_at k p.far far_settled in
      like k mx my (new_side near_then) (side k near_then (past_risen k p.near_past)) (new_side far_then) (side k far_then (past_risen k p.far_past)) [] _ [] _
      (same_side refl (cleared_here p.near_past.sent) (cleared_here p.near_past.taken))
      (same_side refl (cleared_here p.far_past.sent) (cleared_here p.far_past.taken))
      (on_set k [] p.out (omega (arith, few, h.out_lines)))
      (on_set k [] p.back (omega (arith, few, h.back_lines)))
      (first_tied k p.near.settings.profile mx my p.near p.far h.near_sound h.far_sound refl h.near_method h.profiles
      h.far_method a.0 b.0 a.1 b.1)

  begun_there : (l : ℕ) → (k == l) ≡ false → TiedAt l mx my begun_two
  begun_there l d =
      let one = goes_on mx my p h (UpEvent k) l d (up_follows l k p.near (no_other k l d)) in
      let back = turned l mx my _ _ _ _ one in
      let two = follows l my mx (side l p.far p.far_past) (side l near_then p.near_past) (units_on l p.back)
      (units_on l p.out) far_then (keeps_itself _) (veil_counts k p.far (dormant p.far.settings) l d)
      (veil_follows k p.far (dormant p.far.settings) l d) back in
      like l mx my (side l near_then p.near_past) (side l near_then (past_risen k p.near_past))
      (side l far_then p.far_past) (side l far_then (past_risen k p.far_past)) (units_on l p.out) _
      (units_on l p.back) _
      (same_side refl (cleared_other l p.near_past.sent d) (cleared_other l p.near_past.taken d))
      (same_side refl (cleared_other l p.far_past.sent d) (cleared_other l p.far_past.taken d))
      (on_other l k [] p.out d)
      (on_other l k [] p.back d)
      (turned l my mx _ _ _ _ two)

  pub begins_holds : HoldsOf mx my begun_two
  begins_holds =
      let count = link_count_stays p.near (UpEvent k) in
      let far_count = length_set p.far.links k (dormant p.far.settings) in
      record {
        near_sound = step_sound p.near (UpEvent k) h.near_sound;
        far_sound = veils_stay_sound k p.far h.far_sound far_settled;
        near_method = ap (λ (s : Settings). s.method) (settings_stay p.near (UpEvent k)) ∙ h.near_method;
        far_method = h.far_method;
        profiles = h.profiles ∙ sym (ap (λ (s : Settings). s.profile) (settings_stay p.near (UpEvent k)));
        far_links = far_count ∙ h.far_links ∙ sym count;
        out_lines = length_set p.out k [] ∙ h.out_lines ∙ sym count;
        back_lines = length_set p.back k [] ∙ h.back_lines ∙ sym count;
        ties = each k (λ l. TiedAt l mx my begun_two) begun_here begun_there;
      }

  module _ {emergencies : Bool} (w : Streams emergencies p) where
    pub begins_streams : Streams emergencies begun_two
    begins_streams =
        let near_at = settled_at k p.near near_settled in
        let far_at = settled_at k p.far far_settled in
        let a = rises_at k p.near h.near_sound near_at.0 near_at.1 in
        let b = veils_at k p.far h.far_sound far_at.0 far_at.1 in
        let routing = rises_routing k p.near near_at.0 near_at.1 in
        let backs : (c : ℕ) → back_by c near_then ≡ back_by c p.near = λ c. rises_backs k c p.near near_at.0 near_at.1 in
        let queues : (l : ℕ) → pending l far_then near_then ≡ pending l p.far p.near =
        each k (λ l. pending l far_then near_then ≡ pending l p.far p.near)
        (b.empty (accepted_on k near_then - acked_on k far_then) ∙ sym (b.empty (accepted_on k p.near - acked_on k p.far)))
        (λ l d. ap (λ (i : ℕ). queue (i - acked_on l far_then) l p.far.rows) (ap accepted_of (a.links l d))
        ∙ ap (λ (i : ℕ). queue (accepted_on l p.near - i) l p.far.rows) (ap acked_of (b.links l d))) in
        record {
          ordered = record {
            both = begins_both k p.near p.far h.near_sound h.far_sound near_at.0 far_at.0 near_at.1 far_at.1 w.ordered.both;
            near_codes = subst AreCodes (sym (settings_stay p.near (UpEvent k))) w.ordered.near_codes;
            far_codes = w.ordered.far_codes;
          };
          out_lost = w.out_lost;
          back_lost = w.back_lost;
          out = up_flow k p.near p.near near_then p.far far_then h.near_sound a refl refl (λ l d. refl) b.links routing backs
              p.near_past.offered p.far_past.got w.out_lost w.out
              (λ c m i x. still_in p.far far_then p.near near_then queues refl (λ c. refl) refl m i);
          back = still_flow p.far far_then p.near near_then queues refl (λ c. refl) refl
              p.far_past.offered p.near_past.got w.back_lost w.back
              (λ c m i x. up_in k p.near p.near near_then p.far far_then h.near_sound a refl refl (λ l d. refl) b.links routing backs m i);
          near_covers = covers_on _ _ p.near (UpEvent k) (λ body e. absurd cc) w.near_covers;
          far_covers = record {
            managed = w.far_covers.managed;
            numbered = w.far_covers.numbered;
            marked = w.far_covers.marked;
            known = w.far_covers.known;
            gone = w.far_covers.gone;
          };
          near_rises = rising_on p.near_past p.near (UpEvent k) w.near_rises;
          far_rises = w.far_rises;
          out_whole = w.out_whole;
          back_whole = w.back_whole;
        }

    -- no order stands about the link at the end that hasn't joined; and so it stays with other links
    module _ where
      abbrev rise : Rises k p.near near_then
      rise = let at = settled_at k p.near near_settled in rises_at k p.near h.near_sound at.0 at.1

      abbrev cover : Veils k p.far far_then
      cover = let at = settled_at k p.far far_settled in veils_at k p.far h.far_sound at.0 at.1

      queues_so : (l : ℕ) → pending l far_then near_then ≡ pending l p.far p.near
      queues_so = each k (λ l. pending l far_then near_then ≡ pending l p.far p.near)
          (cover.empty (accepted_on k near_then - acked_on k far_then) ∙ sym (cover.empty (accepted_on k p.near - acked_on k p.far)))
          (λ l d. ap (λ (i : ℕ). queue (i - acked_on l far_then) l p.far.rows) (ap accepted_of (rise.links l d))
          ∙ ap (λ (i : ℕ). queue (accepted_on l p.near - i) l p.far.rows) (ap acked_of (cover.links l d)))

      pub begins_opens : IsOpen k far_then near_then
      begins_opens = record {
        none = begins_none k p.near near_then p.far far_then rise cover w.ordered.both;
        goes = rise.unsettled_then;
      }

      pub begins_near : (l : ℕ) → (k == l) ≡ false → IsOpen l p.near p.far → IsOpen l near_then far_then
      begins_near l d was =
          let at = settled_at k p.near near_settled in
          record {
            none = λ m i about. was.none m (up_in k p.near p.near near_then p.far far_then h.near_sound rise refl refl (λ n e. refl) cover.links
                (rises_routing k p.near at.0 at.1) (λ c. rises_backs k c p.near at.0 at.1) m i) about;
            goes = ap link_is_settled (cover.links l d) ∙ was.goes;
          }

      pub begins_far : (l : ℕ) → (k == l) ≡ false → IsOpen l p.far p.near → IsOpen l far_then near_then
      begins_far l d was = record {
        none = λ m i about. was.none m (still_in p.far far_then p.near near_then queues_so refl (λ c. refl) refl m i) about;
        goes = ap link_is_settled (rise.links l d) ∙ was.goes;
      }

-- THE OTHER END JOINS, or fills its line: `s` is its state, seen in `p` under the veil
module _ (mx my : Method) (s f : State) (near_past far_past : Past) (out back : List (List SignalUnit)) (k : ℕ)
    (sound : IsSound s) (link : LinkState) (at : IsAt k link Settled s) (few : k < length s.links)
    (h : HoldsOf mx my (record { near = veil (dormant s.settings) k s; far = f; near_past = near_past; far_past = far_past; out = out; back = back })) where
  abbrev under : State
  under = veil (dormant s.settings) k s

  abbrev two : Two
  two = record { near = under; far = f; near_past = near_past; far_past = far_past; out = out; back = back }

  abbrev then_s : State
  then_s = (step s (UpEvent k)).state

  abbrev pub joined_two : Two
  joined_two = record two { near = then_s }

  keep : KeepBodies s.rows then_s.rows
  keep = keep_bodies s then_s sound.numbered (keeps_messages s (UpEvent k) sound.numbered)

  joined_here : TiedAt k mx my joined_two
  joined_here = joins_tied k mx my s sound h.near_method link at (near_past.sent k) (near_past.taken k) (side k f far_past)
      (units_on k out) (units_on k back) (h.ties k) keep

  joined_there : (l : ℕ) → (k == l) ≡ false → TiedAt l mx my joined_two
  joined_there l d = follows l mx my (side l under near_past) (side l f far_past) (units_on l out) (units_on l back) then_s keep
      (counts_from k s (dormant s.settings) then_s l d (count_stays l s (UpEvent k) d))
      (follows_from k s (dormant s.settings) then_s l d (up_follows l k s (no_other k l d))) (h.ties l)

  pub joins_holds : HoldsOf mx my joined_two
  joins_holds =
      let count = link_count_stays s (UpEvent k) in
      let same = length_set s.links k (dormant s.settings) in
      record {
        near_sound = step_sound s (UpEvent k) sound;
        far_sound = h.far_sound;
        near_method = ap (λ (t : Settings). t.method) (settings_stay s (UpEvent k)) ∙ h.near_method;
        far_method = h.far_method;
        profiles = h.profiles ∙ sym (ap (λ (t : Settings). t.profile) (settings_stay s (UpEvent k)));
        far_links = h.far_links ∙ same ∙ sym count;
        out_lines = h.out_lines ∙ same ∙ sym count;
        back_lines = h.back_lines ∙ same ∙ sym count;
        ties = each k (λ l. TiedAt l mx my joined_two) joined_here joined_there;
      }

  module _ {emergencies : Bool} (w : Streams emergencies two) (none : NoneAbout k (view under f)) (goes : is_settled k f ≡ false) where
    pub joins_streams : Streams emergencies joined_two
    joins_streams =
        let a = rises_at k s sound link at in
        let b = veils_at k s sound link at in
        let routing = rises_routing k s link at in
        let backs : (c : ℕ) → back_by c then_s ≡ back_by c s = λ c. rises_backs k c s link at in
        let accepted : (l : ℕ) → accepted_on l then_s ≡ accepted_on l under =
        each k (λ l. accepted_on l then_s ≡ accepted_on l under) (a.accepted_then ∙ sym b.accepted_then)
        (λ l d. ap accepted_of (a.links l d ∙ sym (b.links l d))) in
        record {
          ordered = record {
            both = joins_both k s f sound link at w.ordered.both none goes;
            near_codes = subst AreCodes (sym (settings_stay s (UpEvent k))) w.ordered.near_codes;
            far_codes = w.ordered.far_codes;
          };
          out_lost = w.out_lost;
          back_lost = w.back_lost;
          out = up_flow k s under then_s f f sound a refl refl b.links (λ l d. refl) routing backs
              near_past.offered far_past.got w.out_lost w.out
              (λ c m i x. far_in under then_s f accepted m i);
          back = far_carried under then_s f accepted far_past.offered near_past.got w.back_lost
              (λ c m i x. up_in k s under then_s f f sound a refl refl b.links (λ l d. refl) routing backs m i) w.back;
          near_covers = covers_on _ _ s (UpEvent k) (λ body e. absurd cc) (record {
            managed = w.near_covers.managed;
            numbered = w.near_covers.numbered;
            marked = w.near_covers.marked;
            known = w.near_covers.known;
            gone = w.near_covers.gone;
          });
          far_covers = w.far_covers;
          near_rises = rising_on near_past s (UpEvent k) w.near_rises;
          far_rises = w.far_rises;
          out_whole = w.out_whole;
          back_whole = w.back_whole;
        }

  -- other open links
  module _ where
    abbrev joining : Rises k s then_s
    joining = rises_at k s sound link at

    abbrev veiling : Veils k s under
    veiling = veils_at k s sound link at

    pub joins_near : (l : ℕ) → IsOpen l under f → IsOpen l then_s f
    joins_near l was = record {
      none = λ m i about. was.none m (up_in k s under then_s f f sound joining refl refl veiling.links (λ n e. refl)
          (rises_routing k s link at) (λ c. rises_backs k c s link at) m i) about;
      goes = was.goes;
    }

    pub joins_far : (l : ℕ) → (k == l) ≡ false → IsOpen l f under → IsOpen l f then_s
    joins_far l d was = record {
      none = λ m i about. was.none m (far_in under then_s f (each k (λ n. accepted_on n then_s ≡ accepted_on n under)
          (joining.accepted_then ∙ sym veiling.accepted_then) (λ n e. ap accepted_of (joining.links n e ∙ sym (veiling.links n e)))) m i) about;
      goes = ap link_is_settled (joining.links l d ∙ sym (veiling.links l d)) ∙ was.goes;
    }

  -- it fills its line
  abbrev pub filled_two : Two
  filled_two = record two { out = joined_on k (idle_unit s.settings.profile s.settings.method) out }

  abbrev idle : SignalUnit
  idle = idle_unit s.settings.profile s.settings.method

  pub fills_holds : HoldsOf mx my filled_two
  fills_holds = record {
    near_sound = h.near_sound;
    far_sound = h.far_sound;
    near_method = h.near_method;
    far_method = h.far_method;
    profiles = h.profiles;
    far_links = h.far_links;
    out_lines = length_set out k _ ∙ h.out_lines;
    back_lines = h.back_lines;
    ties = each k (λ l. TiedAt l mx my filled_two)
        (like k mx my _ _ _ _ (units_on k out ++ idle ∷ []) _ _ _ refl refl
        (on_set k (units_on k out ++ idle ∷ []) out (let same = length_set s.links k (dormant s.settings) in omega (arith, few, h.out_lines, same))) refl
        (subst (λ (m : Method). Tied k mx my (side k under near_past) (side k f far_past) (units_on k out ++ idle_unit s.settings.profile m ∷ []) (units_on k back))
        (sym h.near_method)
        (fills_tied k mx my s sound h.near_method link at (near_past.sent k) (near_past.taken k) (side k f far_past)
        (units_on k out) (units_on k back) (h.ties k))))
        (λ l d. like l mx my _ _ _ _ _ _ _ _ refl refl (on_other l k (units_on k out ++ idle ∷ []) out d) refl (h.ties l));
  }
