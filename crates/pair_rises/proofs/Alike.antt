-- A LINK IS SHOWN AS ANOTHER that counts the same, is up where it is, and is settled there at most (`IsLike`): what holds
-- of both ends is kept, where the tie of that link is (`shows_holds`, `shows_streams`), and so is what holds of awaited
-- links (`shows_near`, `shows_far`). So it's nothing to it how many late orders a link shows (`recounts_tied`).
use Rattle.std.proofs.Common.{refl, ◌≡◌, ◌∙◌, ap, ap₂, sym, subst, ℕ, ◌==◌, ◌-◌, ◌+◌, ◌%◌, Bool, true, false, length, slice_get, Option, Some, inl}
use Rattle.l2_units.specs.declared.profile.Profile.{Profile}
use Rattle.l2_window.specs.Window.{fsn_count, fsn_before_first}
use Rattle.set_events.specs.declared.config.Method.{Method}
use Rattle.set_model.specs.Sound.{IsSound}
use Rattle.set_model.specs.State.{LinkState, State, has_phase_up, has_phase_settled, is_up, is_settled, link_is_up, link_is_settled}
use Rattle.set_model.proofs.Lists.{get_set_same, within, same_at, length_set}
use Rattle.set_veiled.specs.Veil.{veil}
use Rattle.pair_model.specs.Run.{Message}
use Rattle.pair_model.proofs.Counts.{CountStays}
use Rattle.pair_model.proofs.Following.{Follows}
use Rattle.pair_model.proofs.Pairs.{Two, TiedAt, HoldsOf}
use Rattle.pair_model.proofs.Tied.{keeps_itself, follows}
use Rattle.pair_changeover.specs.Pending.{pending, queue, acked_of, acked_on, accepted_of, accepted_on}
use Rattle.pair_changeover.proofs.Changes.{Both, by_link}
use Rattle.pair_changeover.proofs.Views.{view, last_of, last_on, Among, In, stands_aside, stayed, was_in, carries}
use Rattle.pair_streams.proofs.Acting.{Streams}
use Rattle.pair_streams.proofs.Codes.{far_carried, far_in}
use Rattle.pair_rises.proofs.Covers.{each}
use Rattle.pair_rises.proofs.Going.{still_in, still_flow}
use Rattle.pair_rises.proofs.Open.{IsOpen}
use Rattle.pair_rises.proofs.Pair.{veil_follows, veil_counts}

pub record IsLike (link new : LinkState) : Type 0 where
  pub up : has_phase_up new.phase ≡ has_phase_up link.phase
  pub settled : has_phase_settled new.phase ≡ true → has_phase_settled link.phase ≡ true
  pub accepted : new.accepted ≡ link.accepted
  pub acked : new.acked ≡ link.acked
  pub profile : new.profile ≡ link.profile

false_by : (a b : Bool) → (b ≡ true → a ≡ true) → a ≡ false → b ≡ false
false_by a false within e = refl
false_by a true within e = absurd (let no : true ≡ false = sym (within refl) ∙ e in cc)

module _ (s f : State) (k : ℕ) (link new : LinkState) (there : slice_get s.links k ≡ Some link) (is : IsLike link new) where
  abbrev shown : State
  shown = veil new k s

  on_each : (P : ℕ → Option LinkState → Option LinkState → Type 0) → P k (Some link) (Some new)
      → ((n : ℕ) (o : Option LinkState) → (k == n) ≡ false → P n o o) → (n : ℕ) → P n (slice_get s.links n) (slice_get shown.links n)
  on_each = by_link k link new s shown there refl

  same_up : (n : ℕ) → is_up n shown ≡ is_up n s
  same_up = on_each (λ n old now. link_is_up now ≡ link_is_up old) (is.up) (λ n o d. refl)

  was_settled : (n : ℕ) → is_settled n shown ≡ true → is_settled n s ≡ true
  was_settled = on_each (λ n old now. link_is_settled now ≡ true → link_is_settled old ≡ true) (is.settled) (λ n o d e. e)

  same_accepted : (n : ℕ) → accepted_on n shown ≡ accepted_on n s
  same_accepted = on_each (λ n old now. accepted_of now ≡ accepted_of old) (is.accepted) (λ n o d. refl)

  same_acked : (n : ℕ) → acked_on n shown ≡ acked_on n s
  same_acked = on_each (λ n old now. acked_of now ≡ acked_of old) (is.acked) (λ n o d. refl)

  same_last : (n : ℕ) → last_on n shown ≡ last_on n s
  same_last = on_each (λ n old now. last_of now ≡ last_of old)
      (ap₂ (λ (count : ℕ) (profile : Profile). (count + fsn_before_first profile) % fsn_count profile) is.accepted is.profile) (λ n o d. refl)

  near_queue : (n : ℕ) → pending n shown f ≡ pending n s f
  near_queue n = ap (λ (i : ℕ). queue (accepted_on n f - i) n s.rows) (same_acked n)

  far_queue : (n : ℕ) → pending n f shown ≡ pending n f s
  far_queue n = ap (λ (i : ℕ). queue (i - acked_on n f) n f.rows) (same_accepted n)

  near_was : (m : Message) → In m (view shown f) → In m (view s f)
  near_was m i = still_in s shown f f near_queue refl (λ c. refl) refl m i

  far_was : (m : Message) → In m (view f shown) → In m (view f s)
  far_was m i = far_in s shown f same_accepted m i

  shows_both : {emergencies : Bool} → Both emergencies s f → Both emergencies shown f
  shows_both o = record {
    near = carries (view s f) (view shown f) (view f s) (view f shown) (record {
      came = λ n m a. stayed (subst (Among m) (near_queue n) a);
      came_aside = λ m a. was_in (stands_aside a);
      none_up = λ n e. o.near.none_up n (sym (same_up n) ∙ e);
      none_settled = λ n e. o.near.none_settled n e;
      accepted = λ n. inl (same_last n);
      apart = λ n e. o.near.apart n (was_settled n e);
    }) o.near;
    far = carries (view f s) (view f shown) (view s f) (view shown f) (record {
      came = λ n m a. stayed (subst (Among m) (far_queue n) a);
      came_aside = λ m a. was_in (stands_aside a);
      none_up = λ n e. o.far.none_up n e;
      none_settled = λ n e. o.far.none_settled n (was_settled n e);
      accepted = λ n. inl refl;
      apart = λ n e. same_up n ∙ o.far.apart n e;
    }) o.far;
  }

  pub shows_near : (l : ℕ) → IsOpen l s f → IsOpen l shown f
  shows_near l was = record { none = λ m i about. was.none m (near_was m i) about; goes = was.goes }

  pub shows_far : (l : ℕ) → IsOpen l f s → IsOpen l f shown
  shows_far l was = record { none = λ m i about. was.none m (far_was m i) about; goes = false_by (is_settled l s) (is_settled l shown) (was_settled l) was.goes }

module _ (mx my : Method) (p : Two) (h : HoldsOf mx my p) (k : ℕ) (link new : LinkState) (there : slice_get p.near.links k ≡ Some link) (is : IsLike link new)
    (sound : IsSound (veil new k p.near)) where
  abbrev then_near : State
  then_near = veil new k p.near

  same_count : length then_near.links ≡ length p.near.links
  same_count = length_set p.near.links k new

  pub shows_holds : TiedAt k mx my (record p { near = then_near }) → HoldsOf mx my (record p { near = then_near })
  shows_holds tied = record {
    near_sound = sound;
    far_sound = h.far_sound;
    near_method = h.near_method;
    far_method = h.far_method;
    profiles = h.profiles;
    far_links = h.far_links ∙ sym same_count;
    out_lines = h.out_lines ∙ sym same_count;
    back_lines = h.back_lines ∙ sym same_count;
    ties = each k (λ l. TiedAt l mx my (record p { near = then_near })) tied
        (λ l d. follows l mx my _ _ _ _ then_near (keeps_itself _) (veil_counts k p.near new l d) (veil_follows k p.near new l d) (h.ties l));
  }

  pub shows_streams : {emergencies : Bool} → Streams emergencies p → Streams emergencies (record p { near = then_near })
  shows_streams w = record {
    ordered = record {
      both = shows_both p.near p.far k link new there is w.ordered.both;
      near_codes = w.ordered.near_codes;
      far_codes = w.ordered.far_codes;
    };
    out_lost = w.out_lost;
    back_lost = w.back_lost;
    out = still_flow p.near then_near p.far p.far (near_queue p.near p.far k link new there is) refl (λ c. refl) refl
        p.near_past.offered p.far_past.got w.out_lost w.out (λ c m i x. far_was p.near p.far k link new there is m i);
    back = far_carried p.near then_near p.far (same_accepted p.near p.far k link new there is) p.far_past.offered p.near_past.got w.back_lost
        (λ c m i x. near_was p.near p.far k link new there is m i) w.back;
    near_covers = record {
      managed = w.near_covers.managed;
      numbered = w.near_covers.numbered;
      marked = w.near_covers.marked;
      known = w.near_covers.known;
      gone = w.near_covers.gone;
    };
    far_covers = w.far_covers;
    near_rises = w.near_rises;
    far_rises = w.far_rises;
    out_whole = w.out_whole;
    back_whole = w.back_whole;
  }

-- IT SHOWS ANOTHER NUMBER OF LATE ORDERS
pub recounted : (link : LinkState) (late : ℕ) → IsLike link (record link { late = late })
recounted link late = record { up = refl; settled = λ e. e; accepted = refl; acked = refl; profile = refl }

module _ (mx my : Method) (p : Two) (h : HoldsOf mx my p) (k : ℕ) (link : LinkState) (there : slice_get p.near.links k ≡ Some link) (late : ℕ) where
  abbrev counted : State
  counted = veil (record link { late = late }) k p.near

  the_one : (after : LinkState) → slice_get counted.links k ≡ Some after → after ≡ record link { late = late }
  the_one after found = same_at counted.links k (record link { late = late }) after
      (get_set_same p.near.links k (record link { late = late }) (within p.near.links k link there)) found

  counts : CountStays k p.near counted
  counts = λ after found. (link, there, ap (λ (x : LinkState). x.accepted) (the_one after found))

  follows_on : Follows k p.near counted
  follows_on = λ after found unsettled.
      let same = the_one after found in
      record {
        link = link;
        there = there;
        unsettled = sym (ap (λ (x : LinkState). has_phase_settled x.phase) same) ∙ unsettled;
        control = ap (λ (x : LinkState). x.control) same;
        profile = ap (λ (x : LinkState). x.profile) same;
        acked = ap (λ (x : LinkState). x.acked) same;
        unack_same = refl;
      }

  pub recounts_tied : TiedAt k mx my (record p { near = counted })
  recounts_tied = follows k mx my _ _ _ _ counted (keeps_itself _) counts follows_on (h.ties k)
