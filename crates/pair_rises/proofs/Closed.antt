-- A SET IS SOUND with a settled link seen as one that was answered and counts nothing: nothing stands on it, and no stream
-- runs there. (The argument is that of set_veiled's Sound.antt, for the other cover.)
use Rattle.std.proofs.Common.{refl, arith, ◌≡◌, ◌∙◌, ap, sym, subst, ℕ, ◌==◌, ◌%◌, ◌≤◌, Bool, true, false, [], length, slice_get, Option, Some, None}
use Rattle.std.proofs.lemmas.Bool.{eqb-true}
use Rattle.l2_units.specs.declared.profile.Profile.{Profile}
use Rattle.l2_units.specs.declared.profile.Profile.TheVariants.{Narrow, Wide}
use Rattle.l2_window.specs.Window.{fsn_count, most_unacked}
use Rattle.set_events.specs.declared.config.Method.{Method}
use Rattle.set_route.specs.Routing.{place_of}
use Rattle.set_route.specs.declared.place.Place.{Place}
use Rattle.set_route.specs.declared.place.Place.TheVariants.{On, Changing, Nowhere}
use Rattle.set_model.specs.declared.phase.Phase.{Phase}
use Rattle.set_model.specs.declared.phase.Phase.TheVariants.{Up, Down, Settled}
use Rattle.set_model.specs.Control.{BasicMethod, CyclicMethod, start_of, expected_of}
use Rattle.set_model.specs.Rows.{unack}
use Rattle.set_model.specs.Sound.{IsOf, IsSoundLink, IsPlaced, IsSound}
use Rattle.set_model.specs.State.{carries, carries_in, open_link, LinkState, State, has_phase_up, has_phase_settled, link_is_settled, is_settled}
use Rattle.set_model.proofs.Lists.{length_set, same_at}
use Rattle.set_model.proofs.Settling.{settled_empty}
use Rattle.set_veiled.specs.Veil.{veil}
use Rattle.set_veiled.proofs.Veiled.{IsOut, this_link, other_link, open_same, settled_out}
use Rattle.pair_rises.specs.Rises.{closed}

settled_phase : (phase : Phase) → has_phase_settled phase ≡ true → phase ≡ Settled
settled_phase Up e = absurd cc
settled_phase Down e = absurd cc
settled_phase Settled e = refl

none_counted : (m : Method) (p : Profile) → expected_of (start_of m) ≡ 0 % fsn_count p
none_counted BasicMethod Narrow = refl
none_counted BasicMethod Wide = refl
none_counted (CyclicMethod n1 n2) Narrow = refl
none_counted (CyclicMethod n1 n2) Wide = refl

starts_of : (m : Method) → IsOf m (start_of m)
starts_of BasicMethod = tt
starts_of (CyclicMethod n1 n2) = (refl, refl)

module _ (l : ℕ) (s : State) (sound : IsSound s) (e : is_settled l s ≡ true) (late : ℕ) where
  -- however many late orders it shows
  abbrev cover : LinkState
  cover = record (closed s.settings) { late = late }

  o : IsOut cover refl l s
  o = settled_out cover refl l s e

  -- what was there
  record There : Type 0 where
    pub link : LinkState
    pub there : slice_get s.links l ≡ Some link
    pub phase : has_phase_settled link.phase ≡ true

  was : There
  was = go (slice_get s.links l) refl
    where
      go : (m : Option LinkState) → slice_get s.links l ≡ m → There
      go None f = absurd (let no : false ≡ true = ap link_is_settled (sym f) ∙ e in cc)
      go (Some link) f = record { link = link; there = f; phase = ap link_is_settled (sym f) ∙ e }

  here : IsSoundLink s.settings l cover s.rows
  here =
      let w = was in
      let old = sound.links l w.link w.there in
      let empty = settled_empty s l w.link sound w.there (settled_phase w.link.phase w.phase) in
      record {
        profile = refl;
        window = few empty.unack_none;
        counted = none_counted s.settings.method s.settings.profile;
        method = starts_of s.settings.method;
        in_order = old.in_order;
        held_last = old.held_last;
        none_held = λ up. absurd (let no : false ≡ true = up in cc);
        no_users = λ up shut. absurd (let no : false ≡ true = up in cc);
        in_range = λ up. absurd (let no : false ≡ true = up in cc);
        settled = λ e. old.settled w.phase;
      }
    where
      few : unack l s.rows ≡ [] → length (unack l s.rows) ≤ most_unacked s.settings.profile
      few none = rw none (omega arith)

  each : (n : ℕ) (link : LinkState) → slice_get (veil cover l s).links n ≡ Some link → IsSoundLink s.settings n link s.rows
  each n link found = go (n == l) refl
    where
      go : (b : Bool) → (n == l) ≡ b → IsSoundLink s.settings n link s.rows
      go true d =
          let same : n ≡ l = eqb-true n l d in
          let one : link ≡ cover = same_at (veil cover l s).links l cover link (this_link cover refl l s o) (ap (slice_get (veil cover l s).links) (sym same) ∙ found) in
          subst (λ (k : LinkState). IsSoundLink s.settings n k s.rows) (sym one) (subst (λ (k : ℕ). IsSoundLink s.settings k cover s.rows) (sym same) here)
      go false d = sound.links n link (sym (other_link cover refl l s n d) ∙ found)

  -- a link of this number that carries streams isn't this one
  carries_none : (link : LinkState) → has_phase_settled link.phase ≡ true → carries link ≡ false
  carries_none link f = ap (carries_in link.tested) (settled_phase link.phase f)

  apart_by : (n : ℕ) (link : LinkState) → slice_get s.links n ≡ Some link → carries link ≡ true → (b : Bool) → (n == l) ≡ b
      → slice_get (veil cover l s).links n ≡ Some link
  apart_by n link found carried true d =
      let same : n ≡ l = eqb-true n l d in
      let one : link ≡ was.link = same_at s.links l was.link link was.there (ap (slice_get s.links) (sym same) ∙ found) in
      absurd (let no : true ≡ false = sym carried ∙ ap carries one ∙ carries_none was.link was.phase in cc)
  apart_by n link found carried false d = other_link cover refl l s n d ∙ found

  placed : (place : Place) → IsPlaced s.links place → IsPlaced (veil cover l s).links place
  placed (On n) p = (p.0, apart_by n p.0 p.1 p.2 (n == l) refl, p.2)
  placed (Changing to code via) p = (p.0, apart_by via p.0 p.1 p.2 (via == l) refl, p.2)
  placed Nowhere p = tt

  -- a link that is open was so
  was_open : (n : ℕ) (link : LinkState) → slice_get (veil cover l s).links n ≡ Some link → open_link link ≡ true → (b : Bool) → (n == l) ≡ b
      → slice_get s.links n ≡ Some link
  was_open n link found is true d =
      let same : n ≡ l = eqb-true n l d in
      let one : link ≡ cover = same_at (veil cover l s).links l cover link (this_link cover refl l s o) (ap (slice_get (veil cover l s).links) (sym same) ∙ found) in
      absurd (let no : false ≡ true = sym (ap open_link one) ∙ is in cc)
  was_open n link found is false d = sym (other_link cover refl l s n d) ∙ found

  stays : IsSound (veil cover l s)
  stays = record {
    managed = sound.managed;
    routing = sound.routing;
    routed = sound.routed;
    count = length_set s.links l cover ∙ sound.count;
    numbered = sound.numbered;
    fit = sound.fit;
    marked = sound.marked;
    links = each;
    placed = λ stream few. placed (place_of stream s.routing) (sound.placed stream few);
    none_aside = λ n link found is. sound.none_aside n link (was_open n link found is (n == l) refl) is;
    all_run = λ n link found is. sound.all_run n link (was_open n link found is (n == l) refl) is;
    codes = λ code. let c = sound.codes code in record {
      home_open = λ via e. open_same cover refl l s o _ ∙ c.home_open via e;
      via_stands = λ via e. placed (On via) (c.via_stands via e);
      few = c.few;
    };
    backs = sound.backs;
    back_order = sound.back_order;
  }

pub closed_sound : (l : ℕ) (s : State) → IsSound s → is_settled l s ≡ true → IsSound (veil (closed s.settings) l s)
closed_sound l s sound e = stays l s sound e 0

pub closed_after_sound : (l : ℕ) (s : State) → IsSound s → is_settled l s ≡ true → (late : ℕ) → IsSound (veil (record (closed s.settings) { late = late }) l s)
closed_after_sound = stays
