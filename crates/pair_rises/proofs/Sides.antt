-- WHAT HOLDS ALONG, of two ends as they're seen (`Sides`), and what a rise, a fill, a unit that arrives and one that is
-- lost do to it: a life begins (`begins`), the other end joins it (`joins`), or fills its line before that (`fills`), and
-- it hears (`hears`) or doesn't (`loses`). It's told of the end that does it; `turned` sees it from the other.
use Rattle.std.proofs.Common.{refl, arith, ◌≡◌, ◌∙◌, ap, sym, subst, ℕ, ◌<◌, Bool, true, false, List, [], ◌∷◌, length, slice_get, Some}
use Rattle.l2_units.specs.declared.unit.Unit.{Unit as SignalUnit}
use Rattle.pair_steps.specs.Lines.{units_on, with_units, without, joined_on}
use Rattle.pair_steps.specs.declared.step.Shown.TheVariants.{Answered}
use Rattle.set_events.specs.declared.config.Method.{Method}
use Rattle.set_events.specs.declared.event.Event.TheVariants.{Heard as HeardEvent, Up as UpEvent}
use Rattle.set_model.specs.declared.phase.Phase.TheVariants.{Up, Settled}
use Rattle.set_model.specs.Sound.{IsSound}
use Rattle.set_model.specs.State.{LinkState, State, is_settled, link_is_settled}
use Rattle.set_model.specs.Step.{step}
use Rattle.set_model.proofs.Lists.{get_set_same, within, length_set}
use Rattle.set_model.proofs.Places.{apart_back}
use Rattle.set_model.proofs.Soundness.{step_sound}
use Rattle.set_model.proofs.Walk.{IsAt}
use Rattle.set_veiled.specs.Veil.{dormant, veil}
use Rattle.pair_model.specs.Promises.{IsOneMethod}
use Rattle.pair_model.specs.Run.{Past, past_risen, past_heard}
use Rattle.pair_model.proofs.Moving as moving
use Rattle.pair_model.proofs.Pairs.{Two, HoldsOf, swap}
use Rattle.pair_model.proofs.Rising.{settled_at}
use Rattle.pair_changeover.proofs.Arriving.{rises_at}
use Rattle.pair_changeover.proofs.Counted.{Counts, counts_back}
use Rattle.pair_changeover.proofs.Whole.{SettlesSo}
use Rattle.pair_streams.proofs.Acting.{Streams, streams_back}
use Rattle.pair_streams.proofs.Runs.{on_lines}
use Rattle.pair_rises.specs.Rises.{Cover, inside, awaited, missed, is_covered, closed, cover_of, told_at, seen_under, idle_unit, covers_heard}
use Rattle.pair_rises.proofs.Arrives as arrival
use Rattle.pair_rises.proofs.Closed.{closed_after_sound}
use Rattle.pair_rises.proofs.Covers.{told_here, told_other, told_each, ft, off_other, off_same, told_fits, off_fits}
use Rattle.pair_rises.proofs.Counting.{begins_counts, joins_counts, shows_counts}
use Rattle.pair_rises.proofs.Halves.{Halves, begins_halves, joins_halves, shows_halves}
use Rattle.pair_rises.proofs.Late.{closed_after, rises_over, veil_over}
use Rattle.pair_rises.proofs.Open.{IsOpen}
use Rattle.pair_rises.proofs.Pair.{begins_holds, begins_streams, begins_opens, begins_near, begins_far, joins_holds, joins_streams, joins_near, joins_far, fills_holds}
use Rattle.pair_rises.proofs.Alike.{IsLike, recounted, recounts_tied, shows_holds, shows_streams, shows_near, shows_far}
use Rattle.pair_rises.proofs.Replies.{Replies, replies_kept, rises_older, heard_older}
use Rattle.pair_rises.proofs.Veils.{Fits, seen_off, seen_more, seen_same, seen_state, seen_sound, seen_length, still_fits}

-- TWO ENDS, seen under their veils
abbrev pub two : (ox oy : ℕ → Cover) (sx sy : State) (x_past y_past : Past) (out back : List (List SignalUnit)) → Two
two ox oy sx sy x_past y_past out back =
    record { near = seen_under ox sx; far = seen_under oy sy; near_past = x_past; far_past = y_past; out = out; back = back }

pub record Sides (emergencies : Bool) (mx my : Method) (ox oy : ℕ → Cover) (sx sy : State) (x_past y_past : Past) (out back : List (List SignalUnit)) : Type 0 where
  pub links : HoldsOf mx my (two ox oy sx sy x_past y_past out back)
  pub streams : Streams emergencies (two ox oy sx sy x_past y_past out back)
  -- what a settled link counts as acknowledged was accepted
  pub counts : Counts (seen_under ox sx) (seen_under oy sy)
  -- and without emergencies what a changeover needs of each end
  pub halves : emergencies ≡ false → Halves (two ox oy sx sy x_past y_past out back)
  pub sound_x : IsSound sx
  pub sound_y : IsSound sy
  pub fit_x : Fits ox sx
  pub fit_y : Fits oy sy
  pub replies_x : Replies sx
  pub replies_y : Replies sy
  -- of each link that is awaited no order stands there, and the far end hasn't settled it
  pub opens_x : (l : ℕ) → ox l ≡ awaited → IsOpen l (seen_under ox sx) (seen_under oy sy)
  pub opens_y : (l : ℕ) → oy l ≡ awaited → IsOpen l (seen_under oy sy) (seen_under ox sx)
  -- one end at most is outside a life
  pub apart_x : (l : ℕ) → is_covered (ox l) ≡ true → oy l ≡ inside
  pub apart_y : (l : ℕ) → is_covered (oy l) ≡ true → ox l ≡ inside

-- A SETTLED LINK AS IT'S SEEN
module _ (k : ℕ) (told : ℕ → Cover) (s : State) (sound : IsSound s) (settled : is_settled k s ≡ true) where
  abbrev pub off : State
  off = seen_under (told_at k inside told) s

  few_links : k < length s.links
  few_links = let was = settled_at k s settled in within s.links k was.0 was.1.there

  pub few_set : k < s.settings.links
  few_set = omega (arith, few_links, sound.count)

  pub few_off : k < length off.links
  few_off = omega (arith, few_links, seen_length (told_at k inside told) s)

  -- under the other veils it's as it is
  pub settled_off : is_settled k off ≡ true
  settled_off = ap link_is_settled (seen_off (told_at k inside told) s k (told_here k inside told)) ∙ settled

  pub inside_off : told k ≡ inside → seen_under told s ≡ off
  inside_off e = sym (seen_same told (told_at k inside told) s (off_same k told e))

  pub covered_off : (is : Cover) (x : LinkState) → told k ≡ is → cover_of s.settings is ≡ Some x → seen_under told s ≡ veil x k off
  covered_off is x e by = seen_more (told_at k inside told) told s k is x (told_here k inside told) e by (λ l d. sym (told_other k inside told l d)) few_set

  -- and is one that is awaited from now on
  pub awaits_off : seen_under (told_at k awaited told) s ≡ veil (dormant s.settings) k off
  awaits_off = seen_more (told_at k inside told) (told_at k awaited told) s k awaited (dormant s.settings) (told_here k inside told) (told_here k awaited told) refl
      (λ l d. told_other k awaited told l d ∙ sym (told_other k inside told l d)) few_set

  pub awaits_seen : veil (dormant s.settings) k (seen_under told s) ≡ seen_under (told_at k awaited told) s
  awaits_seen = go (told k) refl
    where
      over : (x : LinkState) → seen_under told s ≡ veil x k off → veil (dormant s.settings) k (seen_under told s) ≡ seen_under (told_at k awaited told) s
      over x is = ap (veil (dormant s.settings) k) is ∙ veil_over k off x (dormant s.settings) ∙ sym awaits_off

      go : (c : Cover) → told k ≡ c → veil (dormant s.settings) k (seen_under told s) ≡ seen_under (told_at k awaited told) s
      go inside e = ap (veil (dormant s.settings) k) (inside_off e) ∙ sym awaits_off
      go awaited e = over (dormant s.settings) (covered_off awaited (dormant s.settings) e refl)
      go missed e = over (closed s.settings) (covered_off missed (closed s.settings) e refl)

  pub missed_there : told k ≡ missed → slice_get (seen_under told s).links k ≡ Some (closed s.settings)
  missed_there e = ap (λ (t : State). slice_get t.links k) (covered_off missed (closed s.settings) e refl) ∙ get_set_same off.links k (closed s.settings) few_off

  -- it's seen settled, where it isn't awaited
  pub settled_seen : (told k ≡ awaited → ⊥) → is_settled k (seen_under told s) ≡ true
  settled_seen never = go (told k) refl
    where
      go : (c : Cover) → told k ≡ c → is_settled k (seen_under told s) ≡ true
      go inside e = ap (is_settled k) (inside_off e) ∙ settled_off
      go awaited e = absurd (never e)
      go missed e = ap link_is_settled (missed_there e)

  -- and comes up as it is
  module _ (fits : Fits told s) where
    pub fits_off : Fits (told_at k inside told) s
    fits_off = off_fits k told s fits

    pub sound_off : IsSound off
    sound_off = seen_sound (told_at k inside told) s fits_off sound

    pub off_rises : (step off (UpEvent k)).state ≡ seen_under (told_at k inside told) (step s (UpEvent k)).state
    off_rises = seen_state (told_at k inside told) s fits_off (UpEvent k) (λ l e. off_other k (told_at k inside told) l (told_here k inside told) e)

    pub fits_then : Fits (told_at k inside told) (step s (UpEvent k)).state
    fits_then = still_fits (told_at k inside told) s fits_off (UpEvent k) (λ l e. off_other k (told_at k inside told) l (told_here k inside told) e)

uncovered : (c : Cover) → (is_covered c ≡ true → ⊥) → c ≡ inside
uncovered inside never = refl
uncovered awaited never = absurd (never refl)
uncovered missed never = absurd (never refl)

module _ {emergencies : Bool} {mx my : Method} {ox oy : ℕ → Cover} {sx sy : State} {x_past y_past : Past} {out back : List (List SignalUnit)}
    (h : Sides emergencies mx my ox oy sx sy x_past y_past out back) where
  abbrev p : Two
  p = two ox oy sx sy x_past y_past out back

  -- FROM THE OTHER END
  pub turned : Sides emergencies my mx oy ox sy sx y_past x_past back out
  turned = record {
    links = swap mx my p h.links;
    streams = streams_back p h.streams;
    counts = counts_back (seen_under ox sx) (seen_under oy sy) h.counts;
    halves = λ e. let both = h.halves e in (both.1, both.0);
    sound_x = h.sound_y;
    sound_y = h.sound_x;
    fit_x = h.fit_y;
    fit_y = h.fit_x;
    replies_x = h.replies_y;
    replies_y = h.replies_x;
    opens_x = h.opens_y;
    opens_y = h.opens_x;
    apart_x = h.apart_y;
    apart_y = h.apart_x;
  }

  -- the far end of an awaited link hasn't settled it
  pub never_awaited : (k : ℕ) → is_settled k sy ≡ true → ox k ≡ awaited → ⊥
  never_awaited k far e =
      let within = h.apart_x k (ap is_covered e) in
      let no : true ≡ false = sym (ap link_is_settled (seen_off oy sy k within) ∙ far) ∙ (h.opens_x k e).goes in cc

  -- IT COMES UP
  module _ (k : ℕ) (near_settled : is_settled k sx ≡ true) where
    abbrev then_x : State
    then_x = (step sx (UpEvent k)).state

    replies_then : Replies then_x
    replies_then = let was = settled_at k sx near_settled in
        replies_kept sx then_x (rises_older k sx then_x (rises_at k sx h.sound_x was.0 was.1)) h.replies_x

    few_x : k < length (seen_under ox sx).links
    few_x = let was = settled_at k sx near_settled in omega (arith, within sx.links k was.0 was.1.there, seen_length ox sx)

    -- A LIFE BEGINS: from a state in which what holds does, and the link counts the late orders as it does
    record Ready (near : State) : Type 0 where
      links : HoldsOf mx my (record p { near = near })
      streams : Streams emergencies (record p { near = near })
      counts : Counts near p.far
      halves : emergencies ≡ false → Halves (record p { near = near })
      near_open : (l : ℕ) → IsOpen l (seen_under ox sx) p.far → IsOpen l near p.far
      far_open : (l : ℕ) → IsOpen l p.far (seen_under ox sx) → IsOpen l p.far near
      settled : is_settled k near ≡ true
      few : k < length near.links
      is : (step near (UpEvent k)).state ≡ seen_under (told_at k inside ox) then_x

    ready_inside : ox k ≡ inside → Ready (seen_under ox sx)
    ready_inside e = record {
      links = h.links;
      streams = h.streams;
      counts = h.counts;
      halves = h.halves;
      near_open = λ l was. was;
      far_open = λ l was. was;
      settled = ap (is_settled k) (inside_off k ox sx h.sound_x near_settled e) ∙ settled_off k ox sx h.sound_x near_settled;
      few = few_x;
      is = ap (λ (t : State). (step t (UpEvent k)).state) (inside_off k ox sx h.sound_x near_settled e) ∙ off_rises k ox sx h.sound_x near_settled h.fit_x;
    }

    module _ (e : ox k ≡ missed) where
      abbrev here : State
      here = off k ox sx h.sound_x near_settled

      was : (link : LinkState) × IsAt k link Settled here
      was = settled_at k here (settled_off k ox sx h.sound_x near_settled)

      abbrev last : LinkState
      last = closed_after was.0 sx.settings

      there : slice_get p.near.links k ≡ Some (closed sx.settings)
      there = missed_there k ox sx h.sound_x near_settled e

      like : IsLike (closed sx.settings) last
      like = recounted (closed sx.settings) was.0.late

      near_is : veil last k p.near ≡ veil last k here
      near_is = ap (veil last k) (covered_off k ox sx h.sound_x near_settled missed (closed sx.settings) e refl) ∙ veil_over k here (closed sx.settings) last

      sound_near : IsSound (veil last k p.near)
      sound_near = subst IsSound (sym near_is)
          (closed_after_sound k here (sound_off k ox sx h.sound_x near_settled h.fit_x) (settled_off k ox sx h.sound_x near_settled) was.0.late)

      ready_missed : Ready (veil last k p.near)
      ready_missed = record {
        links = shows_holds mx my p h.links k (closed sx.settings) last there like sound_near (recounts_tied mx my p h.links k (closed sx.settings) there was.0.late);
        streams = shows_streams mx my p h.links k (closed sx.settings) last there like sound_near h.streams;
        counts = shows_counts k p.near p.far (closed sx.settings) last there like h.counts;
        halves = λ e. shows_halves p k (closed sx.settings) last there like (λ unsettled. absurd (let no : true ≡ false = unsettled in cc)) (h.halves e);
        near_open = λ l o. shows_near p.near p.far k (closed sx.settings) last there like l o;
        far_open = λ l o. shows_far p.near p.far k (closed sx.settings) last there like l o;
        settled = ap link_is_settled (get_set_same p.near.links k last few_x);
        few = omega (arith, few_x, length_set p.near.links k last);
        is = ap (λ (t : State). (step t (UpEvent k)).state) near_is ∙ rises_over k here was.0 was.1 ∙ off_rises k ox sx h.sound_x near_settled h.fit_x;
      }

    module _ (far_settled : is_settled k sy ≡ true) where
      ready : (near : State) × Ready near
      ready = go (ox k) refl
        where
          go : (c : Cover) → ox k ≡ c → (near : State) × Ready near
          go inside e = (seen_under ox sx, ready_inside e)
          go awaited e = absurd (never_awaited k far_settled e)
          go missed e = (veil (last e) k p.near, ready_missed e)

      -- the far end isn't awaited there either
      never_y : oy k ≡ awaited → ⊥
      never_y e =
          let within = h.apart_y k (ap is_covered e) in
          let no : true ≡ false = sym (ap link_is_settled (seen_off ox sx k within) ∙ near_settled) ∙ (h.opens_y k e).goes in cc

      far_seen : is_settled k p.far ≡ true
      far_seen = settled_seen k oy sy h.sound_y far_settled never_y

      far_is : veil (dormant sy.settings) k p.far ≡ seen_under (told_at k awaited oy) sy
      far_is = awaits_seen k oy sy h.sound_y far_settled

      abbrev near : State
      near = ready.0

      abbrev q : Two
      q = record p { near = near }

      abbrev shape : State → State → Two
      shape x y = record { near = x; far = y; near_past = past_risen k x_past; far_past = past_risen k y_past; out = with_units k [] out; back = with_units k [] back }

      abbrev new_x : State
      new_x = seen_under (told_at k inside ox) then_x

      abbrev new_y : State
      new_y = seen_under (told_at k awaited oy) sy

      -- as both are seen then
      both_seen : (P : State → State → Type 0) → P (step near (UpEvent k)).state (veil (dormant sy.settings) k p.far) → P new_x new_y
      both_seen P x = subst (λ (y : State). P new_x y) far_is (subst (λ (x : State). P x (veil (dormant sy.settings) k p.far)) ready.1.is x)

      pub begins : Sides emergencies mx my (told_at k inside ox) (told_at k awaited oy) then_x sy (past_risen k x_past) (past_risen k y_past) (with_units k [] out) (with_units k [] back)
      begins =
          let r = ready.1 in
          record {
            links = both_seen (λ x y. HoldsOf mx my (shape x y)) (begins_holds mx my q r.links k r.few r.settled far_seen);
            streams = both_seen (λ x y. Streams emergencies (shape x y)) (begins_streams mx my q r.links k r.few r.settled far_seen r.streams);
            counts = both_seen (λ x y. Counts x y) (begins_counts k near p.far r.links.near_sound h.links.far_sound r.settled far_seen r.counts);
            halves = λ e. both_seen (λ x y. Halves (shape x y)) (begins_halves mx my q r.links k r.few r.settled far_seen (r.halves e));
            sound_x = step_sound sx (UpEvent k) h.sound_x;
            sound_y = h.sound_y;
            fit_x = fits_then k ox sx h.sound_x near_settled h.fit_x;
            fit_y = told_fits k awaited oy sy (λ e. far_settled) h.fit_y;
            replies_x = replies_then;
            replies_y = h.replies_y;
            opens_x = told_each k inside ox (λ l c. c ≡ awaited → IsOpen l new_x new_y) (λ e. absurd cc)
                (λ l d e. both_seen (λ x y. IsOpen l x y) (begins_near mx my q r.links k r.few r.settled far_seen r.streams l d (r.near_open l (h.opens_x l e))));
            opens_y = told_each k awaited oy (λ l c. c ≡ awaited → IsOpen l new_y new_x)
                (λ e. both_seen (λ x y. IsOpen k y x) (begins_opens mx my q r.links k r.few r.settled far_seen r.streams))
                (λ l d e. both_seen (λ x y. IsOpen l y x) (begins_far mx my q r.links k r.few r.settled far_seen r.streams l d (r.far_open l (h.opens_y l e))));
            apart_x = told_each k inside ox (λ l c. is_covered c ≡ true → told_at k awaited oy l ≡ inside) (λ e. ft e)
                (λ l d e. told_other k awaited oy l (apart_back k l d) ∙ h.apart_x l e);
            apart_y = told_each k awaited oy (λ l c. is_covered c ≡ true → told_at k inside ox l ≡ inside) (λ e. told_here k inside ox)
                (λ l d e. told_other k inside ox l (apart_back k l d) ∙ h.apart_y l e);
          }

  -- IT JOINS, or fills its line
  module _ (k : ℕ) (waits : ox k ≡ awaited) where
    settled_k : is_settled k sx ≡ true
    settled_k = h.fit_x k (ap is_covered waits)

    abbrev u : State
    u = off k ox sx h.sound_x settled_k

    u_at : (link : LinkState) × IsAt k link Settled u
    u_at = settled_at k u (settled_off k ox sx h.sound_x settled_k)

    sound_u : IsSound u
    sound_u = sound_off k ox sx h.sound_x settled_k h.fit_x

    few_u : k < length u.links
    few_u = few_off k ox sx h.sound_x settled_k

    near_was : seen_under ox sx ≡ veil (dormant u.settings) k u
    near_was = covered_off k ox sx h.sound_x settled_k awaited (dormant sx.settings) waits refl

    abbrev around : List (List SignalUnit) → State → Two
    around line x = record { near = x; far = seen_under oy sy; near_past = x_past; far_past = y_past; out = line; back = back }

    h_u : HoldsOf mx my (around out (veil (dormant u.settings) k u))
    h_u = subst (λ (x : State). HoldsOf mx my (around out x)) near_was h.links

    abbrev joined_x : State
    joined_x = seen_under (told_at k inside ox) (step sx (UpEvent k)).state

    near_then : (step u (UpEvent k)).state ≡ joined_x
    near_then = off_rises k ox sx h.sound_x settled_k h.fit_x

    far_inside : oy k ≡ inside
    far_inside = h.apart_x k (ap is_covered waits)

    pub joins : IsOneMethod mx my → Sides emergencies mx my (told_at k inside ox) oy (step sx (UpEvent k)).state sy x_past y_past out back
    joins one =
        let o = h.opens_x k waits in
        record {
          links = subst (λ (x : State). HoldsOf mx my (around out x)) near_then
              (joins_holds mx my u (seen_under oy sy) x_past y_past out back k sound_u u_at.0 u_at.1 few_u h_u);
          streams = subst (λ (x : State). Streams emergencies (around out x)) near_then
              (joins_streams mx my u (seen_under oy sy) x_past y_past out back k sound_u u_at.0 u_at.1 few_u h_u
              (subst (λ (x : State). Streams emergencies (around out x)) near_was h.streams)
              (subst (λ (x : State). IsOpen k x (seen_under oy sy)) near_was o).none o.goes);
          counts = subst (λ (x : State). Counts x (seen_under oy sy)) near_then
              (joins_counts k u (seen_under oy sy) sound_u u_at.0 u_at.1 (subst (λ (x : State). Counts x (seen_under oy sy)) near_was h.counts));
          halves = λ e. subst (λ (x : State). Halves (around out x)) near_then
              (joins_halves mx my one u (seen_under oy sy) x_past y_past out back k sound_u u_at.0 u_at.1 few_u h_u
              (subst (λ (x : State). Halves (around out x)) near_was (h.halves e)));
          sound_x = step_sound sx (UpEvent k) h.sound_x;
          sound_y = h.sound_y;
          fit_x = fits_then k ox sx h.sound_x settled_k h.fit_x;
          fit_y = h.fit_y;
          replies_x = replies_then k settled_k;
          replies_y = h.replies_y;
          opens_x = told_each k inside ox (λ l c. c ≡ awaited → IsOpen l joined_x (seen_under oy sy)) (λ e. absurd cc)
              (λ l d e. subst (λ (x : State). IsOpen l x (seen_under oy sy)) near_then
              (joins_near mx my u (seen_under oy sy) x_past y_past out back k sound_u u_at.0 u_at.1 few_u h_u l
              (subst (λ (x : State). IsOpen l x (seen_under oy sy)) near_was (h.opens_x l e))));
          opens_y = λ l e. subst (λ (x : State). IsOpen l (seen_under oy sy) x) near_then
              (joins_far mx my u (seen_under oy sy) x_past y_past out back k sound_u u_at.0 u_at.1 few_u h_u l (off_other k oy l far_inside (ap is_covered e))
              (subst (λ (x : State). IsOpen l (seen_under oy sy) x) near_was (h.opens_y l e)));
          apart_x = told_each k inside ox (λ l c. is_covered c ≡ true → oy l ≡ inside) (λ e. ft e) (λ l d e. h.apart_x l e);
          apart_y = λ l e. told_each k inside ox (λ l c. ox l ≡ inside → c ≡ inside) (λ e. refl) (λ l d e. e) l (h.apart_y l e);
        }

    pub fills : Sides emergencies mx my ox oy sx sy x_past y_past (joined_on k (idle_unit sx.settings.profile sx.settings.method) out) back
    fills = record {
      links = subst (λ (x : State). HoldsOf mx my (around (joined_on k (idle_unit sx.settings.profile sx.settings.method) out) x)) (sym near_was)
          (fills_holds mx my u (seen_under oy sy) x_past y_past out back k sound_u u_at.0 u_at.1 few_u h_u);
      streams = on_lines p _ _ h.streams;
      counts = h.counts;
      halves = h.halves;
      sound_x = h.sound_x;
      sound_y = h.sound_y;
      fit_x = h.fit_x;
      fit_y = h.fit_y;
      replies_x = h.replies_x;
      replies_y = h.replies_y;
      opens_x = h.opens_x;
      opens_y = h.opens_y;
      apart_x = h.apart_x;
      apart_y = h.apart_y;
    }

  -- A UNIT ARRIVES
  module _ (k : ℕ) (few : k < length sx.links) (unit : SignalUnit) (rest : List SignalUnit) (front : units_on k back ≡ unit ∷ rest) where
    -- where the link is up it's heard
    module _ (one : IsOneMethod mx my) (link : LinkState) (at : IsAt k link Up sx) where
      abbrev heard : State
      heard = (step sx (HeardEvent k unit)).state

      abbrev heard_past : Past
      heard_past = past_heard k unit (y_past.sent k) (Answered (step sx (HeardEvent k unit)).answer) x_past

      pub diverts : emergencies ≡ false → SettlesSo x_past y_past sx heard
      diverts = (arrival.arrives mx my one ox sx (seen_under oy sy) x_past y_past out back h.sound_x h.fit_x h.replies_x h.links h.streams h.counts h.halves h.opens_x
          k few unit rest front link at).diverts

      pub hears : Sides emergencies mx my (covers_heard sx.settings.profile (unit ∷ rest) (Answered (step sx (HeardEvent k unit)).answer) ox) oy
          heard sy heard_past y_past out (with_units k rest back)
      hears =
          let a = arrival.arrives mx my one ox sx (seen_under oy sy) x_past y_past out back h.sound_x h.fit_x h.replies_x h.links h.streams h.counts h.halves h.opens_x
          k few unit rest front link at in
          record {
            links = a.links;
            streams = a.streams;
            counts = a.counts;
            halves = a.halves;
            sound_x = step_sound sx (HeardEvent k unit) h.sound_x;
            sound_y = h.sound_y;
            fit_x = a.fit;
            fit_y = h.fit_y;
            replies_x = replies_kept sx heard (heard_older k unit sx) h.replies_x;
            replies_y = h.replies_y;
            opens_x = a.near;
            opens_y = λ l e. a.far l (h.opens_y l e);
            apart_x = λ l e. h.apart_x l (a.covered l e);
            apart_y = λ l e. uncovered _ (λ on. let no : false ≡ true = sym (ap is_covered (h.apart_y l e)) ∙ a.covered l on in cc);
          }

    -- else it's lost
    pub loses : Sides emergencies mx my ox oy sx sy x_past y_past out (with_units k rest back)
    loses = record {
      links = subst (λ (line : List SignalUnit). HoldsOf mx my (record p { back = with_units k line back })) (ap (without 0) front)
          (swap my mx _ (moving.loses my mx _ (swap mx my p h.links) k 0 (omega (arith, few, seen_length ox sx, h.links.far_links)) (rw front (omega arith))));
      streams = on_lines p _ _ h.streams;
      counts = h.counts;
      halves = h.halves;
      sound_x = h.sound_x;
      sound_y = h.sound_y;
      fit_x = h.fit_x;
      fit_y = h.fit_y;
      replies_x = h.replies_x;
      replies_y = h.replies_y;
      opens_x = h.opens_x;
      opens_y = h.opens_y;
      apart_x = h.apart_x;
      apart_y = h.apart_y;
    }
