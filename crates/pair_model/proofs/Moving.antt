-- WHAT MOVES ON THE LINES keeps the tie of each link: two ends, seen from the one that sends, hears or loses, and from
-- either where a link comes up (`emits_up`, `emits_not`, `hears_up`, `loses`, `rises`). On the link itself that's
-- Sending.antt's, Hearing.antt's or Rising.antt's work, or `lost` of Tied.antt; every other link goes on, as
-- Following.antt says, with the same line and the same past. `answers_sent`, `answers_heard` and `tells_none` say what
-- is answered. It's argued by link; only `drop_all` is an induction. Runs.antt uses it for four kinds of steps, and the
-- Runs.antt of pair_changeover and pair_streams for the answers.
use Rattle.std.proofs.Common.{refl, arith, ◌≡◌, ◌∙◌, ap, sym, subst, ℕ, ◌<◌, ◌==◌, Bool, true, false, List, [], ◌∷◌, ◌++◌, length, drop, slice_get, Option, Some, None, cond}
use Rattle.std.proofs.lemmas.Bool.{eqb-true}
use Rattle.std.proofs.lemmas.List.{append-nil}
use Rattle.l2_units.specs.declared.unit.Unit.{Unit as SignalUnit}
use Rattle.pair_steps.specs.Lines.{units_on, with_units, joined_on, without}
use Rattle.set_events.specs.declared.answer.Answer.TheVariants.{Sent, Heard as HeardBack}
use Rattle.set_events.specs.declared.answer.Refusal.{Refusal as SetRefusal}
use Rattle.set_events.specs.declared.answer.Refusal.TheVariants.{NotUp, NoSuchLink}
use Rattle.set_events.specs.declared.answer.Report.{Report}
use Rattle.set_events.specs.declared.config.Method.{Method}
use Rattle.set_events.specs.declared.event.Event.TheVariants.{Next, Heard, Up as UpEvent}
use Rattle.set_model.specs.declared.phase.Phase.TheVariants.{Up}
use Rattle.set_model.specs.Changeover.{cleared}
use Rattle.set_model.specs.Rows.{unack}
use Rattle.set_model.specs.Sound.{IsSound}
use Rattle.set_model.specs.State.{LinkState, State, Settings, has_phase_up, is_up, is_settled, link_is_up}
use Rattle.set_model.specs.Step.{Outcome, refused, with_known, next, controls, report_of, step}
use Rattle.set_model.proofs.Walk.{link_count_stays, IsAt}
use Rattle.set_model.proofs.Soundness.{step_sound}
use Rattle.set_model.proofs.Lists.{length_set}
use Rattle.set_model.proofs.Places.{itself, apart_back}
use Rattle.pair_steps.specs.declared.step.Shown.TheVariants.{Answered}
use Rattle.pair_model.specs.Run.{Past, Message, messages, first_sent, body_in, taken_by, past_sent, past_heard, past_risen, added_at, cleared_at}
use Rattle.pair_model.specs.Promises.{IsOneMethod}
use Rattle.pair_model.proofs.Counts.{count_stays}
use Rattle.pair_model.proofs.Following.{next_follows, up_follows, heard_follows}
use Rattle.pair_model.proofs.Hearing as hearing
use Rattle.pair_model.proofs.Pairs.{Two, swapped, side, TiedAt, HoldsOf, swap, on_set, on_other, no_other, like, goes_on, event_holds, keeps, settings_stay}
use Rattle.pair_model.proofs.Rising.{settled_at, fresh, fresh_begins, fresh_goes, fresh_counts, rises_tied, new_side}
use Rattle.pair_model.proofs.Sending as sending
use Rattle.pair_model.proofs.Tied.{Side, Tied, turned, follows, lost}

-- PASTS: more at one link, and nothing at another
added_here : {X : Type 0} (k : ℕ) (more : List X) (f : ℕ → List X) → added_at k more f k ≡ f k ++ more
added_here k more f = rw (itself k) refl

added_other : {X : Type 0} (k l : ℕ) (more : List X) (f : ℕ → List X) → (k == l) ≡ false → added_at k more f l ≡ f l
added_other k l more f d = rw (apart_back k l d) refl

added_none : {X : Type 0} (k l : ℕ) (f : ℕ → List X) → added_at k [] f l ≡ f l
added_none k l f = go (l == k) refl
  where
    go : (b : Bool) → (l == k) ≡ b → added_at k [] f l ≡ f l
    go true e = rw e (append-nil (f l))
    go false e = rw e refl

pub same_side : {s s' : State} {sent sent' : List Message} {taken taken' : List (List ℕ)} → s' ≡ s → sent' ≡ sent
    → taken' ≡ taken → ◌≡◌ {A = Side} (record { state = s'; sent = sent'; taken = taken' })
    (record { state = s; sent = sent; taken = taken })
same_side a b c = rw (a, b, c) refl

-- AN END SENDS
-- a link that isn't in service sends nothing
pub next_refused : (k : ℕ) (s : State) → is_up k s ≡ false → (why : SetRefusal) × (step s (Next k) ≡ refused s why)
unfolding step
next_refused k s e = go (slice_get s.links k) refl
  where
    at : (link : LinkState) → slice_get s.links k ≡ Some link → (b : Bool) → has_phase_up link.phase ≡ b
        → (why : SetRefusal) × (cond b (next k (cleared k s) link) (refused s NotUp) ≡ refused s why)
    at link f true g = absurd (let no : true ≡ false = sym g ∙ ap link_is_up (sym f) ∙ e in cc)
    at link f false g = (NotUp, refl)

    go : (o : Option LinkState) → slice_get s.links k ≡ o → (why : SetRefusal)
        × (with_known o s (λ link. cond (has_phase_up link.phase) (next k (cleared k s) link) (refused s NotUp))
        ≡ refused s why)
    go None f = (NoSuchLink, refl)
    go (Some link) f = at link f (has_phase_up link.phase) refl

drop_all : {X : Type 0} (xs : List X) → drop (length xs) xs ≡ []
drop_all [] = refl
drop_all (x ∷ xs) = drop_all xs

nothing_sent : (k : ℕ) (s t : State) → t ≡ s → first_sent k s t ≡ []
nothing_sent k s t same = ap (λ (u : State). first_sent k s u) same ∙ ap messages (drop_all (unack k s.rows))

module _ (mx my : Method) (p : Two) (h : HoldsOf mx my p) (k : ℕ) where
  abbrev after : State
  after = (step p.near (Next k)).state

  abbrev sent_past : Past
  sent_past = past_sent k p.near after p.near_past

  -- it sends a unit, which joins the line
  module _ (few : k < length p.near.links) (link : LinkState) (at : IsAt k link Up p.near) where
    abbrev pub clear_side : Side
    clear_side = record { state = cleared k p.near; sent = p.near_past.sent k; taken = p.near_past.taken k }

    pub clear_at : IsAt k link Up (cleared k p.near)
    clear_at = sending.cleared_at k link p.near at

    pub clear_sound : IsSound (cleared k p.near)
    clear_sound = sending.cleared_sound k link p.near at h.near_sound

    pub clear_tied : Tied k mx my clear_side (side k p.far p.far_past) (units_on k p.out) (units_on k p.back)
    clear_tied = sending.cleared_tied k mx my (side k p.near p.near_past) (side k p.far p.far_past) (units_on k p.out)
        (units_on k p.back) h.near_sound.numbered (h.ties k)

    abbrev pub sent_unit : SignalUnit
    sent_unit = sending.unit k mx my clear_side (side k p.far p.far_past) (units_on k p.out) (units_on k p.back) link clear_sound clear_at

    here : Tied k mx my (side k after sent_past) (side k p.far p.far_past) (units_on k (joined_on k sent_unit p.out)) (units_on k p.back)
    here = like k mx my _ (side k after sent_past) _ _ _ _ _ _
        (same_side (ap (λ (o : Outcome). o.state) (sending.next_is k link p.near at))
        (added_here k (first_sent k p.near after) p.near_past.sent
        ∙ ap (λ (o : Outcome). p.near_past.sent k ++ first_sent k p.near o.state) (sending.next_is k link p.near at)
        ∙ ap (λ (ms : List Message). p.near_past.sent k ++ ms)
        (sym (sending.cleared_sends k p.near (next k (cleared k p.near) link).state))) refl) refl
        (on_set k _ p.out (omega (arith, few, h.out_lines))) refl
        (sending.sends k mx my clear_side (side k p.far p.far_past) (units_on k p.out) (units_on k p.back) link clear_sound clear_at clear_tied)

    there : (l : ℕ) → (k == l) ≡ false
        → Tied l mx my (side l after sent_past) (side l p.far p.far_past) (units_on l (joined_on k sent_unit p.out))
        (units_on l p.back)
    there l d = like l mx my _ (side l after sent_past) _ _ _ _ _ _
        (same_side refl (added_other k l _ p.near_past.sent d) refl) refl (on_other l k _ p.out d) refl
        (goes_on mx my p h (Next k) l tt (next_follows l k p.near (no_other k l d)))

    pub emits_up : HoldsOf mx my (record p { near = after; near_past = sent_past; out = joined_on k sent_unit p.out })
    emits_up = event_holds mx my p h (Next k) sent_past (joined_on k sent_unit p.out) p.back (length_set p.out k _) refl (λ l. go l (k == l) refl)
      where
        go : (l : ℕ) (b : Bool) → (k == l) ≡ b
            → Tied l mx my (side l after sent_past) (side l p.far p.far_past) (units_on l (joined_on k sent_unit p.out))
            (units_on l p.back)
        go l true d = subst (λ (m : ℕ). Tied m mx my (side m after sent_past) (side m p.far p.far_past)
            (units_on m (joined_on k sent_unit p.out)) (units_on m p.back)) (eqb-true k l d) here
        go l false d = there l d

    pub answers_sent : (step p.near (Next k)).answer ≡ Sent sent_unit
    answers_sent = ap (λ (o : Outcome). o.answer) (sending.next_is k link p.near at)

  -- or nothing
  pub emits_not : is_up k p.near ≡ false → HoldsOf mx my (record p { near = after; near_past = sent_past })
  emits_not e =
      let same : after ≡ p.near = ap (λ (o : Outcome). o.state) (next_refused k p.near e).1 in
      event_holds mx my p h (Next k) sent_past p.out p.back refl refl
      (λ l. like l mx my _ (side l after sent_past) _ _ _ _ _ _
      (same_side same (ap (λ (more : List Message). added_at k more p.near_past.sent l)
      (nothing_sent k p.near after same) ∙ added_none k l p.near_past.sent) refl) refl refl refl (h.ties l))

-- A UNIT IS LOST from the line out
pub loses : (mx my : Method) (p : Two) → HoldsOf mx my p → (k place : ℕ) → k < length p.near.links
    → place < length (units_on k p.out)
    → HoldsOf mx my (record p { out = with_units k (without place (units_on k p.out)) p.out })
loses mx my p h k place few within = record {
  near_sound = h.near_sound;
  far_sound = h.far_sound;
  near_method = h.near_method;
  far_method = h.far_method;
  profiles = h.profiles;
  far_links = h.far_links;
  out_lines = length_set p.out k _ ∙ h.out_lines;
  back_lines = h.back_lines;
  ties = λ l. go l (k == l) refl;
}
  where
    go : (l : ℕ) (b : Bool) → (k == l) ≡ b
        → Tied l mx my (side l p.near p.near_past) (side l p.far p.far_past)
        (units_on l (with_units k (without place (units_on k p.out)) p.out)) (units_on l p.back)
    go l true d = subst (λ (m : ℕ). Tied m mx my (side m p.near p.near_past) (side m p.far p.far_past)
        (units_on m (with_units k (without place (units_on k p.out)) p.out)) (units_on m p.back)) (eqb-true k l d)
        (like k mx my _ _ _ _ _ _ _ _ refl refl (on_set k _ p.out (omega (arith, few, h.out_lines))) refl
        (lost k mx my _ _ (units_on k p.out) (units_on k p.back) place within (h.ties k)))
    go l false d = like l mx my _ _ _ _ _ _ _ _ refl refl (on_other l k _ p.out d) refl (h.ties l)

-- AN END HEARS the unit in front of the line back
module _ (mx my : Method) (one : IsOneMethod mx my) (p : Two) (h : HoldsOf mx my p) (k : ℕ)
    (few : k < length p.near.links) (unit : SignalUnit) (rest : List SignalUnit)
    (front : units_on k p.back ≡ unit ∷ rest) (link : LinkState) (at : IsAt k link Up p.near) where
  abbrev hearer_then : State
  hearer_then = (step p.near (Heard k unit)).state

  abbrev pub report : Report
  report = report_of (hearing.part k mx my one (side k p.near p.near_past) (side k p.far p.far_past) (units_on k p.out)
      rest unit link h.near_sound at h.profiles h.far_sound.fit)
      (hearing.taken k mx my one (side k p.near p.near_past) (side k p.far p.far_past) (units_on k p.out) rest unit link
      h.near_sound at h.profiles h.far_sound.fit).took

  abbrev heard_past : Past
  heard_past = past_heard k unit (p.far_past.sent k) (Answered (HeardBack report)) p.near_past

  front_tied : Tied k mx my (side k p.near p.near_past) (side k p.far p.far_past) (units_on k p.out) (unit ∷ rest)
  front_tied = subst (λ (us : List SignalUnit). Tied k mx my (side k p.near p.near_past) (side k p.far p.far_past) (units_on k p.out) us) front (h.ties k)

  pub event_is : step p.near (Heard k unit) ≡ controls unit k p.near link
  event_is = hearing.step_is k mx my one (side k p.near p.near_past) (side k p.far p.far_past) (units_on k p.out) rest
      unit link h.near_sound at h.profiles h.far_sound.fit front_tied

  heard_here : Tied k mx my (side k hearer_then heard_past) (side k p.far p.far_past) (units_on k p.out) (units_on k (with_units k rest p.back))
  heard_here = like k mx my _ (side k hearer_then heard_past) _ _ _ _ _ _
      (same_side (ap (λ (o : Outcome). o.state) event_is) refl
      (added_here k (taken_by report.took (body_in unit)) p.near_past.taken)) refl refl
      (on_set k rest p.back (omega (arith, few, h.back_lines)))
      (hearing.hears k mx my one (side k p.near p.near_past) (side k p.far p.far_past) (units_on k p.out) rest unit link
      h.near_sound at h.profiles h.far_sound.fit front_tied)

  heard_there : (l : ℕ) → (k == l) ≡ false
      → Tied l mx my (side l hearer_then heard_past) (side l p.far p.far_past) (units_on l p.out)
      (units_on l (with_units k rest p.back))
  heard_there l d = like l mx my _ (side l hearer_then heard_past) _ _ _ _ _ _
      (same_side refl refl (added_other k l _ p.near_past.taken d)) refl refl (on_other l k rest p.back d)
      (goes_on mx my p h (Heard k unit) l d (heard_follows l k unit p.near d))

  pub hears_up : HoldsOf mx my (record p { near = hearer_then; near_past = heard_past; back = with_units k rest p.back })
  hears_up = event_holds mx my p h (Heard k unit) heard_past p.out (with_units k rest p.back) refl (length_set p.back k rest) (λ l. go l (k == l) refl)
    where
      go : (l : ℕ) (b : Bool) → (k == l) ≡ b
          → Tied l mx my (side l hearer_then heard_past) (side l p.far p.far_past) (units_on l p.out)
          (units_on l (with_units k rest p.back))
      go l true d = subst (λ (m : ℕ). Tied m mx my (side m hearer_then heard_past) (side m p.far p.far_past)
          (units_on m p.out) (units_on m (with_units k rest p.back))) (eqb-true k l d) heard_here
      go l false d = heard_there l d

  pub answers_heard : (step p.near (Heard k unit)).answer ≡ HeardBack report
  answers_heard = ap (λ (o : Outcome). o.answer) event_is

  pub tells_none : report.fault ≡ None
  tells_none = rw (hearing.no_fault k mx my one (side k p.near p.near_past) (side k p.far p.far_past) (units_on k p.out)
      rest unit link h.near_sound at h.profiles h.far_sound.fit front_tied) refl

-- A LINK COMES UP at both ends
module _ (mx my : Method) (p : Two) (h : HoldsOf mx my p) (k : ℕ) (few : k < length p.near.links)
    (near_settled : is_settled k p.near ≡ true) (far_settled : is_settled k p.far ≡ true) where
  abbrev near_then : State
  near_then = (step p.near (UpEvent k)).state

  abbrev far_then : State
  far_then = (step p.far (UpEvent k)).state

  abbrev pub risen : Two
  risen = record {
    near = near_then;
    far = far_then;
    near_past = past_risen k p.near_past;
    far_past = past_risen k p.far_past;
    out = with_units k [] p.out;
    back = with_units k [] p.back;
  }

  cleared_here : {X : Type 0} (f : ℕ → List X) → cleared_at k f k ≡ []
  cleared_here f = rw (itself k) refl

  cleared_other : {X : Type 0} (l : ℕ) (f : ℕ → List X) → (k == l) ≡ false → cleared_at k f l ≡ f l
  cleared_other l f d = rw (apart_back k l d) refl

  risen_here : TiedAt k mx my risen
  risen_here =
      let a = settled_at k p.near near_settled in
      let b = settled_at k p.far far_settled in
      like k mx my (new_side near_then) (side k near_then (past_risen k p.near_past)) (new_side far_then) (side k far_then (past_risen k p.far_past)) [] _ [] _
      (same_side refl (cleared_here p.near_past.sent) (cleared_here p.near_past.taken))
      (same_side refl (cleared_here p.far_past.sent) (cleared_here p.far_past.taken))
      (on_set k [] p.out (omega (arith, few, h.out_lines)))
      (on_set k [] p.back (omega (arith, few, h.back_lines)))
      (rises_tied p.near.settings.profile k mx my near_then far_then
      (fresh k p.near.settings.profile mx p.near h.near_sound refl h.near_method a.0 a.1)
      (fresh k p.near.settings.profile my p.far h.far_sound h.profiles h.far_method b.0 b.1)
      (fresh_begins k p.near.settings.profile mx p.near h.near_sound refl h.near_method a.0 a.1)
      (fresh_begins k p.near.settings.profile my p.far h.far_sound h.profiles h.far_method b.0 b.1)
      refl refl refl refl
      (fresh_goes k p.near.settings.profile mx p.near h.near_sound refl h.near_method a.0 a.1)
      (fresh_goes k p.near.settings.profile my p.far h.far_sound h.profiles h.far_method b.0 b.1)
      (fresh_counts k p.near.settings.profile mx p.near h.near_sound refl h.near_method a.0 a.1)
      (fresh_counts k p.near.settings.profile my p.far h.far_sound h.profiles h.far_method b.0 b.1))

  risen_there : (l : ℕ) → (k == l) ≡ false → TiedAt l mx my risen
  risen_there l d =
      let one = goes_on mx my p h (UpEvent k) l d (up_follows l k p.near (no_other k l d)) in
      let back = turned l mx my _ _ _ _ one in
      let two = follows l my mx (side l p.far p.far_past) (side l near_then p.near_past) (units_on l p.back)
      (units_on l p.out) far_then (keeps my mx (swapped p) (swap mx my p h) (UpEvent k))
      (count_stays l p.far (UpEvent k) d) (up_follows l k p.far (no_other k l d)) back in
      like l mx my (side l near_then p.near_past) (side l near_then (past_risen k p.near_past))
      (side l far_then p.far_past) (side l far_then (past_risen k p.far_past)) (units_on l p.out) _
      (units_on l p.back) _
      (same_side refl (cleared_other l p.near_past.sent d) (cleared_other l p.near_past.taken d))
      (same_side refl (cleared_other l p.far_past.sent d) (cleared_other l p.far_past.taken d))
      (on_other l k [] p.out d)
      (on_other l k [] p.back d)
      (turned l my mx _ _ _ _ two)

  pub rises : HoldsOf mx my risen
  rises =
      let count = link_count_stays p.near (UpEvent k) in
      let far_count = link_count_stays p.far (UpEvent k) in
      record {
        near_sound = step_sound p.near (UpEvent k) h.near_sound;
        far_sound = step_sound p.far (UpEvent k) h.far_sound;
        near_method = ap (λ (s : Settings). s.method) (settings_stay p.near (UpEvent k)) ∙ h.near_method;
        far_method = ap (λ (s : Settings). s.method) (settings_stay p.far (UpEvent k)) ∙ h.far_method;
        profiles = ap (λ (s : Settings). s.profile) (settings_stay p.far (UpEvent k)) ∙ h.profiles
            ∙ sym (ap (λ (s : Settings). s.profile) (settings_stay p.near (UpEvent k)));
        far_links = far_count ∙ h.far_links ∙ sym count;
        out_lines = length_set p.out k [] ∙ h.out_lines ∙ sym count;
        back_lines = length_set p.back k [] ∙ h.back_lines ∙ sym count;
        ties = λ l. go l (k == l) refl;
      }
    where
      go : (l : ℕ) (b : Bool) → (k == l) ≡ b → TiedAt l mx my risen
      go l true d = subst (λ (m : ℕ). TiedAt m mx my risen) (eqb-true k l d) risen_here
      go l false d = risen_there l d
