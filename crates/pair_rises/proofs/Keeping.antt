-- THE TIE OF EACH LINK IN EVERY HONEST RUN, also where a changeover is given up: what holds of two ends as they're seen
-- (`Linked`) needs no more than the tie of each link. A covered link stays as it's seen, and nothing stands on it; any other
-- is as it is (`seen_tied`). So a unit that an end hears keeps it, whatever order it brings (`hears`), and so do a life that
-- begins (`begins`), the end that joins it (`joins`) or fills its line (`fills`), and what is lost (`loses`).
use Rattle.std.proofs.Common.{refl, arith, ◌≡◌, ◌∙◌, ap, sym, subst, ℕ, ◌<◌, ◌==◌, Bool, true, false, List, [], ◌∷◌, length, slice_get, Option, Some, None, ◌⊎◌, inl, inr, cond}
use Rattle.l2_units.specs.declared.profile.Profile.{Profile}
use Rattle.l2_units.specs.declared.unit.Unit.{Unit as SignalUnit}
use Rattle.pair_steps.specs.Lines.{units_on, with_units, without, joined_on}
use Rattle.pair_steps.specs.declared.step.Shown.{Shown}
use Rattle.pair_steps.specs.declared.step.Shown.TheVariants.{Answered}
use Rattle.set_events.specs.declared.answer.Answer.{Answer}
use Rattle.set_events.specs.declared.answer.Answer.TheVariants.{Heard as HeardBack}
use Rattle.set_events.specs.declared.answer.Report.{Report}
use Rattle.set_events.specs.declared.config.Method.{Method}
use Rattle.set_events.specs.declared.event.Event.TheVariants.{Heard as HeardEvent, Up as UpEvent}
use Rattle.set_model.specs.declared.phase.Phase.TheVariants.{Up, Settled}
use Rattle.set_model.specs.Sound.{IsSound}
use Rattle.set_model.specs.State.{LinkState, State, Settings, is_settled}
use Rattle.set_model.specs.Step.{Outcome, report_of, controls, step}
use Rattle.set_model.proofs.Events.{untouched}
use Rattle.set_model.proofs.Lists.{get_set_same, same_at, within, length_set}
use Rattle.set_model.proofs.Places.{itself, apart_back}
use Rattle.set_model.proofs.Settling.{settled_empty}
use Rattle.set_model.proofs.Soundness.{step_sound}
use Rattle.set_model.proofs.Staying.{keeps_messages}
use Rattle.set_model.proofs.Walk.{link_count_stays, IsAt}
use Rattle.set_veiled.specs.Veil.{dormant, veil}
use Rattle.pair_model.specs.Promises.{IsOneMethod, TellsNoFault}
use Rattle.pair_model.specs.Run.{Message, Past, past_risen, past_heard, cleared_at}
use Rattle.pair_model.proofs.Counts.{CountStays, count_stays}
use Rattle.pair_model.proofs.Following.{Follows, follows_untouched, follows_settled, follows_same, heard_follows, up_follows}
use Rattle.pair_model.proofs.Hearing as hearing
use Rattle.pair_model.proofs.Moving.{same_side}
use Rattle.pair_model.proofs.Moving as moving
use Rattle.pair_model.proofs.Pairs.{Two, HoldsOf, TiedAt, swap, side, like, on_set, on_other, no_other, settings_stay}
use Rattle.pair_model.proofs.Rising.{settled_at, new_side}
use Rattle.pair_model.proofs.Tied.{keeps_itself, KeepBodies, keep_bodies, Side, Tied, turned as turned_tie, follows}
use Rattle.pair_rises.specs.Rises.{Cover, inside, awaited, missed, is_covered, closed, cover_of, told_at, seen_under, idle_unit, missed_by, missed_at, takes_order, order_about, covers_heard}
use Rattle.pair_rises.proofs.Covers.{told_here, told_other, told_each, ft, told_fits, each}
use Rattle.pair_rises.proofs.Heard as under_veils
use Rattle.pair_rises.proofs.Pair.{joins_holds, fills_holds}
use Rattle.pair_rises.proofs.Sides.{two, off, few_off, settled_off, covered_off, sound_off, off_rises, fits_then}
use Rattle.pair_rises.proofs.Staying.{settled_after}
use Rattle.pair_rises.proofs.Tying.{first_tied}
use Rattle.pair_rises.proofs.Veils.{Fits, cover_settled, seen_off, seen_same, seen_sound, seen_length}

-- HOW AN END STANDS to a link then: as it did, or it missed that life
abbrev pub Turns : Cover → Cover → Type 0
Turns c d = (d ≡ c) ⊎ ((c ≡ awaited) × (d ≡ missed))

turns_covered : (c d : Cover) → Turns c d → is_covered d ≡ true → is_covered c ≡ true
turns_covered c d (inl same) e = ap is_covered (sym same) ∙ e
turns_covered c d (inr p) e = ap is_covered p.0

turns_missed : (c : Cover) → Turns c (missed_by c)
turns_missed inside = inl refl
turns_missed awaited = inr (refl, refl)
turns_missed missed = inl refl

turns_at : (about : Option ℕ) (told : ℕ → Cover) (l : ℕ) → Turns (told l) (missed_at about told l)
turns_at None told l = inl refl
turns_at (Some n) told l = go (l == n)
  where
    go : (b : Bool) → Turns (told l) (cond b (missed_by (told l)) (told l))
    go true = turns_missed (told l)
    go false = inl refl

pub turns_heard : (profile : Profile) (line : List SignalUnit) (shown : Shown) (told : ℕ → Cover) (l : ℕ) → Turns (told l) (covers_heard profile line shown told l)
turns_heard profile [] shown told l = inl refl
turns_heard profile (unit ∷ line) shown told l = turns_at (cond (takes_order shown) (order_about profile unit) None) told l

-- A LINK THAT IS THE SAME in another state with these rows keeps its tie
pub same_tied : (l : ℕ) (mx my : Method) (s : State) (links : List LinkState) (sent : List Message) (taken : List (List ℕ)) (y : Side) (out back : List SignalUnit)
    → slice_get links l ≡ slice_get s.links l → Tied l mx my (record { state = s; sent = sent; taken = taken }) y out back
    → Tied l mx my (record { state = record s { links = links }; sent = sent; taken = taken }) y out back
same_tied l mx my s links sent taken y out back same t =
    follows l mx my (record { state = s; sent = sent; taken = taken }) y out back (record s { links = links }) (keeps_itself _)
    (λ after there. (after, sym same ∙ there, refl))
    (follows_untouched l s (record s { links = links }) same (untouched l s.rows s.rows refl)) t

-- A COVERED LINK AS IT'S SEEN
module _ (told : ℕ → Cover) (s : State) (sound : IsSound s) (fits : Fits told s) (l : ℕ) where
  pub seen_cover : (is : Cover) (x : LinkState) → told l ≡ is → cover_of s.settings is ≡ Some x → slice_get (seen_under told s).links l ≡ Some x
  seen_cover is x e by =
      let settled = fits l (ap is_covered e ∙ (cover_settled s.settings is x by).0) in
      ap (λ (t : State). slice_get t.links l) (covered_off l told s sound settled is x e by)
      ∙ get_set_same (off l told s sound settled).links l x (few_off l told s sound settled)

-- an event at its end, as it's seen before and then
module _ (l : ℕ) (told then : ℕ → Cover) (s t : State) (sound : IsSound s) (sound_then : IsSound t) (fits : Fits told s) (fits_then : Fits then t)
    (settings : t.settings ≡ s.settings) (turns : Turns (told l) (then l)) where
  abbrev was : State
  was = seen_under told s

  abbrev now : State
  now = seen_under then t

  inside_follows : told l ≡ inside → then l ≡ inside → Follows l s t → Follows l was now
  inside_follows e d f = λ after there unsettled.
      let g = f after (sym (seen_off then t l d) ∙ there) unsettled in
      record {
        link = g.link;
        there = seen_off told s l e ∙ g.there;
        unsettled = g.unsettled;
        control = g.control;
        profile = g.profile;
        acked = g.acked;
        unack_same = g.unack_same;
      }

  awaited_follows : told l ≡ awaited → then l ≡ awaited → Follows l was now
  awaited_follows e d = λ after there unsettled.
      let is : after ≡ dormant s.settings =
      same_at now.links l (dormant t.settings) after (seen_cover then t sound_then fits_then l awaited (dormant t.settings) d refl) there ∙ ap dormant settings in
      let before = settled_at l s (fits l (ap is_covered e)) in
      let none_before = settled_empty s l before.0 sound before.1.there before.1.phase_is in
      let later = settled_at l t (fits_then l (ap is_covered d)) in
      let none_later = settled_empty t l later.0 sound_then later.1.there later.1.phase_is in
      record {
        link = dormant s.settings;
        there = seen_cover told s sound fits l awaited (dormant s.settings) e refl;
        unsettled = refl;
        control = ap (λ (x : LinkState). x.control) is;
        profile = ap (λ (x : LinkState). x.profile) is;
        acked = ap (λ (x : LinkState). x.acked) is;
        unack_same = none_later.unack_none ∙ sym none_before.unack_none;
      }

  missed_follows : then l ≡ missed → Follows l was now
  missed_follows d = follows_settled l was now (closed t.settings) (seen_cover then t sound_then fits_then l missed (closed t.settings) d refl) refl

  pub seen_follows : Follows l s t → Follows l was now
  seen_follows f = go (then l) refl turns
    where
      go : (d : Cover) → then l ≡ d → Turns (told l) (then l) → Follows l was now
      go missed d turns = missed_follows d
      go inside d (inl same) = inside_follows (sym same ∙ d) d f
      go awaited d (inl same) = awaited_follows (sym same ∙ d) d
      go inside d (inr p) = absurd (let no : inside ≡ missed = sym d ∙ p.1 in cc)
      go awaited d (inr p) = absurd (let no : awaited ≡ missed = sym d ∙ p.1 in cc)

  -- it counts as many as accepted: none
  covered_counts : (is later : Cover) (x y : LinkState) → told l ≡ is → then l ≡ later → cover_of s.settings is ≡ Some x → cover_of t.settings later ≡ Some y
      → y.accepted ≡ x.accepted → CountStays l was now
  covered_counts is later x y e d by to same = λ after there. (
    x,
    seen_cover told s sound fits l is x e by,
    ap (λ (link : LinkState). link.accepted) (same_at now.links l y after (seen_cover then t sound_then fits_then l later y d to) there) ∙ same,
  )

  pub seen_counts : CountStays l s t → CountStays l was now
  seen_counts c = go (told l) refl (then l) refl turns
    where
      go : (b : Cover) → told l ≡ b → (d : Cover) → then l ≡ d → Turns (told l) (then l) → CountStays l was now
      go inside e inside d turns = λ after there. let g = c after (sym (seen_off then t l d) ∙ there) in (g.0, seen_off told s l e ∙ g.1, g.2)
      go awaited e awaited d turns = covered_counts awaited awaited (dormant s.settings) (dormant t.settings) e d refl refl refl
      go awaited e missed d turns = covered_counts awaited missed (dormant s.settings) (closed t.settings) e d refl refl refl
      go missed e missed d turns = covered_counts missed missed (closed s.settings) (closed t.settings) e d refl refl refl
      go inside e awaited d (inl same) = absurd (let no : awaited ≡ inside = sym d ∙ same ∙ e in cc)
      go inside e missed d (inl same) = absurd (let no : missed ≡ inside = sym d ∙ same ∙ e in cc)
      go awaited e inside d (inl same) = absurd (let no : inside ≡ awaited = sym d ∙ same ∙ e in cc)
      go missed e inside d (inl same) = absurd (let no : inside ≡ missed = sym d ∙ same ∙ e in cc)
      go missed e awaited d (inl same) = absurd (let no : awaited ≡ missed = sym d ∙ same ∙ e in cc)
      go inside e awaited d (inr p) = absurd (let no : inside ≡ awaited = sym e ∙ p.0 in cc)
      go inside e missed d (inr p) = absurd (let no : inside ≡ awaited = sym e ∙ p.0 in cc)
      go awaited e inside d (inr p) = absurd (let no : inside ≡ missed = sym d ∙ p.1 in cc)
      go missed e inside d (inr p) = absurd (let no : missed ≡ awaited = sym e ∙ p.0 in cc)
      go missed e awaited d (inr p) = absurd (let no : missed ≡ awaited = sym e ∙ p.0 in cc)

  pub seen_tied : (mx my : Method) (sent : List Message) (taken : List (List ℕ)) (y : Side) (out back : List SignalUnit)
      → KeepBodies s.rows t.rows → Follows l s t → CountStays l s t
      → Tied l mx my (record { state = was; sent = sent; taken = taken }) y out back → Tied l mx my (record { state = now; sent = sent; taken = taken }) y out back
  seen_tied mx my sent taken y out back keep f c =
      follows l mx my (record { state = was; sent = sent; taken = taken }) y out back now keep (seen_counts c) (seen_follows f)

-- TWO ENDS as they're seen
pub record Linked (mx my : Method) (ox oy : ℕ → Cover) (sx sy : State) (x_past y_past : Past) (out back : List (List SignalUnit)) : Type 0 where
  pub links : HoldsOf mx my (two ox oy sx sy x_past y_past out back)
  pub sound_x : IsSound sx
  pub sound_y : IsSound sy
  pub fit_x : Fits ox sx
  pub fit_y : Fits oy sy
  -- an end that isn't in a life sent nothing in it
  pub none_x : (l : ℕ) → is_covered (ox l) ≡ true → x_past.sent l ≡ []
  pub none_y : (l : ℕ) → is_covered (oy l) ≡ true → y_past.sent l ≡ []

-- told in other words
pub retold : {mx my : Method} {ox oy : ℕ → Cover} {sx sy : State} {x_past y_past : Past} {out back : List (List SignalUnit)}
    (more_x more_y : ℕ → Cover) → ((l : ℕ) → more_x l ≡ ox l) → ((l : ℕ) → more_y l ≡ oy l)
    → Linked mx my ox oy sx sy x_past y_past out back → Linked mx my more_x more_y sx sy x_past y_past out back
retold {mx} {my} {ox} {oy} {sx} {sy} {x_past} {y_past} {out} {back} more_x more_y near far h = record {
  links = subst (λ (x : State). HoldsOf mx my (around x (seen_under more_y sy))) (sym (seen_same ox more_x sx near))
      (subst (λ (y : State). HoldsOf mx my (around (seen_under ox sx) y)) (sym (seen_same oy more_y sy far)) h.links);
  sound_x = h.sound_x;
  sound_y = h.sound_y;
  fit_x = λ l e. h.fit_x l (ap is_covered (sym (near l)) ∙ e);
  fit_y = λ l e. h.fit_y l (ap is_covered (sym (far l)) ∙ e);
  none_x = λ l e. h.none_x l (ap is_covered (sym (near l)) ∙ e);
  none_y = λ l e. h.none_y l (ap is_covered (sym (far l)) ∙ e);
}
  where
    around : State → State → Two
    around x y = record { near = x; far = y; near_past = x_past; far_past = y_past; out = out; back = back }

-- nothing was sent on a link whose life begins
cleared_none : (k l : ℕ) (sent : ℕ → List Message) → ((k == l) ≡ false → sent l ≡ []) → cleared_at k sent l ≡ []
cleared_none k l sent none = go (l == k) refl
  where
    go : (b : Bool) → (l == k) ≡ b → cond b [] (sent l) ≡ []
    go true e = refl
    go false e = none (apart_back l k e)

module _ {mx my : Method} {ox oy : ℕ → Cover} {sx sy : State} {x_past y_past : Past} {out back : List (List SignalUnit)}
    (h : Linked mx my ox oy sx sy x_past y_past out back) where
  abbrev p : Two
  p = two ox oy sx sy x_past y_past out back

  abbrev sy_seen : State
  sy_seen = seen_under oy sy

  -- FROM THE OTHER END
  pub turned : Linked my mx oy ox sy sx y_past x_past back out
  turned = record {
    links = swap mx my p h.links;
    sound_x = h.sound_y;
    sound_y = h.sound_x;
    fit_x = h.fit_y;
    fit_y = h.fit_x;
    none_x = h.none_y;
    none_y = h.none_x;
  }

  -- A UNIT IS LOST from the line back
  pub loses : (k : ℕ) (unit : SignalUnit) (rest : List SignalUnit) → k < length sx.links → units_on k back ≡ unit ∷ rest
      → Linked mx my ox oy sx sy x_past y_past out (with_units k rest back)
  loses k unit rest few front = record {
    links = subst (λ (line : List SignalUnit). HoldsOf mx my (record p { back = with_units k line back })) (ap (without 0) front)
        (swap my mx _ (moving.loses my mx _ (swap mx my p h.links) k 0 (omega (arith, few, seen_length ox sx, h.links.far_links)) (rw front (omega arith))));
    sound_x = h.sound_x;
    sound_y = h.sound_y;
    fit_x = h.fit_x;
    fit_y = h.fit_y;
    none_x = h.none_x;
    none_y = h.none_y;
  }

  -- IT HEARS
  module _ (one : IsOneMethod mx my) (k : ℕ) (few : k < length sx.links) (unit : SignalUnit) (rest : List SignalUnit) (front : units_on k back ≡ unit ∷ rest)
      (link : LinkState) (at : IsAt k link Up sx) (then : ℕ → Cover) (turns : (l : ℕ) → Turns (ox l) (then l)) where
    abbrev t : State
    t = (step sx (HeardEvent k unit)).state

    k_inside : ox k ≡ inside
    k_inside = let is = under_veils.k_is ox sx h.fit_x k link at unit in is

    k_then : then k ≡ inside
    k_then = go (turns k)
      where
        go : Turns (ox k) (then k) → then k ≡ inside
        go (inl same) = same ∙ k_inside
        go (inr p) = absurd (let no : inside ≡ awaited = sym k_inside ∙ p.0 in cc)

    abbrev bare : Side
    bare = side k sx x_past

    abbrev far : Side
    far = side k sy_seen y_past

    bare_tied : Tied k mx my bare far (units_on k out) (unit ∷ rest)
    bare_tied = same_tied k mx my (seen_under ox sx) sx.links (x_past.sent k) (x_past.taken k) far (units_on k out) (unit ∷ rest) (sym (seen_off ox sx k k_inside))
        (subst (λ (us : List SignalUnit). Tied k mx my (side k (seen_under ox sx) x_past) far (units_on k out) us) front (h.links.ties k))

    abbrev report : Report
    report = report_of (hearing.part k mx my one bare far (units_on k out) rest unit link h.sound_x at h.links.profiles h.links.far_sound.fit)
        (hearing.taken k mx my one bare far (units_on k out) rest unit link h.sound_x at h.links.profiles h.links.far_sound.fit).took

    abbrev heard_past : Past
    heard_past = past_heard k unit (y_past.sent k) (Answered (HeardBack report)) x_past

    step_is : step sx (HeardEvent k unit) ≡ controls unit k sx link
    step_is = hearing.step_is k mx my one bare far (units_on k out) rest unit link h.sound_x at h.links.profiles h.links.far_sound.fit bare_tied

    pub answers : (step sx (HeardEvent k unit)).answer ≡ HeardBack report
    answers = ap (λ (o : Outcome). o.answer) step_is

    pub tells : TellsNoFault (Answered (step sx (HeardEvent k unit)).answer)
    tells = subst (λ (a : Answer). TellsNoFault (Answered a)) (sym answers)
        (hearing.no_fault k mx my one bare far (units_on k out) rest unit link h.sound_x at h.links.profiles h.links.far_sound.fit bare_tied)

    sound_t : IsSound t
    sound_t = step_sound sx (HeardEvent k unit) h.sound_x

    settings_t : t.settings ≡ sx.settings
    settings_t = settings_stay sx (HeardEvent k unit)

    fits_t : Fits then t
    fits_t l e = settled_after l sx (HeardEvent k unit) tt (h.fit_x l (turns_covered (ox l) (then l) (turns l) e))

    keep : KeepBodies sx.rows t.rows
    keep = keep_bodies sx t h.sound_x.numbered (keeps_messages sx (HeardEvent k unit) h.sound_x.numbered)

    abbrev heard_two : Two
    heard_two = two then oy t sy heard_past y_past out (with_units k rest back)

    few_seen : k < length p.near.links
    few_seen = omega (arith, few, seen_length ox sx)

    heard_here : TiedAt k mx my heard_two
    heard_here = same_tied k mx my t (seen_under then t).links (heard_past.sent k) (heard_past.taken k) far (units_on k out) (units_on k (with_units k rest back)) (seen_off then t k k_then)
        (like k mx my _ (side k t heard_past) _ _ _ _ _ _
        (same_side (ap (λ (o : Outcome). o.state) step_is) refl (rw (itself k) refl)) refl refl
        (on_set k rest back (omega (arith, few_seen, h.links.back_lines)))
        (hearing.hears k mx my one bare far (units_on k out) rest unit link h.sound_x at h.links.profiles h.links.far_sound.fit bare_tied))

    heard_there : (l : ℕ) → (k == l) ≡ false → TiedAt l mx my heard_two
    heard_there l d = like l mx my (side l (seen_under then t) x_past) (side l (seen_under then t) heard_past) _ _ _ _ _ _
        (same_side refl refl (rw (apart_back k l d) refl)) refl refl (on_other l k rest back d)
        (seen_tied l ox then sx t h.sound_x sound_t h.fit_x fits_t settings_t (turns l) mx my (x_past.sent l) (x_past.taken l) (side l sy_seen y_past) (units_on l out) (units_on l back)
        keep (heard_follows l k unit sx d) (count_stays l sx (HeardEvent k unit) d) (h.links.ties l))

    heard_so : Linked mx my then oy t sy heard_past y_past out (with_units k rest back)
    heard_so =
        let count = link_count_stays sx (HeardEvent k unit) in
        let same : length (seen_under ox sx).links ≡ length (seen_under then t).links = omega (arith, count, seen_length ox sx, seen_length then t) in
        record {
          links = record {
            near_sound = seen_sound then t fits_t sound_t;
            far_sound = h.links.far_sound;
            near_method = ap (λ (s : Settings). s.method) settings_t ∙ h.links.near_method;
            far_method = h.links.far_method;
            profiles = h.links.profiles ∙ sym (ap (λ (s : Settings). s.profile) settings_t);
            far_links = h.links.far_links ∙ same;
            out_lines = h.links.out_lines ∙ same;
            back_lines = length_set back k rest ∙ h.links.back_lines ∙ same;
            ties = each k (λ l. TiedAt l mx my heard_two) heard_here heard_there;
          };
          sound_x = sound_t;
          sound_y = h.sound_y;
          fit_x = fits_t;
          fit_y = h.fit_y;
          none_x = λ l e. h.none_x l (turns_covered (ox l) (then l) (turns l) e);
          none_y = h.none_y;
        }

    pub hears : Linked mx my then oy t sy (past_heard k unit (y_past.sent k) (Answered (step sx (HeardEvent k unit)).answer) x_past) y_past out (with_units k rest back)
    hears = subst (λ (a : Answer). Linked mx my then oy t sy (past_heard k unit (y_past.sent k) (Answered a) x_past) y_past out (with_units k rest back)) (sym answers) heard_so

  -- A LIFE BEGINS
  module _ (k : ℕ) (near_settled : is_settled k sx ≡ true) (far_settled : is_settled k sy ≡ true) where
    abbrev t_up : State
    t_up = (step sx (UpEvent k)).state

    abbrev ox_up : ℕ → Cover
    ox_up = told_at k inside ox

    abbrev oy_up : ℕ → Cover
    oy_up = told_at k awaited oy

    abbrev begun_two : Two
    begun_two = two ox_up oy_up t_up sy (past_risen k x_past) (past_risen k y_past) (with_units k [] out) (with_units k [] back)

    sound_up : IsSound t_up
    sound_up = step_sound sx (UpEvent k) h.sound_x

    settings_up : t_up.settings ≡ sx.settings
    settings_up = settings_stay sx (UpEvent k)

    fits_up : Fits ox_up t_up
    fits_up = fits_then k ox sx h.sound_x near_settled h.fit_x

    fits_far : Fits oy_up sy
    fits_far = told_fits k awaited oy sy (λ e. far_settled) h.fit_y

    keep_up : KeepBodies sx.rows t_up.rows
    keep_up = keep_bodies sx t_up h.sound_x.numbered (keeps_messages sx (UpEvent k) h.sound_x.numbered)

    cleared_here : {X : Type 0} (f : ℕ → List X) → cleared_at k f k ≡ []
    cleared_here f = rw (itself k) refl

    cleared_other : {X : Type 0} (l : ℕ) (f : ℕ → List X) → (k == l) ≡ false → cleared_at k f l ≡ f l
    cleared_other l f d = rw (apart_back k l d) refl

    few_k : k < length p.near.links
    few_k = let a = settled_at k sx near_settled in omega (arith, within sx.links k a.0 a.1.there, seen_length ox sx)

    -- the two settled links, as they're seen then
    begun_here : TiedAt k mx my begun_two
    begun_here =
        let a = settled_at k sx near_settled in
        let b = settled_at k sy far_settled in
        let first = first_tied k sx.settings.profile mx my sx sy h.sound_x h.sound_y refl h.links.near_method h.links.profiles h.links.far_method a.0 b.0 a.1 b.1 in
        let near = same_tied k mx my t_up (seen_under ox_up t_up).links [] [] (new_side (veil (dormant sy.settings) k sy)) [] [] (seen_off ox_up t_up k (told_here k inside ox)) first in
        let there = seen_cover oy_up sy h.sound_y fits_far k awaited (dormant sy.settings) (told_here k awaited oy) refl in
        let under = get_set_same sy.links k (dormant sy.settings) (within sy.links k b.0 b.1.there) in
        let far = same_tied k my mx (veil (dormant sy.settings) k sy) (seen_under oy_up sy).links [] [] (new_side (seen_under ox_up t_up)) [] [] (there ∙ sym under)
        (turned_tie k mx my _ _ _ _ near) in
        like k mx my (new_side (seen_under ox_up t_up)) (side k (seen_under ox_up t_up) (past_risen k x_past)) (new_side (seen_under oy_up sy)) (side k (seen_under oy_up sy) (past_risen k y_past)) [] _ [] _
        (same_side refl (cleared_here x_past.sent) (cleared_here x_past.taken))
        (same_side refl (cleared_here y_past.sent) (cleared_here y_past.taken))
        (on_set k [] out (omega (arith, few_k, h.links.out_lines)))
        (on_set k [] back (omega (arith, few_k, h.links.back_lines)))
        (turned_tie k my mx _ _ _ _ far)

    begun_there : (l : ℕ) → (k == l) ≡ false → TiedAt l mx my begun_two
    begun_there l d =
        let one = seen_tied l ox ox_up sx t_up h.sound_x sound_up h.fit_x fits_up settings_up (inl (told_other k inside ox l (apart_back k l d))) mx my
        (x_past.sent l) (x_past.taken l) (side l sy_seen y_past) (units_on l out) (units_on l back)
        keep_up (up_follows l k sx (no_other k l d)) (count_stays l sx (UpEvent k) d) (h.links.ties l) in
        let two = seen_tied l oy oy_up sy sy h.sound_y h.sound_y h.fit_y fits_far refl (inl (told_other k awaited oy l (apart_back k l d))) my mx
        (y_past.sent l) (y_past.taken l) (side l (seen_under ox_up t_up) x_past) (units_on l back) (units_on l out)
        (keeps_itself _) (follows_same l sy) (λ after there. (after, there, refl)) (turned_tie l mx my _ _ _ _ one) in
        like l mx my (side l (seen_under ox_up t_up) x_past) (side l (seen_under ox_up t_up) (past_risen k x_past))
        (side l (seen_under oy_up sy) y_past) (side l (seen_under oy_up sy) (past_risen k y_past)) (units_on l out) _ (units_on l back) _
        (same_side refl (cleared_other l x_past.sent d) (cleared_other l x_past.taken d))
        (same_side refl (cleared_other l y_past.sent d) (cleared_other l y_past.taken d))
        (on_other l k [] out d)
        (on_other l k [] back d)
        (turned_tie l my mx _ _ _ _ two)

    pub begins : Linked mx my ox_up oy_up t_up sy (past_risen k x_past) (past_risen k y_past) (with_units k [] out) (with_units k [] back)
    begins =
        let count = link_count_stays sx (UpEvent k) in
        let same : length (seen_under ox sx).links ≡ length (seen_under ox_up t_up).links = omega (arith, count, seen_length ox sx, seen_length ox_up t_up) in
        let far_same : length (seen_under oy_up sy).links ≡ length (seen_under oy sy).links = omega (arith, seen_length oy sy, seen_length oy_up sy) in
        record {
          links = record {
            near_sound = seen_sound ox_up t_up fits_up sound_up;
            far_sound = seen_sound oy_up sy fits_far h.sound_y;
            near_method = ap (λ (s : Settings). s.method) settings_up ∙ h.links.near_method;
            far_method = h.links.far_method;
            profiles = h.links.profiles ∙ sym (ap (λ (s : Settings). s.profile) settings_up);
            far_links = far_same ∙ h.links.far_links ∙ same;
            out_lines = length_set out k [] ∙ h.links.out_lines ∙ same;
            back_lines = length_set back k [] ∙ h.links.back_lines ∙ same;
            ties = each k (λ l. TiedAt l mx my begun_two) begun_here begun_there;
          };
          sound_x = sound_up;
          sound_y = h.sound_y;
          fit_x = fits_up;
          fit_y = fits_far;
          none_x = λ l e. cleared_none k l x_past.sent (λ d. h.none_x l (ap is_covered (sym (told_other k inside ox l (apart_back k l d))) ∙ e));
          none_y = λ l e. cleared_none k l y_past.sent (λ d. h.none_y l (ap is_covered (sym (told_other k awaited oy l (apart_back k l d))) ∙ e));
        }

  -- IT JOINS, or fills its line
  module _ (k : ℕ) (waits : ox k ≡ awaited) where
    settled_k : is_settled k sx ≡ true
    settled_k = h.fit_x k (ap is_covered waits)

    abbrev u : State
    u = off k ox sx h.sound_x settled_k

    u_at : (link : LinkState) × IsAt k link Settled u
    u_at = settled_at k u (settled_off k ox sx h.sound_x settled_k)

    sound_u : IsSound u
    sound_u = sound_off k ox sx h.sound_x settled_k h.fit_x

    few_u : k < length u.links
    few_u = few_off k ox sx h.sound_x settled_k

    near_was : seen_under ox sx ≡ veil (dormant u.settings) k u
    near_was = covered_off k ox sx h.sound_x settled_k awaited (dormant sx.settings) waits refl

    abbrev around : List (List SignalUnit) → State → Two
    around line x = record { near = x; far = sy_seen; near_past = x_past; far_past = y_past; out = line; back = back }

    h_u : HoldsOf mx my (around out (veil (dormant u.settings) k u))
    h_u = subst (λ (x : State). HoldsOf mx my (around out x)) near_was h.links

    pub joins : Linked mx my (told_at k inside ox) oy (step sx (UpEvent k)).state sy x_past y_past out back
    joins = record {
      links = subst (λ (x : State). HoldsOf mx my (around out x)) (off_rises k ox sx h.sound_x settled_k h.fit_x)
          (joins_holds mx my u sy_seen x_past y_past out back k sound_u u_at.0 u_at.1 few_u h_u);
      sound_x = step_sound sx (UpEvent k) h.sound_x;
      sound_y = h.sound_y;
      fit_x = fits_then k ox sx h.sound_x settled_k h.fit_x;
      fit_y = h.fit_y;
      none_x = told_each k inside ox (λ l c. is_covered c ≡ true → x_past.sent l ≡ []) (λ e. ft e) (λ l d e. h.none_x l e);
      none_y = h.none_y;
    }

    pub fills : Linked mx my ox oy sx sy x_past y_past (joined_on k (idle_unit sx.settings.profile sx.settings.method) out) back
    fills = record {
      links = subst (λ (x : State). HoldsOf mx my (around (joined_on k (idle_unit sx.settings.profile sx.settings.method) out) x)) (sym near_was)
          (fills_holds mx my u sy_seen x_past y_past out back k sound_u u_at.0 u_at.1 few_u h_u);
      sound_x = h.sound_x;
      sound_y = h.sound_y;
      fit_x = h.fit_x;
      fit_y = h.fit_y;
      none_x = h.none_x;
      none_y = h.none_y;
    }

  -- nor did it accept anything
  pub none_taken : (l : ℕ) → is_covered (ox l) ≡ true → x_past.taken l ≡ []
  none_taken l on = go (ox l) refl on
    where
      counted : (is : Cover) (cover : LinkState) → ox l ≡ is → cover_of sx.settings is ≡ Some cover → cover.accepted ≡ 0 → x_past.taken l ≡ []
      counted is cover e by none =
          let count = (h.links.ties l).ties.near_counts cover (seen_cover ox sx h.sound_x h.fit_x l is cover e by) in
          none_in (x_past.taken l) (sym count ∙ none)
        where
          none_in : (xs : List (List ℕ)) → length xs ≡ 0 → xs ≡ []
          none_in [] e = refl
          none_in (x ∷ xs) e = absurd (omega (arith, e))

      go : (c : Cover) → ox l ≡ c → is_covered (ox l) ≡ true → x_past.taken l ≡ []
      go inside e on = ft (sym (ap is_covered e) ∙ on)
      go awaited e on = counted awaited (dormant sx.settings) e refl refl
      go missed e on = counted missed (closed sx.settings) e refl refl
