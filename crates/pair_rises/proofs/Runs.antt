-- EVERY RUN IN WHICH LINKS COME UP ONE AFTER THE OTHER KEEPS EACH STREAM: one induction over the moves. What holds along
-- is what pair_model's and pair_streams' runs keep, word for word, of the stage as it's seen under its veils (`Sides` of
-- Sides.antt); a step is theirs (Worlds.antt), and a rise, a fill and a unit that arrives are those of Sides.antt.
use Rattle.std.proofs.Common.{refl, arith, ◌≡◌, ◌∙◌, ap, ap₂, sym, subst, ℕ, zero, suc, ◌<◌, Bool, true, false, List, [], ◌∷◌, length, cond}
use Rattle.set_events.specs.declared.config.Method.{Method}
use Rattle.set_events.specs.declared.config.SetConfig.{SetConfig}
use Rattle.set_model.specs.State.{LinkState, State, Settings, is_up, link_is_up, has_phase_up, is_settled, settings_of}
use Rattle.set_model.proofs.Lists.{within}
use Rattle.set_model.proofs.Soundness.{opened_sound}
use Rattle.pair_steps.specs.declared.step.End.{End}
use Rattle.pair_steps.specs.declared.step.End.TheVariants.{A, B}
use Rattle.pair_steps.specs.declared.step.Shown.{Shown}
use Rattle.pair_steps.specs.declared.step.Shown.TheVariants.{Up as CameUp, Lost}
use Rattle.pair_steps.specs.declared.step.Step.{Step}
use Rattle.pair_steps.specs.declared.step.Step.TheVariants.{Act, Emit, Arrive, Lose, Together, Inject}
use Rattle.pair_model.specs.World.{World, Outcome, shows, impossible, exhausted, at_end, has_link, is_full, joined, carried_out}
use Rattle.pair_model.specs.Promises.{IsOneMethod, IsSoundStep}
use Rattle.pair_model.specs.Run.{Stage, begun, passed, OnShows}
use Rattle.pair_model.proofs.Controls.{one_back}
use Rattle.pair_model.proofs.Kept.{at_first, settings_sound}
use Rattle.pair_model.proofs.Pairs.{HoldsOf}
use Rattle.pair_model.proofs.Rising.{settled_at}
use Rattle.pair_model.proofs.Runs.{seen, step_goes, is_at_up}
use Rattle.pair_model.proofs.Runs as links
use Rattle.pair_changeover.proofs.Runs.{Went', whole_at_first}
use Rattle.pair_changeover.proofs.Runs as diverts
use Rattle.pair_streams.specs.Streams.{StreamsArrive, PartsArrive}
use Rattle.pair_streams.proofs.Acting.{IsSafe, Streams}
use Rattle.pair_streams.proofs.Counting.{CountsIn, first_counts, step_counts}
use Rattle.pair_streams.proofs.Runs.{arrives_so, arrives_in_part, first_streams, step_keeps, is_safe_honest}
use Rattle.pair_rises.specs.Rises.{Cover, awaited, is_covered, Rising, opening, all_inside, open_at, is_first, risen_so, risen_at, comes_up, fills_line, moved, moved_on, seen_under, laid, cover_of, as_seen, seen_at, idle_at, MayRise, MayMove, IsPlainStep, IsPlainMove, AreMoves, HoldsAllAlong, HoldsAtEachMove, HoldsBefore, EveryRisingRunKeepsStreams, EveryRisingRunKeepsOrder}
use Rattle.pair_rises.specs.declared.moves.Move.{Move}
use Rattle.pair_rises.specs.declared.moves.Move.TheVariants.{Step as MoveStep, Rise, Fill}
use Rattle.pair_rises.proofs.Arriving.{Cases, arrives}
use Rattle.pair_rises.proofs.Counting.{halves_count}
use Rattle.pair_rises.proofs.Halves.{Halves, whole_of}
use Rattle.pair_rises.proofs.Open.{IsOpen}
use Rattle.pair_rises.proofs.Opens.{IsOpenAt, IsOpenStep, step_opens}
use Rattle.pair_rises.proofs.Replies.{first_replies}
use Rattle.pair_rises.proofs.Sides.{Sides, turned, begins, joins, fills as fills_line_of, hears, loses}
use Rattle.pair_rises.proofs.Veils.{Fits, seen_up, seen_length}
use Rattle.pair_rises.proofs.Worlds.{Bare, IsBare, under, IsNoArrival, step_went, plain_acts, passed_same, passed_world, none_told}

-- WHAT HOLDS ALONG
module _ (emergencies : Bool) (ma mb : Method) (one : IsOneMethod ma mb) where
  abbrev pub Holds : Rising → Type 0
  Holds g = Sides emergencies ma mb g.open_a g.open_b g.stage.world.a.state g.stage.world.b.state g.stage.a g.stage.b g.stage.world.to_b g.stage.world.to_a

  abbrev Goes : Rising → Move → Outcome → Type 0
  Goes g move outcome = OnShows outcome (λ shown new. Holds (moved_on g move shown new))

  plain_safe : (em : Bool) (step : Step) → IsPlainStep em step → IsSafe em step
  plain_safe false (Act end event) plain = plain
  plain_safe true (Act end event) plain = plain
  plain_safe false (Emit end k) plain = plain
  plain_safe true (Emit end k) plain = plain
  plain_safe false (Arrive end k) plain = plain
  plain_safe true (Arrive end k) plain = plain
  plain_safe false (Lose end k place) plain = plain
  plain_safe true (Lose end k place) plain = plain
  plain_safe em (Together k) plain = absurd plain
  plain_safe false (Inject end k unit) plain = plain
  plain_safe true (Inject end k unit) plain = plain

  module _ (g : Rising) (h : Holds g) where
    abbrev w : World
    w = g.stage.world

    pub bare : Bare true g.open_a g.open_b w.a.state w.b.state
    bare = record { sound_a = h.sound_x; sound_b = h.sound_y; fit_a = h.fit_x; fit_b = h.fit_y; replies_a = λ e. h.replies_x; replies_b = λ e. h.replies_y }

    -- A STEP, but for what arrives
    step_on : (step : Step) (outcome : Outcome) → IsNoArrival step
        → OnShows (under g.open_a g.open_b outcome) (λ shown new. HoldsOf ma mb (seen A (passed (as_seen g) step shown new)))
        → OnShows (under g.open_a g.open_b outcome) (λ shown new. Streams emergencies (seen A (passed (as_seen g) step shown new)))
        → OnShows (under g.open_a g.open_b outcome) (λ shown new. CountsIn (passed (as_seen g) step shown new).world)
        → OnShows (under g.open_a g.open_b outcome) (λ shown new. emergencies ≡ false → Halves (seen A (passed (as_seen g) step shown new)))
        → OnShows outcome (λ shown new. IsBare true g.open_a g.open_b new)
        → ((owner : End) (l : ℕ) → open_at g owner l ≡ awaited → OnShows (under g.open_a g.open_b outcome) (λ shown new. IsOpenAt owner l new))
        → Goes g (MoveStep step) outcome
    step_on step (shows shown new) other holds keeps counts halves bare_then opens =
        let is = sym (passed_world g.stage step shown new) in
        let b = subst (λ (x : World). IsBare true g.open_a g.open_b x) is bare_then in
        subst Holds (sym (none_told g step shown new other)) (record {
          links = subst (λ (s : Stage). HoldsOf ma mb (seen A s)) (passed_same g step shown new) holds;
          streams = subst (λ (s : Stage). Streams emergencies (seen A s)) (passed_same g step shown new) keeps;
          counts = subst (λ (s : Stage). CountsIn s.world) (passed_same g step shown new) counts;
          halves = λ e. subst (λ (s : Stage). Halves (seen A s)) (passed_same g step shown new) (halves e);
          sound_x = b.sound_a;
          sound_y = b.sound_b;
          fit_x = b.fit_a;
          fit_y = b.fit_b;
          replies_x = b.replies_a refl;
          replies_y = b.replies_b refl;
          opens_x = λ l e. subst (λ (x : World). IsOpen l (seen_under g.open_a x.a.state) (seen_under g.open_b x.b.state)) is (opens A l e);
          opens_y = λ l e. subst (λ (x : World). IsOpen l (seen_under g.open_b x.b.state) (seen_under g.open_a x.a.state)) is (opens B l e);
          apart_x = h.apart_x;
          apart_y = h.apart_y;
        })
    step_on step impossible other holds keeps counts halves bare_then opens = tt
    step_on step exhausted other holds keeps counts halves bare_then opens = tt

    goes_on : (step : Step) (outcome : Outcome) → links.Goes ma mb one (as_seen g) step outcome
        → OnShows outcome (λ shown new. HoldsOf ma mb (seen A (passed (as_seen g) step shown new)))
    goes_on step (shows shown new) goes = goes.1
    goes_on step impossible goes = tt
    goes_on step exhausted goes = tt

    -- an awaited link is in range, and isn't up
    open_down : (told : ℕ → Cover) (s : State) → Fits told s → (l : ℕ) → told l ≡ awaited → is_up l (seen_under told s) ≡ false
    open_down told s fits l e =
        let at = settled_at l s (fits l (ap is_covered e)) in
        seen_up told s fits l ∙ ap link_is_up at.1.there ∙ ap has_phase_up at.1.phase_is

    open_few : (s : State) (l : ℕ) → is_settled l s ≡ true → l < length s.links
    open_few s l e = let at = settled_at l s e in within s.links l at.0 at.1.there

    opens_on : (step : Step) → IsPlainStep emergencies step → IsNoArrival step → IsOpenStep step
    opens_on (Act end event) plain other = tt
    opens_on (Emit end k) plain other = tt
    opens_on (Arrive end k) plain other = other
    opens_on (Lose end k place) plain other = tt
    opens_on (Together k) plain other = plain
    opens_on (Inject end k unit) plain other = tt

    step_open : (step : Step) → IsPlainStep emergencies step → IsNoArrival step → (owner : End) (l : ℕ) → open_at g owner l ≡ awaited
        → OnShows (carried_out (as_seen g).world step) (λ shown new. IsOpenAt owner l new)
    step_open step plain other A l e =
        step_opens emergencies ma mb one (as_seen g) h.links h.streams A l
        (let few = open_few w.a.state l (h.fit_x l (ap is_covered e)) in omega (arith, few, seen_length g.open_a w.a.state))
        (open_down g.open_a w.a.state h.fit_x l e) (h.opens_x l e) step (plain_safe emergencies step plain) (opens_on step plain other)
    step_open step plain other B l e =
        step_opens emergencies ma mb one (as_seen g) h.links h.streams B l
        (let few = open_few w.b.state l (h.fit_y l (ap is_covered e)) in omega (arith, few, h.links.far_links, seen_length g.open_b w.b.state))
        (open_down g.open_b w.b.state h.fit_y l e) (h.opens_y l e) step (plain_safe emergencies step plain) (opens_on step plain other)

    -- without emergencies it's a step of pair_changeover's runs
    plain_sound : (step : Step) → IsPlainStep false step → IsSoundStep step
    plain_sound (Act end event) plain = plain
    plain_sound (Emit end k) plain = plain
    plain_sound (Arrive end k) plain = plain
    plain_sound (Lose end k place) plain = plain
    plain_sound (Together k) plain = absurd plain
    plain_sound (Inject end k unit) plain = plain

    pub step_diverts : (step : Step) → IsPlainStep emergencies step → emergencies ≡ false → Went' ma mb one (as_seen g) step (carried_out (as_seen g).world step)
    step_diverts step plain e = diverts.step_went ma mb one (as_seen g) h.links (whole_of (seen A (as_seen g)) e h.streams (h.halves e)) step
        (plain_sound step (subst (λ (b : Bool). IsPlainStep b step) e plain))

    halves_on : (step : Step) (outcome : Outcome) → (emergencies ≡ false → Went' ma mb one (as_seen g) step outcome)
        → OnShows outcome (λ shown new. emergencies ≡ false → Halves (seen A (passed (as_seen g) step shown new)))
    halves_on step (shows shown new) went = λ e. let w = (went e).whole in (w.near, w.far)
    halves_on step impossible went = tt
    halves_on step exhausted went = tt

    -- with emergencies it's pair_streams's, without them each settled link counts just what was accepted
    counted : (step : Step) (outcome : Outcome) → OnShows outcome (λ shown new. CountsIn new) → OnShows outcome (λ shown new. CountsIn (passed (as_seen g) step shown new).world)
    counted step (shows shown new) c = subst CountsIn (sym (passed_world (as_seen g) step shown new)) c
    counted step impossible c = tt
    counted step exhausted c = tt

    halved : (step : Step) (outcome : Outcome) → Went' ma mb one (as_seen g) step outcome → OnShows outcome (λ shown new. CountsIn (passed (as_seen g) step shown new).world)
    halved step (shows shown new) went =
        let later = seen A (passed (as_seen g) step shown new) in halves_count later.near later.far went.whole.near.equal went.whole.far.equal
    halved step impossible went = tt
    halved step exhausted went = tt

    counts_on : (step : Step) → IsPlainStep emergencies step → (b : Bool) → emergencies ≡ b
        → OnShows (carried_out (as_seen g).world step) (λ shown new. CountsIn (passed (as_seen g) step shown new).world)
    counts_on step plain false e = halved step (carried_out (as_seen g).world step) (step_diverts step plain e)
    counts_on step plain true e = counted step (carried_out (as_seen g).world step)
        (step_counts ma mb one (as_seen g) h.links (subst (λ (b : Bool). Streams b (seen A (as_seen g))) e h.streams) h.counts step
        (subst (λ (b : Bool). IsSafe b step) e (plain_safe emergencies step plain)))

    step_holds : (step : Step) → IsPlainStep emergencies step → IsNoArrival step → Goes g (MoveStep step) (carried_out w step)
    step_holds step plain other =
        let went = step_went true g.open_a g.open_b w step bare (plain_acts g.open_a g.open_b emergencies w step bare plain other) in
        let safe = plain_safe emergencies step plain in
        step_on step (carried_out w step) other
        (goes_on step (under g.open_a g.open_b (carried_out w step))
        (subst (links.Goes ma mb one (as_seen g) step) went.0
        (step_goes ma mb one (as_seen g) h.links step (is_safe_honest emergencies step safe))))
        (subst (λ (outcome : Outcome). OnShows outcome (λ shown new. Streams emergencies (seen A (passed (as_seen g) step shown new)))) went.0
        (step_keeps emergencies ma mb one (as_seen g) h.links h.streams step safe))
        (subst (λ (outcome : Outcome). OnShows outcome (λ shown new. CountsIn (passed (as_seen g) step shown new).world)) went.0
        (counts_on step plain emergencies refl))
        (subst (λ (outcome : Outcome). OnShows outcome (λ shown new. emergencies ≡ false → Halves (seen A (passed (as_seen g) step shown new)))) went.0
        (halves_on step (carried_out (as_seen g).world step) (step_diverts step plain)))
        went.1
        (λ owner l e. subst (λ (outcome : Outcome). OnShows outcome (λ shown new. IsOpenAt owner l new)) went.0 (step_open step plain other owner l e))

    -- A UNIT ARRIVES
    same_links : length w.b.state.links ≡ length w.a.state.links
    same_links = omega (arith, h.links.far_links, seen_length g.open_a w.a.state, seen_length g.open_b w.b.state)

    cases : Cases g (λ end k shown then. Holds then)
    cases = record {
      hears_a = λ k unit rest few front link at. hears h k few unit rest front one link at;
      loses_a = λ k unit rest few front. loses h k few unit rest front;
      hears_b = λ k unit rest few front link at. turned (hears (turned h) k few unit rest front (one_back ma mb one) link at);
      loses_b = λ k unit rest few front. turned (loses (turned h) k few unit rest front);
    }

    each_step : (step : Step) → IsPlainStep emergencies step → Goes g (MoveStep step) (carried_out w step)
    each_step (Act end event) plain = step_holds (Act end event) plain tt
    each_step (Emit end k) plain = step_holds (Emit end k) plain tt
    each_step (Arrive end k) plain = arrives g (λ end k shown then. Holds then) same_links cases end k
    each_step (Lose end k place) plain = step_holds (Lose end k place) plain tt
    each_step (Together k) plain = absurd plain
    each_step (Inject end k unit) plain = step_holds (Inject end k unit) plain tt

    -- A RISE
    risen_a : (k : ℕ) → is_settled k w.a.state ≡ true → (first : Bool) → is_settled k w.b.state ≡ first
        → MayMove g (Rise A k) → is_first w A k ≡ first → Holds (risen_at first A k (risen_so first w A k) g)
    risen_a k settled true far may e = begins h k settled far
    risen_a k settled false far may e = joins h k (subst (λ (b : Bool). MayRise b g A k) e may) one

    risen_b : (k : ℕ) → is_settled k w.b.state ≡ true → (first : Bool) → is_settled k w.a.state ≡ first
        → MayMove g (Rise B k) → is_first w B k ≡ first → Holds (risen_at first B k (risen_so first w B k) g)
    risen_b k settled true far may e = turned (begins (turned h) k settled far)
    risen_b k settled false far may e = turned (joins (turned h) k (subst (λ (b : Bool). MayRise b g B k) e may) (one_back ma mb one))

    rises_holds : (end : End) (k : ℕ) → MayMove g (Rise end k) → Goes g (Rise end k) (comes_up w end k)
    rises_holds end k may = go (has_link w k) (is_settled k (at_end w end).state) refl (is_full (at_end w end))
      where
        shown : (end : End) → MayMove g (Rise end k) → is_settled k (at_end w end).state ≡ true
            → Holds (moved_on g (Rise end k) CameUp (risen_so (is_first w end k) w end k))
        shown A may settled = risen_a k settled (is_settled k w.b.state) refl may refl
        shown B may settled = risen_b k settled (is_settled k w.a.state) refl may refl

        go : (known : Bool) (settled : Bool) → is_settled k (at_end w end).state ≡ settled → (full : Bool)
            → Goes g (Rise end k) (cond known (cond settled (cond full exhausted (shows CameUp (risen_so (is_first w end k) w end k))) impossible) impossible)
        go true true f true = tt
        go true true f false = shown end may f
        go true false f full = tt
        go false settled f full = tt

    -- A FILL
    fills_goes : (end : End) (k : ℕ) → MayMove g (Fill end k) → Goes g (Fill end k) (fills_line w end k)
    fills_goes end k may = go (has_link w k)
      where
        filled : (end : End) → MayMove g (Fill end k) → Holds (moved_on g (Fill end k) Lost (joined w end k (idle_at w end)))
        filled A may = fills_line_of h k may
        filled B may = turned (fills_line_of (turned h) k may)

        go : (known : Bool) → Goes g (Fill end k) (cond known (shows Lost (joined w end k (idle_at w end))) impossible)
        go true = filled end may
        go false = tt

    -- EACH MOVE
    pub move_goes : (move : Move) → IsPlainMove emergencies move → MayMove g move → Goes g move (moved w move)
    move_goes (MoveStep step) plain may = each_step step plain
    move_goes (Rise end k) plain may = rises_holds end k may
    move_goes (Fill end k) plain may = fills_goes end k may

  -- ALL ALONG
  module _ (Says : Rising → Type 0) (says : (g : Rising) → Holds g → Says g) where
    onward : (g : Rising) (move : Move) (moves : List Move) (outcome : Outcome)
        → ((later : Rising) → Holds later → HoldsBefore MayMove later moves → HoldsAllAlong Says later moves)
        → Goes g move outcome → OnShows outcome (λ shown new. HoldsBefore MayMove (moved_on g move shown new) moves)
        → OnShows outcome (λ shown new. HoldsAllAlong Says (moved_on g move shown new) moves)
    onward g move moves (shows shown new) next goes may = next (moved_on g move shown new) goes may
    onward g move moves impossible next goes may = tt
    onward g move moves exhausted next goes may = tt

    pub along : (moves : List Move) (g : Rising) → Holds g → AreMoves (IsPlainMove emergencies) moves → HoldsBefore MayMove g moves → HoldsAllAlong Says g moves
    along [] g h plain may = says g h
    along (move ∷ moves) g h plain may = (
      says g h,
      onward g move moves (moved g.stage.world move) (λ later holds mays. along moves later holds plain.1 mays)
          (move_goes g h move plain.0 may.0) may.1,
    )

  -- AT EACH MOVE
  module _ (Says : Rising → Move → Shown → Rising → Type 0)
      (says : (g : Rising) → Holds g → (move : Move) → IsPlainMove emergencies move
      → OnShows (moved g.stage.world move) (λ shown new. Says g move shown (moved_on g move shown new))) where
    each_onward : (g : Rising) (move : Move) (moves : List Move) (outcome : Outcome)
        → ((later : Rising) → Holds later → HoldsBefore MayMove later moves → HoldsAtEachMove Says later moves)
        → OnShows outcome (λ shown new. Says g move shown (moved_on g move shown new))
        → Goes g move outcome → OnShows outcome (λ shown new. HoldsBefore MayMove (moved_on g move shown new) moves)
        → OnShows outcome (λ shown new. Says g move shown (moved_on g move shown new) × HoldsAtEachMove Says (moved_on g move shown new) moves)
    each_onward g move moves (shows shown new) next said goes may = (said, next (moved_on g move shown new) goes may)
    each_onward g move moves impossible next said goes may = tt
    each_onward g move moves exhausted next said goes may = tt

    pub each_along : (moves : List Move) (g : Rising) → Holds g → AreMoves (IsPlainMove emergencies) moves → HoldsBefore MayMove g moves
        → HoldsAtEachMove Says g moves
    each_along [] g h plain may = tt
    each_along (move ∷ moves) g h plain may = each_onward g move moves (moved g.stage.world move) (λ later holds mays. each_along moves later holds plain.1 mays)
        (says g h move plain.0) (move_goes g h move plain.0 may.0) may.1

-- WHAT IT SAYS
streams_arrive : (g : Rising) → Streams false (seen A (as_seen g)) → StreamsArrive (as_seen g)
streams_arrive g v stream low = (
  arrives_so stream low (seen_at g A) (seen_at g B) g.stage.a g.stage.b v.out_lost v.out v.near_covers v.near_rises (v.out_whole refl stream),
  arrives_so stream low (seen_at g B) (seen_at g A) g.stage.b g.stage.a v.back_lost v.back v.far_covers v.far_rises (v.back_whole refl stream),
)

parts_arrive : (g : Rising) → Streams true (seen A (as_seen g)) → PartsArrive (as_seen g)
parts_arrive g v stream low = (
  arrives_in_part stream low (seen_at g A) (seen_at g B) g.stage.a g.stage.b v.out_lost v.out v.near_covers v.near_rises,
  arrives_in_part stream low (seen_at g B) (seen_at g A) g.stage.b g.stage.a v.back_lost v.back v.far_covers v.far_rises,
)

-- AT FIRST no link has a veil
laid_none : (settings : Settings) (n : ℕ) (links : List LinkState) → laid (λ link. cover_of settings (all_inside link)) n links ≡ links
laid_none settings zero links = refl
laid_none settings (suc n) links = laid_none settings n links

seen_none : (s : State) → seen_under all_inside s ≡ s
seen_none s = ap (λ (ls : List LinkState). record s { links = ls }) (laid_none s.settings s.settings.links s.links)

pub first_seen : (a b : SetConfig) → as_seen (opening a b) ≡ begun a b
first_seen a b =
    ap₂ (λ (x y : State). record (begun a b) { world = record (begun a b).world { a = record (begun a b).world.a { state = x }; b = record (begun a b).world.b { state = y } } })
    (seen_none (begun a b).world.a.state) (seen_none (begun a b).world.b.state)

pub first_holds : (emergencies : Bool) (a b : SetConfig) (one : IsOneMethod a.method b.method) → a.links ≡ b.links → a.profile ≡ b.profile
    → Holds emergencies a.method b.method one (opening a b)
first_holds emergencies a b one links profiles = record {
  links = subst (λ (s : Stage). HoldsOf a.method b.method (seen A s)) (sym (first_seen a b)) (at_first a b links profiles);
  streams = subst (λ (s : Stage). Streams emergencies (seen A s)) (sym (first_seen a b)) (first_streams emergencies a b);
  counts = subst (λ (s : Stage). CountsIn s.world) (sym (first_seen a b)) (first_counts (settings_of a) (settings_of b));
  halves = λ e. subst (λ (s : Stage). Halves (seen A s)) (sym (first_seen a b)) (let w = whole_at_first a b in (w.near, w.far));
  sound_x = opened_sound (settings_of a) (settings_sound a);
  sound_y = opened_sound (settings_of b) (settings_sound b);
  fit_x = λ l e. absurd (let no : false ≡ true = e in cc);
  fit_y = λ l e. absurd (let no : false ≡ true = e in cc);
  replies_x = first_replies (settings_of a);
  replies_y = first_replies (settings_of b);
  opens_x = λ l e. absurd cc;
  opens_y = λ l e. absurd cc;
  apart_x = λ l e. refl;
  apart_y = λ l e. refl;
}

-- ALL RUNS
pub every_rising_run : EveryRisingRunKeepsStreams
every_rising_run a b moves run =
    along false a.method b.method run.one_method (λ g. StreamsArrive (as_seen g)) (λ g h. streams_arrive g h.streams) moves (opening a b)
    (first_holds false a b run.one_method run.links run.profiles) run.moves_are run.may

pub every_rising_run_in_part : EveryRisingRunKeepsOrder
every_rising_run_in_part a b moves run =
    along true a.method b.method run.one_method (λ g. PartsArrive (as_seen g)) (λ g h. parts_arrive g h.streams) moves (opening a b)
    (first_holds true a b run.one_method run.links run.profiles) run.moves_are run.may
