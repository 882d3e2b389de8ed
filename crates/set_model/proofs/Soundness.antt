-- EVERY STEP KEEPS WHAT HOLDS OF EVERY SET'S STATE, and a new set has it (`step_sound`, `opened_sound`). A step is a
-- walk of small changes (Walk.antt), each of which SoundLink.antt or SoundBack.antt has. `step_straight`: while no
-- changeback is under way the messages of each stream stay together, in the order of their numbers, since of a stream
-- all live rows move or none (`stream_moves`, by induction on the rows in `parts`). By `laws` and `step_laws` most
-- functions of src/laws.rt are proved. Used by pair_model's Pairs.antt, Moving.antt and Kept.antt, by set_step's
-- Kept.antt and by set_core's Keeping.antt.
use Rattle.std.proofs.Common.{refl, arith, ◌≡◌, ◌∙◌, sym, subst, ℕ, ◌<◌, ◌%◌, List, [], ◌∷◌, map, slice_get, Some, replicate, slice_index_or, ap, Bool, true, false, not, ◌&&◌, length, cond, ◌==◌, ◌||◌, None}
use Rattle.std.proofs.lemmas.List.{get_or-replicate, length-replicate, append-nil, map-append, length-map}
use Rattle.std.proofs.lemmas.Option.{none-some, slice_get_cases}
use Rattle.std.proofs.lemmas.Bool.Decides.{nat_tests}
use Rattle.set_route.specs.Routing.{new_stream, stream_numbers, settled, runs_on, NoneOpen, has_messages, place_of, place_raised, place_settled, raised, home_of, code_of, via_of}
use Rattle.set_route.specs.declared.stream.Stream.{Stream}
use Rattle.set_model.specs.Step.{Event, Gains, choice_in, next, step, stepped, offered, rows_sent}
use Rattle.set_model.specs.Laws.{IsNew, KeepsMessages, RunsStraight}
use Rattle.set_model.specs.Rows.{numbers, stream_of, Fate, Unacked, Waiting, IsNumbered, Row, all_with, appended, put_ahead, fated, is_back, is_back_to, is_on, is_parked, is_waiting, moved, picked_changed, standing, stands_back, turned, with_fate}
use Rattle.set_model.specs.Sound.{IsManaged, IsPlaced, IsSettings, IsSound, AreAbove, AreTogether, BeginsNone, IsAscending, IsBackOf, IsSoundStream, astray, is_astray, is_live, is_unfinished, live, stands_at}
use Rattle.set_model.specs.State.{Code, Nowhere, Up, LinkState, Settings, State, given, new_link, opened_with, Place, Changing, On, fate_at, target}
use Rattle.set_route.proofs.Places.{new_sound}
use Rattle.set_route.proofs.Codes.{all_free}
use Rattle.set_model.proofs.Walk.{IsAt, KeptBy, step_is, step_walks}
use Rattle.set_model.proofs.Framing.{leaves_alone}
use Rattle.set_model.proofs.Settling.{settled_empty, diverts_the_rest}
use Rattle.set_model.proofs.Staying.{keeps_messages, step_gains}
use Rattle.set_model.specs.Frame.{Concerns, LeavesAlone}
use Rattle.set_model.proofs.SoundBack.{leaves, declares, redeclares, acknowledges_back, releases, risen_sound, opens_sound, moves_off_sound}
use Rattle.set_model.proofs.SoundLink.{code_closed, with_inbox, acknowledges, gives_up, gives_up_orders, takes_back, answers, withdraws, sends_sound, hears_sound, queues, offers}
use Rattle.std.proofs.lemmas.List.Elements.{filter-append}
use Rattle.std.proofs.lemmas.Bool.{cond_both}
use Rattle.set_model.specs.Changeover.{Order, acknowledged_code, fate_on, left_by, overdue_via, queued, redeclared_on, released}
use Rattle.set_model.specs.Control.{Choice}
use Rattle.set_route.proofs.Alone.{alone}
use Rattle.set_route.proofs.Quiet.{left_quiet, back_quiet, answered_quiet, settled_quiet, never_changing}
use Rattle.set_model.proofs.Rows.{filter_within, none_within, new_row, new_order, where_turned, where_picked, moved_nothing, no_rows}
use Rattle.set_model.proofs.Order.{ascends_appended, none_standing}
use Rattle.set_model.proofs.Ahead.{put_out}
use Rattle.set_model.proofs.Places.{false_true, itself, code_back, home_back}

-- THE STEP.
pub ruleset sounds = (
  with_inbox,
  queues,
  leaves,
  acknowledges,
  gives_up,
  gives_up_orders,
  takes_back,
  moves_off_sound,
  answers,
  withdraws,
  declares,
  redeclares,
  acknowledges_back,
  releases,
  offers,
  sends_sound,
  hears_sound,
  risen_sound,
  opens_sound,
)

small : (Known : ℕ → Type 0) (May : Type 0) → KeptBy Known May (λ s u. IsSound s → IsSound u)
small Known May = search sounds

pub step_sound : (s : State) (event : Event) → IsSound s → IsSound (step s event).state
step_sound s event t =
    let sends = λ (n : ℕ) (link : LinkState) (u : State) (keeps : IsSound s → IsSound u) (at : IsAt n link Up u). sends_sound n link u at (keeps t) in
    step_walks s (λ a b. IsSound a → IsSound b) IsSound event (search (small, sounds, sends, t))

-- A NEW SET.
new_there : (k n : ℕ) (link other : LinkState) → slice_get (replicate k link) n ≡ Some other → other ≡ link
new_there k n link other e = grind (arith, slice_get_cases (replicate k link) n, get_or-replicate, length-replicate)

new_place : (links : ℕ) (numbers : List ℕ) (stream : ℕ)
    → slice_index_or (map (λ (s : Stream). s.place) (map (λ s. new_stream (s % links)) numbers)) stream Nowhere
    ≡ Nowhere
new_place links [] stream = refl
new_place links (n ∷ numbers) stream = grind (arith, new_place links numbers)

module _ (settings : Settings) (is : IsSettings settings) where
  pub opened_sound : IsSound (opened_with settings)
  opened_sound = record {
    managed = is.managed;
    routing = new_sound settings.links is.some_link is.at_most_16;
    routed = refl;
    count = length-replicate settings.links (new_link settings.profile settings.method);
    numbered = λ number. grind (arith, nat_tests);
    fit = tt;
    marked = tt;
    links = λ n link there. grind (arith, new_there);
    placed = λ stream low. subst (IsPlaced _) (sym (new_place settings.links stream_numbers stream)) tt;
    none_aside = λ n link there rising. refl;
    all_run = λ n link there rising. grind (arith, new_there);
    codes = λ code. code_closed _ _ code _ (ap via_of (all_free 256 code)) (rw (all_free 256 code) (omega arith));
    backs = tt;
    back_order = tt;
  }

  -- no changeback is under way
  pub opened_new : IsNew (opened_with settings)
  opened_new =
      let straight : RunsStraight (opened_with settings) = search all_free in
      record { sound = opened_sound; few = λ n link there. grind (arith, new_there); straight = straight }

-- WHILE NO CHANGEBACK IS UNDER WAY the messages of each stream stay together, where it runs, and in the order of their
-- numbers: leaving a link changes nothing but that link, and what is acknowledged by a code nothing at all.

-- ROWS THAT CHANGE IN THEIR PLACES: no more are live than before, nor astray.
record Less (stream : ℕ) (place : Place) (xs ys : List Row) : Type 0 where
  pub above : (k : ℕ) → AreAbove k (numbers (live stream xs)) → AreAbove k (numbers (live stream ys))
  pub ascends : IsAscending (numbers (live stream xs)) → IsAscending (numbers (live stream ys))
  pub none : live stream xs ≡ [] → live stream ys ≡ []
  pub none_away : astray stream place xs ≡ [] → astray stream place ys ≡ []

-- where one gets the fate it's finished, or stays where it is
module _ (stream : ℕ) (place : Place) (test : Fate → Bool) (fate : Fate)
    (fits : (f : Fate) → test f ≡ true → is_unfinished fate ≡ true → (is_unfinished f ≡ true)
    × (stands_at place f ≡ stands_at place fate)) where
  less_stays : (x : Row) (xs ys : List Row) → Less stream place xs ys → Less stream place (x ∷ xs) (x ∷ ys)
  less_stays x xs ys p = record {
    above = λ k a. grind (arith, p.above k);
    ascends = λ a. grind (arith, p.above x.number);
    none = λ e. grind arith;
    none_away = λ e. grind arith;
  }

  less_turns : (x : Row) (xs ys : List Row) → test x.fate ≡ true → Less stream place xs ys
      → Less stream place (x ∷ xs) (with_fate fate x ∷ ys)
  less_turns x xs ys h p = record {
    above = λ k a. grind (arith, fits, p.above k);
    ascends = λ a. grind (arith, fits, p.above x.number);
    none = λ e. grind (arith, fits);
    none_away = λ e. grind (arith, fits);
  }

  pub stream_turned : (used : Bool) (n : ℕ) (rows : List Row)
      → IsSoundStream stream place used rows → IsSoundStream stream place used (turned test fate n rows)
  stream_turned used n rows t =
      let less = where_turned test fate (Less stream place) (grind arith) less_stays less_turns n rows in
      grind arith

  pub stream_picked : (picks : Row → Bool) (used : Bool) (rows : List Row)
      → IsSoundStream stream place used rows → IsSoundStream stream place used (picked_changed picks test fate rows)
  stream_picked picks used rows t =
      let less = where_picked test fate (Less stream place) (grind arith) less_stays less_turns picks rows in
      grind arith

-- A NEW MESSAGE has a number above all others.
pub stream_appended : (given stream : ℕ) (place : Place) (used used' : Bool) (rows : List Row) (body : List ℕ)
    (fate : Fate) → IsNumbered given rows → IsSoundStream stream place used rows
    → (is_live stream (new_row given body fate) ≡ true → (stands_at place fate ≡ true) × (used' ≡ true))
    → (used' ≡ false → used ≡ false) → IsSoundStream stream place used' (appended given rows body fate)
stream_appended given stream place used used' rows body fate numbered t fits grows = grind (arith, filter-append, ascends_appended, fits)

-- an order is of no stream
pub stream_put : (number stream : ℕ) (place : Place) (used : Bool) (rows : List Row) (body : List ℕ) (fate : Fate)
    → is_live stream (new_order number body fate) ≡ false → IsSoundStream stream place used rows
    → IsSoundStream stream place used (put_ahead number rows body fate)
stream_put number stream place used rows body fate dead t =
    let live_same : live stream (put_ahead number rows body fate) ≡ live stream rows = put_out (is_live stream) number rows body fate dead in
    let away : astray stream place (put_ahead number rows body fate) ≡ astray stream place rows =
    put_out (is_astray stream place) number rows body fate (grind (arith, dead)) in
    record { in_order = rw live_same t.in_order; together = away ∙ t.together; unused = λ e. live_same ∙ t.unused e }

-- ROWS THAT MOVE: all live ones of a stream do, or none.
module _ (stream : ℕ) (place place' : Place) (test : Fate → Bool) (to : Fate) (goes : Bool)
    (open_there : (f : Fate) → test f ≡ true → is_unfinished f ≡ true) (open_to : is_unfinished to ≡ true)
    (all : (f : Fate) → stands_at place f ≡ true → test f ≡ goes) (comes : goes ≡ true → stands_at place' to ≡ true)
    (stays : goes ≡ false → (f : Fate) → stands_at place f ≡ true → stands_at place' f ≡ true) where
  -- what a filter sees of the two parts of a move
  pub record Parts (rows : List Row) : Type 0 where
    pub kept_live : numbers (live stream (standing (λ f. not (test f)) rows)) ≡ cond goes [] (numbers (live stream rows))
    pub kept_astray : astray stream place' (standing (λ f. not (test f)) rows) ≡ []
    pub gone_live : numbers (live stream (map (fated (all_with to)) (standing test rows))) ≡ cond goes (numbers (live stream rows)) []
    pub gone_astray : astray stream place' (map (fated (all_with to)) (standing test rows)) ≡ []

  parts : (rows : List Row) → astray stream place rows ≡ [] → Parts rows
  parts [] e = grind arith
  parts (x ∷ rows) e = one (test x.fate) (is_live stream x) refl refl (parts rows (grind arith))
    where
      one : (a b : Bool) → test x.fate ≡ a → is_live stream x ≡ b → Parts rows → Parts (x ∷ rows)
      one false true t l g =
          let stay : goes ≡ false = sym (all x.fate (grind (arith, l))) ∙ t in
          grind (arith, stay)
      one a b t l g = grind arith

  pub stream_moves : (used : Bool) (rows : List Row) → IsSoundStream stream place used rows → IsSoundStream stream place' used (moved test (all_with to) rows)
  stream_moves used rows t =
      let g = parts rows t.together in
      let same : numbers (live stream (moved test (all_with to) rows)) ≡ numbers (live stream rows) = grind (arith, filter-append, map-append, append-nil, g) in
      let as_many = ap length same in
      record { in_order = rw same t.in_order; together = grind (arith, filter-append, g); unused = grind (arith, no_rows, length-map, as_many, t.unused) }

-- NOTHING STANDS BACK, so leaving a link turns nothing back.
none_turns : (test : Fate → Bool) (fate : Row → Fate) (s t : State)
    → ((f : Fate) → test f ≡ true → stands_back f ≡ true) → t.rows ≡ moved test fate s.rows → t.routing ≡ s.routing
    → IsSound s → RunsStraight s → RunsStraight t
none_turns test fate s t w rows routing sound r =
    let none = none_within test stands_back w s.rows
    (none_standing (λ row. IsBackOf s.routing row row.fate) stands_back
    (λ x e b. grind (arith, never_changing, r.none_open)) s.rows sound.backs) in
    let same = rows ∙ moved_nothing test fate s.rows none in
    record { none_open = rw routing r.none_open; together = λ k low. rw (same, routing) (r.together k low) }

-- AN OFFER goes where its stream runs.
offers_straight : (s : State) (body : List ℕ) → IsSound s → NoneOpen s.routing → AreTogether s → AreTogether (offered None s body).state
offers_straight s body t none r k few =
    let place = place_of (stream_of body) s.routing in
    let a = alone s.routing k t.routing few in
    rw (a.accepted_place (stream_of body), a.accepted_messages (stream_of body))
    (stream_appended (given s) k (place_of k s.routing) (has_messages k s.routing)
    ((k == stream_of body) || has_messages k s.routing) s.rows body (fate_at place s) t.numbered (r k few)
    (λ e. grind (arith, nat_tests)) (λ e. grind arith))

-- A LINK OPENS.
stream_opened : (n : ℕ) (rows : List Row) (k home : ℕ) (used : Bool) (place : Place)
    → ((to code via : ℕ) → place ≡ Changing to code via → ⊥) → IsSoundStream k place used rows
    → IsSoundStream k (place_raised n home used place) used (moved is_parked (all_with (Waiting n)) rows)
stream_opened n rows k home used Nowhere away p =
    stream_moves k Nowhere (On n) is_parked (Waiting n) true (λ f e. grind arith) refl (λ f e. e) (λ e. itself n)
    (λ e. absurd cc) used rows p
stream_opened n rows k home used (Changing to code via) away p = absurd (away to code via refl)
stream_opened n rows k home used (On l) away p =
    let remains = stream_moves k (On l) (On l) is_parked (Waiting n) false (λ f e. grind arith) refl
    (λ f e. grind arith) (λ e. absurd cc) (λ e f h. h) used rows p in
    cond_both ((home == n) && not used) (On n) (On l) (λ (at : Place). IsSoundStream k at used (moved is_parked (all_with (Waiting n)) rows))
    -- one with no live message can run anywhere
    (λ e. let away = filter_within (is_astray k (On n)) (is_live k) (λ x e. grind arith)
    (moved is_parked (all_with (Waiting n)) rows) in let none =
    remains.unused (grind arith) in grind (arith, away, none)) (λ e. remains)

-- A LINK IS LEFT BY ITS MESSAGES.
moves_off_straight : (n : ℕ) (s : State) → IsSound s → NoneOpen s.routing → AreTogether s → (k : ℕ) → k < 16
    → IsSoundStream k (place_of k (settled n (target s.links) s.routing))
    (has_messages k (settled n (target s.links) s.routing))
    (moved (is_on n) (all_with (fate_on (target s.links))) s.rows)
moves_off_straight n s t none r k low =
    let a = alone s.routing k t.routing low in
    let never = λ (to code via : ℕ). never_changing k to code via s.routing t.routing none in
    rw (a.settled_place n (target s.links), a.settled_messages n (target s.links))
    (stream_moves k (place_of k s.routing) (place_settled n (target s.links) (place_of k s.routing)) (is_on n)
    (fate_on (target s.links)) (runs_on n (place_of k s.routing)) (λ f e. grind arith) (grind arith)
    (λ f e. grind (arith, nat_tests, never)) (λ e. grind arith) (λ e f h. grind (arith, nat_tests, never))
    (has_messages k s.routing) s.rows (r k low))

opens_straight : (n : ℕ) (s : State) → IsSound s → NoneOpen s.routing → AreTogether s → (k : ℕ) → k < 16
    → IsSoundStream k (place_of k (raised n s.routing)) (has_messages k (raised n s.routing))
    (moved is_parked (all_with (Waiting n)) s.rows)
opens_straight n s t none r k low =
    let a = alone s.routing k t.routing low in
    rw (a.raised_place n, a.raised_messages n)
    (stream_opened n s.rows k (k % s.routing.links) (has_messages k s.routing) (place_of k s.routing)
    (λ to code via. never_changing k to code via s.routing t.routing none) (r k low))

-- THE STEP.
abbrev StaysStraight : State → State → Type 0
StaysStraight s t = IsSound s → NoneOpen s.routing → AreTogether s → IsSound t × RunsStraight t

pub step_straight : (s : State) (event : Event) → BeginsNone event → IsSound s → RunsStraight s → RunsStraight (step s event).state
step_straight s event begins t r =
    let stood = r.together in
    let leaves_straight = λ (blind : Bool) (n : ℕ) (link : LinkState) (s : State) (t : IsSound s) (r : RunsStraight s).
    none_turns (is_back_to n) _ s (left_by blind n link s) (home_back n) refl
    (left_quiet n s.routing t.routing r.none_open) t r in
    let releases_straight = λ (code : ℕ) (s : State) (t : IsSound s) (r : RunsStraight s). none_turns (is_back code)
    (all_with (Waiting (home_of code))) s (released code s) (code_back code) refl
    (back_quiet code s.routing t.routing r.none_open) t r in
    let acknowledges_straight = λ (code : ℕ) (s : State) (t : IsSound s) (r : RunsStraight s). none_turns (is_back code)
    (all_with (Waiting (home_of code))) s (acknowledged_code code s) (code_back code) refl
    (answered_quiet code s.routing t.routing r.none_open) t r in
    -- no declaration is made once more
    let redeclares_none : (code via : ℕ) (u : State) → overdue_via (code_of code u.routing) u.rows ≡ Some via
    → StaysStraight u (redeclared_on code (Some via) u) =
    λ code via u e sound none together. absurd (none-some via (ap (λ (c : Code). overdue_via c u.rows) (sym (none code)) ∙ e)) in
    -- an order is of no stream
    let queues_straight : (order : Order) (s : State) → IsSound s → AreTogether s
    → AreTogether (queued order s) =
    λ order s t r k low. stream_put (given s) k (place_of k s.routing) (has_messages k s.routing) s.rows _
    (fate_on (target s.links)) (grind (arith, t.managed)) (r k low) in
    let sends_straight : (choice : Choice) (n : ℕ) (s : State) → AreTogether s → (k : ℕ) → k < 16
    → IsSoundStream k (place_of k s.routing) (has_messages k s.routing) (rows_sent choice n s.rows) =
    λ choice n s r k low. let turns =
    stream_turned k (place_of k s.routing) (is_waiting n) (Unacked n) (λ f e alive. grind arith)
    (has_messages k s.routing) 1 s.rows (r k low) in grind arith in
    let stream_finishes = λ (k : ℕ) (place : Place) (test : Fate → Bool) (fate : Fate)
    (done : is_unfinished fate ≡ false). stream_turned k place test fate
    (λ f e alive. false_true (is_unfinished fate) done alive) in
    let picked_finish = λ (k : ℕ) (place : Place) (test : Fate → Bool) (fate : Fate)
    (done : is_unfinished fate ≡ false). stream_picked k place test fate
    (λ f e alive. false_true (is_unfinished fate) done alive) in
    let rests : (a b : State) → IsSound a × RunsStraight a → StaysStraight a b → IsSound b
    × RunsStraight b = λ a b q then. then q.0 q.1.none_open q.1.together in
    let then_straight : (a b c : State) → StaysStraight a b → StaysStraight b c → StaysStraight a c = λ a b c p q sound none r. rests b c (p sound none r) q in
    let sends : (n : ℕ) (link : LinkState) (u : State) → StaysStraight s u → IsAt n link Up u
    → IsSound (next n u link).state × RunsStraight (next n u link).state = λ n link u keeps at.
    let now = keeps t r.none_open r.together in
    (sends_sound n link u at now.0, record { none_open = now.1.none_open; together = λ k low. sends_straight (choice_in n link u) n u now.1.together k low }) in
    let begins_none : (u : State) → (BeginsNone event → ⊥) → IsSound u × RunsStraight u = λ u may. absurd (may begins) in
    (step_walks s StaysStraight (λ u. IsSound u × RunsStraight u) event
    (search (
      sounds,
      leaves_straight,
      releases_straight,
      acknowledges_straight,
      settled_quiet,
      redeclares_none,
      queues_straight,
      stream_finishes,
      picked_finish,
      moves_off_straight,
      offers_straight,
      opens_straight,
      then_straight,
      rests,
      sends,
      begins_none,
      stood,
    ))).1

-- WHAT EVERY STEP DOES. The first of it tells where the rest holds: of each step that is named.
pub step_laws : (s : State) (event : Event) → (step s event ≡ stepped s event)
    × (IsSound s → IsSound (step s event).state)
    × (IsManaged s.settings → Gains s event (step s event).answer (step s event).state)
    × (IsNumbered (given s) s.rows → KeepsMessages s (step s event).state)
    × ((n : ℕ) → (Concerns event n s → ⊥) → LeavesAlone n s (step s event).state)
step_laws s event = (step_is s event, step_sound s event, step_gains s event, keeps_messages s event, λ n. leaves_alone n s event)

pub ruleset laws = (step_laws, step_straight, settled_empty, diverts_the_rest, opened_new)
