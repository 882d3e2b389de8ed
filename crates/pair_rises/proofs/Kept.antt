-- EVERY HONEST RUN IN WHICH LINKS COME UP ONE AFTER THE OTHER KEEPS EACH LINK: one induction over the moves (`every_honest_run`
-- answers every_honest_rising_run_keeps_links, src/laws.rt). What holds along is the tie of each link of the stage as it's
-- seen (`Linked` of Keeping.antt). A step is that of pair_model's runs under the veils (Worlds.antt), but for a changeover
-- about a covered link that is given up: that is settled, and nothing happens.
use Rattle.std.proofs.Common.{refl, arith, ◌≡◌, ◌∙◌, ap, sym, subst, ℕ, ◌==◌, Bool, true, false, List, [], ◌∷◌, ◌++◌, length, drop, cond}
use Rattle.std.proofs.lemmas.Bool.{eqb-true}
use Rattle.std.proofs.Math.Seq.{drop-nil}
use Rattle.std.proofs.lemmas.List.{append-nil}
use Rattle.l2_units.specs.declared.unit.Unit.{Unit as SignalUnit}
use Rattle.set_events.specs.declared.config.Method.{Method}
use Rattle.set_events.specs.declared.config.SetConfig.{SetConfig}
use Rattle.set_events.specs.declared.event.Event.{Event}
use Rattle.set_events.specs.declared.event.Event.TheVariants.{Offer, Take, Find, Next, Heard as HeardEvent, Up as UpEvent, Down as DownEvent, DownBlind, NoAnswer, Timed, Restore, Redeclare, BackTimeout, Test}
use Rattle.set_model.specs.declared.phase.Phase.TheVariants.{Settled}
use Rattle.set_model.specs.State.{LinkState, State, is_settled, settings_of}
use Rattle.set_model.specs.Step.{step}
use Rattle.set_model.specs.Rows.{Row, unack}
use Rattle.set_model.specs.Sound.{IsSound}
use Rattle.set_model.proofs.Settling.{settled_empty}
use Rattle.set_model.proofs.Soundness.{opened_sound}
use Rattle.set_model.proofs.Walk.{IsAt}
use Rattle.set_veiled.specs.Veil.{IsElsewhere}
use Rattle.pair_steps.specs.declared.step.End.{End}
use Rattle.pair_steps.specs.declared.step.End.TheVariants.{A, B}
use Rattle.pair_steps.specs.declared.step.Shown.{Shown}
use Rattle.pair_steps.specs.declared.step.Shown.TheVariants.{Answered, Up as CameUp, Lost}
use Rattle.pair_steps.specs.declared.step.Step.{Step}
use Rattle.pair_steps.specs.declared.step.Step.TheVariants.{Act, Emit, Arrive, Lose, Together, Inject}
use Rattle.pair_model.specs.World.{World, Outcome, shows, impossible, exhausted, at_end, with_end, answer_to, after, has_link, has_own_step, is_full, joined, carried_out}
use Rattle.pair_model.specs.Promises.{IsOneMethod, IsHonestStep, LinksKeep, TellsNoFault}
use Rattle.pair_model.specs.Run.{Stage, Past, messages, first_sent, past_sent, past_asked, passed, OnShows}
use Rattle.pair_model.proofs.Controls.{one_back}
use Rattle.pair_model.proofs.Kept.{at_first, settings_sound}
use Rattle.pair_model.proofs.Pairs.{HoldsOf}
use Rattle.pair_model.proofs.Rising.{settled_at}
use Rattle.pair_model.proofs.Runs.{seen}
use Rattle.pair_model.proofs.Runs as links
use Rattle.pair_rises.specs.Kept.{IsHonestMove, MayComeUp, MayGoOn, IsHonestRunOfMoves, NothingOutside, LinksAreKept, EveryHonestRisingRunKeepsLinks}
use Rattle.pair_rises.specs.Rises.{Cover, inside, awaited, missed, is_covered, Rising, opening, open_at, is_first, risen_so, risen_at, comes_up, fills_line, moved, moved_on, as_seen, idle_at, MayRise, MayMove, AreMoves, IsPlainMove, IsRun, HoldsAllAlong, HoldsAtEachMove, HoldsBefore, told_at, covers_heard}
use Rattle.pair_rises.specs.declared.moves.Move.{Move}
use Rattle.pair_rises.specs.declared.moves.Move.TheVariants.{Step as MoveStep, Rise, Fill}
use Rattle.pair_rises.proofs.Arriving.{Cases, arrives}
use Rattle.pair_rises.proofs.Covers.{off_other}
use Rattle.pair_rises.proofs.Keeping.{Linked, Turns, turned, retold, turns_heard, begins, joins, fills as fills_line_of, hears, tells, loses, none_taken}
use Rattle.pair_rises.proofs.Runs.{first_seen}
use Rattle.pair_rises.proofs.Veils.{Fits, same_under, seen_length}
use Rattle.pair_rises.proofs.Waiting.{waits, wait_all, waits_covered, waits_so, waits_turn, waits_told, kept_seen}
use Rattle.pair_rises.proofs.Worlds.{IsBare, Acts, under, IsNoArrival, step_went, passed_same, passed_world, none_told}

-- GIVEN UP where the link is settled: nothing happens
module _ (k : ℕ) (s : State) (link : LinkState) (at : IsAt k link Settled s) where
  unanswered_same : (step s (NoAnswer k)).state ≡ s
  unfolding step
  unanswered_same = rw (at.there, at.phase_is) refl

  unanswered_tells : TellsNoFault (Answered (step s (NoAnswer k)).answer)
  unfolding step
  unanswered_tells = rw (at.there, at.phase_is) tt

  by_time_same : (step s (Timed k)).state ≡ s
  unfolding step
  by_time_same = rw (at.there, at.phase_is) refl

  by_time_tells : TellsNoFault (Answered (step s (Timed k)).answer)
  unfolding step
  by_time_tells = rw (at.there, at.phase_is) tt

-- the link that an event gives up
abbrev pub IsGivenUp : Event → ℕ → Type 0
IsGivenUp (NoAnswer k) m = k ≡ m
IsGivenUp (Timed k) m = k ≡ m
IsGivenUp event m = ⊥

-- what is asked is the same under the veils, but for that
elsewhere : (event : Event) → has_own_step event ≡ false → (told : ℕ → Cover) → ((k : ℕ) → IsGivenUp event k → told k ≡ inside)
    → (s : State) (l : ℕ) → is_covered (told l) ≡ true → IsElsewhere l s event
elsewhere (Offer body) own told off s l on = tt
elsewhere Take own told off s l on = tt
elsewhere (Find number) own told off s l on = tt
elsewhere (Next k) own told off s l on = tt
elsewhere (HeardEvent k unit) own told off s l on = absurd cc
elsewhere (UpEvent k) own told off s l on = absurd cc
elsewhere (DownEvent k) own told off s l on = tt
elsewhere (DownBlind k) own told off s l on = tt
elsewhere (NoAnswer k) own told off s l on = off_other k told l (off k refl) on
elsewhere (Timed k) own told off s l on = off_other k told l (off k refl) on
elsewhere (Restore k) own told off s l on = tt
elsewhere (Redeclare k) own told off s l on = tt
elsewhere (BackTimeout k) own told off s l on = tt
elsewhere (Test k) own told off s l on = tt

module _ (ma mb : Method) (one : IsOneMethod ma mb) where
  -- as it's seen where a missed link is awaited still
  abbrev Holds : Rising → Type 0
  Holds g = Linked ma mb (wait_all g.open_a) (wait_all g.open_b) g.stage.world.a.state g.stage.world.b.state g.stage.a g.stage.b g.stage.world.to_b g.stage.world.to_a

  abbrev Goes : Rising → Move → Outcome → Type 0
  Goes g move outcome = OnShows outcome (λ shown new. TellsNoFault shown × Holds (moved_on g move shown new))

  module _ (g : Rising) (h : Holds g) where
    abbrev w : World
    w = g.stage.world

    abbrev waiting : Rising
    waiting = record g { open_a = wait_all g.open_a; open_b = wait_all g.open_b }

    bare : IsBare false waiting.open_a waiting.open_b w
    bare = record {
      sound_a = h.sound_x;
      sound_b = h.sound_y;
      fit_a = h.fit_x;
      fit_b = h.fit_y;
      replies_a = λ e. absurd (let no : false ≡ true = e in cc);
      replies_b = λ e. absurd (let no : false ≡ true = e in cc);
    }

    -- a step, but for what arrives, sends nothing on a link on which nothing stands then
    asked_sent : (event : Event) (shown : Shown) (past : Past) (l : ℕ) → (past_asked event shown past).sent l ≡ past.sent l
    asked_sent (Offer body) shown past l = refl
    asked_sent _ shown past l = refl

    none_first : (k : ℕ) (old new : State) (past : Past) (l : ℕ) → unack l new.rows ≡ [] → (past_sent k old new past).sent l ≡ past.sent l
    none_first k old new past l none = go (l == k) refl
      where
        go : (b : Bool) → (l == k) ≡ b → cond b (past.sent l ++ first_sent k old new) (past.sent l) ≡ past.sent l
        go true e =
            let here : unack k new.rows ≡ [] = subst (λ (n : ℕ). unack n new.rows ≡ []) (eqb-true l k e) none in
            ap (λ (rows : List Row). past.sent l ++ messages (drop (length (unack k old.rows)) rows)) here
            ∙ ap (λ (rows : List Row). past.sent l ++ messages rows) (drop-nil (length (unack k old.rows))) ∙ append-nil (past.sent l)
        go false e = refl

    sent_a : (step : Step) (shown : Shown) (new : World) → IsNoArrival step → IsHonestMove (MoveStep step)
        → (l : ℕ) → unack l new.a.state.rows ≡ [] → (passed g.stage step shown new).a.sent l ≡ g.stage.a.sent l
    sent_a (Act A event) shown new other honest l none = asked_sent event shown g.stage.a l
    sent_a (Act B event) shown new other honest l none = refl
    sent_a (Emit A k) shown new other honest l none = none_first k w.a.state new.a.state g.stage.a l none
    sent_a (Emit B k) shown new other honest l none = refl
    sent_a (Arrive end k) shown new other honest l none = absurd other
    sent_a (Lose end k place) shown new other honest l none = refl
    sent_a (Together k) shown new other honest l none = absurd honest
    sent_a (Inject end k unit) shown new other honest l none = absurd honest

    sent_b : (step : Step) (shown : Shown) (new : World) → IsNoArrival step → IsHonestMove (MoveStep step)
        → (l : ℕ) → unack l new.b.state.rows ≡ [] → (passed g.stage step shown new).b.sent l ≡ g.stage.b.sent l
    sent_b (Act A event) shown new other honest l none = refl
    sent_b (Act B event) shown new other honest l none = asked_sent event shown g.stage.b l
    sent_b (Emit A k) shown new other honest l none = refl
    sent_b (Emit B k) shown new other honest l none = none_first k w.b.state new.b.state g.stage.b l none
    sent_b (Arrive end k) shown new other honest l none = absurd other
    sent_b (Lose end k place) shown new other honest l none = refl
    sent_b (Together k) shown new other honest l none = absurd honest
    sent_b (Inject end k unit) shown new other honest l none = absurd honest

    none_on : (told : ℕ → Cover) (s : State) → IsSound s → Fits told s → (l : ℕ) → is_covered (told l) ≡ true → unack l s.rows ≡ []
    none_on told s sound fits l on = let at = settled_at l s (fits l on) in (settled_empty s l at.0 sound at.1.there at.1.phase_is).unack_none

    -- A STEP, but for what arrives
    step_on : (step : Step) (outcome : Outcome) → IsNoArrival step → IsHonestMove (MoveStep step)
        → links.Goes ma mb one (as_seen waiting) step (under waiting.open_a waiting.open_b outcome)
        → OnShows outcome (λ shown new. IsBare false waiting.open_a waiting.open_b new)
        → Goes g (MoveStep step) outcome
    step_on step (shows shown new) other honest goes bare_then = (
      goes.0,
      (let is = sym (passed_world g.stage step shown new) in
          let b = subst (λ (x : World). IsBare false waiting.open_a waiting.open_b x) is bare_then in
          subst Holds (sym (none_told g step shown new other)) (record {
            links = subst (λ (s : Stage). HoldsOf ma mb (seen A s)) (passed_same waiting step shown new) goes.1;
            sound_x = b.sound_a;
            sound_y = b.sound_b;
            fit_x = b.fit_a;
            fit_y = b.fit_b;
            none_x = λ l on. sent_a step shown new other honest l (none_on waiting.open_a new.a.state bare_then.sound_a bare_then.fit_a l on) ∙ h.none_x l on;
            none_y = λ l on. sent_b step shown new other honest l (none_on waiting.open_b new.b.state bare_then.sound_b bare_then.fit_b l on) ∙ h.none_y l on;
          })),
    )
    step_on step impossible other honest goes bare_then = tt
    step_on step exhausted other honest goes bare_then = tt

    step_holds : (step : Step) → IsHonestStep step → IsHonestMove (MoveStep step) → IsNoArrival step → Acts false waiting.open_a waiting.open_b w step → Goes g (MoveStep step) (carried_out w step)
    step_holds step honest move other acts =
        let went = step_went false waiting.open_a waiting.open_b w step bare acts in
        step_on step (carried_out w step) other move
        (subst (links.Goes ma mb one (as_seen waiting) step) went.0 (links.step_goes ma mb one (as_seen waiting) h.links step honest)) went.1

    asked_holds : (end : End) (event : Event) → ((k : ℕ) → IsGivenUp event k → open_at g end k ≡ inside)
        → Goes g (MoveStep (Act end event)) (carried_out w (Act end event))
    asked_holds A event off = step_holds (Act A event) tt tt tt
        (λ own. (same_under waiting.open_a w.a.state h.fit_x event (λ l on. elsewhere event own waiting.open_a (λ k e. ap waits (off k e)) w.a.state l on), λ e. absurd (let no : false ≡ true = e in cc)))
    asked_holds B event off = step_holds (Act B event) tt tt tt
        (λ own. (same_under waiting.open_b w.b.state h.fit_y event (λ l on. elsewhere event own waiting.open_b (λ k e. ap waits (off k e)) w.b.state l on), λ e. absurd (let no : false ≡ true = e in cc)))

    -- a changeover about a covered link is given up
    unanswered : (end : End) (k : ℕ) → is_covered (open_at g end k) ≡ true → Goes g (MoveStep (Act end (NoAnswer k))) (carried_out w (Act end (NoAnswer k)))
    unfolding carried_out
    unanswered end k on = go (has_link w k) (is_full (at_end w end))
      where
        shown : (end : End) → is_covered (open_at g end k) ≡ true
            → Goes g (MoveStep (Act end (NoAnswer k))) (shows (Answered (answer_to (at_end w end) (NoAnswer k))) (with_end w end (after (at_end w end) (NoAnswer k))))
        shown A on =
            let at = settled_at k w.a.state (h.fit_x k (waits_covered (g.open_a k) ∙ on)) in (
              unanswered_tells k w.a.state at.0 at.1,
              subst (λ (s : State). Linked ma mb waiting.open_a waiting.open_b s w.b.state g.stage.a g.stage.b w.to_b w.to_a) (sym (unanswered_same k w.a.state at.0 at.1)) h,
            )
        shown B on =
            let at = settled_at k w.b.state (h.fit_y k (waits_covered (g.open_b k) ∙ on)) in (
              unanswered_tells k w.b.state at.0 at.1,
              subst (λ (s : State). Linked ma mb waiting.open_a waiting.open_b w.a.state s g.stage.a g.stage.b w.to_b w.to_a) (sym (unanswered_same k w.b.state at.0 at.1)) h,
            )

        go : (known full : Bool) → Goes g (MoveStep (Act end (NoAnswer k)))
            (cond known (cond full exhausted (shows (Answered (answer_to (at_end w end) (NoAnswer k))) (with_end w end (after (at_end w end) (NoAnswer k))))) impossible)
        go true true = tt
        go true false = shown end on
        go false full = tt

    given_up : (end : End) (k : ℕ) (c : Cover) → open_at g end k ≡ c → Goes g (MoveStep (Act end (NoAnswer k))) (carried_out w (Act end (NoAnswer k)))
    given_up end k inside e = asked_holds end (NoAnswer k) (λ m same. ap (open_at g end) (sym same) ∙ e)
    given_up end k awaited e = unanswered end k (ap is_covered e)
    given_up end k missed e = unanswered end k (ap is_covered e)

    -- or by time
    by_time : (end : End) (k : ℕ) → is_covered (open_at g end k) ≡ true → Goes g (MoveStep (Act end (Timed k))) (carried_out w (Act end (Timed k)))
    unfolding carried_out
    by_time end k on = go (has_link w k) (is_full (at_end w end))
      where
        shown : (end : End) → is_covered (open_at g end k) ≡ true
            → Goes g (MoveStep (Act end (Timed k))) (shows (Answered (answer_to (at_end w end) (Timed k))) (with_end w end (after (at_end w end) (Timed k))))
        shown A on =
            let at = settled_at k w.a.state (h.fit_x k (waits_covered (g.open_a k) ∙ on)) in (
              by_time_tells k w.a.state at.0 at.1,
              subst (λ (s : State). Linked ma mb waiting.open_a waiting.open_b s w.b.state g.stage.a g.stage.b w.to_b w.to_a) (sym (by_time_same k w.a.state at.0 at.1)) h,
            )
        shown B on =
            let at = settled_at k w.b.state (h.fit_y k (waits_covered (g.open_b k) ∙ on)) in (
              by_time_tells k w.b.state at.0 at.1,
              subst (λ (s : State). Linked ma mb waiting.open_a waiting.open_b w.a.state s g.stage.a g.stage.b w.to_b w.to_a) (sym (by_time_same k w.b.state at.0 at.1)) h,
            )

        go : (known full : Bool) → Goes g (MoveStep (Act end (Timed k)))
            (cond known (cond full exhausted (shows (Answered (answer_to (at_end w end) (Timed k))) (with_end w end (after (at_end w end) (Timed k))))) impossible)
        go true true = tt
        go true false = shown end on
        go false full = tt

    timed_out : (end : End) (k : ℕ) (c : Cover) → open_at g end k ≡ c → Goes g (MoveStep (Act end (Timed k))) (carried_out w (Act end (Timed k)))
    timed_out end k inside e = asked_holds end (Timed k) (λ m same. ap (open_at g end) (sym same) ∙ e)
    timed_out end k awaited e = by_time end k (ap is_covered e)
    timed_out end k missed e = by_time end k (ap is_covered e)

    act_holds : (end : End) (event : Event) → Goes g (MoveStep (Act end event)) (carried_out w (Act end event))
    act_holds end (NoAnswer k) = given_up end k (open_at g end k) refl
    act_holds end (Timed k) = timed_out end k (open_at g end k) refl
    act_holds end (Offer body) = asked_holds end (Offer body) (λ k e. absurd e)
    act_holds end Take = asked_holds end Take (λ k e. absurd e)
    act_holds end (Find number) = asked_holds end (Find number) (λ k e. absurd e)
    act_holds end (Next n) = asked_holds end (Next n) (λ k e. absurd e)
    act_holds end (HeardEvent n unit) = asked_holds end (HeardEvent n unit) (λ k e. absurd e)
    act_holds end (UpEvent n) = asked_holds end (UpEvent n) (λ k e. absurd e)
    act_holds end (DownEvent n) = asked_holds end (DownEvent n) (λ k e. absurd e)
    act_holds end (DownBlind n) = asked_holds end (DownBlind n) (λ k e. absurd e)
    act_holds end (Restore n) = asked_holds end (Restore n) (λ k e. absurd e)
    act_holds end (Redeclare n) = asked_holds end (Redeclare n) (λ k e. absurd e)
    act_holds end (BackTimeout n) = asked_holds end (BackTimeout n) (λ k e. absurd e)
    act_holds end (Test n) = asked_holds end (Test n) (λ k e. absurd e)

    -- A UNIT ARRIVES
    same_links : length w.b.state.links ≡ length w.a.state.links
    same_links = omega (arith, h.links.far_links, seen_length waiting.open_a w.a.state, seen_length waiting.open_b w.b.state)

    turned_a : (k : ℕ) (unit : SignalUnit) (rest : List SignalUnit) (l : ℕ)
        → Turns (waiting.open_a l) (wait_all (covers_heard w.a.state.settings.profile (unit ∷ rest) (Answered (answer_to w.a (HeardEvent k unit))) g.open_a) l)
    turned_a k unit rest l = waits_turn (g.open_a l) (covers_heard w.a.state.settings.profile (unit ∷ rest) (Answered (answer_to w.a (HeardEvent k unit))) g.open_a l)
        (turns_heard w.a.state.settings.profile (unit ∷ rest) (Answered (answer_to w.a (HeardEvent k unit))) g.open_a l)

    turned_b : (k : ℕ) (unit : SignalUnit) (rest : List SignalUnit) (l : ℕ)
        → Turns (waiting.open_b l) (wait_all (covers_heard w.b.state.settings.profile (unit ∷ rest) (Answered (answer_to w.b (HeardEvent k unit))) g.open_b) l)
    turned_b k unit rest l = waits_turn (g.open_b l) (covers_heard w.b.state.settings.profile (unit ∷ rest) (Answered (answer_to w.b (HeardEvent k unit))) g.open_b l)
        (turns_heard w.b.state.settings.profile (unit ∷ rest) (Answered (answer_to w.b (HeardEvent k unit))) g.open_b l)

    cases : Cases g (λ end k shown then. TellsNoFault shown × Holds then)
    cases = record {
      hears_a = λ k unit rest few front link at.
          let turns = turned_a k unit rest in
          (tells h one k few unit rest front link at _ turns, hears h one k few unit rest front link at _ turns);
      loses_a = λ k unit rest few front. (tt, loses h k unit rest few front);
      hears_b = λ k unit rest few front link at.
          let turns = turned_b k unit rest in (
            tells (turned h) (one_back ma mb one) k few unit rest front link at _ turns,
            turned (hears (turned h) (one_back ma mb one) k few unit rest front link at _ turns),
          );
      loses_b = λ k unit rest few front. (tt, turned (loses (turned h) k unit rest few front));
    }

    each_step : (step : Step) → IsHonestMove (MoveStep step) → Goes g (MoveStep step) (carried_out w step)
    each_step (Act end event) honest = act_holds end event
    each_step (Emit end k) honest = step_holds (Emit end k) tt tt tt tt
    each_step (Arrive end k) honest = arrives g (λ end k shown then. TellsNoFault shown × Holds then) same_links cases end k
    each_step (Lose end k place) honest = step_holds (Lose end k place) tt tt tt tt
    each_step (Together k) honest = absurd honest
    each_step (Inject end k unit) honest = absurd honest

    -- A RISE
    abbrev Risen : End → ℕ → Bool → Type 0
    Risen end k first = Holds (risen_at first end k (risen_so first w end k) g)

    risen_a : (k : ℕ) → is_settled k w.a.state ≡ true → (first : Bool) → is_settled k w.b.state ≡ first
        → MayGoOn g (Rise A k) → is_first w A k ≡ first → Risen A k first
    risen_a k settled true far may e = retold (wait_all (told_at k inside g.open_a)) (wait_all (told_at k awaited g.open_b))
        (waits_told k inside g.open_a refl) (waits_told k awaited g.open_b refl) (begins h k settled far)
    risen_a k settled false far may e = retold (wait_all (told_at k inside g.open_a)) waiting.open_b (waits_told k inside g.open_a refl) (λ l. refl)
        (joins h k (waits_so (g.open_a k) (subst (λ (b : Bool). MayComeUp b g A k) e may)))

    risen_b : (k : ℕ) → is_settled k w.b.state ≡ true → (first : Bool) → is_settled k w.a.state ≡ first
        → MayGoOn g (Rise B k) → is_first w B k ≡ first → Risen B k first
    risen_b k settled true far may e = retold (wait_all (told_at k awaited g.open_a)) (wait_all (told_at k inside g.open_b))
        (waits_told k awaited g.open_a refl) (waits_told k inside g.open_b refl) (turned (begins (turned h) k settled far))
    risen_b k settled false far may e = retold waiting.open_a (wait_all (told_at k inside g.open_b)) (λ l. refl) (waits_told k inside g.open_b refl)
        (turned (joins (turned h) k (waits_so (g.open_b k) (subst (λ (b : Bool). MayComeUp b g B k) e may))))

    rises_holds : (end : End) (k : ℕ) → MayGoOn g (Rise end k) → Goes g (Rise end k) (comes_up w end k)
    rises_holds end k may = go (has_link w k) (is_settled k (at_end w end).state) refl (is_full (at_end w end))
      where
        shown : (end : End) → MayGoOn g (Rise end k) → is_settled k (at_end w end).state ≡ true
            → Holds (moved_on g (Rise end k) CameUp (risen_so (is_first w end k) w end k))
        shown A may settled = risen_a k settled (is_settled k w.b.state) refl may refl
        shown B may settled = risen_b k settled (is_settled k w.a.state) refl may refl

        go : (known : Bool) (settled : Bool) → is_settled k (at_end w end).state ≡ settled → (full : Bool)
            → Goes g (Rise end k) (cond known (cond settled (cond full exhausted (shows CameUp (risen_so (is_first w end k) w end k))) impossible) impossible)
        go true true f true = tt
        go true true f false = (tt, shown end may f)
        go true false f full = tt
        go false settled f full = tt

    -- A FILL
    fills_goes : (end : End) (k : ℕ) → MayGoOn g (Fill end k) → Goes g (Fill end k) (fills_line w end k)
    fills_goes end k may = go (has_link w k)
      where
        filled : (end : End) → MayGoOn g (Fill end k) → Holds (moved_on g (Fill end k) Lost (joined w end k (idle_at w end)))
        filled A may = fills_line_of h k (waits_so (g.open_a k) may)
        filled B may = turned (fills_line_of (turned h) k (waits_so (g.open_b k) may))

        go : (known : Bool) → Goes g (Fill end k) (cond known (shows Lost (joined w end k (idle_at w end))) impossible)
        go true = (tt, filled end may)
        go false = tt

    -- EACH MOVE
    move_goes : (move : Move) → IsHonestMove move → MayGoOn g move → Goes g move (moved w move)
    move_goes (MoveStep step) honest may = each_step step honest
    move_goes (Rise end k) honest may = rises_holds end k may
    move_goes (Fill end k) honest may = fills_goes end k may

  nothing_outside : (g : Rising) → Holds g → NothingOutside g
  nothing_outside g h A l on = let e = waits_covered (g.open_a l) ∙ on in (h.none_x l e, none_taken h l e)
  nothing_outside g h B l on = let e = waits_covered (g.open_b l) ∙ on in (h.none_y l e, none_taken (turned h) l e)

  keeps : (g : Rising) → Holds g → LinksKeep (as_seen g)
  keeps g h link =
      let k = links.links_keep ma mb one (as_seen (record g { open_a = wait_all g.open_a; open_b = wait_all g.open_b })) h.links link in
      let fit_a : Fits g.open_a g.stage.world.a.state = λ l e. h.fit_x l (waits_covered (g.open_a l) ∙ e) in
      let fit_b : Fits g.open_b g.stage.world.b.state = λ l e. h.fit_y l (waits_covered (g.open_b l) ∙ e) in (
        kept_seen g.open_a g.open_b g.stage.world.a.state g.stage.world.b.state h.sound_x h.sound_y fit_a fit_b link g.stage.a g.stage.b k.0,
        kept_seen g.open_b g.open_a g.stage.world.b.state g.stage.world.a.state h.sound_y h.sound_x fit_b fit_a link g.stage.b g.stage.a k.1,
      )

  -- ALL ALONG
  onward : (g : Rising) (move : Move) (moves : List Move) (outcome : Outcome)
      → ((later : Rising) → Holds later → HoldsBefore MayGoOn later moves → LinksAreKept later moves)
      → Goes g move outcome → OnShows outcome (λ shown new. HoldsBefore MayGoOn (moved_on g move shown new) moves)
      → OnShows outcome (λ shown new. HoldsAllAlong (λ h. LinksKeep (as_seen h)) (moved_on g move shown new) moves)
      × OnShows outcome (λ shown new. HoldsAllAlong NothingOutside (moved_on g move shown new) moves)
      × OnShows outcome (λ shown new. TellsNoFault shown × HoldsAtEachMove (λ before done told later. TellsNoFault told) (moved_on g move shown new) moves)
  onward g move moves (shows shown new) next goes may =
      let rest = next (moved_on g move shown new) goes.1 may in
      (rest.links, rest.outside, (goes.0, rest.no_fault))
  onward g move moves impossible next goes may = (tt, tt, tt)
  onward g move moves exhausted next goes may = (tt, tt, tt)

  along : (moves : List Move) (g : Rising) → Holds g → AreMoves IsHonestMove moves → HoldsBefore MayGoOn g moves → LinksAreKept g moves
  along [] g h honest may = record { links = keeps g h; outside = nothing_outside g h; no_fault = tt }
  along (move ∷ moves) g h honest may =
      let rest = onward g move moves (moved g.stage.world move) (λ later holds mays. along moves later holds honest.1 mays)
      (move_goes g h move honest.0 may.0) may.1 in
      record { links = (keeps g h, rest.0); outside = (nothing_outside g h, rest.1); no_fault = rest.2 }

first_holds : (a b : SetConfig) (one : IsOneMethod a.method b.method) → a.links ≡ b.links → a.profile ≡ b.profile → Holds a.method b.method one (opening a b)
first_holds a b one same profiles = record {
  links = subst (λ (s : Stage). HoldsOf a.method b.method (seen A s)) (sym (first_seen a b)) (at_first a b same profiles);
  sound_x = opened_sound (settings_of a) (settings_sound a);
  sound_y = opened_sound (settings_of b) (settings_sound b);
  fit_x = λ l e. absurd (let no : false ≡ true = e in cc);
  fit_y = λ l e. absurd (let no : false ≡ true = e in cc);
  none_x = λ l e. refl;
  none_y = λ l e. refl;
}

-- a run in which no changeover is given up is such a one
move_honest : (emergencies : Bool) (move : Move) → IsPlainMove emergencies move → IsHonestMove move
move_honest em (MoveStep (Act end event)) plain = tt
move_honest em (MoveStep (Emit end k)) plain = tt
move_honest em (MoveStep (Arrive end k)) plain = tt
move_honest em (MoveStep (Lose end k place)) plain = tt
move_honest em (MoveStep (Together k)) plain = absurd plain
move_honest false (MoveStep (Inject end k unit)) plain = plain
move_honest true (MoveStep (Inject end k unit)) plain = plain
move_honest em (Rise end k) plain = tt
move_honest em (Fill end k) plain = tt

moves_honest : (emergencies : Bool) (moves : List Move) → AreMoves (IsPlainMove emergencies) moves → AreMoves IsHonestMove moves
moves_honest em [] plain = tt
moves_honest em (move ∷ moves) plain = (move_honest em move plain.0, moves_honest em moves plain.1)

may_so : (b : Bool) (g : Rising) (end : End) (k : ℕ) → MayRise b g end k → MayComeUp b g end k
may_so true g end k may = tt
may_so false g end k may = ap is_covered may

may_go : (g : Rising) (move : Move) → MayMove g move → MayGoOn g move
may_go g (MoveStep step) may = tt
may_go g (Rise end k) may = may_so (is_first g.stage.world end k) g end k may
may_go g (Fill end k) may = ap is_covered may

go_onward : (g : Rising) (move : Move) (moves : List Move) (outcome : Outcome) → ((later : Rising) → HoldsBefore MayMove later moves → HoldsBefore MayGoOn later moves)
    → OnShows outcome (λ shown new. HoldsBefore MayMove (moved_on g move shown new) moves) → OnShows outcome (λ shown new. HoldsBefore MayGoOn (moved_on g move shown new) moves)
go_onward g move moves (shows shown new) next may = next (moved_on g move shown new) may
go_onward g move moves impossible next may = tt
go_onward g move moves exhausted next may = tt

may_go_on : (moves : List Move) (g : Rising) → HoldsBefore MayMove g moves → HoldsBefore MayGoOn g moves
may_go_on [] g may = tt
may_go_on (move ∷ moves) g may = (may_go g move may.0, go_onward g move moves (moved g.stage.world move) (λ later rest. may_go_on moves later rest) may.1)

pub run_honest : (emergencies : Bool) (a b : SetConfig) (moves : List Move) → IsRun emergencies a b moves → IsHonestRunOfMoves a b moves
run_honest em a b moves run = record {
  links = run.links;
  profiles = run.profiles;
  one_method = run.one_method;
  moves_are = moves_honest em moves run.moves_are;
  may = may_go_on moves (opening a b) run.may;
}

pub every_honest_run : EveryHonestRisingRunKeepsLinks
every_honest_run a b moves run =
    along a.method b.method run.one_method moves (opening a b) (first_holds a b run.one_method run.links run.profiles) run.moves_are run.may
