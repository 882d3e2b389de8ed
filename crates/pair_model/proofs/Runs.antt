-- EVERY HONEST RUN KEEPS EACH LINK: one induction over its steps. `every_honest_run` answers
-- every_honest_run_keeps_links (src/laws.rt), and pair_world's World::play ensures it of its steps. `along` takes
-- `Holds` from stage to stage; `step_goes` says that each step keeps it and tells no fault, by `asks` of Pairs.antt and
-- by Moving.antt, seen from the end that acts. What a stage promises is read off its ties (`links_keep`, Kept.antt).
-- The inductions of pair_changeover's Runs.antt and pair_streams's Runs.antt go beside this one, with `seen`, `Holds`,
-- `Goes` and `step_goes`.
use Rattle.std.proofs.Common.{refl, arith, ◌≡◌, ◌∙◌, ap, sym, subst, ℕ, ◌<◌, Bool, true, false, ◌&&◌, ◌||◌, nat_lt, List, [], ◌∷◌, length, slice_get, Option, Some, None, cond}
use Rattle.std.proofs.lemmas.Bool.{ltb-true}
use Rattle.l2_units.specs.declared.unit.Unit.{Unit as SignalUnit}
use Rattle.pair_steps.specs.Lines.{units_on, without}
use Rattle.set_events.specs.declared.answer.Answer.{Answer}
use Rattle.set_events.specs.declared.answer.Refusal.{Refusal as SetRefusal}
use Rattle.set_events.specs.declared.answer.Fate.{Fate}
use Rattle.set_events.specs.declared.config.Method.{Method}
use Rattle.set_events.specs.declared.config.SetConfig.{SetConfig}
use Rattle.set_events.specs.declared.event.Event.{Event}
use Rattle.set_events.specs.declared.event.Event.TheVariants.{Offer, Take, Find, Next, Heard, Up as UpEvent, Down as DownEvent, DownBlind, NoAnswer, Timed, Restore, Redeclare, BackTimeout, Test}
use Rattle.set_model.specs.declared.phase.Phase.{Phase}
use Rattle.set_model.specs.declared.phase.Phase.TheVariants.{Up, Down, Settled}
use Rattle.set_model.specs.Rows.{Fate, place}
use Rattle.set_model.specs.State.{LinkState, State, has_phase_up, open_link, is_up, is_settled, link_is_up, link_count}
use Rattle.set_model.specs.Step.{Outcome as SetOutcome, refused, offer_refusal, offered, taken, found, with_known, in_service, falls, gives_up, timed, times_out, comes_back, restores, redeclares, runs_out, step}
use Rattle.set_model.specs.Changeover.{declared_from, some_declare, redeclared_from, released_from, some_in_use, some_overdue}
use Rattle.set_route.specs.Routing.{code_for}
use Rattle.set_events.specs.declared.answer.Answer.TheVariants.{Done}
use Rattle.set_events.specs.declared.answer.Refusal.TheVariants.{Nothing}
use Rattle.set_model.proofs.Walk.{IsAt}
use Rattle.pair_steps.specs.declared.step.End.{End}
use Rattle.pair_steps.specs.declared.step.End.TheVariants.{A, B}
use Rattle.pair_steps.specs.declared.step.Shown.TheVariants.{Answered, Up as CameUp, Lost}
use Rattle.pair_steps.specs.declared.step.Step.{Step}
use Rattle.pair_steps.specs.declared.step.Step.TheVariants.{Act, Emit, Arrive, Lose, Together, Inject}
use Rattle.pair_model.specs.World.{Outcome, shows, impossible, exhausted, at_end, with_end, line_to, with_line, actor_of, answer_to, after, is_full, has_link, has_actor, acts, with_sent, sends_on, emits, front_arrives, arrives, loses, risen, is_settled_at_both, rises, has_own_step, done_by, carried_out}
use Rattle.pair_model.specs.Run.{Stage, begun, with_past, past_arrived, passed, OnShows, HoldsAlong, HoldsAtEach}
use Rattle.pair_model.specs.Promises.{IsOneMethod, IsHonestStep, IsSoundStep, AreSteps, IsHonestRun, LinksKeep, TellsNoFault, KeepsLinks}
use Rattle.pair_model.proofs.Controls.{one_back}
use Rattle.pair_model.proofs.Kept.{kept_on, at_first}
use Rattle.pair_model.proofs.Moving as moving
use Rattle.pair_model.proofs.Pairs.{Two, swapped, HoldsOf, swap, asks}

-- a stage seen from each end
abbrev pub seen : End → Stage → Two
seen A g = record { near = g.world.a.state; far = g.world.b.state; near_past = g.a; far_past = g.b; out = g.world.to_b; back = g.world.to_a }
seen B g = record { near = g.world.b.state; far = g.world.a.state; near_past = g.b; far_past = g.a; out = g.world.to_a; back = g.world.to_b }

abbrev pub method_at : Method → Method → End → Method
method_at ma mb A = ma
method_at ma mb B = mb

-- an answer to what has no step of its own is no report
no_report_of : (o : SetOutcome) → Type 0
no_report_of o = TellsNoFault (Answered o.answer)

in_tells : (k : ℕ) (s : State) (f : LinkState → SetOutcome)
    → ((link : LinkState) → TellsNoFault (Answered (f link).answer)) → TellsNoFault (Answered (in_service k s f).answer)
in_tells k s f all = go (slice_get s.links k)
  where
    at : (link : LinkState) (b : Bool)
        → TellsNoFault (Answered (cond b (f link)
        (refused s Rattle.set_events.specs.declared.answer.Refusal.TheVariants.NotUp)).answer)
    at link true = all link
    at link false = tt

    go : (o : Option LinkState) → TellsNoFault
        (Answered (with_known o s (λ link. cond (has_phase_up link.phase) (f link)
        (refused s Rattle.set_events.specs.declared.answer.Refusal.TheVariants.NotUp))).answer)
    go None = tt
    go (Some link) = at link (has_phase_up link.phase)

offer_tells : (s : State) (body : List ℕ) (o : Option SetRefusal) → TellsNoFault (Answered (offered o s body).answer)
offer_tells s body None = tt
offer_tells s body (Some why) = tt

take_tells : (s : State) (inbox : List (List ℕ)) → TellsNoFault (Answered (taken inbox s).answer)
take_tells s [] = tt
take_tells s (body ∷ rest) = tt

find_tells : (s : State) (number : ℕ) (o : Option Fate) → TellsNoFault (Answered (found o number s).answer)
find_tells s number None = tt
find_tells s number (Some fate) = tt

on_tells : (k : ℕ) (s : State) (f : LinkState → SetOutcome)
    → ((link : LinkState) → TellsNoFault (Answered (f link).answer))
    → TellsNoFault (Answered (with_known (slice_get s.links k) s f).answer)
on_tells k s f all = go (slice_get s.links k)
  where
    go : (o : Option LinkState) → TellsNoFault (Answered (with_known o s f).answer)
    go None = tt
    go (Some link) = all link

give_tells : (k : ℕ) (s : State) (link : LinkState) (phase : Phase) → TellsNoFault (Answered (gives_up k s link phase).answer)
give_tells k s link Up = tt
give_tells k s link Down = tt
give_tells k s link Settled = tt

time_tells : (k : ℕ) (s : State) (link : LinkState) (o : Option Fate) → TellsNoFault (Answered (timed o k s link).answer)
time_tells k s link o = grind arith

times_tell : (k : ℕ) (s : State) (link : LinkState) (phase : Phase) → TellsNoFault (Answered (times_out k s link phase).answer)
times_tell k s link Up = tt
times_tell k s link Down = time_tells k s link (place link.order s.rows)
times_tell k s link Settled = tt

comes_tells : (k : ℕ) (s : State) → TellsNoFault (Answered (comes_back k s).answer)
comes_tells k s = go (some_declare k 0 (link_count s) s)
  where
    go : (b : Bool) → TellsNoFault (Answered (cond b (record { answer = Done; state = declared_from k 0 (link_count s) s }) (refused s Nothing)).answer)
    go true = tt
    go false = tt

restores_tells : (k : ℕ) (s : State) (link : LinkState) (b : Bool)
    → TellsNoFault (Answered (cond b (comes_back k s) (refused s Rattle.set_events.specs.declared.answer.Refusal.TheVariants.NotUp)).answer)
restores_tells k s link true = comes_tells k s
restores_tells k s link false = tt

redeclares_tell : (k : ℕ) (s : State) → TellsNoFault (Answered (redeclares k s).answer)
redeclares_tell k s = go (some_overdue (code_for k 0) 16 s)
  where
    go : (b : Bool) → TellsNoFault (Answered (cond b (record { answer = Done; state = redeclared_from (code_for k 0) 16 s }) (refused s Nothing)).answer)
    go true = tt
    go false = tt

runs_tells : (k : ℕ) (s : State) → TellsNoFault (Answered (runs_out k s).answer)
runs_tells k s = go (some_in_use (code_for k 0) 16 s)
  where
    go : (b : Bool) → TellsNoFault (Answered (cond b (record { answer = Done; state = released_from (code_for k 0) 16 s }) (refused s Nothing)).answer)
    go true = tt
    go false = tt

answer_tells : (s : State) (event : Event) → has_own_step event ≡ false → TellsNoFault (Answered (step s event).answer)
unfolding step
answer_tells s (Offer body) own = offer_tells s body (offer_refusal s.settings.profile s.rows body)
answer_tells s Take own = take_tells s s.inbox
answer_tells s (Find number) own = find_tells s number (place number s.rows)
answer_tells s (Next k) own = absurd cc
answer_tells s (Heard k unit) own = absurd cc
answer_tells s (UpEvent k) own = absurd cc
answer_tells s (DownEvent k) own = in_tells k s (falls false k s) (λ link. tt)
answer_tells s (DownBlind k) own = in_tells k s (falls true k s) (λ link. tt)
answer_tells s (NoAnswer k) own = on_tells k s (λ link. gives_up k s link link.phase) (λ link. give_tells k s link link.phase)
answer_tells s (Timed k) own = on_tells k s (λ link. times_out k s link link.phase) (λ link. times_tell k s link link.phase)
answer_tells s (Restore k) own = in_tells k s (restores k s) (λ link. restores_tells k s link (open_link link))
answer_tells s (Redeclare k) own = on_tells k s (λ link. redeclares k s) (λ link. redeclares_tell k s)
answer_tells s (BackTimeout k) own = on_tells k s (λ link. runs_out k s) (λ link. runs_tells k s)
answer_tells s (Test k) own = in_tells k s (λ link. refused s Nothing) (λ link. tt)

pub is_at_up : (k : ℕ) (s : State) → is_up k s ≡ true → (link : LinkState) × IsAt k link Up s
is_at_up k s e = go (slice_get s.links k) refl
  where
    phase_up : (phase : Phase) → has_phase_up phase ≡ true → phase ≡ Up
    phase_up Up f = refl
    phase_up Down f = absurd cc
    phase_up Settled f = absurd cc

    go : (o : Option LinkState) → slice_get s.links k ≡ o → (link : LinkState) × IsAt k link Up s
    go None f = absurd (let no : false ≡ true = ap link_is_up (sym f) ∙ e in cc)
    go (Some link) f = (link, record { there = f; phase_is = phase_up link.phase (ap link_is_up (sym f) ∙ e) })

-- a sound run is honest
pub is_honest : (step : Step) → IsSoundStep step → IsHonestStep step
is_honest (Act end event) sound = tt
is_honest (Emit end k) sound = tt
is_honest (Arrive end k) sound = tt
is_honest (Lose end k place) sound = tt
is_honest (Together k) sound = tt
is_honest (Inject end k unit) sound = absurd sound

module _ (ma mb : Method) (one : IsOneMethod ma mb) where
  abbrev pub Holds : Stage → Type 0
  Holds g = HoldsOf ma mb (seen A g)

  -- what a step keeps
  abbrev pub Goes : Stage → Step → Outcome → Type 0
  Goes g step outcome = OnShows outcome (λ shown new. TellsNoFault shown × Holds (passed g step shown new))

  module _ (g : Stage) (h : Holds g) where
    h_b : HoldsOf mb ma (seen B g)
    h_b = swap ma mb (seen A g) h

    one_b : IsOneMethod mb ma
    one_b = one_back ma mb one

    back_b : (p : Two) → HoldsOf mb ma p → HoldsOf ma mb (swapped p)
    back_b p k = swap mb ma p k

    -- ACT
    act_goes : (end : End) (event : Event) → has_own_step event ≡ false → Goes g (Act end event) (acts g.world end event)
    act_goes end event own = go (has_actor g.world (actor_of event)) (is_full (at_end g.world end))
      where
        shown : (end : End) → Goes g (Act end event)
            (shows (Answered (answer_to (at_end g.world end) event))
            (with_end g.world end (after (at_end g.world end) event)))
        shown A = (answer_tells g.world.a.state event own, asks ma mb (seen A g) h event _ own)
        shown B = (answer_tells g.world.b.state event own, back_b _ (asks mb ma (seen B g) h_b event _ own))

        go : (known full : Bool) → Goes g (Act end event)
            (cond known (cond full exhausted
            (shows (Answered (answer_to (at_end g.world end) event))
            (with_end g.world end (after (at_end g.world end) event)))) impossible)
        go true true = tt
        go true false = shown end
        go false full = tt

    -- EMIT
    emit_a : (k : ℕ) → k < length g.world.a.state.links → (b : Bool) → is_up k g.world.a.state ≡ b
        → Goes g (Emit A k) (sends_on A k
        (shows (Answered (answer_to g.world.a (Next k))) (with_end g.world A (after g.world.a (Next k)))))
    emit_a k few true e =
        let at = is_at_up k g.world.a.state e in
        subst (λ (answer : Answer). TellsNoFault (Answered answer)
        × Holds (passed g (Emit A k) (Answered answer)
        (with_sent (with_end g.world A (after g.world.a (Next k))) A k (Answered answer))))
        (sym (moving.answers_sent ma mb (seen A g) h k few at.0 at.1))
        (tt, moving.emits_up ma mb (seen A g) h k few at.0 at.1)
    emit_a k few false e =
        let not = moving.next_refused k g.world.a.state e in
        subst (λ (answer : Answer). TellsNoFault (Answered answer)
        × Holds (passed g (Emit A k) (Answered answer)
        (with_sent (with_end g.world A (after g.world.a (Next k))) A k (Answered answer))))
        (sym (ap (λ (o : SetOutcome). o.answer) not.1))
        (tt, moving.emits_not ma mb (seen A g) h k e)

    emit_b : (k : ℕ) → k < length g.world.b.state.links → (b : Bool) → is_up k g.world.b.state ≡ b
        → Goes g (Emit B k) (sends_on B k
        (shows (Answered (answer_to g.world.b (Next k))) (with_end g.world B (after g.world.b (Next k)))))
    emit_b k few true e =
        let at = is_at_up k g.world.b.state e in
        subst (λ (answer : Answer). TellsNoFault (Answered answer)
        × Holds (passed g (Emit B k) (Answered answer)
        (with_sent (with_end g.world B (after g.world.b (Next k))) B k (Answered answer))))
        (sym (moving.answers_sent mb ma (seen B g) h_b k few at.0 at.1))
        (tt, back_b _ (moving.emits_up mb ma (seen B g) h_b k few at.0 at.1))
    emit_b k few false e =
        let not = moving.next_refused k g.world.b.state e in
        subst (λ (answer : Answer). TellsNoFault (Answered answer)
        × Holds (passed g (Emit B k) (Answered answer)
        (with_sent (with_end g.world B (after g.world.b (Next k))) B k (Answered answer))))
        (sym (ap (λ (o : SetOutcome). o.answer) not.1))
        (tt, back_b _ (moving.emits_not mb ma (seen B g) h_b k e))

    emit_at : (end : End) (k : ℕ) → k < length g.world.a.state.links
        → Goes g (Emit end k) (sends_on end k
        (shows (Answered (answer_to (at_end g.world end) (Next k)))
        (with_end g.world end (after (at_end g.world end) (Next k)))))
    emit_at A k few = emit_a k few (is_up k g.world.a.state) refl
    emit_at B k few = emit_b k (omega (arith, few, h.far_links)) (is_up k g.world.b.state) refl

    emit_goes : (end : End) (k : ℕ) → Goes g (Emit end k) (emits g.world end k)
    emit_goes end k = go (has_link g.world k) refl (is_full (at_end g.world end))
      where
        go : (known : Bool) → has_link g.world k ≡ known → (full : Bool)
            → Goes g (Emit end k) (sends_on end k
            (cond known (cond full exhausted
            (shows (Answered (answer_to (at_end g.world end) (Next k)))
            (with_end g.world end (after (at_end g.world end) (Next k))))) impossible))
        go true e true = tt
        go true e false = emit_at end k (ltb-true k (link_count g.world.a.state) e)
        go false e full = tt

    -- LOSE: the unit leaves the line to this end, which is the other's line out
    lost_a : (k place : ℕ) → k < length g.world.a.state.links → place < length (units_on k g.world.to_a)
        → Holds (record g { world = with_line g.world A k (without place (units_on k g.world.to_a)) })
    lost_a k place few within = back_b _ (moving.loses mb ma (seen B g) h_b k place (omega (arith, few, h.far_links)) within)

    lost_b : (k place : ℕ) → k < length g.world.a.state.links → place < length (units_on k g.world.to_b)
        → Holds (record g { world = with_line g.world B k (without place (units_on k g.world.to_b)) })
    lost_b k place few within = moving.loses ma mb (seen A g) h k place few within

    lost_at : (end : End) (k place : ℕ) → k < length g.world.a.state.links → place < length (line_to g.world end k)
        → Holds (record g { world = with_line g.world end k (without place (line_to g.world end k)) })
    lost_at A k place few within = lost_a k place few within
    lost_at B k place few within = lost_b k place few within

    lose_goes : (end : End) (k place : ℕ) → Goes g (Lose end k place) (loses g.world end k place)
    lose_goes end k place = go (has_link g.world k) refl (nat_lt place (length (line_to g.world end k))) refl
      where
        go : (known : Bool) → has_link g.world k ≡ known → (within : Bool) → nat_lt place (length (line_to g.world end k)) ≡ within
            → Goes g (Lose end k place) (cond known
            (cond within (shows Lost (with_line g.world end k (without place (line_to g.world end k))))
            impossible) impossible)
        go true e true f = (tt, lost_at end k place (ltb-true k (link_count g.world.a.state) e) (ltb-true place (length (line_to g.world end k)) f))
        go true e false f = tt
        go false e within f = tt

    -- ARRIVE
    abbrev ArriveGoes : (end : End) (k : ℕ) → List SignalUnit → Outcome → Type 0
    ArriveGoes A k line outcome = OnShows outcome (λ shown new. TellsNoFault shown × Holds (with_past A (past_arrived k line (g.b.sent k) shown g.a) new g))
    ArriveGoes B k line outcome = OnShows outcome (λ shown new. TellsNoFault shown × Holds (with_past B (past_arrived k line (g.a.sent k) shown g.b) new g))

    -- heard in service, else lost
    module _ (k : ℕ) (few : k < length g.world.a.state.links) (unit : SignalUnit) (rest : List SignalUnit) where
      heard_a : units_on k g.world.to_a ≡ unit ∷ rest → (link : LinkState) → IsAt k link Up g.world.a.state
          → ArriveGoes A k (unit ∷ rest)
          (shows (Answered (answer_to g.world.a (Heard k unit)))
          (with_end (with_line g.world A k rest) A (after g.world.a (Heard k unit))))
      heard_a front link at =
          subst (λ (answer : Answer). TellsNoFault (Answered answer)
          × Holds (with_past A (past_arrived k (unit ∷ rest) (g.b.sent k) (Answered answer) g.a)
          (with_end (with_line g.world A k rest) A (after g.world.a (Heard k unit))) g))
          (sym (moving.answers_heard ma mb one (seen A g) h k few unit rest front link at))
          (moving.tells_none ma mb one (seen A g) h k few unit rest front link at, moving.hears_up ma mb one (seen A g) h k few unit rest front link at)

      heard_b : units_on k g.world.to_b ≡ unit ∷ rest → (link : LinkState) → IsAt k link Up g.world.b.state
          → ArriveGoes B k (unit ∷ rest)
          (shows (Answered (answer_to g.world.b (Heard k unit)))
          (with_end (with_line g.world B k rest) B (after g.world.b (Heard k unit))))
      heard_b front link at =
          let few_b : k < length g.world.b.state.links = omega (arith, few, h.far_links) in
          subst (λ (answer : Answer). TellsNoFault (Answered answer)
          × Holds (with_past B (past_arrived k (unit ∷ rest) (g.a.sent k) (Answered answer) g.b)
          (with_end (with_line g.world B k rest) B (after g.world.b (Heard k unit))) g))
          (sym (moving.answers_heard mb ma one_b (seen B g) h_b k few_b unit rest front link at)) (
            moving.tells_none mb ma one_b (seen B g) h_b k few_b unit rest front link at,
            back_b _ (moving.hears_up mb ma one_b (seen B g) h_b k few_b unit rest front link at),
          )

      front_lost_a : units_on k g.world.to_a ≡ unit ∷ rest → Holds (record g { world = with_line g.world A k rest })
      front_lost_a front = subst (λ (us : List SignalUnit). Holds (record g { world = with_line g.world A k us }))
          (ap (without 0) front) (lost_a k 0 few (rw front (omega arith)))

      front_lost_b : units_on k g.world.to_b ≡ unit ∷ rest → Holds (record g { world = with_line g.world B k rest })
      front_lost_b front = subst (λ (us : List SignalUnit). Holds (record g { world = with_line g.world B k us }))
          (ap (without 0) front) (lost_b k 0 few (rw front (omega arith)))

      reach_a : units_on k g.world.to_a ≡ unit ∷ rest → (rising : Bool) → is_up k g.world.a.state ≡ rising → (known full : Bool)
          → ArriveGoes A k (unit ∷ rest)
          (cond rising (cond known (cond full exhausted
          (shows (Answered (answer_to g.world.a (Heard k unit)))
          (with_end (with_line g.world A k rest) A (after g.world.a (Heard k unit))))) impossible)
          (shows Lost (with_line g.world A k rest)))
      reach_a front true e true true = tt
      reach_a front true e true false = let at = is_at_up k g.world.a.state e in heard_a front at.0 at.1
      reach_a front true e false full = tt
      reach_a front false e known full = (tt, front_lost_a front)

      reach_b : units_on k g.world.to_b ≡ unit ∷ rest → (rising : Bool) → is_up k g.world.b.state ≡ rising → (known full : Bool)
          → ArriveGoes B k (unit ∷ rest)
          (cond rising (cond known (cond full exhausted
          (shows (Answered (answer_to g.world.b (Heard k unit)))
          (with_end (with_line g.world B k rest) B (after g.world.b (Heard k unit))))) impossible)
          (shows Lost (with_line g.world B k rest)))
      reach_b front true e true true = tt
      reach_b front true e true false = let at = is_at_up k g.world.b.state e in heard_b front at.0 at.1
      reach_b front true e false full = tt
      reach_b front false e known full = (tt, front_lost_b front)

    front_a : (k : ℕ) → k < length g.world.a.state.links → (line : List SignalUnit) → units_on k g.world.to_a ≡ line
        → ArriveGoes A k line (front_arrives g.world A k line)
    front_a k few [] e = tt
    front_a k few (unit ∷ rest) e = reach_a k few unit rest e (is_up k g.world.a.state) refl (has_link g.world k) (is_full g.world.a)

    front_b : (k : ℕ) → k < length g.world.a.state.links → (line : List SignalUnit) → units_on k g.world.to_b ≡ line
        → ArriveGoes B k line (front_arrives g.world B k line)
    front_b k few [] e = tt
    front_b k few (unit ∷ rest) e = reach_b k few unit rest e (is_up k g.world.b.state) refl (has_link g.world k) (is_full g.world.b)

    arrive_at : (end : End) (k : ℕ) → k < length g.world.a.state.links → Goes g (Arrive end k) (front_arrives g.world end k (line_to g.world end k))
    arrive_at A k few = front_a k few (units_on k g.world.to_a) refl
    arrive_at B k few = front_b k few (units_on k g.world.to_b) refl

    arrive_goes : (end : End) (k : ℕ) → Goes g (Arrive end k) (arrives g.world end k)
    arrive_goes end k = go (has_link g.world k) refl
      where
        go : (known : Bool) → has_link g.world k ≡ known → Goes g (Arrive end k) (cond known (front_arrives g.world end k (line_to g.world end k)) impossible)
        go true e = arrive_at end k (ltb-true k (link_count g.world.a.state) e)
        go false e = tt

    -- TOGETHER
    pub both_settled : (x y : Bool) → (x && y) ≡ true → (x ≡ true) × (y ≡ true)
    both_settled true true e = (refl, refl)
    both_settled true false e = absurd cc
    both_settled false y e = absurd cc

    together_goes : (k : ℕ) → Goes g (Together k) (rises g.world k)
    together_goes k = go (has_link g.world k) refl (is_settled_at_both g.world k) refl (is_full g.world.a || is_full g.world.b)
      where
        go : (known : Bool) → has_link g.world k ≡ known → (settled : Bool) → is_settled_at_both g.world k ≡ settled → (full : Bool)
            → Goes g (Together k) (cond known (cond settled (cond full exhausted (shows CameUp (risen g.world k))) impossible) impossible)
        go true e true f true = tt
        go true e true f false =
            let s = both_settled (is_settled k g.world.a.state) (is_settled k g.world.b.state) f in
            (tt, moving.rises ma mb (seen A g) h k (ltb-true k (link_count g.world.a.state) e) s.0 s.1)
        go true e false f full = tt
        go false e settled f full = tt

    -- EACH STEP
    own_goes : (end : End) (event : Event) → (own : Bool) → has_own_step event ≡ own → Goes g (Act end event) (cond own impossible (acts g.world end event))
    own_goes end event true e = tt
    own_goes end event false e = act_goes end event e

    done_goes : (step : Step) → IsHonestStep step → Goes g step (done_by g.world step)
    done_goes (Act end event) sound = own_goes end event (has_own_step event) refl
    done_goes (Emit end k) sound = emit_goes end k
    done_goes (Arrive end k) sound = arrive_goes end k
    done_goes (Lose end k place) sound = lose_goes end k place
    done_goes (Together k) sound = together_goes k
    done_goes (Inject end k unit) sound = absurd sound

  pub step_goes : (g : Stage) → Holds g → (step : Step) → IsHonestStep step → Goes g step (carried_out g.world step)
  unfolding carried_out
  step_goes g h step sound = done_goes g h step sound

  pub links_keep : (g : Stage) → Holds g → LinksKeep g
  links_keep g h link = (kept_on ma mb one (seen A g) h link, kept_on mb ma (one_back ma mb one) (seen B g) (swap ma mb (seen A g) h) link)

  -- ALL ALONG: what a step shows, and what holds along the rest
  onward : (g : Stage) (step : Step) (steps : List Step) → ((later : Stage) → Holds later → KeepsLinks later steps) → (outcome : Outcome) → Goes g step outcome
      → OnShows outcome (λ shown new. HoldsAlong LinksKeep (passed g step shown new) steps)
      × OnShows outcome (λ shown new. TellsNoFault shown × HoldsAtEach (λ before done told later. TellsNoFault told) (passed g step shown new) steps)
  onward g step steps next (shows shown new) goes =
      let rest = next (passed g step shown new) goes.1 in
      (rest.links, (goes.0, rest.no_fault))
  onward g step steps next impossible goes = (tt, tt)
  onward g step steps next exhausted goes = (tt, tt)

  pub along : (g : Stage) → Holds g → (steps : List Step) → AreSteps IsHonestStep steps → KeepsLinks g steps
  along g h [] sound = record { links = links_keep g h; no_fault = tt }
  along g h (step ∷ steps) sound =
      let rest = onward g step steps (λ later holds. along later holds steps sound.1) (carried_out g.world step) (step_goes g h step sound.0) in
      record { links = (links_keep g h, rest.0); no_fault = rest.1 }

pub every_honest_run : (a b : SetConfig) (steps : List Step) → IsHonestRun a b steps → KeepsLinks (begun a b) steps
every_honest_run a b steps sound = along a.method b.method sound.one_method (begun a b) (at_first a b sound.links sound.profiles) steps sound.steps
