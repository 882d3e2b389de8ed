-- WHAT A LINK COUNTS as acknowledged was accepted, all along a quiet run: one induction over the steps, beside that of
-- the streams. `every_quiet_run_counts` answers every_quiet_run_acks_the_taken (src/laws.rt), and World::play of
-- pair_world ensures it of its steps. `along` takes three things from stage to stage: each link's tie (`Holds`),
-- `Streams` (Acting.antt), and `Counts` of pair_changeover's Counted.antt, which `step_counts` keeps. The last speaks
-- of settled links; of others pair_model's law of links says the same (`says_of`).
use Rattle.std.proofs.Common.{refl, arith, ◌≡◌, ◌∙◌, ap, sym, subst, ℕ, ◌<◌, ◌≤◌, Bool, true, false, List, [], ◌∷◌, length, cond, ◌||◌, nat_lt}
use Rattle.std.proofs.lemmas.Bool.{ltb-true}
use Rattle.l2_units.specs.declared.unit.Unit.{Unit as SignalUnit}
use Rattle.pair_steps.specs.Lines.{units_on, without}
use Rattle.set_events.specs.declared.answer.Answer.{Answer}
use Rattle.set_events.specs.declared.answer.Answer.TheVariants.{Accepted, Taken, Found, Sent, Heard as HeardBack, Done, Refused}
use Rattle.set_events.specs.declared.config.Method.{Method}
use Rattle.set_events.specs.declared.config.SetConfig.{SetConfig}
use Rattle.set_events.specs.declared.event.Event.{Event}
use Rattle.set_events.specs.declared.event.Event.TheVariants.{Offer, Take, Find, Next, Heard, Up as UpEvent, Down as DownEvent, DownBlind, NoAnswer, Timed, Restore, Redeclare, BackTimeout, Test}
use Rattle.set_model.specs.Sound.{IsSound}
use Rattle.set_model.specs.State.{State, Settings, is_up, is_settled, link_is_settled, link_count, has_phase_settled, opened_with, settings_of}
use Rattle.set_model.specs.Step.{Outcome as SetOutcome, step}
use Rattle.set_model.proofs.Lists.{present, within}
use Rattle.pair_steps.specs.declared.step.End.{End}
use Rattle.pair_steps.specs.declared.step.End.TheVariants.{A, B}
use Rattle.pair_steps.specs.declared.step.Shown.TheVariants.{Answered, Up as CameUp, Lost}
use Rattle.pair_steps.specs.declared.step.Step.{Step}
use Rattle.pair_steps.specs.declared.step.Step.TheVariants.{Act, Emit, Arrive, Lose, Together, Inject}
use Rattle.pair_model.specs.World.{World, Outcome, shows, impossible, exhausted, at_end, with_end, line_to, with_line, actor_of, answer_to, after, is_full, has_link, has_actor, acts, with_sent, sends_on, emits, front_arrives, arrives, loses, risen, is_settled_at_both, rises, has_own_step, done_by, carried_out}
use Rattle.pair_model.specs.Run.{Stage, begun, passed, OnShows, HoldsAlong}
use Rattle.pair_model.specs.Promises.{IsOneMethod, AreSteps, IsQuietRun}
use Rattle.pair_model.proofs.Controls.{one_back}
use Rattle.pair_model.proofs.Kept.{at_first, kept_on}
use Rattle.pair_model.proofs.Moving as moving
use Rattle.pair_model.proofs.Pairs.{Two, HoldsOf, swap}
use Rattle.pair_model.proofs.Rising.{settled_at}
use Rattle.pair_model.proofs.Runs.{seen, Holds, Goes, step_goes, is_at_up, both_settled}
use Rattle.pair_changeover.proofs.Overtaken.{sends_next}
use Rattle.pair_changeover.proofs.Arriving.{rises_at}
use Rattle.pair_changeover.proofs.Counted.{Counts, counts_back, counts_kept, counts_risen, heard_counts}
use Rattle.pair_changeover.proofs.Keeping.{Keeps as EventKeeps, keeps_still, offer_kept, take_kept, find_kept, down_kept, blind_kept, restore_kept, redeclare_kept, test_kept}
use Rattle.pair_changeover.proofs.Ordered.{sends_keep}
use Rattle.pair_changeover.proofs.Runs.{none_counted}
use Rattle.pair_changeover.proofs.Texts.{AreCodes}
use Rattle.pair_changeover.proofs.Views.{acked_of, acked_on, accepted_of, accepted_on}
use Rattle.pair_streams.specs.Streams.{AreTaken, AckedAreTaken}
use Rattle.pair_streams.proofs.Acting.{IsSafe, Streams, streams_back}
use Rattle.pair_streams.proofs.Runs.{Keeps, is_safe_honest, step_keeps, first_streams}

-- AN EVENT that has no step of its own settles nothing and accepts nothing
event_kept : (s f : State) (end : End) (event : Event) → IsSound s → AreCodes s.settings → has_own_step event ≡ false
    → IsSafe true (Act end event) → EventKeeps true s (step s event).state f
event_kept s f end (Offer body) sound codes own safe = offer_kept s f body sound
event_kept s f end Take sound codes own safe = take_kept s f
event_kept s f end (Find number) sound codes own safe = find_kept s f number
event_kept s f end (Next k) sound codes own safe = absurd cc
event_kept s f end (Heard k unit) sound codes own safe = absurd cc
event_kept s f end (UpEvent k) sound codes own safe = absurd cc
event_kept s f end (DownEvent k) sound codes own safe = down_kept k s f sound codes
event_kept s f end (DownBlind k) sound codes own safe = blind_kept k s f refl sound codes
event_kept s f end (NoAnswer k) sound codes own safe = absurd safe
event_kept s f end (Timed k) sound codes own safe = absurd safe
event_kept s f end (Restore k) sound codes own safe = restore_kept k s f sound
event_kept s f end (Redeclare k) sound codes own safe = redeclare_kept k s f sound
event_kept s f end (BackTimeout k) sound codes own safe = absurd safe
event_kept s f end (Test k) sound codes own safe = test_kept k s f

-- a sent unit changes no end
abbrev pub CountsIn : World → Type 0
CountsIn w = Counts w.a.state w.b.state

sent_counts : (w : World) (end : End) (k : ℕ) (answer : Answer) → CountsIn w → CountsIn (with_sent w end k (Answered answer))
sent_counts w A k (Sent unit) c = c
sent_counts w B k (Sent unit) c = c
sent_counts w end k (Accepted number) c = c
sent_counts w end k (Taken body) c = c
sent_counts w end k (Found fate) c = c
sent_counts w end k (HeardBack report) c = c
sent_counts w end k Done c = c
sent_counts w end k (Refused why) c = c

module _ (ma mb : Method) (one : IsOneMethod ma mb) where
  abbrev pub CountsThen : Outcome → Type 0
  CountsThen outcome = OnShows outcome (λ shown new. CountsIn new)

  module _ (g : Stage) (h : Holds ma mb one g) (v : Streams true (seen A g)) (c : CountsIn g.world) where
    h_b : HoldsOf mb ma (seen B g)
    h_b = swap ma mb (seen A g) h

    one_b : IsOneMethod mb ma
    one_b = one_back ma mb one

    v_b : Streams true (seen B g)
    v_b = streams_back (seen A g) v

    c_b : Counts g.world.b.state g.world.a.state
    c_b = counts_back g.world.a.state g.world.b.state c

    -- ACT
    act_counts : (end : End) (event : Event) → IsSafe true (Act end event) → has_own_step event ≡ false → CountsThen (acts g.world end event)
    act_counts end event safe own = go (has_actor g.world (actor_of event)) (is_full (at_end g.world end))
      where
        shown : (end : End) → IsSafe true (Act end event) → CountsIn (with_end g.world end (after (at_end g.world end) event))
        shown A safe = counts_kept g.world.a.state (step g.world.a.state event).state g.world.b.state c
            (event_kept g.world.a.state g.world.b.state A event h.near_sound v.ordered.near_codes own safe)
        shown B safe = counts_back (step g.world.b.state event).state g.world.a.state
            (counts_kept g.world.b.state (step g.world.b.state event).state g.world.a.state c_b
            (event_kept g.world.b.state g.world.a.state B event h.far_sound v.ordered.far_codes own safe))

        go : (known full : Bool) → CountsThen
            (cond known (cond full exhausted
            (shows (Answered (answer_to (at_end g.world end) event))
            (with_end g.world end (after (at_end g.world end) event)))) impossible)
        go true true = tt
        go true false = shown end safe
        go false full = tt

    own_counts : (end : End) (event : Event) → IsSafe true (Act end event) → (own : Bool) → has_own_step event ≡ own
        → CountsThen (cond own impossible (acts g.world end event))
    own_counts end event safe true e = tt
    own_counts end event safe false e = act_counts end event safe e

    -- EMIT
    next_a : (k : ℕ) → k < length g.world.a.state.links → (b : Bool) → is_up k g.world.a.state ≡ b
        → EventKeeps true g.world.a.state (step g.world.a.state (Next k)).state g.world.b.state
    next_a k few true e =
        let at = is_at_up k g.world.a.state e in
        subst (λ (o : SetOutcome). EventKeeps true g.world.a.state o.state g.world.b.state)
        (sym (sends_next k g.world.a.state g.world.b.state v.ordered.both at.0 at.1))
        (sends_keep ma mb one (seen A g) h k few at.0 at.1)
    next_a k few false e =
        subst (λ (s : State). EventKeeps true g.world.a.state s g.world.b.state)
        (sym (ap (λ (o : SetOutcome). o.state) (moving.next_refused k g.world.a.state e).1))
        (keeps_still g.world.a.state g.world.a.state g.world.b.state refl refl)

    next_b : (k : ℕ) → k < length g.world.b.state.links → (b : Bool) → is_up k g.world.b.state ≡ b
        → EventKeeps true g.world.b.state (step g.world.b.state (Next k)).state g.world.a.state
    next_b k few true e =
        let at = is_at_up k g.world.b.state e in
        subst (λ (o : SetOutcome). EventKeeps true g.world.b.state o.state g.world.a.state)
        (sym (sends_next k g.world.b.state g.world.a.state v_b.ordered.both at.0 at.1))
        (sends_keep mb ma one_b (seen B g) h_b k few at.0 at.1)
    next_b k few false e =
        subst (λ (s : State). EventKeeps true g.world.b.state s g.world.a.state)
        (sym (ap (λ (o : SetOutcome). o.state) (moving.next_refused k g.world.b.state e).1))
        (keeps_still g.world.b.state g.world.b.state g.world.a.state refl refl)

    emit_at : (end : End) (k : ℕ) → k < length g.world.a.state.links → CountsIn (with_end g.world end (after (at_end g.world end) (Next k)))
    emit_at A k few = counts_kept g.world.a.state (step g.world.a.state (Next k)).state g.world.b.state c (next_a k few (is_up k g.world.a.state) refl)
    emit_at B k few = counts_back (step g.world.b.state (Next k)).state g.world.a.state
        (counts_kept g.world.b.state (step g.world.b.state (Next k)).state g.world.a.state c_b
        (next_b k (omega (arith, few, h.far_links)) (is_up k g.world.b.state) refl))

    emit_counts : (end : End) (k : ℕ) → CountsThen (emits g.world end k)
    emit_counts end k = go (has_link g.world k) refl (is_full (at_end g.world end))
      where
        go : (known : Bool) → has_link g.world k ≡ known → (full : Bool)
            → CountsThen (sends_on end k (cond known
            (cond full exhausted (shows (Answered (answer_to (at_end g.world end) (Next k)))
            (with_end g.world end (after (at_end g.world end) (Next k))))) impossible))
        go true e true = tt
        go true e false = sent_counts (with_end g.world end (after (at_end g.world end) (Next k))) end k
            (answer_to (at_end g.world end) (Next k)) (emit_at end k (ltb-true k (link_count g.world.a.state) e))
        go false e full = tt

    -- LOSE
    lose_counts : (end : End) (k place : ℕ) → CountsThen (loses g.world end k place)
    lose_counts end k place = go (has_link g.world k) (nat_lt place (length (line_to g.world end k)))
      where
        lost : (end : End) → CountsIn (with_line g.world end k (without place (line_to g.world end k)))
        lost A = c
        lost B = c

        go : (known within : Bool) → CountsThen
            (cond known (cond within (shows Lost (with_line g.world end k (without place (line_to g.world end k))))
            impossible) impossible)
        go true true = lost end
        go true false = tt
        go false within = tt

    -- ARRIVE
    module _ (k : ℕ) (few : k < length g.world.a.state.links) (unit : SignalUnit) (rest : List SignalUnit) where
      reach_a : units_on k g.world.to_a ≡ unit ∷ rest → (rising : Bool) → is_up k g.world.a.state ≡ rising → (known full : Bool)
          → CountsThen (cond rising (cond known
          (cond full exhausted (shows (Answered (answer_to g.world.a (Heard k unit)))
          (with_end (with_line g.world A k rest) A (after g.world.a (Heard k unit))))) impossible)
          (shows Lost (with_line g.world A k rest)))
      reach_a front true e true true = tt
      reach_a front true e true false = let at = is_at_up k g.world.a.state e in heard_counts ma mb one (seen A g) h v.ordered c k few unit rest front at.0 at.1
      reach_a front true e false full = tt
      reach_a front false e known full = c

      reach_b : units_on k g.world.to_b ≡ unit ∷ rest → (rising : Bool) → is_up k g.world.b.state ≡ rising → (known full : Bool)
          → CountsThen (cond rising (cond known
          (cond full exhausted (shows (Answered (answer_to g.world.b (Heard k unit)))
          (with_end (with_line g.world B k rest) B (after g.world.b (Heard k unit))))) impossible)
          (shows Lost (with_line g.world B k rest)))
      reach_b front true e true true = tt
      reach_b front true e true false =
          let at = is_at_up k g.world.b.state e in
          counts_back (step g.world.b.state (Heard k unit)).state g.world.a.state
          (heard_counts mb ma one_b (seen B g) h_b v_b.ordered c_b k (omega (arith, few, h.far_links)) unit rest
          front at.0 at.1)
      reach_b front true e false full = tt
      reach_b front false e known full = c

    front_a : (k : ℕ) → k < length g.world.a.state.links → (line : List SignalUnit) → units_on k g.world.to_a ≡ line
        → CountsThen (front_arrives g.world A k line)
    front_a k few [] e = tt
    front_a k few (unit ∷ rest) e = reach_a k few unit rest e (is_up k g.world.a.state) refl (has_link g.world k) (is_full g.world.a)

    front_b : (k : ℕ) → k < length g.world.a.state.links → (line : List SignalUnit) → units_on k g.world.to_b ≡ line
        → CountsThen (front_arrives g.world B k line)
    front_b k few [] e = tt
    front_b k few (unit ∷ rest) e = reach_b k few unit rest e (is_up k g.world.b.state) refl (has_link g.world k) (is_full g.world.b)

    arrive_at : (end : End) (k : ℕ) → k < length g.world.a.state.links → CountsThen (front_arrives g.world end k (line_to g.world end k))
    arrive_at A k few = front_a k few (units_on k g.world.to_a) refl
    arrive_at B k few = front_b k few (units_on k g.world.to_b) refl

    arrive_counts : (end : End) (k : ℕ) → CountsThen (arrives g.world end k)
    arrive_counts end k = go (has_link g.world k) refl
      where
        go : (known : Bool) → has_link g.world k ≡ known → CountsThen (cond known (front_arrives g.world end k (line_to g.world end k)) impossible)
        go true e = arrive_at end k (ltb-true k (link_count g.world.a.state) e)
        go false e = tt

    -- TOGETHER
    together_counts : (k : ℕ) → CountsThen (rises g.world k)
    together_counts k = go (has_link g.world k) refl (is_settled_at_both g.world k) refl (is_full g.world.a || is_full g.world.b)
      where
        go : (known : Bool) → has_link g.world k ≡ known → (settled : Bool) → is_settled_at_both g.world k ≡ settled → (full : Bool)
            → CountsThen (cond known (cond settled (cond full exhausted (shows CameUp (risen g.world k))) impossible) impossible)
        go true e true f true = tt
        go true e true f false =
            let s = both_settled ma mb one g h (is_settled k g.world.a.state) (is_settled k g.world.b.state) f in
            let near_at = settled_at k g.world.a.state s.0 in
            let far_at = settled_at k g.world.b.state s.1 in
            counts_risen k g.world.a.state (step g.world.a.state (UpEvent k)).state g.world.b.state (step g.world.b.state (UpEvent k)).state
            (rises_at k g.world.a.state h.near_sound near_at.0 near_at.1) (rises_at k g.world.b.state h.far_sound far_at.0 far_at.1) c
        go true e false f full = tt
        go false e settled f full = tt

    -- EACH STEP
    done_counts : (step : Step) → IsSafe true step → CountsThen (done_by g.world step)
    done_counts (Act end event) safe = own_counts end event safe (has_own_step event) refl
    done_counts (Emit end k) safe = emit_counts end k
    done_counts (Arrive end k) safe = arrive_counts end k
    done_counts (Lose end k place) safe = lose_counts end k place
    done_counts (Together k) safe = together_counts k
    done_counts (Inject end k unit) safe = absurd safe

  pub step_counts : (g : Stage) → Holds ma mb one g → Streams true (seen A g) → CountsIn g.world → (step : Step)
      → IsSafe true step → CountsThen (carried_out g.world step)
  unfolding carried_out
  step_counts g h v c step safe = done_counts g h v c step safe

  -- WHAT IT SAYS
  says_of : (mx my : Method) (one : IsOneMethod mx my) (p : Two) → HoldsOf mx my p
      → ((l : ℕ) → is_settled l p.near ≡ true → acked_on l p.near ≤ accepted_on l p.far) → AreTaken p.near p.far_past
  says_of mx my one p h less link state there = go (has_phase_settled state.phase) refl
    where
      go : (b : Bool) → has_phase_settled state.phase ≡ b → state.acked ≤ length (p.far_past.taken link)
      go false e = ((kept_on mx my one p h link).going state there e).acked
      go true e =
          let other = present p.far.links link (omega (arith, within p.near.links link state there, h.far_links)) in
          let counted : accepted_on link p.far ≡ length (p.far_past.taken link) = ap accepted_of other.1
          ∙ (kept_on mx my one p h link).accepted other.0 other.1 in
          let few = less link (ap link_is_settled there ∙ e) in
          let is : acked_on link p.near ≡ state.acked = ap acked_of there in
          omega (arith, counted, few, is)

  pub says : (g : Stage) → Holds ma mb one g → CountsIn g.world → AckedAreTaken g
  says g h c = (says_of ma mb one (seen A g) h c.near, says_of mb ma (one_back ma mb one) (seen B g) (swap ma mb (seen A g) h) c.far)

  moved : (g : Stage) (step : Step) (outcome : Outcome) → CountsThen outcome → OnShows outcome (λ shown new. CountsIn (passed g step shown new).world)
  moved g (Act A event) (shows shown new) c = c
  moved g (Act B event) (shows shown new) c = c
  moved g (Emit A k) (shows shown new) c = c
  moved g (Emit B k) (shows shown new) c = c
  moved g (Arrive A k) (shows shown new) c = c
  moved g (Arrive B k) (shows shown new) c = c
  moved g (Lose end k place) (shows shown new) c = c
  moved g (Together k) (shows shown new) c = c
  moved g (Inject A k unit) (shows shown new) c = c
  moved g (Inject B k unit) (shows shown new) c = c
  moved g step impossible c = tt
  moved g step exhausted c = tt

  onward : (g : Stage) (step : Step) (steps : List Step)
      → ((later : Stage) → Holds ma mb one later → Streams true (seen A later) → CountsIn later.world
      → HoldsAlong AckedAreTaken later steps) → (outcome : Outcome) → Goes ma mb one g step outcome
      → Keeps true ma mb one g step outcome → OnShows outcome (λ shown new. CountsIn (passed g step shown new).world)
      → OnShows outcome (λ shown new. HoldsAlong AckedAreTaken (passed g step shown new) steps)
  onward g step steps next (shows shown new) goes keeps c = next (passed g step shown new) goes.1 keeps c
  onward g step steps next impossible goes keeps c = tt
  onward g step steps next exhausted goes keeps c = tt

  along : (g : Stage) → Holds ma mb one g → Streams true (seen A g) → CountsIn g.world → (steps : List Step)
      → AreSteps (IsSafe true) steps → HoldsAlong AckedAreTaken g steps
  along g h v c [] safe = says g h c
  along g h v c (step ∷ steps) safe = (
    says g h c,
    onward g step steps (λ later holds streams counts. along later holds streams counts steps safe.1)
        (carried_out g.world step) (step_goes ma mb one g h step (is_safe_honest true step safe.0))
        (step_keeps true ma mb one g h v step safe.0)
        (moved g step (carried_out g.world step) (step_counts g h v c step safe.0)),
  )

-- AT FIRST
pub first_counts : (a b : Settings) → Counts (opened_with a) (opened_with b)
first_counts a b = record { near = λ l e. none a l; far = λ l e. none b l }
  where
    none : (s : Settings) (l : ℕ) {n : ℕ} → acked_on l (opened_with s) ≤ n
    none s l = let zero_is = none_counted s.links l s.profile s.method acked_of refl refl in omega (arith, zero_is)

pub every_quiet_run_counts : (a b : SetConfig) (steps : List Step) → IsQuietRun a b steps → HoldsAlong AckedAreTaken (begun a b) steps
every_quiet_run_counts a b steps quiet =
    along a.method b.method quiet.one_method (begun a b) (at_first a b quiet.links quiet.profiles)
    (first_streams true a b) (first_counts (settings_of a) (settings_of b)) steps quiet.steps
