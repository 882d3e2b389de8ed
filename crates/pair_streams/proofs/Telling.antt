-- WHAT AN ORDER TELLS where it's heard, all along a quiet run: one induction over the steps, beside that of the
-- streams. `every_quiet_run_tells` answers every_quiet_run_tells_numbers (src/laws.rt), and World::play of pair_world
-- ensures it of its steps. Nothing more has to be carried for it: `along` takes each link's tie (`Holds`) and `Streams`
-- (Acting.antt) from stage to stage, which have the orders under way, and a unit that arrives is pair_changeover's
-- Telling.antt (`hears_tells`). Other steps hear no order.
use Rattle.std.proofs.Common.{refl, arith, ◌≡◌, sym, subst, ℕ, ◌<◌, Bool, true, false, List, [], ◌∷◌, length, cond}
use Rattle.std.proofs.lemmas.Bool.{ltb-true}
use Rattle.l2_units.specs.declared.unit.Unit.{Unit as SignalUnit}
use Rattle.pair_steps.specs.Lines.{units_on}
use Rattle.set_events.specs.declared.answer.Answer.{Answer}
use Rattle.set_events.specs.declared.config.Method.{Method}
use Rattle.set_events.specs.declared.config.SetConfig.{SetConfig}
use Rattle.set_events.specs.declared.event.Event.TheVariants.{Heard}
use Rattle.set_model.specs.declared.phase.Phase.TheVariants.{Up}
use Rattle.set_model.specs.State.{LinkState, is_up, link_count}
use Rattle.set_model.proofs.Walk.{IsAt}
use Rattle.pair_steps.specs.declared.step.End.{End}
use Rattle.pair_steps.specs.declared.step.End.TheVariants.{A, B}
use Rattle.pair_steps.specs.declared.step.Shown.{Shown}
use Rattle.pair_steps.specs.declared.step.Shown.TheVariants.{Answered, Lost}
use Rattle.pair_steps.specs.declared.step.Step.{Step}
use Rattle.pair_steps.specs.declared.step.Step.TheVariants.{Act, Emit, Arrive, Lose, Together, Inject}
use Rattle.pair_model.specs.World.{World, Outcome, shows, impossible, exhausted, with_end, line_to, with_line, answer_to, after, is_full, has_link, front_arrives, arrives, carried_out}
use Rattle.pair_model.specs.Run.{Stage, begun, passed, OnShows, HoldsAtEach}
use Rattle.pair_model.specs.Promises.{IsOneMethod, AreSteps, IsQuietRun}
use Rattle.pair_model.proofs.Controls.{one_back}
use Rattle.pair_model.proofs.Kept.{at_first}
use Rattle.pair_model.proofs.Moving as moving
use Rattle.pair_model.proofs.Pairs.{HoldsOf, swap}
use Rattle.pair_model.proofs.Runs.{seen, Holds, Goes, step_goes, is_at_up}
use Rattle.pair_changeover.specs.Diverted.{OrdersTell, FrontTells}
use Rattle.pair_changeover.proofs.Telling.{hears_tells}
use Rattle.pair_streams.proofs.Acting.{IsSafe, Streams, streams_back}
use Rattle.pair_streams.proofs.Runs.{Keeps, is_safe_honest, step_keeps, first_streams}

-- whatever is shown
on_all : (o : Outcome) (P : Shown → World → Type 0) → ((s : Shown) (w : World) → P s w) → OnShows o P
on_all (shows s w) P all = all s w
on_all impossible P all = tt
on_all exhausted P all = tt

module _ (emergencies : Bool) (ma mb : Method) (one : IsOneMethod ma mb) where
  abbrev Tells : Stage → Step → Outcome → Type 0
  Tells g step outcome = OnShows outcome (λ shown new. OrdersTell g step shown)

  module _ (g : Stage) (h : Holds ma mb one g) (v : Streams emergencies (seen A g)) where
    h_b : HoldsOf mb ma (seen B g)
    h_b = swap ma mb (seen A g) h

    one_b : IsOneMethod mb ma
    one_b = one_back ma mb one

    v_b : Streams emergencies (seen B g)
    v_b = streams_back (seen A g) v

    module _ (k : ℕ) (few : k < length g.world.a.state.links) (unit : SignalUnit) (rest : List SignalUnit) where
      heard_a : units_on k g.world.to_a ≡ unit ∷ rest → (link : LinkState) → IsAt k link Up g.world.a.state
          → OrdersTell g (Arrive A k) (Answered (answer_to g.world.a (Heard k unit)))
      heard_a front link at =
          subst (λ (answer : Answer). OrdersTell g (Arrive A k) (Answered answer))
          (sym (moving.answers_heard ma mb one (seen A g) h k few unit rest front link at))
          (subst (λ (line : List SignalUnit). FrontTells line
          (moving.report ma mb one (seen A g) h k few unit rest front link at).took g.world.a.state g.b)
          (sym front) (hears_tells ma mb one (seen A g) h v.ordered.both k few unit rest front link at))

      heard_b : units_on k g.world.to_b ≡ unit ∷ rest → (link : LinkState) → IsAt k link Up g.world.b.state
          → OrdersTell g (Arrive B k) (Answered (answer_to g.world.b (Heard k unit)))
      heard_b front link at =
          let few_b : k < length g.world.b.state.links = omega (arith, few, h.far_links) in
          subst (λ (answer : Answer). OrdersTell g (Arrive B k) (Answered answer))
          (sym (moving.answers_heard mb ma one_b (seen B g) h_b k few_b unit rest front link at))
          (subst (λ (line : List SignalUnit). FrontTells line
          (moving.report mb ma one_b (seen B g) h_b k few_b unit rest front link at).took g.world.b.state g.a)
          (sym front) (hears_tells mb ma one_b (seen B g) h_b v_b.ordered.both k few_b unit rest front link at))

      reach_a : units_on k g.world.to_a ≡ unit ∷ rest → (rising : Bool) → is_up k g.world.a.state ≡ rising → (known full : Bool)
          → Tells g (Arrive A k) (cond rising
          (cond known (cond full exhausted
          (shows (Answered (answer_to g.world.a (Heard k unit)))
          (with_end (with_line g.world A k rest) A (after g.world.a (Heard k unit))))) impossible)
          (shows Lost (with_line g.world A k rest)))
      reach_a front true e true true = tt
      reach_a front true e true false = let at = is_at_up k g.world.a.state e in heard_a front at.0 at.1
      reach_a front true e false full = tt
      reach_a front false e known full = tt

      reach_b : units_on k g.world.to_b ≡ unit ∷ rest → (rising : Bool) → is_up k g.world.b.state ≡ rising → (known full : Bool)
          → Tells g (Arrive B k) (cond rising
          (cond known (cond full exhausted
          (shows (Answered (answer_to g.world.b (Heard k unit)))
          (with_end (with_line g.world B k rest) B (after g.world.b (Heard k unit))))) impossible)
          (shows Lost (with_line g.world B k rest)))
      reach_b front true e true true = tt
      reach_b front true e true false = let at = is_at_up k g.world.b.state e in heard_b front at.0 at.1
      reach_b front true e false full = tt
      reach_b front false e known full = tt

    front_a : (k : ℕ) → k < length g.world.a.state.links → (line : List SignalUnit) → units_on k g.world.to_a ≡ line
        → Tells g (Arrive A k) (front_arrives g.world A k line)
    front_a k few [] e = tt
    front_a k few (unit ∷ rest) e = reach_a k few unit rest e (is_up k g.world.a.state) refl (has_link g.world k) (is_full g.world.a)

    front_b : (k : ℕ) → k < length g.world.a.state.links → (line : List SignalUnit) → units_on k g.world.to_b ≡ line
        → Tells g (Arrive B k) (front_arrives g.world B k line)
    front_b k few [] e = tt
    front_b k few (unit ∷ rest) e = reach_b k few unit rest e (is_up k g.world.b.state) refl (has_link g.world k) (is_full g.world.b)

    arrive_at : (end : End) (k : ℕ) → k < length g.world.a.state.links → Tells g (Arrive end k) (front_arrives g.world end k (line_to g.world end k))
    arrive_at A k few = front_a k few (units_on k g.world.to_a) refl
    arrive_at B k few = front_b k few (units_on k g.world.to_b) refl

    arrive_tells : (end : End) (k : ℕ) → Tells g (Arrive end k) (arrives g.world end k)
    arrive_tells end k = go (has_link g.world k) refl
      where
        go : (known : Bool) → has_link g.world k ≡ known → Tells g (Arrive end k) (cond known (front_arrives g.world end k (line_to g.world end k)) impossible)
        go true e = arrive_at end k (ltb-true k (link_count g.world.a.state) e)
        go false e = tt

  step_tells : (g : Stage) → Holds ma mb one g → Streams emergencies (seen A g) → (step : Step) → Tells g step (carried_out g.world step)
  unfolding carried_out
  step_tells g h v (Act end event) = on_all (carried_out g.world (Act end event)) (λ shown new. OrdersTell g (Act end event) shown) (λ s w. tt)
  step_tells g h v (Emit end k) = on_all (carried_out g.world (Emit end k)) (λ shown new. OrdersTell g (Emit end k) shown) (λ s w. tt)
  step_tells g h v (Arrive end k) = arrive_tells g h v end k
  step_tells g h v (Lose end k place) = on_all (carried_out g.world (Lose end k place)) (λ shown new. OrdersTell g (Lose end k place) shown) (λ s w. tt)
  step_tells g h v (Together k) = on_all (carried_out g.world (Together k)) (λ shown new. OrdersTell g (Together k) shown) (λ s w. tt)
  step_tells g h v (Inject end k unit) = on_all (carried_out g.world (Inject end k unit)) (λ shown new. OrdersTell g (Inject end k unit) shown) (λ s w. tt)

  abbrev AllTell : Stage → List Step → Type 0
  AllTell g steps = HoldsAtEach (λ before step shown later. OrdersTell before step shown) g steps

  onward : (g : Stage) (step : Step) (steps : List Step)
      → ((later : Stage) → Holds ma mb one later → Streams emergencies (seen A later) → AllTell later steps)
      → (outcome : Outcome) → Goes ma mb one g step outcome → Keeps emergencies ma mb one g step outcome
      → Tells g step outcome
      → OnShows outcome (λ shown new. OrdersTell g step shown × AllTell (passed g step shown new) steps)
  onward g step steps next (shows shown new) goes keeps tells = (tells, next (passed g step shown new) goes.1 keeps)
  onward g step steps next impossible goes keeps tells = tt
  onward g step steps next exhausted goes keeps tells = tt

  along : (g : Stage) → Holds ma mb one g → Streams emergencies (seen A g) → (steps : List Step) → AreSteps (IsSafe emergencies) steps → AllTell g steps
  along g h v [] safe = tt
  along g h v (step ∷ steps) safe =
      onward g step steps (λ later holds streams. along later holds streams steps safe.1) (carried_out g.world step)
      (step_goes ma mb one g h step (is_safe_honest emergencies step safe.0))
      (step_keeps emergencies ma mb one g h v step safe.0) (step_tells g h v step)

pub every_quiet_run_tells : (a b : SetConfig) (steps : List Step) → IsQuietRun a b steps
    → HoldsAtEach (λ before step shown later. OrdersTell before step shown) (begun a b) steps
every_quiet_run_tells a b steps quiet =
    along true a.method b.method quiet.one_method (begun a b) (at_first a b quiet.links quiet.profiles)
    (first_streams true a b) steps quiet.steps
