-- EVERY SOUND RUN DIVERTS THE REST: one induction over its steps, beside that of the links. `every_sound_run` answers
-- every_sound_run_diverts_the_rest (src/laws.rt), and pair_world's World::play ensures it of its steps. `along` takes
-- two things from stage to stage, the tie of each link (`Holds`, pair_model's Runs.antt) and `Whole` (Whole.antt);
-- `step_went` says of each step that it keeps the second and that a link which settles diverts the rest. Its cases are
-- `asks_did` and `sends_did` of Whole.antt, `hears_did` and `rises_did` of Arriving.antt, seen from the end that acts;
-- at first nothing stands anywhere (`whole_at_first`).
use Rattle.l2_units.specs.declared.profile.Profile.{Profile}
use Rattle.std.proofs.Common.{refl, arith, ◌≡◌, ◌∙◌, ap, sym, subst, ℕ, zero, suc, ◌<◌, ◌-◌, Bool, true, false, ◌||◌, nat_lt, List, [], ◌∷◌, ◌++◌, length, slice_get, replicate, Option, Some, None, cond}
use Rattle.std.proofs.lemmas.Bool.{ltb-true}
use Rattle.l2_units.specs.declared.unit.Unit.{Unit as SignalUnit}
use Rattle.pair_steps.specs.Lines.{units_on, without}
use Rattle.set_events.specs.declared.answer.Answer.{Answer}
use Rattle.set_events.specs.declared.config.Method.{Method}
use Rattle.set_events.specs.declared.config.SetConfig.{SetConfig}
use Rattle.set_events.specs.declared.event.Event.{Event}
use Rattle.set_events.specs.declared.event.Event.TheVariants.{Next, Heard}
use Rattle.set_model.specs.declared.phase.Phase.TheVariants.{Up}
use Rattle.set_model.specs.Rows.{Row}
use Rattle.set_model.specs.State.{LinkState, Settings, is_up, is_settled, link_is_up, link_count, new_link, opened_with, settings_of}
use Rattle.set_model.specs.Step.{Outcome as SetOutcome, step}
use Rattle.set_model.proofs.Walk.{IsAt}
use Rattle.pair_steps.specs.declared.step.End.{End}
use Rattle.pair_steps.specs.declared.step.End.TheVariants.{A, B}
use Rattle.pair_steps.specs.declared.step.Shown.{Shown}
use Rattle.pair_steps.specs.declared.step.Shown.TheVariants.{Answered, Up as CameUp, Lost}
use Rattle.pair_steps.specs.declared.step.Step.{Step}
use Rattle.pair_steps.specs.declared.step.Step.TheVariants.{Act, Emit, Arrive, Lose, Together, Inject}
use Rattle.pair_model.specs.World.{Outcome, shows, impossible, exhausted, at_end, with_end, line_to, with_line, actor_of, answer_to, after, is_full, has_link, has_actor, acts, with_sent, sends_on, emits, front_arrives, arrives, loses, risen, is_settled_at_both, rises, has_own_step, done_by, carried_out}
use Rattle.pair_model.specs.Run.{Message, messages, Stage, begun, no_past, with_past, past_arrived, passed, OnShows, HoldsAlong, HoldsAtEach}
use Rattle.pair_model.specs.Promises.{IsOneMethod, IsSoundStep, AreSteps, IsSoundRun}
use Rattle.pair_model.proofs.Controls.{one_back}
use Rattle.pair_model.proofs.Kept.{at_first}
use Rattle.pair_model.proofs.Moving as moving
use Rattle.pair_model.proofs.Pairs.{HoldsOf, swap}
use Rattle.pair_model.proofs.Runs.{seen, Holds, Goes, is_honest, step_goes, is_at_up, both_settled}
use Rattle.pair_changeover.specs.Diverted.{OrdersTell, FrontTells, DivertsTheRest, IsLostNothing, IsDiverted, ChangesOver}
use Rattle.pair_changeover.proofs.Acked.{new_acked_first}
use Rattle.pair_changeover.proofs.Arriving.{hears_did, hears_tells, rises_did}
use Rattle.pair_changeover.proofs.Table.{drop_none}
use Rattle.pair_changeover.proofs.Texts.{AreCodes}
use Rattle.pair_changeover.proofs.Views.{view, acked_of, acked_on, accepted_of, accepted_on, Among, In, stands_on, stands_aside, Orders}
use Rattle.pair_changeover.proofs.Whole.{Half, Whole, whole_back, Did, stays, asks_did, sends_did, sends_not, loses_nothing}

-- what a stage keeps, and what a step to it was
pub record Went (g : Stage) (step : Step) (shown : Shown) (later : Stage) : Type 0 where
  pub whole : Whole (seen A later)
  pub is : IsDiverted g step shown later

-- seen from either end
from_a : (g later : Stage) (step : Step) (shown : Shown) → OrdersTell g step shown → Did (seen A g) (seen A later) → Went g step shown later
from_a g later step shown told d = record { whole = d.whole; is = record { told = told; diverted = λ end link before now. at end link before now } }
  where
    at : DivertsTheRest g later
    at A link before now = d.near link before now
    at B link before now = d.far link before now

from_b : (g later : Stage) (step : Step) (shown : Shown) → OrdersTell g step shown → Did (seen B g) (seen B later) → Went g step shown later
from_b g later step shown told d =
    record {
      whole = whole_back (seen B later) d.whole;
      is = record { told = told; diverted = λ end link before now. at end link before now };
    }
  where
    at : DivertsTheRest g later
    at A link before now = d.far link before now
    at B link before now = d.near link before now

module _ (ma mb : Method) (one : IsOneMethod ma mb) where
  abbrev pub Went' : Stage → Step → Outcome → Type 0
  Went' g step outcome = OnShows outcome (λ shown new. Went g step shown (passed g step shown new))

  module _ (g : Stage) (h : Holds ma mb one g) (w : Whole (seen A g)) where
    h_b : HoldsOf mb ma (seen B g)
    h_b = swap ma mb (seen A g) h

    one_b : IsOneMethod mb ma
    one_b = one_back ma mb one

    w_b : Whole (seen B g)
    w_b = whole_back (seen A g) w

    -- ACT
    act_went : (end : End) (event : Event) → IsSoundStep (Act end event) → has_own_step event ≡ false → Went' g (Act end event) (acts g.world end event)
    act_went end event sound own = go (has_actor g.world (actor_of event)) (is_full (at_end g.world end))
      where
        shown : (end : End) → IsSoundStep (Act end event)
            → Went' g (Act end event) (shows (Answered (answer_to (at_end g.world end) event))
            (with_end g.world end (after (at_end g.world end) event)))
        shown A sound = from_a g _ (Act A event) (Answered (answer_to g.world.a event)) tt
            (asks_did ma mb one (seen A g) h w A event (Answered (answer_to g.world.a event)) own sound)
        shown B sound = from_b g _ (Act B event) (Answered (answer_to g.world.b event)) tt
            (asks_did mb ma one_b (seen B g) h_b w_b B event (Answered (answer_to g.world.b event)) own sound)

        go : (known full : Bool) → Went' g (Act end event)
            (cond known (cond full exhausted
            (shows (Answered (answer_to (at_end g.world end) event))
            (with_end g.world end (after (at_end g.world end) event)))) impossible)
        go true true = tt
        go true false = shown end sound
        go false full = tt

    own_went : (end : End) (event : Event) → IsSoundStep (Act end event) → (own : Bool) → has_own_step event ≡ own
        → Went' g (Act end event) (cond own impossible (acts g.world end event))
    own_went end event sound true e = tt
    own_went end event sound false e = act_went end event sound e

    -- EMIT
    abbrev EmitWent : (end : End) (k : ℕ) → Answer → Type 0
    EmitWent end k answer = Went g (Emit end k) (Answered answer)
        (passed g (Emit end k) (Answered answer)
        (with_sent (with_end g.world end (after (at_end g.world end) (Next k))) end k (Answered answer)))

    emit_a : (k : ℕ) → k < length g.world.a.state.links → (b : Bool) → is_up k g.world.a.state ≡ b → EmitWent A k (answer_to g.world.a (Next k))
    emit_a k few true e =
        let at = is_at_up k g.world.a.state e in
        subst (EmitWent A k) (sym (moving.answers_sent ma mb (seen A g) h k few at.0 at.1))
        (from_a g _ (Emit A k) _ tt (sends_did ma mb one (seen A g) h w k _ few at.0 at.1))
    emit_a k few false e =
        subst (EmitWent A k) (sym (ap (λ (o : SetOutcome). o.answer) (moving.next_refused k g.world.a.state e).1))
        (from_a g _ (Emit A k) _ tt (sends_not ma mb one (seen A g) h w k _ e))

    emit_b : (k : ℕ) → k < length g.world.b.state.links → (b : Bool) → is_up k g.world.b.state ≡ b → EmitWent B k (answer_to g.world.b (Next k))
    emit_b k few true e =
        let at = is_at_up k g.world.b.state e in
        subst (EmitWent B k) (sym (moving.answers_sent mb ma (seen B g) h_b k few at.0 at.1))
        (from_b g _ (Emit B k) _ tt (sends_did mb ma one_b (seen B g) h_b w_b k _ few at.0 at.1))
    emit_b k few false e =
        subst (EmitWent B k) (sym (ap (λ (o : SetOutcome). o.answer) (moving.next_refused k g.world.b.state e).1))
        (from_b g _ (Emit B k) _ tt (sends_not mb ma one_b (seen B g) h_b w_b k _ e))

    emit_at : (end : End) (k : ℕ) → k < length g.world.a.state.links → EmitWent end k (answer_to (at_end g.world end) (Next k))
    emit_at A k few = emit_a k few (is_up k g.world.a.state) refl
    emit_at B k few = emit_b k (omega (arith, few, h.far_links)) (is_up k g.world.b.state) refl

    emit_went : (end : End) (k : ℕ) → Went' g (Emit end k) (emits g.world end k)
    emit_went end k = go (has_link g.world k) refl (is_full (at_end g.world end))
      where
        go : (known : Bool) → has_link g.world k ≡ known → (full : Bool)
            → Went' g (Emit end k) (sends_on end k
            (cond known (cond full exhausted
            (shows (Answered (answer_to (at_end g.world end) (Next k)))
            (with_end g.world end (after (at_end g.world end) (Next k))))) impossible))
        go true e true = tt
        go true e false = emit_at end k (ltb-true k (link_count g.world.a.state) e)
        go false e full = tt

    -- LOSE
    lose_went : (end : End) (k place : ℕ) → Went' g (Lose end k place) (loses g.world end k place)
    lose_went end k place = go (has_link g.world k) (nat_lt place (length (line_to g.world end k)))
      where
        lost : (end : End) → Went' g (Lose end k place) (shows Lost (with_line g.world end k (without place (line_to g.world end k))))
        lost A = from_a g _ (Lose A k place) Lost tt (stays (seen A g) _ w refl refl (λ l. refl) (λ l. refl))
        lost B = from_a g _ (Lose B k place) Lost tt (stays (seen A g) _ w refl refl (λ l. refl) (λ l. refl))

        go : (known within : Bool) → Went' g (Lose end k place)
            (cond known (cond within (shows Lost (with_line g.world end k (without place (line_to g.world end k))))
            impossible) impossible)
        go true true = lost end
        go true false = tt
        go false within = tt

    -- ARRIVE
    abbrev ArriveWent : (end : End) (k : ℕ) → List SignalUnit → Outcome → Type 0
    ArriveWent A k line outcome = OnShows outcome (λ shown new. Went g (Arrive A k) shown (with_past A (past_arrived k line (g.b.sent k) shown g.a) new g))
    ArriveWent B k line outcome = OnShows outcome (λ shown new. Went g (Arrive B k) shown (with_past B (past_arrived k line (g.a.sent k) shown g.b) new g))

    -- heard in service, else lost
    module _ (k : ℕ) (few : k < length g.world.a.state.links) (unit : SignalUnit) (rest : List SignalUnit) where
      heard_a : units_on k g.world.to_a ≡ unit ∷ rest → (link : LinkState) → IsAt k link Up g.world.a.state
          → ArriveWent A k (unit ∷ rest)
          (shows (Answered (answer_to g.world.a (Heard k unit)))
          (with_end (with_line g.world A k rest) A (after g.world.a (Heard k unit))))
      heard_a front link at =
          subst (λ (answer : Answer). Went g (Arrive A k) (Answered answer)
          (with_past A (past_arrived k (unit ∷ rest) (g.b.sent k) (Answered answer) g.a)
          (with_end (with_line g.world A k rest) A (after g.world.a (Heard k unit))) g))
          (sym (moving.answers_heard ma mb one (seen A g) h k few unit rest front link at))
          (from_a g _ (Arrive A k) _
          (subst (λ (line : List SignalUnit). FrontTells line
          (moving.report ma mb one (seen A g) h k few unit rest front link at).took g.world.a.state g.b)
          (sym front) (hears_tells ma mb one (seen A g) h w k few unit rest front link at))
          (hears_did ma mb one (seen A g) h w k few unit rest front link at))

      heard_b : units_on k g.world.to_b ≡ unit ∷ rest → (link : LinkState) → IsAt k link Up g.world.b.state
          → ArriveWent B k (unit ∷ rest)
          (shows (Answered (answer_to g.world.b (Heard k unit)))
          (with_end (with_line g.world B k rest) B (after g.world.b (Heard k unit))))
      heard_b front link at =
          let few_b : k < length g.world.b.state.links = omega (arith, few, h.far_links) in
          subst (λ (answer : Answer). Went g (Arrive B k) (Answered answer)
          (with_past B (past_arrived k (unit ∷ rest) (g.a.sent k) (Answered answer) g.b)
          (with_end (with_line g.world B k rest) B (after g.world.b (Heard k unit))) g))
          (sym (moving.answers_heard mb ma one_b (seen B g) h_b k few_b unit rest front link at))
          (from_b g _ (Arrive B k) _
          (subst (λ (line : List SignalUnit). FrontTells line
          (moving.report mb ma one_b (seen B g) h_b k few_b unit rest front link at).took g.world.b.state g.a)
          (sym front) (hears_tells mb ma one_b (seen B g) h_b w_b k few_b unit rest front link at))
          (hears_did mb ma one_b (seen B g) h_b w_b k few_b unit rest front link at))

      reach_a : units_on k g.world.to_a ≡ unit ∷ rest → (rising : Bool) → is_up k g.world.a.state ≡ rising → (known full : Bool)
          → ArriveWent A k (unit ∷ rest)
          (cond rising (cond known (cond full exhausted
          (shows (Answered (answer_to g.world.a (Heard k unit)))
          (with_end (with_line g.world A k rest) A (after g.world.a (Heard k unit))))) impossible)
          (shows Lost (with_line g.world A k rest)))
      reach_a front true e true true = tt
      reach_a front true e true false = let at = is_at_up k g.world.a.state e in heard_a front at.0 at.1
      reach_a front true e false full = tt
      reach_a front false e known full = from_a g _ (Arrive A k) Lost tt (stays (seen A g) _ w refl refl (λ l. refl) (λ l. refl))

      reach_b : units_on k g.world.to_b ≡ unit ∷ rest → (rising : Bool) → is_up k g.world.b.state ≡ rising → (known full : Bool)
          → ArriveWent B k (unit ∷ rest)
          (cond rising (cond known (cond full exhausted
          (shows (Answered (answer_to g.world.b (Heard k unit)))
          (with_end (with_line g.world B k rest) B (after g.world.b (Heard k unit))))) impossible)
          (shows Lost (with_line g.world B k rest)))
      reach_b front true e true true = tt
      reach_b front true e true false = let at = is_at_up k g.world.b.state e in heard_b front at.0 at.1
      reach_b front true e false full = tt
      reach_b front false e known full = from_a g _ (Arrive B k) Lost tt (stays (seen A g) _ w refl refl (λ l. refl) (λ l. refl))

    front_a : (k : ℕ) → k < length g.world.a.state.links → (line : List SignalUnit) → units_on k g.world.to_a ≡ line
        → ArriveWent A k line (front_arrives g.world A k line)
    front_a k few [] e = tt
    front_a k few (unit ∷ rest) e = reach_a k few unit rest e (is_up k g.world.a.state) refl (has_link g.world k) (is_full g.world.a)

    front_b : (k : ℕ) → k < length g.world.a.state.links → (line : List SignalUnit) → units_on k g.world.to_b ≡ line
        → ArriveWent B k line (front_arrives g.world B k line)
    front_b k few [] e = tt
    front_b k few (unit ∷ rest) e = reach_b k few unit rest e (is_up k g.world.b.state) refl (has_link g.world k) (is_full g.world.b)

    arrive_at : (end : End) (k : ℕ) → k < length g.world.a.state.links → Went' g (Arrive end k) (front_arrives g.world end k (line_to g.world end k))
    arrive_at A k few = front_a k few (units_on k g.world.to_a) refl
    arrive_at B k few = front_b k few (units_on k g.world.to_b) refl

    arrive_went : (end : End) (k : ℕ) → Went' g (Arrive end k) (arrives g.world end k)
    arrive_went end k = go (has_link g.world k) refl
      where
        go : (known : Bool) → has_link g.world k ≡ known → Went' g (Arrive end k) (cond known (front_arrives g.world end k (line_to g.world end k)) impossible)
        go true e = arrive_at end k (ltb-true k (link_count g.world.a.state) e)
        go false e = tt

    -- TOGETHER
    together_went : (k : ℕ) → Went' g (Together k) (rises g.world k)
    together_went k = go (has_link g.world k) refl (is_settled_at_both g.world k) refl (is_full g.world.a || is_full g.world.b)
      where
        go : (known : Bool) → has_link g.world k ≡ known → (settled : Bool) → is_settled_at_both g.world k ≡ settled → (full : Bool)
            → Went' g (Together k) (cond known (cond settled (cond full exhausted (shows CameUp (risen g.world k))) impossible) impossible)
        go true e true f true = tt
        go true e true f false =
            let s = both_settled ma mb one g h (is_settled k g.world.a.state) (is_settled k g.world.b.state) f in
            from_a g _ (Together k) CameUp tt (rises_did ma mb (seen A g) h w k (ltb-true k (link_count g.world.a.state) e) s.0 s.1)
        go true e false f full = tt
        go false e settled f full = tt

    -- EACH STEP
    done_went : (step : Step) → IsSoundStep step → Went' g step (done_by g.world step)
    done_went (Act end event) sound = own_went end event sound (has_own_step event) refl
    done_went (Emit end k) sound = emit_went end k
    done_went (Arrive end k) sound = arrive_went end k
    done_went (Lose end k place) sound = lose_went end k place
    done_went (Together k) sound = together_went k
    done_went (Inject end k unit) sound = absurd sound

  pub step_went : (g : Stage) → Holds ma mb one g → Whole (seen A g) → (step : Step) → IsSoundStep step → Went' g step (carried_out g.world step)
  unfolding carried_out
  step_went g h w step sound = done_went g h w step sound

  lost_nothing : (g : Stage) → Holds ma mb one g → Whole (seen A g) → IsLostNothing g
  lost_nothing g h w = record {
    at_a = loses_nothing ma mb one (seen A g) h w;
    at_b = loses_nothing mb ma (one_back ma mb one) (seen B g) (swap ma mb (seen A g) h) (whole_back (seen A g) w);
  }

  -- ALL ALONG
  onward : (g : Stage) (step : Step) (steps : List Step)
      → ((later : Stage) → Holds ma mb one later → Whole (seen A later) → ChangesOver later steps) → (outcome : Outcome)
      → Goes ma mb one g step outcome → Went' g step outcome
      → OnShows outcome (λ shown new. HoldsAlong IsLostNothing (passed g step shown new) steps)
      × OnShows outcome (λ shown new. IsDiverted g step shown (passed g step shown new) × HoldsAtEach IsDiverted (passed g step shown new) steps)
  onward g step steps next (shows shown new) goes went =
      let rest = next (passed g step shown new) goes.1 went.whole in
      (rest.lost_nothing, (went.is, rest.diverted))
  onward g step steps next impossible goes went = (tt, tt)
  onward g step steps next exhausted goes went = (tt, tt)

  pub along : (g : Stage) → Holds ma mb one g → Whole (seen A g) → (steps : List Step) → AreSteps IsSoundStep steps → ChangesOver g steps
  along g h w [] sound = record { lost_nothing = lost_nothing g h w; diverted = tt }
  along g h w (step ∷ steps) sound =
      let rest = onward g step steps (λ later holds whole. along later holds whole steps sound.1)
      (carried_out g.world step) (step_goes ma mb one g h step (is_honest step sound.0))
      (step_went g h w step sound.0) in
      record { lost_nothing = (lost_nothing g h w, rest.0); diverted = rest.1 }

-- AT FIRST
no_link_up : (n l : ℕ) (p : Profile) (method : Method) → link_is_up (slice_get (replicate n (new_link p method)) l) ≡ false
no_link_up zero l p method = refl
no_link_up (suc n) zero p method = refl
no_link_up (suc n) (suc l) p method = no_link_up n l p method

pub none_counted : (n l : ℕ) (p : Profile) (method : Method) (count : Option LinkState → ℕ) → count None ≡ 0
    → count (Some (new_link p method)) ≡ 0 → count (slice_get (replicate n (new_link p method)) l) ≡ 0
none_counted zero l p method count a b = a
none_counted (suc n) zero p method count a b = b
none_counted (suc n) (suc l) p method count a b = none_counted n l p method count a b

pub nothing_in : (a b : Settings) (m : Message) → In m (view (opened_with a) (opened_with b)) → ⊥
nothing_in a b m (stands_on l among) =
    subst (λ (q : List Row). Among m (messages (q ++ [] ++ [])))
    (drop_none {X = Row} (accepted_on l (opened_with b) - acked_on l (opened_with a))) among
nothing_in a b m (stands_aside among) = among

pub first_orders : {emergencies : Bool} (a b : Settings) → Orders emergencies (view (opened_with a) (opened_with b)) (view (opened_with b) (opened_with a))
first_orders a b = record {
  tells = λ m i order e over. absurd (nothing_in a b m i);
  none_up = λ link up m i about. nothing_in a b m i;
  none_settled = λ link settled m i about. nothing_in a b m i;
  one = λ link m n i j x y. absurd (nothing_in a b m i);
  own = λ link m among about. nothing_in a b m (stands_on link among);
  apart = λ link settled. no_link_up b.links link b.profile b.method;
}

pub first_codes : (config : SetConfig) → AreCodes (settings_of config)
first_codes config = record { management = config.management; dpc = config.dpc_in_range; opc = config.opc_in_range }

first_half : (config other : SetConfig) → Half (opened_with (settings_of config)) (opened_with (settings_of other)) no_past
first_half config other = record {
  equal = λ l e. none_counted config.links l config.profile config.method acked_of refl refl
      ∙ sym (none_counted other.links l other.profile other.method accepted_of refl refl);
  acked = λ l. new_acked_first l (settings_of config);
  none_discarded = refl;
  codes = first_codes config;
}

pub whole_at_first : (a b : SetConfig) → Whole (seen A (begun a b))
whole_at_first a b = record {
  both = record { near = first_orders (settings_of a) (settings_of b); far = first_orders (settings_of b) (settings_of a) };
  near = first_half a b;
  far = first_half b a;
}

pub every_sound_run : (a b : SetConfig) (steps : List Step) → IsSoundRun a b steps → ChangesOver (begun a b) steps
every_sound_run a b steps sound =
    along a.method b.method sound.one_method (begun a b) (at_first a b sound.links sound.profiles) (whole_at_first a b)
    steps sound.steps
