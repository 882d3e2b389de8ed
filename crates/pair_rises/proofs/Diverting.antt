-- EVERY RUN IN WHICH LINKS COME UP ONE AFTER THE OTHER DIVERTS THE REST: what each move does to the sets as they are, by case
-- (`move_says`), and the induction over the moves is that of Runs.antt. A step is one of pair_changeover's runs as it's
-- seen, and what settles so settles so as it is (Unveiled.antt); no link settles by a rise, or by a late order.
use Rattle.std.proofs.Common.{refl, arith, ◌≡◌, ◌∙◌, ap, sym, subst, ℕ, ◌<◌, Bool, true, false, List, ◌∷◌, length, cond}
use Rattle.l2_units.specs.declared.unit.Unit.{Unit as SignalUnit}
use Rattle.set_events.specs.declared.answer.Answer.{Answer}
use Rattle.set_events.specs.declared.answer.Answer.TheVariants.{Accepted, Taken, Found, Sent, Heard as HeardBack, Done, Refused}
use Rattle.set_events.specs.declared.config.Method.{Method}
use Rattle.set_events.specs.declared.event.Event.TheVariants.{Heard as HeardEvent, Up as UpEvent}
use Rattle.set_model.specs.declared.phase.Phase.TheVariants.{Up}
use Rattle.set_model.specs.Sound.{IsSound}
use Rattle.set_model.specs.State.{LinkState, State, is_settled, link_is_settled}
use Rattle.set_model.specs.Step.{step}
use Rattle.set_model.proofs.Walk.{IsAt}
use Rattle.pair_steps.specs.Lines.{units_on}
use Rattle.pair_steps.specs.declared.step.End.{End}
use Rattle.pair_steps.specs.declared.step.End.TheVariants.{A, B}
use Rattle.pair_steps.specs.declared.step.Shown.{Shown}
use Rattle.pair_steps.specs.declared.step.Shown.TheVariants.{Answered, Up as CameUp, Lost}
use Rattle.pair_steps.specs.declared.step.Step.{Step}
use Rattle.pair_steps.specs.declared.step.Step.TheVariants.{Act, Emit, Arrive, Lose, Together, Inject}
use Rattle.pair_model.specs.World.{World, Outcome, shows, impossible, exhausted, at_end, with_end, with_line, answer_to, after, has_link, is_full, joined, carried_out}
use Rattle.pair_model.specs.Promises.{IsOneMethod}
use Rattle.pair_model.specs.Run.{Stage, Past, passed, OnShows}
use Rattle.pair_model.proofs.Controls.{one_back}
use Rattle.pair_model.proofs.Pairs.{swap}
use Rattle.pair_model.proofs.Rising.{settled_at}
use Rattle.pair_model.proofs.Runs.{seen}
use Rattle.pair_changeover.specs.Diverted.{OrdersTell, FrontTells, DivertsTheRest, IsLostNothing}
use Rattle.pair_changeover.proofs.Arriving.{rises_at}
use Rattle.pair_changeover.proofs.Passing.{Rises}
use Rattle.pair_changeover.proofs.Runs.{Went'}
use Rattle.pair_changeover.proofs.Whole.{SettlesSo, none_settles, whole_back, loses_nothing}
use Rattle.pair_streams.specs.Streams.{AckedAreTaken}
use Rattle.pair_streams.proofs.Counting as counting
use Rattle.pair_rises.proofs.Covers.{each}
use Rattle.pair_rises.specs.Diverted.{OrdersTellAt, IsDivertedAt, EveryRisingRunDivertsTheRest, EveryRisingRunTellsNumbers, EveryRisingRunAcksTheTaken}
use Rattle.pair_rises.specs.Rises.{Rising, opening, is_first, risen_so, risen_at, comes_up, fills_line, idle_at, moved, moved_on, as_seen, IsPlainStep, IsPlainMove}
use Rattle.pair_rises.specs.declared.moves.Move.{Move}
use Rattle.pair_rises.specs.declared.moves.Move.TheVariants.{Step as MoveStep, Rise, Fill}
use Rattle.pair_rises.proofs.Arriving.{heard_a, heard_b, Cases, arrives}
use Rattle.pair_rises.proofs.Halves.{whole_of}
use Rattle.pair_rises.proofs.Runs.{Holds, bare, step_diverts, along, each_along, first_holds}
use Rattle.pair_rises.proofs.Sides.{turned, diverts}
use Rattle.pair_rises.proofs.Telling.{told_bare}
use Rattle.pair_rises.proofs.Unveiled.{bare_settles}
use Rattle.pair_rises.proofs.Veils.{seen_length}
use Rattle.pair_rises.proofs.Worlds.{IsBare, IsNoArrival, under, step_went, plain_acts, passed_same, passed_world, none_told}

-- a link that comes up isn't settled, and the others stay
rise_settles : (k : ℕ) (s : State) (near far : Past) → IsSound s → is_settled k s ≡ true → SettlesSo near far s (step s (UpEvent k)).state
rise_settles k s near far sound settled l before now = absurd (let no : false ≡ true = sym before ∙ was l now in cc)
  where
    rise : Rises k s (step s (UpEvent k)).state
    rise = let at = settled_at k s settled in rises_at k s sound at.0 at.1

    was : (l : ℕ) → is_settled l (step s (UpEvent k)).state ≡ true → is_settled l s ≡ true
    was = each k (λ l. is_settled l (step s (UpEvent k)).state ≡ true → is_settled l s ≡ true) (λ e. settled)
        (λ l d e. ap link_is_settled (sym (rise.links l d)) ∙ e)

-- what isn't a unit that is heard tells nothing
no_order : (g : Stage) (step : Step) (shown : Shown) → IsNoArrival step → OrdersTell g step shown
no_order g (Act end event) shown other = tt
no_order g (Emit end k) shown other = tt
no_order g (Arrive end k) shown other = absurd other
no_order g (Lose end k place) shown other = tt
no_order g (Together k) shown other = tt
no_order g (Inject end k unit) shown other = tt

module _ (emergencies : Bool) (ma mb : Method) (one : IsOneMethod ma mb) where
  module _ (g : Rising) (h : Holds emergencies ma mb one g) where
    abbrev w : World
    w = g.stage.world

    abbrev Says : Move → Shown → Rising → Type 0
    Says move shown then = OrdersTellAt g move shown × (emergencies ≡ false → DivertsTheRest g.stage then.stage)

    -- of both ends
    both : (then : Rising) → SettlesSo g.stage.a g.stage.b w.a.state then.stage.world.a.state → SettlesSo g.stage.b g.stage.a w.b.state then.stage.world.b.state
        → DivertsTheRest g.stage then.stage
    both then a b A l before now = a l before now
    both then a b B l before now = b l before now

    still : (near far : Past) (s : State) → SettlesSo near far s s
    still near far s = none_settles near far s s (λ l. refl)

    -- A STEP, but for what arrives
    said_on : (step : Step) (outcome : Outcome) → IsNoArrival step
        → (emergencies ≡ false → Went' ma mb one (as_seen g) step (under g.open_a g.open_b outcome))
        → OnShows outcome (λ shown new. IsBare true g.open_a g.open_b new)
        → OnShows outcome (λ shown new. Says (MoveStep step) shown (moved_on g (MoveStep step) shown new))
    said_on step (shows shown new) other went bare_then = (
      no_order g.stage step shown other,
      (λ e.
          let later = passed g.stage step shown new in
          let is = sym (passed_world g.stage step shown new) in
          let b = subst (λ (x : World). IsBare true g.open_a g.open_b x) is bare_then in
          let seen_so = subst (DivertsTheRest (as_seen g)) (passed_same g step shown new) (went e).is.diverted in
          subst (λ (then : Rising). DivertsTheRest g.stage then.stage) (sym (none_told g step shown new other))
          (both (record g { stage = later })
          (bare_settles g.open_a w.a.state later.world.a.state h.fit_x b.fit_a g.stage.a g.stage.b (λ l before now. seen_so A l before now))
          (bare_settles g.open_b w.b.state later.world.b.state h.fit_y b.fit_b g.stage.b g.stage.a (λ l before now. seen_so B l before now)))),
    )
    said_on step impossible other went bare_then = tt
    said_on step exhausted other went bare_then = tt

    step_said : (step : Step) → IsPlainStep emergencies step → IsNoArrival step
        → OnShows (carried_out w step) (λ shown new. Says (MoveStep step) shown (moved_on g (MoveStep step) shown new))
    step_said step plain other =
        let all = bare emergencies ma mb one g h in
        let went = step_went true g.open_a g.open_b w step all (plain_acts g.open_a g.open_b emergencies w step all plain other) in
        said_on step (carried_out w step) other
        (λ e. subst (Went' ma mb one (as_seen g) step) went.0 (step_diverts emergencies ma mb one g h step plain e)) went.1

    -- A UNIT ARRIVES
    orders_a : (k : ℕ) (unit : SignalUnit) (rest : List SignalUnit) → k < length w.a.state.links → units_on k w.to_a ≡ unit ∷ rest
        → (link : LinkState) → IsAt k link Up w.a.state → (answer : Answer) → answer_to w.a (HeardEvent k unit) ≡ answer
        → OrdersTell g.stage (Arrive A k) (Answered answer)
    orders_a k unit rest few front link at (HeardBack report) is =
        subst (λ (line : List SignalUnit). FrontTells line report.took w.a.state g.stage.b) (sym front)
        (told_bare ma mb one g.open_a w.a.state (seen A (as_seen g)).far g.stage.a g.stage.b w.to_b w.to_a h.fit_x h.links h.streams k few unit rest front link at report is)
    orders_a k unit rest few front link at (Accepted number) is = tt
    orders_a k unit rest few front link at (Taken body) is = tt
    orders_a k unit rest few front link at (Found fate) is = tt
    orders_a k unit rest few front link at (Sent other) is = tt
    orders_a k unit rest few front link at Done is = tt
    orders_a k unit rest few front link at (Refused why) is = tt

    orders_b : (k : ℕ) (unit : SignalUnit) (rest : List SignalUnit) → k < length w.b.state.links → units_on k w.to_b ≡ unit ∷ rest
        → (link : LinkState) → IsAt k link Up w.b.state → (answer : Answer) → answer_to w.b (HeardEvent k unit) ≡ answer
        → OrdersTell g.stage (Arrive B k) (Answered answer)
    orders_b k unit rest few front link at (HeardBack report) is =
        let t = turned h in
        subst (λ (line : List SignalUnit). FrontTells line report.took w.b.state g.stage.a) (sym front)
        (told_bare mb ma (one_back ma mb one) g.open_b w.b.state (seen B (as_seen g)).far g.stage.b g.stage.a w.to_a w.to_b t.fit_x t.links t.streams k few unit rest front link at report is)
    orders_b k unit rest few front link at (Accepted number) is = tt
    orders_b k unit rest few front link at (Taken body) is = tt
    orders_b k unit rest few front link at (Found fate) is = tt
    orders_b k unit rest few front link at (Sent other) is = tt
    orders_b k unit rest few front link at Done is = tt
    orders_b k unit rest few front link at (Refused why) is = tt

    abbrev SaysArrived : End → ℕ → Shown → Rising → Type 0
    SaysArrived end k shown then = Says (MoveStep (Arrive end k)) shown then

    cases : Cases g SaysArrived
    cases = record {
      hears_a = λ k unit rest few front link at. (
        orders_a k unit rest few front link at (answer_to w.a (HeardEvent k unit)) refl,
        (λ e. both (heard_a g k (unit ∷ rest) (Answered (answer_to w.a (HeardEvent k unit))) (with_end (with_line w A k rest) A (after w.a (HeardEvent k unit))))
            (diverts h k few unit rest front one link at e) (still g.stage.b g.stage.a w.b.state)),
      );
      loses_a = λ k unit rest few front. (tt, λ e. both (heard_a g k (unit ∷ rest) Lost (with_line w A k rest)) (still g.stage.a g.stage.b w.a.state) (still g.stage.b g.stage.a w.b.state));
      hears_b = λ k unit rest few front link at. (
        orders_b k unit rest few front link at (answer_to w.b (HeardEvent k unit)) refl,
        (λ e. both (heard_b g k (unit ∷ rest) (Answered (answer_to w.b (HeardEvent k unit))) (with_end (with_line w B k rest) B (after w.b (HeardEvent k unit))))
            (still g.stage.a g.stage.b w.a.state) (diverts (turned h) k few unit rest front (one_back ma mb one) link at e)),
      );
      loses_b = λ k unit rest few front. (tt, λ e. both (heard_b g k (unit ∷ rest) Lost (with_line w B k rest)) (still g.stage.a g.stage.b w.a.state) (still g.stage.b g.stage.a w.b.state));
    }

    same_links : length w.b.state.links ≡ length w.a.state.links
    same_links = omega (arith, h.links.far_links, seen_length g.open_a w.a.state, seen_length g.open_b w.b.state)

    each_said : (step : Step) → IsPlainStep emergencies step → OnShows (carried_out w step) (λ shown new. Says (MoveStep step) shown (moved_on g (MoveStep step) shown new))
    each_said (Act end event) plain = step_said (Act end event) plain tt
    each_said (Emit end k) plain = step_said (Emit end k) plain tt
    each_said (Arrive end k) plain = arrives g SaysArrived same_links cases end k
    each_said (Lose end k place) plain = step_said (Lose end k place) plain tt
    each_said (Together k) plain = absurd plain
    each_said (Inject end k unit) plain = step_said (Inject end k unit) plain tt

    -- A RISE
    rises_said : (end : End) (k : ℕ) → OnShows (comes_up w end k) (λ shown new. Says (Rise end k) shown (moved_on g (Rise end k) shown new))
    rises_said end k = go (has_link w k) (is_settled k (at_end w end).state) refl (is_full (at_end w end))
      where
        risen : (end : End) (first : Bool) → is_settled k (at_end w end).state ≡ true → DivertsTheRest g.stage (risen_at first end k (risen_so first w end k) g).stage
        risen A true settled = both (risen_at true A k (risen_so true w A k) g) (rise_settles k w.a.state g.stage.a g.stage.b h.sound_x settled) (still g.stage.b g.stage.a w.b.state)
        risen A false settled = both (risen_at false A k (risen_so false w A k) g) (rise_settles k w.a.state g.stage.a g.stage.b h.sound_x settled) (still g.stage.b g.stage.a w.b.state)
        risen B true settled = both (risen_at true B k (risen_so true w B k) g) (still g.stage.a g.stage.b w.a.state) (rise_settles k w.b.state g.stage.b g.stage.a h.sound_y settled)
        risen B false settled = both (risen_at false B k (risen_so false w B k) g) (still g.stage.a g.stage.b w.a.state) (rise_settles k w.b.state g.stage.b g.stage.a h.sound_y settled)

        go : (known : Bool) (settled : Bool) → is_settled k (at_end w end).state ≡ settled → (full : Bool)
            → OnShows (cond known (cond settled (cond full exhausted (shows CameUp (risen_so (is_first w end k) w end k))) impossible) impossible)
            (λ shown new. Says (Rise end k) shown (moved_on g (Rise end k) shown new))
        go true true f true = tt
        go true true f false = (tt, λ e. risen end (is_first w end k) f)
        go true false f full = tt
        go false settled f full = tt

    -- A FILL
    fills_said : (end : End) (k : ℕ) → OnShows (fills_line w end k) (λ shown new. Says (Fill end k) shown (moved_on g (Fill end k) shown new))
    fills_said end k = go (has_link w k)
      where
        filled : (end : End) → DivertsTheRest g.stage (moved_on g (Fill end k) Lost (joined w end k (idle_at w end))).stage
        filled A = both (moved_on g (Fill A k) Lost (joined w A k (idle_at w A))) (still g.stage.a g.stage.b w.a.state) (still g.stage.b g.stage.a w.b.state)
        filled B = both (moved_on g (Fill B k) Lost (joined w B k (idle_at w B))) (still g.stage.a g.stage.b w.a.state) (still g.stage.b g.stage.a w.b.state)

        go : (known : Bool) → OnShows (cond known (shows Lost (joined w end k (idle_at w end))) impossible) (λ shown new. Says (Fill end k) shown (moved_on g (Fill end k) shown new))
        go true = (tt, λ e. filled end)
        go false = tt

    move_says : (move : Move) → IsPlainMove emergencies move → OnShows (moved w move) (λ shown new. Says move shown (moved_on g move shown new))
    move_says (MoveStep step) plain = each_said step plain
    move_says (Rise end k) plain = rises_said end k
    move_says (Fill end k) plain = fills_said end k

  -- what it says of a stage
  lost_nothing : emergencies ≡ false → (g : Rising) → Holds emergencies ma mb one g → IsLostNothing (as_seen g)
  lost_nothing e g h =
      let w = whole_of (seen A (as_seen g)) e h.streams (h.halves e) in
      record {
        at_a = loses_nothing ma mb one (seen A (as_seen g)) h.links w;
        at_b = loses_nothing mb ma (one_back ma mb one) (seen B (as_seen g)) (swap ma mb (seen A (as_seen g)) h.links) (whole_back (seen A (as_seen g)) w);
      }

on_each : {P Q : Shown → World → Type 0} (outcome : Outcome) → ((shown : Shown) (new : World) → P shown new → Q shown new) → OnShows outcome P → OnShows outcome Q
on_each (shows shown new) f p = f shown new p
on_each impossible f p = tt
on_each exhausted f p = tt

pub every_rising_run_diverts : EveryRisingRunDivertsTheRest
every_rising_run_diverts a b moves run = record {
  lost_nothing = along false a.method b.method run.one_method (λ g. IsLostNothing (as_seen g)) (lost_nothing false a.method b.method run.one_method refl)
      moves (opening a b) first run.moves_are run.may;
  diverted = each_along false a.method b.method run.one_method IsDivertedAt
      (λ g h move plain. on_each (moved g.stage.world move) (λ shown new said. record { told = said.0; diverted = said.1 refl })
      (move_says false a.method b.method run.one_method g h move plain))
      moves (opening a b) first run.moves_are run.may;
}
  where
    first : Holds false a.method b.method run.one_method (opening a b)
    first = first_holds false a b run.one_method run.links run.profiles

pub every_rising_run_tells : EveryRisingRunTellsNumbers
every_rising_run_tells em a b moves run =
    each_along em a.method b.method run.one_method (λ before move shown after. OrdersTellAt before move shown)
    (λ g h move plain. on_each (moved g.stage.world move) (λ shown new said. said.0) (move_says em a.method b.method run.one_method g h move plain))
    moves (opening a b) (first_holds em a b run.one_method run.links run.profiles) run.moves_are run.may

pub every_rising_run_acks : EveryRisingRunAcksTheTaken
every_rising_run_acks em a b moves run =
    along em a.method b.method run.one_method (λ g. AckedAreTaken (as_seen g))
    (λ g h. counting.says a.method b.method run.one_method (as_seen g) h.links h.counts)
    moves (opening a b) (first_holds em a b run.one_method run.links run.profiles) run.moves_are run.may
