-- WHAT USERS TAKE, ALL ALONG A RUN in which links come up one after the other: users take what is got (`TakeAll`), by
-- induction on the moves (`take_along`). A step is that of pair_streams's runs, and where a link comes up, or an end fills a
-- line, nothing is delivered. What was taken on a link is the first of what was sent there (Kept.antt), and Runs.antt
-- says what is got: so each law of users is read off (`all_both`).
use Rattle.std.proofs.Common.{refl, ◌≡◌, ◌∙◌, ap, sym, subst, ℕ, Bool, true, false, List, [], ◌∷◌, cond}
use Rattle.set_events.specs.declared.config.SetConfig.{SetConfig}
use Rattle.set_events.specs.declared.event.Event.TheVariants.{Up as UpEvent}
use Rattle.set_model.specs.State.{is_settled}
use Rattle.pair_steps.specs.declared.step.End.{End}
use Rattle.pair_steps.specs.declared.step.End.TheVariants.{A, B}
use Rattle.pair_steps.specs.declared.step.Shown.{Shown}
use Rattle.pair_steps.specs.declared.step.Shown.TheVariants.{Up as CameUp, Lost}
use Rattle.pair_steps.specs.declared.step.Step.{Step}
use Rattle.pair_steps.specs.declared.step.Step.TheVariants.{Act, Emit, Arrive, Lose, Together, Inject}
use Rattle.pair_model.specs.World.{World, Outcome, shows, impossible, exhausted, at_end, answer_to, is_full, has_link, joined, carried_out}
use Rattle.pair_model.specs.Promises.{IsHonestStep, LinksKeep}
use Rattle.pair_model.specs.Run.{Stage, bodies, past_risen, passed, OnShows}
use Rattle.pair_streams.specs.Arrived.{IsIdle, AllGot, AllHanded, AllToldOf}
use Rattle.pair_streams.specs.Handed.{UsersTakeAll, UsersTakeFirst, UsersTakePart}
use Rattle.pair_streams.specs.Streams.{StreamsArrive, PartsArrive}
use Rattle.pair_streams.proofs.Arrived.{all_got, all_told_of}
use Rattle.pair_streams.proofs.Handing.{TakeAll, Prefixes, prefixes, keeps, up_delivers, step_goes, users_take, first_take, take_first, take_part}
use Rattle.pair_rises.specs.Handed.{HandsOutWhereIdle, AccountsWhereIdle, HoldsAtLast, AllHandedByMoves, AllAccountedByMoves, EveryHonestRisingRunHandsOutAll, EveryRisingRunHandsOutInOrder, EveryRisingRunHandsOutAPart, EveryIdleRisingRunHandsOutAll, EveryIdleRisingRunAccountsForAll}
use Rattle.pair_rises.specs.Kept.{IsHonestMove, IsHonestRunOfMoves}
use Rattle.pair_rises.specs.Rises.{Rising, IsRun, opening, is_first, risen_so, risen_at, comes_up, fills_line, moved, moved_on, as_seen, idle_at, AreMoves, HoldsAllAlong}
use Rattle.pair_rises.specs.declared.moves.Move.{Move}
use Rattle.pair_rises.specs.declared.moves.Move.TheVariants.{Step as MoveStep, Rise, Fill}
use Rattle.pair_rises.proofs.Kept.{every_honest_run, run_honest}
use Rattle.pair_rises.proofs.Runs.{every_rising_run, every_rising_run_in_part}

-- the stage that a step leads to
stage_is : (g : Rising) (step : Step) (shown : Shown) (new : World) → (moved_on g (MoveStep step) shown new).stage ≡ passed g.stage step shown new
stage_is g (Act end event) shown new = refl
stage_is g (Emit end k) shown new = refl
stage_is g (Arrive A k) shown new = refl
stage_is g (Arrive B k) shown new = refl
stage_is g (Lose end k place) shown new = refl
stage_is g (Together k) shown new = refl
stage_is g (Inject end k unit) shown new = refl

-- EACH MOVE, where what was taken on a link is the first of what was sent there
module _ (g : Rising) (t : TakeAll g.stage) where
  abbrev w : World
  w = g.stage.world

  abbrev Goes : Move → Outcome → Type 0
  Goes move outcome = OnShows outcome (λ shown new. Prefixes (moved_on g move shown new).stage → TakeAll (moved_on g move shown new).stage)

  honest_step : (step : Step) → IsHonestMove (MoveStep step) → IsHonestStep step
  honest_step (Act end event) honest = honest
  honest_step (Emit end k) honest = honest
  honest_step (Arrive end k) honest = honest
  honest_step (Lose end k place) honest = honest
  honest_step (Together k) honest = absurd honest
  honest_step (Inject end k unit) honest = honest

  stepped : (step : Step) (outcome : Outcome) → OnShows outcome (λ shown new. Prefixes (passed g.stage step shown new) → TakeAll (passed g.stage step shown new))
      → Goes (MoveStep step) outcome
  stepped step (shows shown new) goes = subst (λ (s : Stage). Prefixes s → TakeAll s) (sym (stage_is g step shown new)) goes
  stepped step impossible goes = tt
  stepped step exhausted goes = tt

  rises_goes : (end : End) (k : ℕ) → Goes (Rise end k) (comes_up w end k)
  rises_goes end k = go (has_link w k) (is_settled k (at_end w end).state) (is_full (at_end w end))
    where
      risen : (end : End) (first : Bool) → TakeAll (risen_at first end k (risen_so first w end k) g).stage
      risen A true = (keeps g.stage.a (past_risen k g.stage.a) w.a (UpEvent k) (λ stream. refl) (up_delivers (answer_to w.a (UpEvent k)) k) t.0, t.1)
      risen A false = (keeps g.stage.a g.stage.a w.a (UpEvent k) (λ stream. refl) (up_delivers (answer_to w.a (UpEvent k)) k) t.0, t.1)
      risen B true = (t.0, keeps g.stage.b (past_risen k g.stage.b) w.b (UpEvent k) (λ stream. refl) (up_delivers (answer_to w.b (UpEvent k)) k) t.1)
      risen B false = (t.0, keeps g.stage.b g.stage.b w.b (UpEvent k) (λ stream. refl) (up_delivers (answer_to w.b (UpEvent k)) k) t.1)

      go : (known settled full : Bool)
          → Goes (Rise end k) (cond known (cond settled (cond full exhausted (shows CameUp (risen_so (is_first w end k) w end k))) impossible) impossible)
      go true true true = tt
      go true true false = λ first. risen end (is_first w end k)
      go true false full = tt
      go false settled full = tt

  fills_goes : (end : End) (k : ℕ) → Goes (Fill end k) (fills_line w end k)
  fills_goes end k = go (has_link w k)
    where
      filled : (end : End) → Goes (Fill end k) (shows Lost (joined w end k (idle_at w end)))
      filled A = λ first. t
      filled B = λ first. t

      go : (known : Bool) → Goes (Fill end k) (cond known (shows Lost (joined w end k (idle_at w end))) impossible)
      go true = filled end
      go false = tt

  move_goes : (move : Move) → IsHonestMove move → Goes move (moved w move)
  move_goes (MoveStep step) honest = stepped step (carried_out w step) (step_goes g.stage t step (honest_step step honest))
  move_goes (Rise end k) honest = rises_goes end k
  move_goes (Fill end k) honest = fills_goes end k

-- ALL ALONG
abbrev Keeps : Rising → Type 0
Keeps g = LinksKeep (as_seen g)

abbrev Take : Rising → Type 0
Take g = TakeAll g.stage

at_once : (g : Rising) (moves : List Move) → HoldsAllAlong Keeps g moves → Keeps g
at_once g [] along = along
at_once g (move ∷ moves) along = along.0

onward : (g : Rising) (move : Move) (moves : List Move) (outcome : Outcome)
    → ((later : Rising) → Take later → HoldsAllAlong Keeps later moves → HoldsAllAlong Take later moves)
    → OnShows outcome (λ shown new. Prefixes (moved_on g move shown new).stage → Take (moved_on g move shown new))
    → OnShows outcome (λ shown new. HoldsAllAlong Keeps (moved_on g move shown new) moves)
    → OnShows outcome (λ shown new. HoldsAllAlong Take (moved_on g move shown new) moves)
onward g move moves (shows shown new) next goes kept =
    let later = moved_on g move shown new in
    next later (goes (prefixes (as_seen later) (at_once later moves kept))) kept
onward g move moves impossible next goes kept = tt
onward g move moves exhausted next goes kept = tt

along : (moves : List Move) (g : Rising) → Take g → AreMoves IsHonestMove moves → HoldsAllAlong Keeps g moves → HoldsAllAlong Take g moves
along [] g t honest kept = t
along (move ∷ moves) g t honest kept = (
  t,
  onward g move moves (moved g.stage.world move) (λ later takes rest. along moves later takes honest.1 rest) (move_goes g t move honest.0) kept.1,
)

take_along : (a b : SetConfig) (moves : List Move) → IsHonestRunOfMoves a b moves → HoldsAllAlong Take (opening a b) moves
take_along a b moves run = along moves (opening a b) (first_take a b) run.moves_are (every_honest_run a b moves run).links

-- what follows of two that hold all along
module _ (P Q R : Rising → Type 0) (says : (g : Rising) → P g → Q g → R g) where
  both_onward : (g : Rising) (move : Move) (moves : List Move) (outcome : Outcome)
      → ((later : Rising) → HoldsAllAlong P later moves → HoldsAllAlong Q later moves → HoldsAllAlong R later moves)
      → OnShows outcome (λ shown new. HoldsAllAlong P (moved_on g move shown new) moves) → OnShows outcome (λ shown new. HoldsAllAlong Q (moved_on g move shown new) moves)
      → OnShows outcome (λ shown new. HoldsAllAlong R (moved_on g move shown new) moves)
  both_onward g move moves (shows shown new) next p q = next (moved_on g move shown new) p q
  both_onward g move moves impossible next p q = tt
  both_onward g move moves exhausted next p q = tt

  all_both : (moves : List Move) (g : Rising) → HoldsAllAlong P g moves → HoldsAllAlong Q g moves → HoldsAllAlong R g moves
  all_both [] g p q = says g p q
  all_both (move ∷ moves) g p q = (says g p.0 q.0, both_onward g move moves (moved g.stage.world move) (λ later ps qs. all_both moves later ps qs) p.1 q.1)

pub hands_out_all : EveryHonestRisingRunHandsOutAll
hands_out_all a b moves run =
    all_both Take Take (λ g. UsersTakeAll g.stage) (λ g t same. users_take g.stage t) moves (opening a b) (take_along a b moves run) (take_along a b moves run)

-- what is said of a stage of a run without emergencies, or with them
module _ (Say : Rising → Type 0) where
  sound_says : ((g : Rising) → UsersTakeAll (as_seen g) → StreamsArrive (as_seen g) → Say g)
      → (a b : SetConfig) (moves : List Move) → IsRun false a b moves → HoldsAllAlong Say (opening a b) moves
  sound_says says a b moves run = all_both Take (λ g. StreamsArrive (as_seen g)) Say (λ g t arrive. says g (users_take g.stage t) arrive) moves (opening a b)
      (take_along a b moves (run_honest false a b moves run)) (every_rising_run a b moves run)

  quiet_says : ((g : Rising) → UsersTakeAll (as_seen g) → PartsArrive (as_seen g) → Say g)
      → (a b : SetConfig) (moves : List Move) → IsRun true a b moves → HoldsAllAlong Say (opening a b) moves
  quiet_says says a b moves run = all_both Take (λ g. PartsArrive (as_seen g)) Say (λ g t arrive. says g (users_take g.stage t) arrive) moves (opening a b)
      (take_along a b moves (run_honest true a b moves run)) (every_rising_run_in_part a b moves run)

pub hands_out : EveryRisingRunHandsOutInOrder
hands_out = sound_says (λ g. UsersTakeFirst g.stage) (λ g all arrive. take_first (as_seen g) all arrive)

pub hands_out_a_part : EveryRisingRunHandsOutAPart
hands_out_a_part = quiet_says (λ g. UsersTakePart g.stage) (λ g all arrive. take_part (as_seen g) all arrive)

-- WHERE NOTHING IS LEFT: what an end counts of its users' messages isn't told by its links, so it's the same as it's seen
as_idle : (g : Rising) → IsIdle g.stage.world → IsIdle (as_seen g).world
as_idle g idle = record { at_a = idle.at_a; at_b = idle.at_b }

idle_handed : (g : Rising) → UsersTakeAll (as_seen g) → StreamsArrive (as_seen g) → HandsOutWhereIdle g
idle_handed g all arrive idle =
    let got : AllGot g.stage = all_got (as_seen g) (as_idle g idle) arrive in
    (got, λ stream low. ((all stream).0 ∙ ap bodies (got stream low).1, (all stream).1 ∙ ap bodies (got stream low).0))

idle_told : (g : Rising) → UsersTakeAll (as_seen g) → PartsArrive (as_seen g) → AccountsWhereIdle g
idle_told g all arrive idle = let told = all_told_of (as_seen g) (as_idle g idle) arrive in (told.0, told.1)

pub idle_hands_out : EveryIdleRisingRunHandsOutAll
idle_hands_out = sound_says HandsOutWhereIdle idle_handed

pub idle_accounts : EveryIdleRisingRunAccountsForAll
idle_accounts = quiet_says AccountsWhereIdle idle_told

-- where a run ends in this world, what holds all along it does
module _ (Say : Stage → Type 0) (w : World) (idle : IsIdle w) where
  abbrev Along : Rising → Type 0
  Along g = IsIdle g.stage.world → Say g.stage

  abbrev AtLast : Rising → Type 0
  AtLast g = g.stage.world ≡ w → Say g.stage

  last_on : (outcome : Outcome) (move : Move) (g : Rising) (moves : List Move)
      → ((later : Rising) → HoldsAllAlong Along later moves → HoldsAtLast AtLast later moves)
      → OnShows outcome (λ shown new. HoldsAllAlong Along (moved_on g move shown new) moves)
      → OnShows outcome (λ shown new. HoldsAtLast AtLast (moved_on g move shown new) moves)
  last_on (shows shown new) move g moves next all = next (moved_on g move shown new) all
  last_on impossible move g moves next all = tt
  last_on exhausted move g moves next all = tt

  at_last : (g : Rising) (moves : List Move) → HoldsAllAlong Along g moves → HoldsAtLast AtLast g moves
  at_last g [] all = λ same. all (subst IsIdle (sym same) idle)
  at_last g (move ∷ moves) all = last_on (moved g.stage.world move) move g moves (λ later rest. at_last later moves rest) all.1

pub all_handed_by_moves : (w : World) → IsIdle w → AllHandedByMoves w
all_handed_by_moves w idle a b moves run = at_last (λ g. AllGot g × AllHanded g) w idle (opening a b) moves (idle_hands_out a b moves run)

pub all_accounted_by_moves : (w : World) → IsIdle w → AllAccountedByMoves w
all_accounted_by_moves w idle a b moves run = at_last AllToldOf w idle (opening a b) moves (idle_accounts a b moves run)
