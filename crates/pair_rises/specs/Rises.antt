-- TWO ENDS WHOSE LINKS COME UP ONE AFTER THE OTHER, and what is promised of their streams. A link that is settled at both
-- ends, and comes up at one, begins a life of its own: the other end may join it, or hear first that it's over, or neither.
-- Till it joins, the link is at that end, to all else, one that it left at once and in silence (set_veiled), and once it
-- missed that life, one that counts nothing: the stage is told under that veil.
use Rattle.std.specs.Prelude.{◌≡◌, ℕ, zero, suc, Bool, true, false, ◌==◌, List, [], ◌∷◌, slice_set, Option, Some, None, if◌then◌else◌}
use Rattle.l2_units.specs.declared.profile.Profile.{Profile}
use Rattle.l2_units.specs.declared.unit.Unit.{Unit as SignalUnit}
use Rattle.l2_units.specs.declared.unit.Unit.TheVariants.{Fisu, Msu}
use Rattle.l3_orders.specs.declared.order.Order.{Order}
use Rattle.l3_orders.specs.declared.order.Order.TheVariants.{Coo, Eco}
use Rattle.l3_orders.specs.Grammar.{order_of}
use Rattle.set_events.specs.declared.answer.Answer.TheVariants.{Heard as HeardBack}
use Rattle.set_events.specs.declared.answer.Took.{Took}
use Rattle.set_events.specs.declared.answer.Took.TheVariants.{Order as TookOrder}
use Rattle.set_model.specs.declared.phase.Phase.TheVariants.{Settled}
use Rattle.set_model.specs.Step.{risen_link}
use Rattle.l2_window.specs.Window.{WindowState, fsn_before_first}
use Rattle.set_events.specs.declared.config.Method.{Method}
use Rattle.set_events.specs.declared.config.SetConfig.{SetConfig}
use Rattle.set_events.specs.declared.event.Event.TheVariants.{Up as UpEvent}
use Rattle.set_model.specs.Control.{start_of, head_of, fsn_of, fill}
use Rattle.set_model.specs.History.{LinkSet}
use Rattle.set_model.specs.State.{LinkState, Settings, State, is_settled}
use Rattle.set_veiled.specs.Veil.{dormant}
use Rattle.pair_steps.specs.Lines.{with_units}
use Rattle.pair_steps.specs.declared.step.End.{End}
use Rattle.pair_steps.specs.declared.step.End.TheVariants.{A, B}
use Rattle.pair_steps.specs.declared.step.Shown.{Shown}
use Rattle.pair_steps.specs.declared.step.Shown.TheVariants.{Answered, Up, Lost}
use Rattle.pair_steps.specs.declared.step.Step.{Step}
use Rattle.pair_steps.specs.declared.step.Step.TheVariants.{Arrive, Together}
use Rattle.pair_model.specs.Promises.{IsOneMethod, IsSoundStep, IsQuietStep}
use Rattle.pair_model.specs.Run.{Stage, begun, passed, past_risen, OnShows}
use Rattle.pair_model.specs.World.{World, Outcome, shows, impossible, exhausted, at_end, with_end, other, line_to, joined, after, is_full, done_on, carried_out}
use Rattle.pair_streams.specs.Streams.{StreamsArrive, PartsArrive}
use Rattle.pair_rises.specs.declared.moves.Move.{Move}
use Rattle.pair_rises.specs.declared.moves.Move.TheVariants.{Step as MoveStep, Rise, Fill}

-- WHAT CAN HAPPEN is a Move: a step as in the world of pair_model; a link comes up at one end; or an end that may yet join a
-- life fills the line.

-- A terminal that is ready sends FISUs before its link is up at the set: they are those of an end that sent and accepted
-- nothing yet (Q.703 12.1), and the set isn't asked for them.
abbrev pub first_window : Profile → WindowState
first_window profile = record { profile = profile; last = fsn_before_first profile; unacked = []; unsent = []; room = 0 }

abbrev pub idle_unit : Profile → Method → SignalUnit
idle_unit profile method =
    Fisu (head_of (start_of method) (first_window profile) (fsn_of fill (first_window profile)))

abbrev pub idle_at : World → End → SignalUnit
idle_at w end = let settings = (at_end w end).state.settings in idle_unit settings.profile settings.method

-- it's the first of the two where the link is settled at the other end: then nothing is under way
abbrev pub is_first : World → End → ℕ → Bool
is_first w end link = is_settled link (at_end w (other end)).state

abbrev pub emptied : ℕ → World → World
emptied link w = record w { to_a = with_units link [] w.to_a; to_b = with_units link [] w.to_b }

abbrev pub risen_so : Bool → World → End → ℕ → World
risen_so true w end link = emptied link (with_end w end (after (at_end w end) (UpEvent link)))
risen_so false w end link = with_end w end (after (at_end w end) (UpEvent link))

abbrev pub comes_up : World → End → ℕ → Outcome
comes_up w end link =
    done_on w link (if is_settled link (at_end w end).state
    then (if is_full (at_end w end) then exhausted else shows Up (risen_so (is_first w end link) w end link))
    else impossible)

abbrev pub fills_line : World → End → ℕ → Outcome
fills_line w end link = done_on w link (shows Lost (joined w end link (idle_at w end)))

abbrev pub moved : World → Move → Outcome
moved w (MoveStep step) = carried_out w step
moved w (Rise end link) = comes_up w end link
moved w (Fill end link) = fills_line w end link

-- HOW AN END STANDS to a life of a link: it's in it, or the link has none; it may join yet; or it heard first that the other
-- left it, and missed it
pub data Cover : Type 0 where
  inside : Cover
  awaited : Cover
  missed : Cover

abbrev pub is_covered : Cover → Bool
is_covered inside = false
is_covered awaited = true
is_covered missed = true

-- A STAGE: that of pair_model; and how each end stands to the life of each link
pub record Rising : Type 0 where
  pub stage : Stage
  pub open_a : ℕ → Cover
  pub open_b : ℕ → Cover

abbrev pub all_inside : ℕ → Cover
all_inside link = inside

abbrev pub opening : SetConfig → SetConfig → Rising
opening a b = record { stage = begun a b; open_a = all_inside; open_b = all_inside }

abbrev pub open_at : Rising → End → ℕ → Cover
open_at g A = g.open_a
open_at g B = g.open_b

abbrev pub told_at : ℕ → Cover → (ℕ → Cover) → ℕ → Cover
told_at link is was l = if l == link then is else was l

abbrev pub with_open : End → (ℕ → Cover) → Rising → Rising
with_open A told g = record g { open_a = told }
with_open B told g = record g { open_b = told }

-- a life begins, or an end joins it
abbrev pub began : End → ℕ → Rising → Rising
began end link g =
    with_open end (told_at link inside (open_at g end))
    (with_open (other end) (told_at link awaited (open_at g (other end))) g)

-- An end takes a changeover order about a link that it may yet join: the other left that life, and this end missed it. (An
-- acknowledgement about such a link is ignored, and changes nothing.)
abbrev pub about_of : Option Order → Option ℕ
about_of (Some (Coo link fsn)) = Some link
about_of (Some (Eco link)) = Some link
about_of _ = None

abbrev pub order_about : Profile → SignalUnit → Option ℕ
order_about profile (Msu head body) = about_of (order_of profile body.items)
order_about profile _ = None

abbrev pub is_order : Took → Bool
is_order TookOrder = true
is_order _ = false

abbrev pub takes_order : Shown → Bool
takes_order (Answered (HeardBack report)) = is_order report.took
takes_order _ = false

abbrev pub missed_by : Cover → Cover
missed_by inside = inside
missed_by awaited = missed
missed_by missed = missed

abbrev pub missed_at : Option ℕ → (ℕ → Cover) → ℕ → Cover
missed_at None was l = was l
missed_at (Some link) was l = if l == link then missed_by (was l) else was l

abbrev pub covers_heard : Profile → List SignalUnit → Shown → (ℕ → Cover) → ℕ → Cover
covers_heard profile [] shown was = was
covers_heard profile (unit ∷ line) shown was = missed_at (if takes_order shown then order_about profile unit else None) was

abbrev pub heard_at : Rising → Step → Shown → Rising → Rising
heard_at g (Arrive end link) shown h =
    with_open end (covers_heard (at_end g.stage.world end).state.settings.profile (line_to g.stage.world end link) shown (open_at g end)) h
heard_at g step shown h = h

abbrev pub then_at : World → Rising → Rising
then_at w g = record g { stage = record g.stage { world = w } }

abbrev pub begun_at : ℕ → World → Rising → Rising
begun_at link w g = record g { stage = record { world = w; a = past_risen link g.stage.a; b = past_risen link g.stage.b } }

abbrev pub risen_at : Bool → End → ℕ → World → Rising → Rising
risen_at true end link w g = began end link (begun_at link w g)
risen_at false end link w g = with_open end (told_at link inside (open_at g end)) (then_at w g)

abbrev pub moved_on : Rising → Move → Shown → World → Rising
moved_on g (MoveStep step) shown new = heard_at g step shown (record g { stage = passed g.stage step shown new })
moved_on g (Rise end link) shown new = risen_at (is_first g.stage.world end link) end link new g
moved_on g (Fill end link) shown new = then_at new g

-- UNDER THE VEIL: an awaited link as one that was left at once and in silence; a missed one as settled, answered, and
-- with nothing counted. Neither shows the late orders that the set counts of it: the terminal alone asks for their number.
abbrev pub closed : Settings → LinkState
closed settings = record (risen_link settings.profile settings.method 0) { phase = Settled; answered = true }

abbrev pub cover_of : Settings → Cover → Option LinkState
cover_of settings inside = None
cover_of settings awaited = Some (dormant settings)
cover_of settings missed = Some (closed settings)

abbrev pub laid_on : Option LinkState → ℕ → List LinkState → List LinkState
laid_on None link links = links
laid_on (Some cover) link links = slice_set links link cover

abbrev pub laid : (ℕ → Option LinkState) → ℕ → List LinkState → List LinkState
laid covers zero links = links
laid covers (suc n) links = laid_on (covers n) n (laid covers n links)

abbrev pub lay : (ℕ → Option LinkState) → ℕ → State → State
lay covers n s = record s { links = laid covers n s.links }

abbrev pub seen_under : (ℕ → Cover) → State → State
seen_under told s = lay (λ link. cover_of s.settings (told link)) s.settings.links s

abbrev pub set_under : (ℕ → Cover) → LinkSet → LinkSet
set_under told set = record set { state = seen_under told set.state }

abbrev pub world_under : (ℕ → Cover) → (ℕ → Cover) → World → World
world_under open_a open_b w = record w { a = set_under open_a w.a; b = set_under open_b w.b }

abbrev pub as_seen : Rising → Stage
as_seen g = record g.stage { world = world_under g.open_a g.open_b g.stage.world }

-- WHAT HOLDS ALL ALONG
abbrev pub HoldsAllAlong : (Rising → Type 0) → Rising → List Move → Type 0
HoldsAllAlong P g [] = P g
HoldsAllAlong P g (move ∷ moves) =
    P g × OnShows (moved g.stage.world move) (λ shown new. HoldsAllAlong P (moved_on g move shown new) moves)

-- of each move that was made: the stage before it, what it showed, and the stage after it
abbrev pub HoldsAtEachMove : (Rising → Move → Shown → Rising → Type 0) → Rising → List Move → Type 0
HoldsAtEachMove P g [] = Unit {0}
HoldsAtEachMove P g (move ∷ moves) =
    OnShows (moved g.stage.world move)
    (λ shown new. P g move shown (moved_on g move shown new) × HoldsAtEachMove P (moved_on g move shown new) moves)

-- before each move
abbrev pub HoldsBefore : (Rising → Move → Type 0) → Rising → List Move → Type 0
HoldsBefore P g [] = Unit {0}
HoldsBefore P g (move ∷ moves) =
    P g move × OnShows (moved g.stage.world move) (λ shown new. HoldsBefore P (moved_on g move shown new) moves)

-- the state of an end as it's seen
abbrev pub seen_at : Rising → End → State
seen_at g end = (at_end (as_seen g).world end).state

-- THE RUNS. A life that is on at the other end is joined where it may be yet: no link comes up at an end in a life that this
-- end has left, or missed. Of terminals that's so for one that it left, since the other's has to align anew for that, and
-- starts only once its set has settled the link: then a life begins. One that it missed it heard of, by a late order, for
-- which its terminal is stopped (term_bench). An end fills the line of a link that it may yet join.
abbrev pub MayRise : Bool → Rising → End → ℕ → Type 0
MayRise true g end link = Unit {0}
MayRise false g end link = open_at g end link ≡ awaited

abbrev pub MayMove : Rising → Move → Type 0
MayMove g (MoveStep step) = Unit {0}
MayMove g (Rise end link) = MayRise (is_first g.stage.world end link) g end link
MayMove g (Fill end link) = open_at g end link ≡ awaited

-- without emergencies, or with them
abbrev pub IsPlainStep : Bool → Step → Type 0
IsPlainStep emergencies (Together link) = ⊥
IsPlainStep false step = IsSoundStep step
IsPlainStep true step = IsQuietStep step

abbrev pub IsPlainMove : Bool → Move → Type 0
IsPlainMove emergencies (MoveStep step) = IsPlainStep emergencies step
IsPlainMove emergencies (Rise end link) = Unit {0}
IsPlainMove emergencies (Fill end link) = Unit {0}

abbrev pub AreMoves : (Move → Type 0) → List Move → Type 0
AreMoves P [] = Unit {0}
AreMoves P (move ∷ moves) = P move × AreMoves P moves

pub record IsRun (emergencies : Bool) (a b : SetConfig) (moves : List Move) : Type 0 where
  pub links : a.links ≡ b.links
  pub profiles : a.profile ≡ b.profile
  pub one_method : IsOneMethod a.method b.method
  pub moves_are : AreMoves (IsPlainMove emergencies) moves
  pub may : HoldsBefore MayMove (opening a b) moves

-- LAWS
abbrev pub EveryRisingRunKeepsStreams : Type 0
EveryRisingRunKeepsStreams =
    (a b : SetConfig) (moves : List Move) → IsRun false a b moves
    → HoldsAllAlong (λ g. StreamsArrive (as_seen g)) (opening a b) moves

abbrev pub EveryRisingRunKeepsOrder : Type 0
EveryRisingRunKeepsOrder =
    (a b : SetConfig) (moves : List Move) → IsRun true a b moves
    → HoldsAllAlong (λ g. PartsArrive (as_seen g)) (opening a b) moves

-- TOGETHER is a rise at one end and then at the other: where it's done both are, one after the other, to the same world
-- with the same past
pub record AreTwoRises (g : Rising) (link : ℕ) (new : World) : Type 0 where
  pub between : World
  pub first : moved g.stage.world (Rise A link) ≡ shows Up between
  pub second : moved between (Rise B link) ≡ shows Up new
  pub stage : (moved_on (moved_on g (Rise A link) Up between) (Rise B link) Up new).stage ≡ passed g.stage (Together link) Up new

abbrev pub TogetherIsTwoRises : Type 0
TogetherIsTwoRises =
    (g : Rising) (link : ℕ) (new : World) → carried_out g.stage.world (Together link) ≡ shows Up new → AreTwoRises g link new
