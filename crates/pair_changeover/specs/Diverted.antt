-- WHAT A CHANGEOVER DIVERTS between two ends, in every sound run (Q.704 5). Here n of a link is how many bodies the far
-- end accepted on it in its present life, or its last one.
use Rattle.l2_window.specs.Window.{fsn_count, fsn_before_first}
use Rattle.std.specs.Prelude.{◌≡◌, ◌≤◌, ℕ, true, false, not, ◌+◌, ◌%◌, List, [], ◌∷◌, ◌++◌, All, length, take, drop, slice_get, Option, Some, None, if◌then◌else◌}
use Rattle.l2_units.specs.declared.unit.Unit.{Unit as SignalUnit}
use Rattle.l3_orders.specs.declared.order.Order.{Order}
use Rattle.l3_orders.specs.declared.order.Order.TheVariants.{Coo, Coa}
use Rattle.l3_orders.specs.Grammar.{text, order_of, link_of}
use Rattle.set_events.specs.declared.answer.Answer.TheVariants.{Heard}
use Rattle.set_events.specs.declared.answer.Fate.TheVariants.{Acked}
use Rattle.set_events.specs.declared.answer.Took.{Took}
use Rattle.set_events.specs.declared.answer.Took.TheVariants.{Order as TookOrder}
use Rattle.set_events.specs.declared.config.SetConfig.{SetConfig}
use Rattle.set_model.specs.Rows.{Row, wait, held, parked, place, standing, was_discarded}
use Rattle.set_model.specs.State.{given, LinkState, State, has_phase_up, has_phase_settled, is_settled, last_accepted, target}
use Rattle.set_model.specs.Changeover.{is_reasonable, left_by}
use Rattle.pair_steps.specs.declared.step.End.{End}
use Rattle.pair_steps.specs.declared.step.Step.{Step}
use Rattle.pair_steps.specs.declared.step.Step.TheVariants.{Arrive}
use Rattle.pair_steps.specs.declared.step.Shown.{Shown}
use Rattle.pair_steps.specs.declared.step.Shown.TheVariants.{Answered}
use Rattle.pair_model.specs.Promises.{IsSoundRun}
use Rattle.pair_model.specs.Run.{Message, Past, Stage, messages, body_in, begun, past_at, HoldsAlong, HoldsAtEach}
use Rattle.pair_model.specs.World.{at_end, other, line_to}

-- ALL ALONG, at an end.

-- of each link, settled or not, at most n messages count as acknowledged; and nothing is discarded
pub record LosesNothing (s : State) (far : Past) : Type 0 where
  pub acked : (link : ℕ) (state : LinkState) → slice_get s.links link ≡ Some state
      → state.acked ≤ length (far.taken link)
  pub none_discarded : standing was_discarded s.rows ≡ []

-- AN ORDER IS HEARD, about a link that hasn't settled: its number is that of the last message that its end accepted, so
-- it's reasonable.
abbrev pub IsFsnIn : ℕ → Order → Type 0
IsFsnIn fsn (Coo link number) = fsn ≡ number
IsFsnIn fsn (Coa link number) = fsn ≡ number
IsFsnIn fsn _ = ⊥

pub record TellsTheLast (fsn link : ℕ) (state : LinkState) (rows : List Row) (taken : List (List ℕ)) : Type 0 where
  pub last : fsn ≡ (length taken + fsn_before_first state.profile) % fsn_count state.profile
  pub reasonable : is_reasonable fsn link state rows ≡ true

abbrev pub IsToldBy : SignalUnit → State → Past → Type 0
IsToldBy unit s far =
    (order : Order) (fsn : ℕ) (state : LinkState) → order_of s.settings.profile (body_in unit) ≡ Some order → IsFsnIn fsn order
    → slice_get s.links (link_of order) ≡ Some state → has_phase_settled state.phase ≡ false
    → TellsTheLast fsn (link_of order) state s.rows (far.taken (link_of order))

abbrev pub FrontTells : List SignalUnit → Took → State → Past → Type 0
FrontTells [] took s far = Unit {0}
FrontTells (unit ∷ line) TookOrder s far = IsToldBy unit s far
FrontTells (unit ∷ line) _ s far = Unit {0}

abbrev pub OrdersTell : Stage → Step → Shown → Type 0
OrdersTell g (Arrive end link) (Answered (Heard report)) =
    FrontTells (line_to g.world end link) report.took (at_end g.world end).state (past_at g (other end))
OrdersTell g _ _ = Unit {0}

-- A LINK SETTLES at an end.

-- the messages that wait for the target, or are parked where there is none
abbrev pub queue_for : Option ℕ → List Row → List Row
queue_for (Some to) rows = wait to rows
queue_for None rows = parked rows

-- one that learns of the failure by an order leaves the link first; what was on its way back to it stands again where it
-- came from
abbrev pub as_left : ℕ → Option LinkState → State → State
as_left link None s = s
as_left link (Some state) s = if has_phase_up state.phase then left_by false link state s else s

-- and acknowledges the order, with the FSN last accepted (Q.704 5.4.2)
abbrev pub answer_on : ℕ → Option LinkState → State → List Message
answer_on link None s = []
answer_on link (Some state) s =
    if has_phase_up state.phase
    then record {
      number = given s;
      body = text s.settings.profile (Coa link (last_accepted state)) s.settings.sio s.settings.dpc s.settings.opc;
      users = false;
    } ∷ []
    else []

-- which stands before the first users' message of those that wait, or behind them if there is none
abbrev pub ahead_of_users : List Message → List Message → List Message
ahead_of_users orders [] = orders
ahead_of_users orders (message ∷ others) =
    if message.users then orders ++ message ∷ others else message ∷ ahead_of_users orders others

-- the first n of the messages that were sent on the link in that life are acknowledged; and exactly the others of them,
-- then those that wait for the link, then those that are held for it as it's left, stand in this order behind what waited
-- for the target, that acknowledgement among it
pub record DivertsFrom (link : ℕ) (sent : List Message) (taken : List (List ℕ)) (old left new : State) : Type 0 where
  pub acked : All (λ message. place message.number new.rows ≡ Some (Acked link)) (take (length taken) sent)
  pub moved : messages (queue_for (target new.links) new.rows)
      ≡ ahead_of_users (answer_on link (slice_get old.links link) old) (messages (queue_for (target new.links) left.rows))
      ++ drop (length taken) sent ++ messages (wait link left.rows) ++ messages (held link left.rows)

abbrev pub Diverts : ℕ → List Message → List (List ℕ) → State → State → Type 0
Diverts link sent taken old new = DivertsFrom link sent taken old (as_left link (slice_get old.links link) old) new

abbrev pub DivertsTheRest : Stage → Stage → Type 0
DivertsTheRest before after =
    (end : End) (link : ℕ)
    → is_settled link (at_end before.world end).state ≡ false → is_settled link (at_end after.world end).state ≡ true
    → Diverts link ((past_at before end).sent link) ((past_at before (other end)).taken link)
    (at_end before.world end).state (at_end after.world end).state

-- PROMISED, whatever the lines lose, for any number of links, whichever end leaves a link first or both do, and with
-- changeback under way
pub record IsLostNothing (g : Stage) : Type 0 where
  pub at_a : LosesNothing g.world.a.state g.b
  pub at_b : LosesNothing g.world.b.state g.a

pub record IsDiverted (before : Stage) (step : Step) (shown : Shown) (after : Stage) : Type 0 where
  pub told : OrdersTell before step shown
  pub diverted : DivertsTheRest before after

pub record ChangesOver (g : Stage) (steps : List Step) : Type 0 where
  pub lost_nothing : HoldsAlong IsLostNothing g steps
  pub diverted : HoldsAtEach IsDiverted g steps

-- LAW
abbrev pub EverySoundRunDivertsTheRest : Type 0
EverySoundRunDivertsTheRest =
    (a b : SetConfig) (steps : List Step) → IsSoundRun a b steps
    → ChangesOver (begun a b) steps
