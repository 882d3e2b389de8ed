-- THE WORLD: two ends and the units under way between them on their links.
use Rattle.std.specs.Prelude.{◌≡◌, ℕ, Bool, true, false, ◌^◌, ◌&&◌, ◌||◌, nat_lt, nat_le, List, [], ◌∷◌, ◌++◌, length, if◌then◌else◌}
use Rattle.l2_units.specs.declared.unit.Unit.{Unit as SignalUnit}
use Rattle.pair_steps.specs.Lines.{no_units, units_on, with_units, joined_on, without}
use Rattle.set_events.specs.declared.event.Actor.{Actor}
use Rattle.set_events.specs.declared.event.Actor.TheVariants.{User, Terminal}
use Rattle.set_events.specs.declared.event.Event.{Event}
use Rattle.set_events.specs.declared.event.Event.TheVariants.{Offer, Take, Find, Next, Heard as HeardEvent, Up as UpEvent, Down, DownBlind, NoAnswer, Timed, Restore, Redeclare, BackTimeout, Test}
use Rattle.set_events.specs.declared.answer.Answer.{Answer}
use Rattle.set_events.specs.declared.answer.Counts.{Counts}
use Rattle.set_events.specs.declared.answer.Answer.TheVariants.{Accepted, Taken, Found, Sent, Heard, Done, Refused}
use Rattle.set_model.specs.State.{link_count, is_up, is_settled}
use Rattle.set_model.specs.Checkpoint.{counts_in}
use Rattle.set_model.specs.History.{LinkSet, entries_in}
use Rattle.set_model.specs.Step.{step}
use Rattle.pair_steps.specs.declared.step.End.{End}
use Rattle.pair_steps.specs.declared.step.End.TheVariants.{A, B}
use Rattle.pair_steps.specs.declared.step.Step.{Step}
use Rattle.pair_steps.specs.declared.step.Step.TheVariants.{Act, Emit, Arrive, Lose, Together, Inject}
use Rattle.pair_steps.specs.declared.step.Shown.{Shown}
use Rattle.pair_steps.specs.declared.step.Shown.TheVariants.{Answered, Up, Lost}

-- both ends, and the units under way to each: a line for each link
pub record World : Type 0 where
  pub a : LinkSet
  pub b : LinkSet
  pub to_a : List (List SignalUnit)
  pub to_b : List (List SignalUnit)

-- these two sets, and nothing under way
abbrev pub world_of : LinkSet → LinkSet → World
world_of a b = record { a = a; b = b; to_a = no_units (link_count a.state); to_b = no_units (link_count a.state) }

-- what holds of every world: both ends have the same links, and there is a line for each to each end
pub record IsPaired (w : World) : Type 0 where
  pub links_b : link_count w.b.state ≡ link_count w.a.state
  pub lines_a : length w.to_a ≡ link_count w.a.state
  pub lines_b : length w.to_b ≡ link_count w.a.state

abbrev pub other : End → End
other A = B
other B = A

abbrev pub at_end : World → End → LinkSet
at_end w A = w.a
at_end w B = w.b

-- how the messages of an end stand
abbrev pub counts_at : World → End → Counts
counts_at w end = counts_in (at_end w end).state

abbrev pub with_end : World → End → LinkSet → World
with_end w A set = record w { a = set }
with_end w B set = record w { b = set }

-- the units under way to an end on a link
abbrev pub lines_to : World → End → List (List SignalUnit)
lines_to w A = w.to_a
lines_to w B = w.to_b

abbrev pub line_to : World → End → ℕ → List SignalUnit
line_to w end link = units_on link (lines_to w end)

abbrev pub with_line : World → End → ℕ → List SignalUnit → World
with_line w A link line = record w { to_a = with_units link line w.to_a }
with_line w B link line = record w { to_b = with_units link line w.to_b }

-- a unit sent by an end on a link joins the line of that link to the other
abbrev pub joined : World → End → ℕ → SignalUnit → World
joined w A link unit = record w { to_b = joined_on link unit w.to_b }
joined w B link unit = record w { to_a = joined_on link unit w.to_a }

-- A set after an event of its actor: by its step, with the entry put last.

-- the terminal of the link that the event names, or else user 0
abbrev pub actor_of : Event → Actor
actor_of (Offer body) = User 0
actor_of Take = User 0
actor_of (Find number) = User 0
actor_of (Next link) = Terminal link
actor_of (HeardEvent link unit) = Terminal link
actor_of (UpEvent link) = Terminal link
actor_of (Down link) = Terminal link
actor_of (DownBlind link) = Terminal link
actor_of (NoAnswer link) = Terminal link
actor_of (Timed link) = Terminal link
actor_of (Restore link) = Terminal link
actor_of (Redeclare link) = Terminal link
actor_of (BackTimeout link) = Terminal link
actor_of (Test link) = Terminal link

abbrev pub answer_to : LinkSet → Event → Answer
answer_to set event = (step set.state event).answer

abbrev pub after : LinkSet → Event → LinkSet
after set event = record {
  base = set.base;
  state = (step set.state event).state;
  history = set.history ++ record { who = actor_of event; event = event; answer = answer_to set event } ∷ [];
}

-- a set with 2^48 entries takes no more
abbrev pub is_full : LinkSet → Bool
is_full set = nat_le (2 ^ 48) (entries_in set)

-- What a step does: it shows something and the world goes on, it can't be done, or a history is full.
pub data Outcome : Type 0 where
  shows : Shown → World → Outcome
  impossible : Outcome
  exhausted : Outcome

-- what needs a link of the world
abbrev pub has_link : World → ℕ → Bool
has_link w link = nat_lt link (link_count w.a.state)

abbrev pub done_on : World → ℕ → Outcome → Outcome
done_on w link outcome = if has_link w link then outcome else impossible

-- ACT. One event at an end: the world has every user, and the terminals of its links.
abbrev pub has_actor : World → Actor → Bool
has_actor w (User number) = true
has_actor w (Terminal link) = has_link w link

abbrev pub acts : World → End → Event → Outcome
acts w end event =
    if has_actor w (actor_of event)
    then (if is_full (at_end w end) then exhausted
    else shows (Answered (answer_to (at_end w end) event)) (with_end w end (after (at_end w end) event)))
    else impossible

-- EMIT. A unit that an end sends on a link joins its line to the other.
abbrev pub with_sent : World → End → ℕ → Shown → World
with_sent w end link (Answered (Sent unit)) = joined w end link unit
with_sent w end link (Answered (Accepted number)) = w
with_sent w end link (Answered (Taken body)) = w
with_sent w end link (Answered (Found fate)) = w
with_sent w end link (Answered (Heard report)) = w
with_sent w end link (Answered Done) = w
with_sent w end link (Answered (Refused why)) = w
with_sent w end link Up = w
with_sent w end link Lost = w

abbrev pub sends_on : End → ℕ → Outcome → Outcome
sends_on end link (shows s w) = shows s (with_sent w end link s)
sends_on end link impossible = impossible
sends_on end link exhausted = exhausted

abbrev pub emits : World → End → ℕ → Outcome
emits w end link = sends_on end link (acts w end (Next link))

-- ARRIVE. The front of the line leaves it: it is heard where the link is up, and lost where it isn't.
abbrev pub reaches : World → End → ℕ → SignalUnit → Outcome
reaches w end link unit = if is_up link (at_end w end).state then acts w end (HeardEvent link unit) else shows Lost w

abbrev pub front_arrives : World → End → ℕ → List SignalUnit → Outcome
front_arrives w end link [] = impossible
front_arrives w end link (unit ∷ line) = reaches (with_line w end link line) end link unit

abbrev pub arrives : World → End → ℕ → Outcome
arrives w end link = done_on w link (front_arrives w end link (line_to w end link))

-- LOSE. The unit at a place of the line is lost.
abbrev pub loses_from : World → End → ℕ → ℕ → List SignalUnit → Outcome
loses_from w end link place line =
    if nat_lt place (length line) then shows Lost (with_line w end link (without place line)) else impossible

abbrev pub loses : World → End → ℕ → ℕ → Outcome
loses w end link place = done_on w link (loses_from w end link place (line_to w end link))

-- TOGETHER. A link that is settled at both ends, as one that never was up is, comes up at both, with empty lines.
abbrev pub risen : World → ℕ → World
risen w link = record {
  a = after w.a (UpEvent link);
  b = after w.b (UpEvent link);
  to_a = with_units link [] w.to_a;
  to_b = with_units link [] w.to_b;
}

abbrev pub is_settled_at_both : World → ℕ → Bool
is_settled_at_both w link = is_settled link w.a.state && is_settled link w.b.state

abbrev pub rises : World → ℕ → Outcome
rises w link =
    done_on w link (if is_settled_at_both w link
    then (if is_full w.a || is_full w.b then exhausted else shows Up (risen w link))
    else impossible)

-- what is asked by a step of its own: a unit is sent by Emit, heard by Arrive or Inject, and a link comes up by Together
abbrev pub has_own_step : Event → Bool
has_own_step (Next link) = true
has_own_step (HeardEvent link unit) = true
has_own_step (UpEvent link) = true
has_own_step _ = false

abbrev pub asks : World → End → Event → Outcome
asks w end event = if has_own_step event then impossible else acts w end event

-- what each step does; where it's impossible, it's that whether a history is full or not
abbrev pub done_by : World → Step → Outcome
done_by w (Act end event) = asks w end event
done_by w (Emit end link) = emits w end link
done_by w (Arrive end link) = arrives w end link
done_by w (Lose end link place) = loses w end link place
done_by w (Together link) = rises w link
done_by w (Inject end link unit) = acts w end (HeardEvent link unit)

-- THE STEP OF THE WORLD; a name of its own, so that who speaks of it doesn't compute it
unfoldable pub carried_out : World → Step → Outcome
carried_out w step = done_by w step
