-- EACH ENTRY OF A SET IS A MOVE of the world in which links come up one after the other, or changes nothing there.
use Rattle.std.specs.Prelude.{◌≡◌, ◌≤◌, ℕ, true, false, List, [], ◌∷◌, length}
use Rattle.l2_units.specs.declared.unit.Unit.{Unit as SignalUnit}
use Rattle.set_events.specs.declared.answer.Answer.{Answer}
use Rattle.set_events.specs.declared.answer.Answer.TheVariants.{Sent}
use Rattle.set_events.specs.declared.event.Actor.{Actor}
use Rattle.set_events.specs.declared.event.Event.{Event}
use Rattle.set_events.specs.declared.event.Event.TheVariants.{Next, Heard as HeardEvent, Up as UpEvent}
use Rattle.set_model.specs.History.{LinkSet, IsStep}
use Rattle.set_model.specs.State.{is_settled, is_up}
use Rattle.set_model.specs.Step.{step}
use Rattle.pair_steps.specs.declared.step.End.{End}
use Rattle.pair_steps.specs.declared.step.Shown.{Shown}
use Rattle.pair_steps.specs.declared.step.Shown.TheVariants.{Answered, Up}
use Rattle.pair_steps.specs.declared.step.Step.TheVariants.{Act, Emit, Arrive}
use Rattle.pair_model.specs.World.{World, shows, at_end, with_end, with_line, line_to, joined, other, after, is_full, actor_of, has_actor, has_link, has_own_step}
use Rattle.pair_streams.specs.Handed.{handed_by, handed_in}
use Rattle.pair_rises.specs.declared.moves.Move.{Move}
use Rattle.pair_rises.specs.declared.moves.Move.TheVariants.{Step as MoveStep, Rise}
use Rattle.pair_rises.specs.Rises.{is_first, moved, risen_so}

-- AN END'S SET WITH A LONGER HISTORY: it was asked more, in vain. Both hold the same, and handed out the same to users.
pub record IsThinned (thin full : LinkSet) : Type 0 where
  pub base : thin.base ≡ full.base
  pub state : thin.state ≡ full.state
  pub fewer : length thin.history ≤ length full.history
  pub handed : handed_in thin.history ≡ handed_in full.history

-- THE WORLD MOVES, and then its end is so to this set; the other end stays as it is
pub record Moves (w : World) (end : End) (move : Move) (shown : Shown) (new : World) (full : LinkSet) : Type 0 where
  pub move_is : moved w move ≡ shows shown new
  pub thinned : IsThinned (at_end new end) full
  pub far : at_end new (other end) ≡ at_end w (other end)

-- a set of an end that has room, and what it's asked then
pub record IsAskedThere (w : World) (end : End) (full : LinkSet) (who : Actor) (event : Event) (answer : Answer) (full' : LinkSet) : Type 0 where
  pub thinned : IsThinned (at_end w end) full
  pub has_room : is_full full ≡ false
  pub is_step : IsStep full who event answer full'

-- LAWS: whoever asks, a link that comes up is a rise; what has no move of its own is an event at that end; a unit that
-- the set gives joins the link's line; and the foremost of the line arrives where the link is up
pub record EntriesMove (w : World) (end : End) (full : LinkSet) (who : Actor) (full' : LinkSet) : Type 0 where
  pub rises : (link : ℕ) (answer : Answer) → IsAskedThere w end full who (UpEvent link) answer full' → has_link w link ≡ true
      → is_settled link full.state ≡ true → Moves w end (Rise end link) Up (risen_so (is_first w end link) w end link) full'
  pub acts : (event : Event) (answer : Answer) → IsAskedThere w end full who event answer full' → has_own_step event ≡ false
      → has_actor w (actor_of event) ≡ true
      → Moves w end (MoveStep (Act end event)) (Answered answer) (with_end w end (after (at_end w end) event)) full'
  pub sends : (link : ℕ) (unit : SignalUnit) → IsAskedThere w end full who (Next link) (Sent unit) full' → has_link w link ≡ true
      → Moves w end (MoveStep (Emit end link)) (Answered (Sent unit)) (joined (with_end w end (after (at_end w end) (Next link))) end link unit) full'
  pub hears : (link : ℕ) (unit : SignalUnit) (rest : List SignalUnit) (answer : Answer)
      → IsAskedThere w end full who (HeardEvent link unit) answer full' → has_link w link ≡ true → line_to w end link ≡ unit ∷ rest
      → is_up link full.state ≡ true
      → Moves w end (MoveStep (Arrive end link)) (Answered answer)
      (with_end (with_line w end link rest) end (after (at_end w end) (HeardEvent link unit))) full'

abbrev pub EachEntryMoves : Type 0
EachEntryMoves = (w : World) (end : End) (full : LinkSet) (who : Actor) (full' : LinkSet) → EntriesMove w end full who full'

-- and what is asked in vain is no move
abbrev pub InVainIsNoMove : Type 0
InVainIsNoMove =
    (thin full full' : LinkSet) (who : Actor) (event : Event) (answer : Answer) → IsThinned thin full → IsStep full who event answer full'
    → (step full.state event).state ≡ full.state → handed_by answer ≡ [] → IsThinned thin full'
