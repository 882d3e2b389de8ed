-- What is answered to an event and what is kept then.
use Rattle.std.specs.Prelude.{◌≡◌, Bool, true, false, not}
use Rattle.set_model.specs.State.{State}
use Rattle.set_model.specs.Step.{stepped, Answer, Outcome, Event, Take, Find, Next, Heard, is_msu}
use Rattle.set_changeover.specs.Agreement.{Kept, Agrees}

-- the answer is this outcome's, and what is kept agrees with its state
pub record AnswersFor (outcome : Outcome) (answer : Answer) (k : Kept) : Type 0 where
  pub answer_is : answer ≡ outcome.answer
  pub agrees : Agrees k outcome.state

-- the events that want no memory: a message is only taken, found or sent, and a unit without a body leaves nothing
abbrev pub wants_none : Event → Bool
wants_none Take = true
wants_none (Find number) = true
wants_none (Next link) = true
wants_none (Heard link unit) = not (is_msu unit)
wants_none _ = false

-- what is answered to this event, and held then, in each state
abbrev pub stepped_by : Event → State → Outcome
stepped_by event s = stepped s event
