-- A LINK'S LIVES (Q.704 5): it comes up by Up alone, where it's settled, and is settled till then. What a terminal is
-- told of it; and how a step counts the late orders about it, those that came after it settled.
use Rattle.std.specs.Prelude.{◌≡◌, ◌<◌, ℕ, true, false, ◌==◌, length}
use Rattle.l2_units.specs.declared.unit.Unit.{Unit as SignalUnit}
use Rattle.set_events.specs.declared.answer.Answer.{Answer}
use Rattle.set_events.specs.declared.answer.Refusal.{Refusal}
use Rattle.set_events.specs.declared.event.Event.{Event}
use Rattle.set_model.specs.Changeover.{one_later}
use Rattle.set_model.specs.State.{State, is_settled, is_up, late_at}
use Rattle.set_model.specs.Step.{step}

abbrev pub IsNoUp : ℕ → Event → Type 0
IsNoUp number (Event.Up link) = (link == number) ≡ false
IsNoUp number _ = Unit {0}

-- it hasn't come up, and wasn't left before it was settled
pub record GoesOn (number : ℕ) (old new : State) : Type 0 where
  pub settled : is_settled number old ≡ true → is_settled number new ≡ true
  pub up : is_up number new ≡ true → is_up number old ≡ true

-- what is asked of a link that must be up
abbrev pub IsServed : ℕ → Event → Type 0
IsServed number (Event.Next link) = link ≡ number
IsServed number (Event.Heard link unit) = link ≡ number
IsServed number (Event.Down link) = link ≡ number
IsServed number (Event.DownBlind link) = link ≡ number
IsServed number _ = ⊥

pub record IsRefused (s : State) (event : Event) : Type 0 where
  pub answer : (step s event).answer ≡ Answer.Refused Refusal.NotUp
  pub state : (step s event).state ≡ s

pub record HasComeUp (number : ℕ) (s : State) (event : Event) : Type 0 where
  pub answer : (step s event).answer ≡ Answer.Done
  pub up : is_up number (step s event).state ≡ true

-- it gives a unit when it's asked for one, and no unit that comes is refused because the link isn't up
pub record IsServedUp (number : ℕ) (s : State) : Type 0 where
  pub unit : SignalUnit
  pub sent : (step s (Event.Next number)).answer ≡ Answer.Sent unit
  pub heard : (unit : SignalUnit) → (step s (Event.Heard number unit)).answer ≡ Answer.Refused Refusal.NotUp → ⊥

-- of late orders about the link one more was counted, or none
pub data IsLateOnce (number : ℕ) (old new : State) : Type 0 where
  as_before : late_at number new ≡ late_at number old → IsLateOnce number old new
  one_more : late_at number new ≡ one_later (late_at number old) → IsLateOnce number old new

-- LAWS
abbrev pub OnlyUpBegins : Type 0
OnlyUpBegins = (number : ℕ) (s : State) (event : Event) → IsNoUp number event → GoesOn number s (step s event).state

abbrev pub UpBegins : Type 0
UpBegins = (number : ℕ) (s : State) → is_settled number s ≡ true → HasComeUp number s (Event.Up number)

-- where the link is there, but isn't up, that's refused; where it's up it's served, till it's left
abbrev pub OthersAreRefused : Type 0
OthersAreRefused =
    (number : ℕ) (s : State) (event : Event) → IsServed number event → number < length s.links → is_up number s ≡ false
    → IsRefused s event

abbrev pub UpIsServed : Type 0
UpIsServed = (number : ℕ) (s : State) → is_up number s ≡ true → IsServedUp number s

abbrev pub DownEnds : Type 0
DownEnds = (number : ℕ) (s : State) → is_up number (step s (Event.Down number)).state ≡ false

-- no step counts more than one about a link, and none takes from what was counted
abbrev pub LateOrdersAreCounted : Type 0
LateOrdersAreCounted = (number : ℕ) (s : State) (event : Event) → IsLateOnce number s (step s event).state
