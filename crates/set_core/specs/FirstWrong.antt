-- The first item of a list that no set makes, and what a set answers there.
use Rattle.std.specs.Prelude.{◌<◌, ◌+◌, ℕ, zero, suc, Bool, nat_lt, List, [], ◌∷◌, length, take, Option, Some, None, if◌then◌else◌}
use Rattle.set_core.specs.declared.item.Item.{Item}
use Rattle.set_core.specs.declared.item.Item.TheVariants.{Entered, Checkpoint}
use Rattle.set_core.specs.Items.{AreLegal, left_by}
use Rattle.set_events.specs.declared.answer.Answer.{Answer}
use Rattle.set_events.specs.declared.event.Actor.{Actor}
use Rattle.set_events.specs.declared.event.Actor.TheVariants.{User, Terminal}
use Rattle.set_model.specs.State.{State}
use Rattle.set_model.specs.Step.{step}

-- FIRST WRONG. The items before this place are legal for a set that opened so, and with the one at this place they
-- aren't: it's an entry whose actor can't be, or whose answer isn't that of the step at the state after those before.
pub record IsFirstWrong (opening : State) (items : List Item) (place : ℕ) : Type 0 where
  pub within : place < length items
  pub legal : AreLegal opening (take place items)
  pub wrong : AreLegal opening (take (place + 1) items) → ⊥

-- THE ANSWER that stands at a place of a history that is legal up to it: that of the step at the state after the items
-- before it, if the actor of the entry is one that a set has, a user below 64 or a terminal below 16.
abbrev pub is_actor : Actor → Bool
is_actor (User number) = nat_lt number 64
is_actor (Terminal link) = nat_lt link 16

abbrev pub answer_to : State → Item → Option Answer
answer_to s (Entered entry) = if is_actor entry.who then Some (step s entry.event).answer else None
answer_to s Checkpoint = None

abbrev pub answer_at : State → List Item → ℕ → Option Answer
answer_at s [] place = None
answer_at s (item ∷ items) zero = answer_to s item
answer_at s (item ∷ items) (suc place) = answer_at (left_by s item) items place
