-- WHAT STOOD BACK FOR A LINK THAT IS LEFT turns back.
use Rattle.std.specs.Prelude.{◌≡◌, ◌≤◌, ◌<◌, ◌+◌, ℕ, true, length, slice_get, Some}
use Rattle.set_queues.specs.Buffers.{Fate, Back, queue_at, room_at}
use Rattle.set_queues.specs.declared.message.Kind.TheVariants.{User}
use Rattle.set_queues.specs.Queues.{QueuesState}
use Rattle.set_queues.specs.Slots.{slot_at}
use Rattle.set_queues.specs.Settling.{on}
use Rattle.set_route.specs.Routing.{place_of}
use Rattle.set_model.specs.Rows.{Row, is_users, is_back_to, standing, stream_of, numbers, Each}
use Rattle.set_model.specs.Sound.{IsAscending}
use Rattle.set_model.specs.State.{On, State, link_count}
use Rattle.set_changeover.specs.Agreement.{Kept, Message, StandsFor}

-- what stands back for the link is a user's, and its stream runs on a link of the set
abbrev pub IsTurningRow : ℕ → State → Row → Type 0
IsTurningRow number s row =
    is_back_to number row.fate ≡ true → (is_users row ≡ true) × (stream_of row.body < 16)
    × (via : ℕ) × (place_of (stream_of row.body) s.routing ≡ On via) × (via < link_count s)

-- all of it does, and stands in the order of its numbers
pub record IsTurning (number : ℕ) (s : State) : Type 0 where
  pub each : Each (IsTurningRow number s) s.rows
  pub order : IsAscending (numbers (standing (is_back_to number) s.rows))

abbrev pub CanTurn : ℕ → Kept → Type 0
CanTurn number k = (s : State) × StandsFor k s × IsTurning number s

-- the first that waits for the code's acknowledgement is a user's, and its stream runs on a link
pub record HasWay (code : ℕ) (k : Kept) : Type 0 where
  pub number : ℕ
  pub first : slice_get (queue_at (Back code) k.lists) 0 ≡ Some number
  pub message : Message
  pub message_is : slot_at number k.messages ≡ Some message
  pub stream : ℕ
  pub kind_is : message.kind ≡ User stream
  pub few : stream < 16
  pub via : ℕ
  pub place_is : place_of stream k.routing ≡ On via
  pub known : via < length k.links

-- so many turns take so much room of each queue, and put at most so many on a link
pub record TakesTurns (count : ℕ) (old new : QueuesState) : Type 0 where
  pub room : new.room ≡ old.room
  pub rooms : (fate : Fate) → room_at fate old.rooms ≤ room_at fate new.rooms + count
  pub on_link : (number : ℕ) → number < length old.lists.links
      → length (on number new.lists) ≤ length (on number old.lists) + count
