-- WHAT A SET KEEPS, AND HOW IT AGREES WITH THE STATE that it stands for. Read this file first.
use Rattle.std.specs.Prelude.{◌≡◌, ℕ, ◌+◌, ◌%◌, Bool, true, List, length, Option, Some, slice_get, if◌then◌else◌, option_map}
use Rattle.set_events.specs.declared.answer.Fate.{Fate}
use Rattle.set_queues.specs.declared.message.Kind.{Kind}
use Rattle.set_queues.specs.declared.message.Kind.TheVariants.{User, Order}
pub use Rattle.set_queues.specs.declared.message.Message.{Message}
use Rattle.set_queues.specs.Buffers.{Lists, is_standing, queue_at, last_at, profile_at}
use Rattle.set_queues.specs.Messages.{fate_at, slot_at, is_users as is_users_kind}
use Rattle.set_route.specs.Routing.{Routing}
use Rattle.set_model.specs.Rows.{Row, numbers, standing, same_fate, is_users, is_managements, row_of, place, body_at, stream_of, IsNumbered}
use Rattle.set_model.specs.Sound.{IsSound, AreFew}
use Rattle.set_model.specs.State.{FinishedCounts, LinkState, State, Settings, given}
use Rattle.set_model.specs.Checkpoint.{rebuilt}
use Rattle.l2_window.specs.Window.{fsn_before_first, fsn_count}

-- what contracts see of what a set keeps
pub record Kept : Type 0 where
  pub settings : Settings
  -- the queues of numbers, and by its number each message's fate, whose it is, and its octets; a number whose message
  -- left has an empty slot
  pub lists : Lists
  pub messages : List (Option Message)
  -- each message's body, by its number
  pub bodies : List (Option (List ℕ))
  -- how many messages left it
  pub finished : FinishedCounts
  pub links : List LinkState
  pub routing : Routing
  pub inbox : List (List ℕ)

-- where the message of a number stands, and its body: how messages and bodies are kept, these two alone tell
abbrev pub place_in : ℕ → Kept → Option Fate
place_in number k = fate_at number k.messages

abbrev pub body_in : ℕ → Kept → Option (List ℕ)
body_in number k = slot_at number k.bodies

-- and whether it's a user's
abbrev pub owner_in : ℕ → Kept → Option Bool
owner_in number k = option_map (λ m. is_users_kind m.kind) (slot_at number k.messages)

-- the state that is kept, with its rows in this order of their numbers, which the queues don't tell
abbrev pub shown : List ℕ → Kept → State
shown order k = record {
  settings = k.settings;
  rows = rebuilt (λ number. owner_in number k) (λ number. body_in number k) (λ number. place_in number k) order;
  finished = k.finished;
  links = k.links;
  routing = k.routing;
  inbox = k.inbox;
}

-- whether it's this fate, and the rows of a fate that isn't final
abbrev pub is_there : Fate → Fate → Bool
is_there fate other = same_fate other fate

abbrev pub rows_at : Fate → List Row → List Row
rows_at fate rows = standing (is_there fate) rows

-- whose a row is, and whose a body
abbrev pub kind_of : Row → Kind
kind_of row = if is_users row then User (stream_of row.body) else Order

abbrev pub kind_by : List ℕ → Kind
kind_by body = if is_managements body then Order else User (stream_of body)

-- what is kept of a row beside its fate and its body
pub record Label : Type 0 where
  pub kind : Kind
  pub octets : ℕ

abbrev pub label_in : Message → Label
label_in m = record { kind = m.kind; octets = m.octets }

abbrev pub label_of : Row → Label
label_of row = record { kind = kind_of row; octets = length row.body }

-- THE QUEUES STAND FOR THE ROWS: each queue holds the numbers of the rows of its fate, in their order; each number's
-- fate is its row's, and so is its label; no row has the number of an empty slot
pub record Stands (q : Lists) (ms : List (Option Message)) (rows : List Row) : Type 0 where
  pub queues : (fate : Fate) → is_standing fate ≡ true → queue_at fate q ≡ numbers (rows_at fate rows)
  pub fates : (number : ℕ) → fate_at number ms ≡ place number rows
  pub labels : (number : ℕ) → option_map label_in (slot_at number ms) ≡ option_map label_of (row_of number rows)
  pub numbered : IsNumbered (length ms) rows

-- WHAT IS KEPT STANDS FOR THE STATE. The FSN last acknowledged on a link is its whole number's (Q.703 2.2).
pub record StandsFor (k : Kept) (s : State) : Type 0 where
  pub settings : k.settings ≡ s.settings
  pub stands : Stands k.lists k.messages s.rows
  pub bodies : (number : ℕ) → slot_at number k.bodies ≡ body_at number s.rows
  pub held_bodies : length k.bodies ≡ length k.messages
  -- each number that was given out has a slot
  pub given_out : length k.messages ≡ given s
  pub finished : k.finished ≡ s.finished
  pub links : k.links ≡ s.links
  pub as_many : length k.lists.links ≡ length s.links
  pub fsns : (number : ℕ) (link : LinkState) → slice_get s.links number ≡ Some link
      → last_at number k.lists ≡ (link.acked + fsn_before_first link.profile) % fsn_count link.profile
  pub profiles : (number : ℕ) (link : LinkState) → slice_get s.links number ≡ Some link → profile_at number k.lists ≡ link.profile
  pub routing : k.routing ≡ s.routing
  pub inbox : k.inbox ≡ s.inbox

-- it agrees with the state: it stands for it, and the state is one that a set can have
pub record Agrees (k : Kept) (s : State) : Type 0 where
  pub stands : StandsFor k s
  pub sound : IsSound s

-- there is such a state; and one whose whole numbers are below a bound
abbrev pub Holds : Kept → Type 0
Holds k = (s : State) × Agrees k s

abbrev pub HoldsFew : ℕ → Kept → Type 0
HoldsFew events k = (s : State) × Agrees k s × AreFew events s
