-- What is chosen to be sent, what a heard unit brings, and the space that it may want.
use Rattle.std.specs.Prelude.{ℕ, ◌<◌, length, ◌≡◌, ◌+◌, ◌==◌, ◌≤◌, if◌then◌else◌, Bool, false, List, [], ◌∷◌, Option, Some, None, map, slice_get, slice_set}
use Rattle.l2_window.specs.declared.control.Choice.{Choice}
use Rattle.l2_window.specs.declared.control.Choice.TheVariants.{Again, First, Fill}
use Rattle.set_queues.specs.Buffers.{Lists, profile_at, queue_at, KeepsRoom}
use Rattle.set_model.specs.Control.{control_after}
use Rattle.set_model.specs.Rows.{Waiting, Unacked, Row, octets_in, unack, Acked, Back, is_unacked, service_indicator, turned}
use Rattle.set_model.specs.State.{open_link, LinkState, State, window_of, with_link}
use Rattle.l2_window.specs.Window.{most_unacked}
use Rattle.l2_units.specs.declared.profile.Profile.{Profile}
use Rattle.std.specs.VecDeque.{deque_len, deque_capacity}
use Rattle.set_model.specs.Changeover.{Order}
use Rattle.set_changeover.specs.Room.{IsSpaciousFor}
pub use Rattle.set_traffic.specs.declared.hearing.Brought.{Brought}
pub use Rattle.set_traffic.specs.declared.hearing.Brought.TheVariants.{Nothing, Message, Order as OrderBrought, Unread}
use Rattle.l3_orders.specs.Grammar.{IsOrder, order_of}
use Rattle.set_queues.specs.Queues.{QueuesState}
use Rattle.set_queues.specs.Sending.{reach}
use Rattle.set_queues.specs.Settling.{on}
use Rattle.set_model.specs.Step.{SignalUnit, Msu}
use Rattle.set_changeover.specs.Agreement.{Kept, StandsFor}
use Rattle.set_changeover.specs.declared.parts.Parts.{Parts}

-- the link's control goes on as that is sent
abbrev pub goes_on : ℕ → Choice → LinkState → State → State
goes_on number choice link s = with_link number (record link {
  control = control_after choice (octets_in (unack number s.rows)) link.control (window_of number link s.rows);
}) s

-- the test holds of the first of these rows
abbrev pub holds_first : (Row → Bool) → List Row → Bool
holds_first test [] = false
holds_first test (row ∷ rows) = test row

-- what is chosen is there
abbrev pub IsThere : Choice → ℕ → Lists → Type 0
IsThere (Again place) number q = place < length (queue_at (Unacked number) q)
IsThere First number q =
    (0 < length (queue_at (Waiting number) q)) × (length (queue_at (Unacked number) q) < most_unacked (profile_at number q))
IsThere Fill number q = Unit {0}

-- what a body of the management is
abbrev pub management_brought : {A : Type 0} → Option Order → Brought A
management_brought (Some order) = OrderBrought order
management_brought None = Unread

-- what a unit brings
abbrev pub brought_by : {A : Type 0} → Profile → SignalUnit → Brought A
brought_by profile (Msu head body) =
    if service_indicator body.items == 0 then management_brought (order_of profile body.items) else Message body.items
brought_by profile _ = Nothing

-- there is space for it: a place in the inbox, or room for what it moves
abbrev pub HasSpaceFor : {A : Type 0} → Brought A → Parts A → Type 0
HasSpaceFor (Message body) parts = deque_len parts.inbox < deque_capacity parts.inbox
HasSpaceFor (OrderBrought order) parts = (IsOrder parts.config.profile order) × (IsSpaciousFor order parts)
HasSpaceFor _ parts = Unit {0}

-- so many stand unacknowledged on the link up to this FSN
pub record ReachesTo (fsn count number : ℕ) (q : Lists) : Type 0 where
  pub count_is : count ≡ reach number fsn q
  pub there : count ≤ length (queue_at (Unacked number) q)

-- WHATEVER STATE the queues stand for beside the rest, so many are acknowledged of the link that counts them
abbrev pub Acknowledges : ℕ → ℕ → QueuesState → QueuesState → Type 0
Acknowledges count number old new =
    (k : Kept) (s : State) (link counted : LinkState) → slice_get s.links number ≡ Some link
    → counted.acked ≡ link.acked + count → counted.profile ≡ link.profile
    → StandsFor (record k { lists = old.lists; messages = old.messages }) s
    → StandsFor (record k { lists = new.lists; messages = new.messages; links = slice_set s.links number counted })
    (with_link number counted (record s { rows = turned (is_unacked number) (Acked number) count s.rows }))

-- no room is taken, and no more stands on a link than before
pub record KeepsQueues (old new : QueuesState) : Type 0 where
  pub message : new.room ≡ old.room
  pub rooms : KeepsRoom old.rooms new.rooms
  pub fewer : (number : ℕ) → length (on number new.lists) ≤ length (on number old.lists)
  pub backs : (code : ℕ) → queue_at (Back code) new.lists ≡ queue_at (Back code) old.lists

-- nor is room taken beside them, and the same links are open
pub record KeepsSpace {A : Type 0} (old new : Parts A) : Type 0 where
  pub queues : KeepsQueues old.queues new.queues
  pub bodies : new.bodies ≡ old.bodies
  pub opens : map (λ link. open_link link) new.links.items ≡ map (λ link. open_link link) old.links.items
  pub inbox : new.inbox ≡ old.inbox
  pub config : new.config ≡ old.config
