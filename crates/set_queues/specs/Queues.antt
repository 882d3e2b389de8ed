-- Where every message of a set stands.
use Rattle.std.specs.Prelude.{◌≡◌, ℕ, ◌+◌, ◌<◌, ◌≤◌, ◌==◌, Bool, true, false, not, List, [], ◌∷◌, ◌++◌, length, filter, Some, None, Option, IsSome, take, drop, if◌then◌else◌}
use Rattle.std.specs.Option.{option_map_or}
use Rattle.set_queues.specs.Messages.{one_if, Message, AreFit, slot_at, fate_at, is_order_at, restood, octets_at}
use Rattle.set_queues.specs.Buffers.{Fate, Unacked, Discarded, Lists, Rooms, TakesRoom, KeepsRoom, is_standing, same_fate, queue_at, with_queue, profile_at}
use Rattle.l2_window.specs.Window.{WindowState, most_unacked}
use Rattle.set_events.specs.declared.answer.DiscardCause.{DiscardCause}
use Rattle.set_events.specs.Config.{most_links}

-- what contracts see of the queues of a set
pub record QueuesState : Type 0 where
  pub lists : Lists
  -- the messages by their numbers, and an empty slot where one was forgotten
  pub messages : List (Option Message)
  -- how many pushes on each queue want no memory
  pub rooms : Rooms
  -- how many new messages want none
  pub room : ℕ

-- how often the number stands in the queue
abbrev pub occurs : ℕ → List ℕ → ℕ
occurs number [] = 0
occurs number (n ∷ ns) = one_if (n == number) + occurs number ns

-- the message of this number stands there
abbrev pub stands : Fate → ℕ → List (Option Message) → Bool
stands fate number messages = option_map_or (λ f. same_fate f fate) (fate_at number messages) false

-- EACH MESSAGE STANDS IN EXACTLY ONE QUEUE, the one that its fate names, or in none if its fate is final
abbrev pub AreTied : Lists → List (Option Message) → Type 0
AreTied q messages = (fate : Fate) → is_standing fate ≡ true → (number : ℕ) → occurs number
    (queue_at fate q) ≡ one_if (stands fate number messages)

-- each of these numbers has a message
abbrev pub AreGiven : List ℕ → List (Option Message) → Type 0
AreGiven numbers messages = (number : ℕ) → 0 < occurs number numbers → IsSome (slot_at number messages)

-- all of a queue go to another, in their order, or the first so many of it
abbrev pub passed : Fate → Fate → Lists → Lists
passed from to q = with_queue from [] (with_queue to (queue_at to q ++ queue_at from q) q)

abbrev pub passed_first : ℕ → Fate → Fate → Lists → Lists
passed_first count from to q =
    with_queue from (drop count (queue_at from q)) (with_queue to (queue_at to q ++ take count (queue_at from q)) q)

-- the messages of these numbers stand there from now on, and these are the lists; only theirs is the room that is taken
pub record Moves (numbers : List ℕ) (to : Fate) (q : Lists) (old new : QueuesState) : Type 0 where
  pub lists : new.lists ≡ q
  pub messages : new.messages ≡ restood numbers to old.messages
  pub rooms : TakesRoom to (length numbers) old.rooms new.rooms
  pub room : new.room ≡ old.room

-- so all of a queue move, or the first so many of it
abbrev pub MovesAll : Fate → Fate → QueuesState → QueuesState → Type 0
MovesAll from to old new = Moves (queue_at from old.lists) to (passed from to old.lists) old new

abbrev pub MovesFirst : ℕ → Fate → Fate → QueuesState → QueuesState → Type 0
MovesFirst count from to old new =
    Moves (take count (queue_at from old.lists)) to (passed_first count from to old.lists) old new

-- of a queue the orders are given up, and the others stay in their order
abbrev pub orders_in : List (Option Message) → List ℕ → List ℕ
orders_in messages numbers = filter (is_order_at messages) numbers

abbrev pub others_in : List (Option Message) → List ℕ → List ℕ
others_in messages numbers = filter (λ number. not (is_order_at messages number)) numbers

-- a further number ahead of the first user's message of a queue, behind the orders that stand foremost, or last
abbrev pub behind_orders : List (Option Message) → ℕ → List ℕ → List ℕ
behind_orders messages number [] = number ∷ []
behind_orders messages number (n ∷ ns) =
    if is_order_at messages n then n ∷ behind_orders messages number ns else number ∷ n ∷ ns

-- only what waits in the window changed, and there is no less room
pub record KeepsSent (old new : WindowState) : Type 0 where
  pub profile : new.profile ≡ old.profile
  pub last : new.last ≡ old.last
  pub unacked : new.unacked ≡ old.unacked
  pub room : old.room ≤ new.room

-- of a queue the message of one number is given up, and the others stay in their order
abbrev pub without : ℕ → List ℕ → List ℕ
without number numbers = filter (λ n. not (n == number)) numbers

abbrev pub GivesUp : ℕ → Fate → DiscardCause → QueuesState → QueuesState → Type 0
GivesUp number from cause old new = Moves (number ∷ []) (Discarded cause)
    (with_queue from (without number (queue_at from old.lists)) old.lists) old new

abbrev pub DiscardsOrders : Fate → DiscardCause → QueuesState → QueuesState → Type 0
DiscardsOrders from cause old new = Moves (orders_in old.messages (queue_at from old.lists)) (Discarded cause)
    (with_queue from (others_in old.messages (queue_at from old.lists)) old.lists) old new

-- no queue has less room, and nothing else changes
pub record MakesRoom (old new : QueuesState) : Type 0 where
  pub lists : new.lists ≡ old.lists
  pub messages : new.messages ≡ old.messages
  pub room : new.room ≡ old.room
  pub kept : KeepsRoom old.rooms new.rooms

-- at most 127 messages of a link are unacknowledged (Q.703 5.2.2; wide: 4,095)
abbrev pub AreNarrow : Lists → Type 0
AreNarrow q = (link : ℕ) → length (queue_at (Unacked link) q) ≤ most_unacked (profile_at link q)

-- of every set: it has 1 to 16 links and 256 codes of changebacks, at most 127 messages are unacknowledged on each
-- link, and each message stands in exactly one queue, the one that its fate names, or in none if its fate is final
pub record AreSound (q : Lists) (messages : List (Option Message)) : Type 0 where
  pub one : 1 ≤ length q.links
  pub few : length q.links ≤ most_links
  pub codes : length q.back ≡ 256
  pub narrow : AreNarrow q
  pub tied : AreTied q messages
  pub fit : AreFit messages

-- LAWS of where messages stand

-- LAW: a number stands once in the queue of its fate, if that isn't final, and in no other; one that has no message
-- stands in none
pub record StandsOnce (q : Lists) (messages : List (Option Message)) (number : ℕ) : Type 0 where
  pub there : (fate : Fate) → is_standing fate ≡ true → fate_at number messages ≡ Some fate
      → occurs number (queue_at fate q) ≡ 1
  pub nowhere_else : (fate other : Fate) → is_standing other ≡ true → fate_at number messages
      ≡ Some fate → (fate ≡ other → ⊥) → occurs number (queue_at other q) ≡ 0
  pub none : (fate : Fate) → is_standing fate ≡ true → slot_at number messages ≡ None → occurs number
      (queue_at fate q) ≡ 0

abbrev pub EachNumberStandsOnce : Type 0
EachNumberStandsOnce = (q : Lists) (messages : List (Option Message)) (number : ℕ)
    → AreSound q messages → StandsOnce q messages number

-- LAW: what moves has its new fate, and all else stays as it is
pub record MovesAlone (numbers : List ℕ) (to : Fate) (messages : List (Option Message))
    (number : ℕ) : Type 0 where
  pub moved : 0 < occurs number numbers → fate_at number (restood numbers to messages) ≡ Some to
  pub stays : occurs number numbers ≡ 0 → fate_at number (restood numbers to messages)
      ≡ fate_at number messages
  pub octets : octets_at number (restood numbers to messages) ≡ octets_at number messages
  pub count : length (restood numbers to messages) ≡ length messages

abbrev pub FatesMoveWithTheirNumbers : Type 0
FatesMoveWithTheirNumbers = (numbers : List ℕ) (to : Fate) (messages : List (Option Message))
    (number : ℕ) → AreGiven numbers messages → MovesAlone numbers to messages number
