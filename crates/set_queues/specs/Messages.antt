-- The messages of a set by their numbers: whose each is, where it stands, and its octets. A number whose message was
-- forgotten has an empty slot.
use Rattle.std.specs.Prelude.{ℕ, zero, suc, Bool, true, false, not, nat_lt, ◌==◌, ◌+◌, ◌&&◌, List, [], ◌∷◌, length, filter, map, sum_by, Option, None, Some, ◌≡◌, ◌<◌, ◌≤◌, ◌^◌, slice_index, option_map, if◌then◌else◌}
use Rattle.std.specs.Option.{option_map_or}
use Rattle.set_queues.specs.declared.message.Kind.{Kind}
use Rattle.set_queues.specs.declared.message.Kind.TheVariants.{User, Order}
use Rattle.set_events.specs.declared.answer.Fate.{Fate}
use Rattle.set_events.specs.declared.answer.Fate.TheVariants.{Waiting, Unacked, Acked, Held, Parked, Back, Discarded}
pub use Rattle.set_events.specs.Places.{waits, was_sent, was_acked, was_held, is_parked, stands_back, was_discarded, is_unsent, one_if}
use Rattle.set_events.specs.declared.answer.Counts.{Counts}
use Rattle.set_events.specs.declared.answer.DiscardCause.{DiscardCause}
use Rattle.set_events.specs.declared.answer.DiscardCause.TheVariants.{Emergency, Unreasonable, NoAnswer}
use Rattle.set_events.specs.declared.finished.Finished.{Finished}
use Rattle.set_events.specs.Numbers.{cause_number}
use Rattle.set_queues.specs.Buffers.{same_fate, is_standing}
pub use Rattle.set_queues.specs.Slots.{slot_at}
pub use Rattle.set_queues.specs.declared.message.Message.{Message}
pub use Rattle.set_queues.specs.declared.tally.Tally.{Tally}

-- WHOSE a message is

-- an SLS has four bits (Q.704 15.2)
abbrev pub is_kind : Kind → Bool
is_kind (User stream) = nat_lt stream 16
is_kind Order = true

abbrev pub is_users : Kind → Bool
is_users (User stream) = true
is_users Order = false

-- a user's, of this stream
abbrev pub is_of : ℕ → Kind → Bool
is_of stream (User s) = s == stream
is_of stream Order = false

-- THE PLACES in which messages are counted, those that were discarded by their causes

abbrev pub was_discarded_by : DiscardCause → Fate → Bool
was_discarded_by cause fate = same_fate fate (Discarded cause)

-- the place of a fate
abbrev pub place_of : Fate → ℕ
place_of (Waiting l) = 0
place_of (Unacked l) = 1
place_of (Acked l) = 2
place_of (Held l) = 3
place_of Parked = 4
place_of (Back code) = 5
place_of (Discarded cause) = 5 + cause_number cause

-- whether a message of a fate stands there
abbrev pub stands_at : Fate → Fate → Bool
stands_at (Waiting l) = waits
stands_at (Unacked l) = was_sent
stands_at (Acked l) = was_acked
stands_at (Held l) = was_held
stands_at Parked = is_parked
stands_at (Back c) = stands_back
stands_at (Discarded cause) = was_discarded_by cause

-- THE MESSAGES

abbrev pub with_fate : Fate → Message → Message
with_fate fate m = record m { fate = fate }

-- the message of this number stands there from now on, or those of these numbers
abbrev pub restood_one : ℕ → Fate → List (Option Message) → List (Option Message)
restood_one number fate [] = []
restood_one zero fate (slot ∷ slots) = option_map (with_fate fate) slot ∷ slots
restood_one (suc number) fate (slot ∷ slots) = slot ∷ restood_one number fate slots

abbrev pub restood : List ℕ → Fate → List (Option Message) → List (Option Message)
restood [] fate messages = messages
restood (n ∷ ns) fate messages = restood ns fate (restood_one n fate messages)

-- where the message of this number stands, and the octets of its body
abbrev pub fate_at : ℕ → List (Option Message) → Option Fate
fate_at number messages = option_map (λ m. m.fate) (slot_at number messages)

abbrev pub octets_at : ℕ → List (Option Message) → ℕ
octets_at number messages = option_map_or (λ m. m.octets) (slot_at number messages) 0

-- the message of this number is an order
abbrev pub is_order : Option Message → Bool
is_order None = false
is_order (Some m) = not (is_users m.kind)

abbrev pub is_order_at : List (Option Message) → ℕ → Bool
is_order_at messages number = is_order (slot_at number messages)

-- the octets of the bodies of these messages
abbrev pub octets_of : List ℕ → List (Option Message) → ℕ
octets_of numbers messages = sum_by (λ number. octets_at number messages) numbers

-- a user's message, that stands where the test tells; and how many of them there are
abbrev pub is_there : (Fate → Bool) → Option Message → Bool
is_there test None = false
is_there test (Some m) = is_users m.kind && test m.fate

abbrev pub count_of : (Fate → Bool) → List (Option Message) → ℕ
count_of test messages = length (filter (is_there test) messages)

abbrev pub counts_of : List (Option Message) → Counts
counts_of messages = record {
  waiting = count_of waits messages;
  unacked = count_of was_sent messages;
  acked = count_of was_acked messages;
  held = count_of was_held messages;
  parked = count_of is_parked messages;
  back = count_of stands_back messages;
  discarded = count_of was_discarded messages;
}

-- a user's message of the stream, that isn't sent yet; and how many of them there are
abbrev pub is_queued : ℕ → Option Message → Bool
is_queued stream None = false
is_queued stream (Some m) = is_of stream m.kind && is_unsent m.fate

abbrev pub unsent_of : ℕ → List (Option Message) → ℕ
unsent_of stream messages = length (filter (is_queued stream) messages)

-- the octets of its body, if a message is unacknowledged on the link
abbrev pub octets_on : ℕ → Option Message → ℕ
octets_on link None = 0
octets_on link (Some m) = if same_fate m.fate (Unacked link) then m.octets else 0

-- WHAT IS FORGOTTEN: the messages of final fates

-- there is a message, and its fate isn't final
abbrev pub is_unfinished : Option Message → Bool
is_unfinished None = false
is_unfinished (Some m) = is_standing m.fate

-- an order of a final fate
abbrev pub is_ended_order : Option Message → Bool
is_ended_order None = false
is_ended_order (Some m) = not (is_users m.kind) && not (is_standing m.fate)

-- how many there are of those that are forgotten: of the users' by how they ended, and orders
abbrev pub finished_in : List (Option Message) → Finished
finished_in messages = record {
  acked = count_of was_acked messages;
  emergency = count_of (was_discarded_by Emergency) messages;
  unreasonable = count_of (was_discarded_by Unreasonable) messages;
  no_answer = count_of (was_discarded_by NoAnswer) messages;
  orders = length (filter is_ended_order messages);
}

abbrev pub kept_slot : Option Message → Option Message
kept_slot slot = if is_unfinished slot then slot else None

abbrev pub unfinished : List (Option Message) → List (Option Message)
unfinished messages = map kept_slot messages

-- THE RUNNING COUNTS of a list of messages

-- no body is longer than a unit's, and a stream has four bits
pub record IsFit (m : Message) : Type 0 where
  pub octets : m.octets ≤ 273
  pub known : is_kind m.kind ≡ true

abbrev pub AreFit : List (Option Message) → Type 0
AreFit messages = (number : ℕ) (m : Message) → slot_at number messages ≡ Some m → IsFit m

-- each count is the length of its filter, each link's octets are the sum, and every message is fit
pub record IsTally (tally : Tally) (messages : List (Option Message)) : Type 0 where
  pub counts : (place : Fate) → slice_index tally.counts (place_of place) ≡ count_of (stands_at place) messages
  pub unsent : (stream : ℕ) → stream < 16 → slice_index tally.unsent stream
      ≡ unsent_of stream messages
  pub octets : (link : ℕ) → link < 16 → slice_index tally.octets link ≡ sum_by (octets_on link) messages
  pub orders : tally.orders ≡ length (filter is_ended_order messages)
  pub fit : AreFit messages

-- new counts this message too
pub record IsMore (m : Message) (old new : Tally) : Type 0 where
  pub counts : (place : Fate) → slice_index new.counts (place_of place) ≡ slice_index old.counts (place_of place)
      + one_if (is_there (stands_at place) (Some m))
  pub unsent : (stream : ℕ) → stream < 16 → slice_index new.unsent stream
      ≡ slice_index old.unsent stream + one_if (is_queued stream (Some m))
  pub octets : (link : ℕ) → link < 16 → slice_index new.octets link
      ≡ slice_index old.octets link + octets_on link (Some m)
  pub orders : new.orders ≡ old.orders + one_if (is_ended_order (Some m))

-- the message is counted
pub record IsAmong (m : Message) (tally : Tally) : Type 0 where
  pub counts : (place : Fate) → one_if (is_there (stands_at place) (Some m)) ≤ slice_index tally.counts (place_of place)
  pub unsent : (stream : ℕ) → stream < 16 → one_if (is_queued stream (Some m))
      ≤ slice_index tally.unsent stream
  pub octets : (link : ℕ) → link < 16 → octets_on link (Some m) ≤ slice_index tally.octets link
  pub orders : one_if (is_ended_order (Some m)) ≤ tally.orders

-- with those of final fates forgotten
pub record Forgets (old new : Tally) : Type 0 where
  pub counts : (place : Fate) → slice_index new.counts (place_of place)
      ≡ (if is_standing place then slice_index old.counts (place_of place) else 0)
  pub unsent : new.unsent ≡ old.unsent
  pub octets : new.octets ≡ old.octets
  pub orders : new.orders ≡ 0

-- far from the end of their range
pub record AreFew (tally : Tally) : Type 0 where
  pub counts : (place : Fate) → slice_index tally.counts (place_of place) < 2 ^ 63
  pub unsent : (stream : ℕ) → stream < 16 → slice_index tally.unsent stream < 2 ^ 63
  pub octets : (link : ℕ) → link < 16 → slice_index tally.octets link < 2 ^ 72
  pub orders : tally.orders < 2 ^ 63

-- what contracts see of the messages: their slots, and how many more want no memory
pub record MessagesState : Type 0 where
  pub items : List (Option Message)
  pub room : ℕ
