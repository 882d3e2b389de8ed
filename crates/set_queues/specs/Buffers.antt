-- The queues in which messages stand, as lists of their numbers. Read this file first.
use Rattle.std.specs.Prelude.{◌≡◌, ℕ, ◌+◌, ◌<◌, ◌≤◌, Bool, true, false, List, [], ◌∷◌, zero, suc, length, replicate, slice_get, slice_index_or, if◌then◌else◌}
use Rattle.std.specs.Option.{option_map_or}
use Rattle.l2_units.specs.declared.profile.Profile.{Profile}
use Rattle.l2_units.specs.declared.profile.Profile.TheVariants.{Narrow}
use Rattle.l2_window.specs.Window.{fsn_before_first}
pub use Rattle.set_events.specs.declared.answer.Fate.{Fate}
pub use Rattle.set_events.specs.declared.answer.Fate.TheVariants.{Waiting, Unacked, Acked, Held, Parked, Back, Discarded}
pub use Rattle.set_events.specs.declared.answer.DiscardCause.TheVariants.{Emergency, Unreasonable, NoAnswer}
pub use Rattle.set_events.specs.Places.{same_fate}

-- the element at this place changes
abbrev pub updated : {X : Type 0} → ℕ → (X → X) → List X → List X
updated i change [] = []
updated zero change (x ∷ xs) = change x ∷ xs
updated (suc i) change (x ∷ xs) = x ∷ updated i change xs

-- of one link: the FSN last acknowledged; what was sent and isn't acknowledged; what waits to be sent; what is held
-- until the link settles. Oldest first.
pub record LinkLists : Type 0 where
  pub profile : Profile
  pub last : ℕ
  pub unacked : List ℕ
  pub unsent : List ℕ
  pub held : List ℕ

-- of a set
pub record Lists : Type 0 where
  pub links : List LinkLists
  -- what no link can take
  pub parked : List ℕ
  -- what waits for the acknowledgement of each changeback, by its code
  pub back : List (List ℕ)

-- of a link that has had no life yet: the FSN before 0 counts as acknowledged (Q.703 5.2.1)
abbrev pub no_lists : Profile → LinkLists
no_lists profile = record { profile = profile; last = fsn_before_first profile; unacked = []; unsent = []; held = [] }

-- of so many links and codes, with nothing in any queue
abbrev pub empty_lists : Profile → ℕ → ℕ → Lists
empty_lists profile count codes = record { links = replicate count (no_lists profile); parked = []; back = replicate codes [] }

-- Each fate that isn't final has its queue.

abbrev pub is_standing : Fate → Bool
is_standing (Acked l) = false
is_standing (Discarded cause) = false
is_standing _ = true

-- its numbers, none where there is no such link
abbrev pub queue_at : Fate → Lists → List ℕ
queue_at (Waiting l) q = option_map_or (λ link. link.unsent) (slice_get q.links l) []
queue_at (Unacked l) q = option_map_or (λ link. link.unacked) (slice_get q.links l) []
queue_at (Held l) q = option_map_or (λ link. link.held) (slice_get q.links l) []
queue_at Parked q = q.parked
queue_at (Back c) q = slice_index_or q.back c []
queue_at _ q = []

-- there is a link for it, or a queue of its code
abbrev pub IsKnown : Fate → Lists → Type 0
IsKnown (Waiting l) q = l < length q.links
IsKnown (Unacked l) q = l < length q.links
IsKnown (Held l) q = l < length q.links
IsKnown (Back c) q = c < length q.back
IsKnown _ q = Unit {0}

-- messages come to stand there otherwise than by being sent
abbrev pub IsQueued : Fate → Type 0
IsQueued (Waiting l) = Unit {0}
IsQueued (Held l) = Unit {0}
IsQueued Parked = Unit {0}
IsQueued (Back c) = Unit {0}
IsQueued _ = ⊥

-- the lists of one link change
abbrev pub on_link : ℕ → (LinkLists → LinkLists) → Lists → Lists
on_link l change q = record q { links = updated l change q.links }

-- the queue is this one from now on
abbrev pub with_queue : Fate → List ℕ → Lists → Lists
with_queue (Waiting l) numbers q = on_link l (λ link. record link { unsent = numbers }) q
with_queue (Unacked l) numbers q = on_link l (λ link. record link { unacked = numbers }) q
with_queue (Held l) numbers q = on_link l (λ link. record link { held = numbers }) q
with_queue Parked numbers q = record q { parked = numbers }
with_queue (Back c) numbers q = record q { back = updated c (λ _. numbers) q.back }
with_queue _ numbers q = q

-- the FSN last acknowledged on a link
abbrev pub last_at : ℕ → Lists → ℕ
last_at l q = option_map_or (λ link. link.last) (slice_get q.links l) (fsn_before_first Narrow)

-- how many numbers the messages of a link have
abbrev pub profile_at : ℕ → Lists → Profile
profile_at l q = option_map_or (λ link. link.profile) (slice_get q.links l) Narrow

abbrev pub with_last : ℕ → ℕ → Lists → Lists
with_last l fsn q = on_link l (λ link. record link { last = fsn }) q

-- How much room there is: so many pushes want no memory.

pub record LinkRooms : Type 0 where
  pub unsent : ℕ
  pub held : ℕ

pub record Rooms : Type 0 where
  pub links : List LinkRooms
  pub parked : ℕ
  pub back : List ℕ

abbrev pub room_at : Fate → Rooms → ℕ
room_at (Waiting l) r = option_map_or (λ link. link.unsent) (slice_get r.links l) 0
room_at (Held l) r = option_map_or (λ link. link.held) (slice_get r.links l) 0
room_at Parked r = r.parked
room_at (Back c) r = slice_index_or r.back c 0
room_at _ r = 0

-- no queue has less room
abbrev pub KeepsRoom : Rooms → Rooms → Type 0
KeepsRoom old new = (fate : Fate) → room_at fate old ≤ room_at fate new

-- but for this one, which has at most so much less
abbrev pub TakesRoom : Fate → ℕ → Rooms → Rooms → Type 0
TakesRoom to count old new = (fate : Fate) → room_at fate old ≤ room_at fate new +
    (if same_fate to fate then count else 0)

-- so many can come to stand there otherwise than by being sent: there is room for them, or they stand in no queue
abbrev pub CanTake : Fate → ℕ → Rooms → Type 0
CanTake to count r = is_standing to ≡ true → (IsQueued to) × (count ≤ room_at to r)

-- so many links have room for so many more that wait, and for as many that are held
abbrev pub HaveRoom : ℕ → ℕ → Rooms → Type 0
HaveRoom links messages r = (link : ℕ) → link < links
    → (messages ≤ room_at (Waiting link) r) × (messages ≤ room_at (Held link) r)

pub record BuffersState : Type 0 where
  pub lists : Lists
  pub rooms : Rooms
