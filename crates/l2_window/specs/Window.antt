-- A link's messages as the error controls number them (Q.703 5.2, 5.3).
pub use Rattle.l2_units.specs.declared.profile.Profile.{Profile}
pub use Rattle.l2_units.specs.declared.profile.Profile.TheVariants.{Narrow, Wide}
pub use Rattle.l2_units.specs.Profile.{fsn_count, most_unacked}
use Rattle.std.specs.Prelude.{◌≡◌, ◌↔◌, ℕ, ◌+◌, ◌-◌, ◌%◌, ◌<◌, ◌≤◌, List, [], ◌∷◌, ◌++◌, length, take, drop}

-- before the first message of a link's life this FSN counts as acknowledged (Q.703 5.2.1): the number before 0
abbrev pub fsn_before_first : Profile → ℕ
fsn_before_first Narrow = 127
fsn_before_first Wide = 4095

-- what contracts see of a window: messages are whole numbers of the caller's, oldest first
pub record WindowState : Type 0 where
  -- how many numbers there are: they count cyclically
  pub profile : Profile
  -- the FSN last acknowledged
  pub last : ℕ
  -- sent and not acknowledged
  pub unacked : List ℕ
  -- not yet sent
  pub unsent : List ℕ
  -- how many pushes can't fail
  pub room : ℕ

-- the FSN of the message at this place of the unacknowledged ones: they follow the number last
-- acknowledged, cyclically from 0 to 127 (Q.703 5.2.1)
abbrev pub fsn_at : WindowState → ℕ → ℕ
fsn_at window place = (window.last + 1 + place) % fsn_count window.profile

-- the FSN of the last message sent, which a FISU carries too (Q.703 5.2.1)
abbrev pub last_fsn : WindowState → ℕ
last_fsn window = (window.last + length window.unacked) % fsn_count window.profile

-- how many numbers, cyclically, from the one last acknowledged up to this one
abbrev pub distance_to : WindowState → ℕ → ℕ
distance_to window number = (number + fsn_count window.profile - window.last) % fsn_count window.profile

-- a BSN is reasonable if it is the number last acknowledged or that of an unacknowledged message
-- (Q.703 5.3.1)
abbrev pub IsReasonable : WindowState → ℕ → Type 0
IsReasonable window number = distance_to window number ≤ length window.unacked

-- what holds of every window
pub record IsWindow (window : WindowState) : Type 0 where
  pub last_in_range : window.last < fsn_count window.profile
  pub few : length window.unacked ≤ most_unacked window.profile

-- nothing has been sent, or everything is settled: FSN 127 counts as acknowledged, so 0 is next
pub record IsEmpty (profile : Profile) (window : WindowState) : Type 0 where
  pub profile_is : window.profile ≡ profile
  pub last : window.last ≡ fsn_before_first profile
  pub unacked : window.unacked ≡ []
  pub unsent : window.unsent ≡ []

-- new has the number and the lists of old, and no less room
pub record SameMessages (old new : WindowState) : Type 0 where
  pub profile : new.profile ≡ old.profile
  pub last : new.last ≡ old.last
  pub unacked : new.unacked ≡ old.unacked
  pub unsent : new.unsent ≡ old.unsent
  pub room : old.room ≤ new.room

-- the message stands last among the unsent ones, and the room is at most one less
pub record Pushes (message : ℕ) (old new : WindowState) : Type 0 where
  pub profile : new.profile ≡ old.profile
  pub last : new.last ≡ old.last
  pub unacked : new.unacked ≡ old.unacked
  pub unsent : new.unsent ≡ old.unsent ++ message ∷ []
  pub room : old.room ≤ new.room + 1

-- the message stands behind so many of the unsent ones, and the room is one less
pub record Inserts (place message : ℕ) (old new : WindowState) : Type 0 where
  pub profile : new.profile ≡ old.profile
  pub last : new.last ≡ old.last
  pub unacked : new.unacked ≡ old.unacked
  pub unsent : new.unsent ≡ take place old.unsent ++ message ∷ drop place old.unsent
  pub room : old.room ≡ new.room + 1

-- the first unsent message was sent, and stands last among the unacknowledged ones
pub record Sends (message : ℕ) (old new : WindowState) : Type 0 where
  pub profile : new.profile ≡ old.profile
  pub last : new.last ≡ old.last
  pub unacked : new.unacked ≡ old.unacked ++ message ∷ []
  pub unsent : old.unsent ≡ message ∷ new.unsent
  pub room : old.room ≤ new.room

-- the first unsent message left
pub record Withdraws (old new : WindowState) : Type 0 where
  pub profile : new.profile ≡ old.profile
  pub last : new.last ≡ old.last
  pub unacked : new.unacked ≡ old.unacked
  pub unsent : new.unsent ≡ drop 1 old.unsent
  pub room : old.room ≤ new.room

-- the first unacknowledged message left, or where there was none the first unsent one
pub record Pops (message : ℕ) (old new : WindowState) : Type 0 where
  pub profile : new.profile ≡ old.profile
  pub last : new.last ≡ old.last
  pub messages : old.unacked ++ old.unsent ≡ message ∷ (new.unacked ++ new.unsent)
  pub one_less : length new.unacked ≡ length old.unacked - 1
  pub room : old.room ≤ new.room

-- LAW: the number of an unacknowledged message tells its place, and no two of them share a number
abbrev pub NumbersTellPlaces : Type 0
NumbersTellPlaces =
    (window : WindowState) (place number : ℕ) → IsWindow window → place < length window.unacked → number < fsn_count window.profile
    → (fsn_at window place ≡ number) ↔ (distance_to window number ≡ place + 1)

-- One direction of a link, counted in whole numbers since its life began: of `acked` messages the
-- window knows that they were accepted, `taken` were.
pub record IsOnLink (acked taken : ℕ) (window : WindowState) : Type 0 where
  pub sound : IsWindow window
  pub numbered : window.last ≡ (acked + fsn_before_first window.profile) % fsn_count window.profile
  pub at_least : acked ≤ taken
  pub at_most : taken ≤ acked + length window.unacked

-- LAW: numbers never mislead, since all that can meet lie in one span of so many as there are
pub record TellsCounts (acked taken : ℕ) (window : WindowState) : Type 0 where
  -- the BSN of a unit that was sent when so many had been accepted acknowledges just those
  pub backward : (count : ℕ) → acked ≤ count → count ≤ taken
      → acked + distance_to window ((count + fsn_before_first window.profile) % fsn_count window.profile) ≡ count
  -- a message that was sent when so many had been sent is the next to be accepted exactly if its
  -- FSN is the next one
  pub forward : (place sent : ℕ) → place < sent → sent ≤ place + most_unacked window.profile
      → taken ≤ sent → sent ≤ acked + length window.unacked
      → (place % fsn_count window.profile ≡ taken % fsn_count window.profile) ↔ (place ≡ taken)
  -- a FISU that was sent when so many had been sent has the FSN last accepted exactly if all those
  -- were accepted
  pub fill : (sent : ℕ) → taken ≤ sent → sent ≤ acked + length window.unacked
      → ((sent + fsn_before_first window.profile) % fsn_count window.profile
      ≡ (taken + fsn_before_first window.profile) % fsn_count window.profile) ↔ (sent ≡ taken)

abbrev pub NumbersNeverMislead : Type 0
NumbersNeverMislead =
    (acked taken : ℕ) (window : WindowState) → IsOnLink acked taken window → TellsCounts acked taken window
