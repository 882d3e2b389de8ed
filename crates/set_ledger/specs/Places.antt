-- WHERE EACH SEAT'S RECEIPTS STAND while a history is read once for all seats.
use Rattle.std.specs.Prelude.{◌≡◌, ◌<◌, ◌≤◌, ◌+◌, ◌%◌, ◌↔◌, ℕ, List, length, drop, filter, slice_index_or, All, Option, Some, None}
use Rattle.set_events.specs.declared.books.Books.{Books}
use Rattle.set_events.specs.declared.event.Actor.{Actor}
use Rattle.set_events.specs.declared.event.Actor.TheVariants.{User, Terminal}
use Rattle.set_events.specs.declared.history.Entry.{Entry}
use Rattle.set_ledger.specs.Ending.{IsFaithful, is_by}
use Rattle.set_ledger.specs.Seats.{SeatState}
use Rattle.set_ledger.specs.declared.places.Own.{Own}

-- the place of an actor's receipts: no two of one set share one
abbrev pub place_of : Actor → ℕ
place_of (User number) = number % 64
place_of (Terminal link) = 64 + link % 16

abbrev pub IsAt : ℕ → Option Own → Type 0
IsAt k None = Unit {0}
IsAt k (Some own) = place_of own.who ≡ k

-- the receipts that are left in a place are its actor's entries of what is left of the history
abbrev pub IsLeft : Option Own → List Entry → Type 0
IsLeft None left = Unit {0}
IsLeft (Some own) left = own.receipts ≡ filter (is_by own.who) left

-- and so in each place
abbrev pub at : List (Option Own) → ℕ → Option Own
at places k = slice_index_or places k None

pub record AreAt (places : List (Option Own)) : Type 0 where
  pub long : length places ≡ 80
  pub each : (k : ℕ) → IsAt k (at places k)

abbrev pub AreLeft : List (Option Own) → List Entry → Type 0
AreLeft places left = (k : ℕ) → IsLeft (at places k) left

pub record AreEmpty (places : List (Option Own)) : Type 0 where
  pub long : length places ≡ 80
  pub each : (k : ℕ) → at places k ≡ None

-- nothing of this actor's stands there
abbrev pub IsNot : Actor → Option Own → Type 0
IsNot who None = Unit {0}
IsNot who (Some own) = own.who ≡ who → ⊥

-- a seat's receipts since a base, whichever history there was
pub record IsOwn (books : Books) (seat : SeatState) (own : Own) : Type 0 where
  pub who_is : own.who ≡ seat.who
  pub decides : (history : List Entry) → IsFaithful books history seat ↔ IsLeft (Some own) history

abbrev pub IsNever : Books → SeatState → Type 0
IsNever books seat = (history : List Entry) → IsFaithful books history seat → ⊥

-- the first so many seats have their places, which decide for them; where there is a seat one has
pub record ArePut {S : Type 0} (of : S → SeatState) (books : Books) (seats : List S) (many : ℕ) (places : List (Option Own)) : Type 0 where
  pub few : many ≤ length seats
  pub some : 0 < length seats → 0 < many
  pub are_at : AreAt places
  pub decide : (history : List Entry) → All (λ seat. IsFaithful books history (of seat)) seats
      ↔ (AreLeft places history × All (λ seat. IsFaithful books history (of seat)) (drop many seats))
