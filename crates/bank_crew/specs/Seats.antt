-- The number of a terminal's seat, and the calls of an actor.
use Rattle.std.specs.Prelude.{◌≡◌, ◌-◌, ℕ, List, [], ◌∷◌, ◌++◌, filter, length, take}
use Rattle.set_events.specs.declared.books.Books.{Books}
use Rattle.set_events.specs.declared.event.Actor.{Actor}
use Rattle.set_events.specs.declared.history.Entry.{Entry}
use Rattle.set_ledger.specs.Ending.{EndsWith, calls_at, is_by}
use Rattle.set_ledger.specs.Seats.{SeatState}
use Rattle.bank_crew.specs.declared.caller.Forgetting.{Forgetting}

-- the number of the terminal, or of the user
abbrev pub link_in : Actor → ℕ
link_in (Actor.User number) = number
link_in (Actor.Terminal link) = link

-- ALL CALLS of an actor, where these are the base's books and this is the history since: the last are those of the
-- history, and as many lie before them as the base's books count
abbrev pub AreCalls : Actor → Books → List Entry → List Entry → Type 0
AreCalls who books history calls = EndsWith 0 calls (calls_at who books) (filter (is_by who) history)

-- what a seat forgot, one time after another: the first receipts, which it lacks after
abbrev pub gone : SeatState → SeatState → List Entry
gone before after = take (length before.receipts - length after.receipts) before.receipts

abbrev pub joined : {S : Type 0} → (S → SeatState) → List (Forgetting S) → List Entry
joined of [] = []
joined of (f ∷ forgettings) = gone (of f.before.value) (of f.after.value) ++ joined of forgettings

-- A SEAT WITH ALL that was asked at it
pub record CallerState : Type 0 where
  pub seat : SeatState
  pub all : List Entry

abbrev pub caller_state : List Entry → SeatState → CallerState
caller_state forgotten seat = record { seat = seat; all = forgotten ++ seat.receipts }

-- these are all entries that were made at the seat: what it forgot, and then its receipts
pub record AreAll (seat : SeatState) (all : List Entry) : Type 0 where
  pub forgotten : List Entry
  pub all_are : all ≡ forgotten ++ seat.receipts
  pub many : length forgotten ≡ seat.forgotten.calls
