-- THE END of a set: all its seats are back, and their receipts end with its history.
use Rattle.std.specs.Prelude.{◌≡◌, ◌<◌, ◌≤◌, ◌+◌, ◌==◌, ℕ, zero, suc, Bool, true, false, List, [], ◌∷◌, ◌++◌, length, filter, sum_by, slice_get, unwrap_or, All, if◌then◌else◌}
use Rattle.set_events.specs.declared.event.Actor.{Actor}
use Rattle.set_events.specs.declared.event.Actor.TheVariants.{User, Terminal}
use Rattle.set_events.specs.declared.history.Entry.{Entry}
use Rattle.set_events.specs.declared.answer.Counts.{Counts}
use Rattle.set_events.specs.declared.books.Books.{Books}
use Rattle.set_model.specs.Checkpoint.{counts_in}
use Rattle.set_model.specs.History.{Base, IsLegal, after, books_of, entries_of, is_user, is_terminal, longest_history}
use Rattle.set_model.specs.Rows.{total_of}
use Rattle.set_ledger.specs.Seats.{SeatState}

-- COMPLETE: a seat of each user 0, 1, .. and of each terminal, and no seat more.
abbrev pub is_actor : Actor → Actor → Bool
is_actor (User number) who = is_user number who
is_actor (Terminal link) who = is_terminal link who

abbrev pub has_seat : {S : Type 0} → (S → SeatState) → Actor → List S → Bool
has_seat of who [] = false
has_seat of who (seat ∷ seats) = if is_actor who (of seat).who then true else has_seat of who seats

abbrev pub all_below : ℕ → (ℕ → Bool) → Bool
all_below zero holds = true
all_below (suc n) holds = if all_below n holds then holds n else false

abbrev pub are_seats : {S : Type 0} → (S → SeatState) → (ℕ → Actor) → ℕ → List S → Bool
are_seats of actor n seats = if length seats == n then all_below n (λ k. has_seat of (actor k) seats) else false

abbrev pub is_complete : ℕ → ℕ → List SeatState → List SeatState → Bool
is_complete users links user_seats term_seats =
    if are_seats (λ seat. seat) User users user_seats then are_seats (λ seat. seat) Terminal links term_seats else false

-- how many calls of this actor the books count
abbrev pub calls_at : Actor → Books → ℕ
calls_at (User number) books = unwrap_or (slice_get books.user_calls number) 0
calls_at (Terminal link) books = unwrap_or (slice_get books.term_calls link) 0

abbrev pub is_by : Actor → Entry → Bool
is_by who entry = is_actor who entry.who

-- FAITHFUL, where these are the base's books and this is the history since: a seat's receipts end with its entries of
-- the history, in order, and those before them are, with what it forgot, as many as the base's books count.
pub record EndsWith (forgotten : ℕ) (receipts : List Entry) (calls : ℕ) (own : List Entry) : Type 0 where
  pub before : List Entry
  pub receipts_are : receipts ≡ before ++ own
  pub all_before : forgotten + length before ≡ calls

abbrev pub IsFaithful : Books → List Entry → SeatState → Type 0
IsFaithful books history seat =
    EndsWith seat.forgotten.calls seat.receipts (calls_at seat.who books) (filter (is_by seat.who) history)

abbrev pub AreFaithful : Books → List Entry → List SeatState → List SeatState → Type 0
AreFaithful books history users terminals = All (IsFaithful books history) users × All (IsFaithful books history) terminals

-- where a seat was told of a full history, the history and what lies before its base have as many entries as one can
abbrev pub IsTrulyFull : Base → List Entry → SeatState → Type 0
IsTrulyFull base history seat = seat.full ≡ true → entries_of base history ≡ longest_history

-- CLOSED: what a set went on from, its history since and its totals, once its seats are back.
pub record IsClosed (users terminals : List SeatState) (base : Base) (history : List Entry) (books : Books)
    (counts : Counts) : Type 0 where
  pub legal : IsLegal base.state history
  pub books_are : books ≡ books_of base history
  pub counts_are : counts ≡ counts_in (after base.state history)
  -- each message that was accepted stands, or ended, in one place
  pub placed : total_of counts ≡ books.messages
  pub few : books.messages ≤ longest_history
  pub users_faithful : All (IsFaithful base.books history) users
  pub terminals_faithful : All (IsFaithful base.books history) terminals
  -- the totals are the sums of the shares
  pub calls : entries_of base history ≡ sum_by (λ (seat : SeatState). seat.share.calls) users
      + sum_by (λ (seat : SeatState). seat.share.calls) terminals
  pub messages : books.messages ≡ sum_by (λ (seat : SeatState). seat.share.messages) users
  pub octets : books.octets ≡ sum_by (λ (seat : SeatState). seat.share.octets) users
  pub acknowledged : books.acknowledged ≡ sum_by (λ (seat : SeatState). seat.share.acknowledged) terminals
  -- who was told of a full history was told the truth
  pub users_full : All (IsTrulyFull base history) users
  pub terminals_full : All (IsTrulyFull base history) terminals

-- how many checkpoints these seats took
abbrev pub checkpoints_by : List SeatState → List SeatState → ℕ
checkpoints_by users terminals =
    sum_by (λ (seat : SeatState). seat.checkpoints) users + sum_by (λ (seat : SeatState). seat.checkpoints) terminals

-- seats were taken apart: each has one part of a ledger, and this number of it is the amount
pub record IsMerged (number : SeatState → ℕ) (seats : List SeatState) (parts amount parts' amount' : ℕ) : Type 0 where
  pub parts_are : parts' ≡ parts + length seats
  pub amount_is : amount' ≡ amount + sum_by number seats

-- and its part of the ledger of a full history, with an amount where one of them was told so
pub record IsMergedFull (seats : List SeatState) (parts amount parts' amount' : ℕ) : Type 0 where
  pub parts_are : parts' ≡ parts + length seats
  pub amount_stays : amount ≤ amount'
  pub some : All (λ (seat : SeatState). seat.full ≡ true → 0 < amount') seats
