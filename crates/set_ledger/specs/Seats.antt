-- SEATS: who asks a set, what share of the totals each has, and a receipt for each step that it made.
use Rattle.std.specs.Prelude.{◌≡◌, ℕ, zero, suc, Bool, true, false, List, [], ◌∷◌, ◌++◌, ◌+◌, ◌<◌, ◌≤◌, ◌^◌, drop, length}
use Rattle.set_events.specs.declared.answer.Answer.{Answer}
use Rattle.set_events.specs.declared.event.Actor.{Actor}
use Rattle.set_events.specs.declared.event.Actor.TheVariants.{User, Terminal}
use Rattle.set_events.specs.declared.event.Event.{Event}
use Rattle.set_events.specs.declared.fault.SetFault.{SetFault}
use Rattle.set_events.specs.declared.history.Entry.{Entry}
use Rattle.set_ledger.specs.declared.share.Forgotten.{Forgotten}
use Rattle.set_ledger.specs.declared.share.SeatShare.{SeatShare}
use Rattle.set_model.specs.History.{LinkSet, books_in, messages_of, octets_in_all}
use Rattle.set_model.specs.Step.{messages_in, octets_of}

pub record SeatState : Type 0 where
  pub who : Actor
  pub share : SeatShare
  -- what the receipts that it forgot added up to
  pub forgotten : Forgotten
  pub receipts : List Entry
  -- it was told that the history is full
  pub full : Bool
  -- how many checkpoints it took
  pub checkpoints : ℕ

-- what a user's numbers and receipts show, and a terminal's
abbrev pub user_share : ℕ → ℕ → ℕ → SeatShare
user_share calls messages octets = record { calls = calls; messages = messages; octets = octets; acknowledged = 0 }

abbrev pub term_share : ℕ → ℕ → SeatShare
term_share calls acknowledged = record { calls = calls; messages = 0; octets = 0; acknowledged = acknowledged }

abbrev pub user_state : ℕ → ℕ → ℕ → ℕ → Forgotten → List Entry → Bool → ℕ → SeatState
user_state number calls messages octets forgotten receipts full checkpoints = record {
  who = User number;
  share = user_share calls messages octets;
  forgotten = forgotten;
  receipts = receipts;
  full = full;
  checkpoints = checkpoints;
}

abbrev pub term_state : ℕ → ℕ → ℕ → Forgotten → List Entry → Bool → ℕ → SeatState
term_state link calls acknowledged forgotten receipts full checkpoints = record {
  who = Terminal link;
  share = term_share calls acknowledged;
  forgotten = forgotten;
  receipts = receipts;
  full = full;
  checkpoints = checkpoints;
}

-- a seat from which nothing was asked
abbrev pub no_share : SeatShare
no_share = record { calls = 0; messages = 0; octets = 0; acknowledged = 0 }

abbrev pub nothing_forgotten : Forgotten
nothing_forgotten = record { calls = 0; messages = 0; octets = 0 }

abbrev pub new_seat : Actor → SeatState
new_seat who = record { who = who; share = no_share; forgotten = nothing_forgotten; receipts = []; full = false; checkpoints = 0 }

-- the seats of the actors 0, 1, .. below a number
abbrev pub new_seats : (ℕ → Actor) → ℕ → List SeatState
new_seats actor zero = []
new_seats actor (suc n) = new_seats actor n ++ new_seat (actor n) ∷ []

-- one entry more, or these entries
abbrev pub with_entry : Forgotten → Entry → Forgotten
with_entry f entry = record {
  calls = f.calls + 1;
  messages = f.messages + messages_in entry.answer;
  octets = f.octets + octets_of entry.event entry.answer;
}

abbrev pub with_entries : Forgotten → List Entry → Forgotten
with_entries f entries = record {
  calls = f.calls + length entries;
  messages = f.messages + messages_of entries;
  octets = f.octets + octets_in_all entries;
}

-- numbers that a share has
pub record IsCountable (f : Forgotten) : Type 0 where
  pub calls : f.calls < 2 ^ 64
  pub messages : f.messages < 2 ^ 64
  pub octets : f.octets < 2 ^ 64

-- A SHARE is what the receipts add up to with those that were forgotten, but for what was acknowledged, which no answer
-- tells.
pub record AddsUp (seat : SeatState) : Type 0 where
  pub calls : seat.share.calls ≡ (with_entries seat.forgotten seat.receipts).calls
  pub messages : seat.share.messages ≡ (with_entries seat.forgotten seat.receipts).messages
  pub octets : seat.share.octets ≡ (with_entries seat.forgotten seat.receipts).octets

-- what an entry brings to the share of the seat that made it, but for acknowledgements
pub record ShareGrows (old : SeatShare) (event : Event) (answer : Answer) (new : SeatShare) : Type 0 where
  pub calls : new.calls ≡ old.calls + 1
  pub messages : new.messages ≡ old.messages + messages_in answer
  pub octets : new.octets ≡ old.octets + octets_of event answer

-- the users' messages that are acknowledged, by the books of the history
abbrev pub acked_in : LinkSet → ℕ
acked_in set = (books_in set).acknowledged

-- A RECEIPT: the entry that was made stands last among the seat's, and its share grows by what that entry brought.
pub record Receives (old : SeatState) (event : Event) (answer : Answer) (new : SeatState) : Type 0 where
  pub who_same : new.who ≡ old.who
  pub forgotten_same : new.forgotten ≡ old.forgotten
  pub full_same : new.full ≡ old.full
  pub checkpoints_same : new.checkpoints ≡ old.checkpoints
  pub receipt : new.receipts ≡ old.receipts ++ record { who = old.who; event = event; answer = answer } ∷ []
  pub grows : ShareGrows old.share event answer new.share

-- AT A FAULT a seat is as it was, but that it keeps that it was told of a full history
abbrev pub refused : SetFault → SeatState → SeatState
refused SetFault.NoMemory seat = seat
refused SetFault.Exhausted seat = record seat { full = true }

-- A CHECKPOINT that it took: its receipts stay
abbrev pub one_checkpoint_more : SeatState → SeatState
one_checkpoint_more seat = record seat { checkpoints = seat.checkpoints + 1 }

-- what a step acknowledged is the share's of the seat that made it
abbrev pub AcknowledgesAs : LinkSet → LinkSet → SeatShare → SeatShare → Type 0
AcknowledgesAs set set' old new = new.acknowledged + acked_in set ≡ old.acknowledged + acked_in set'

-- FORGETTING: the first so many receipts are gone, or all, where there are fewer; what was forgotten and the receipts add up
-- to the same.
pub record Forgets (many : ℕ) (old new : SeatState) : Type 0 where
  pub who_same : new.who ≡ old.who
  pub share_same : new.share ≡ old.share
  pub full_same : new.full ≡ old.full
  pub checkpoints_same : new.checkpoints ≡ old.checkpoints
  pub receipts_are : new.receipts ≡ drop many old.receipts
  pub sum_same : with_entries new.forgotten new.receipts ≡ with_entries old.forgotten old.receipts

-- one part, with this amount, went back to a share
pub record Returns (parts amount told parts' amount' : ℕ) : Type 0 where
  pub parts_are : parts' ≡ parts + 1
  pub amount_is : amount' ≡ amount + told

-- and its part of the ledger of a full history, with an amount where it was told so
pub record ReturnsFull (parts amount : ℕ) (told : Bool) (parts' amount' : ℕ) : Type 0 where
  pub parts_are : parts' ≡ parts + 1
  pub amount_stays : amount ≤ amount'
  pub some : told ≡ true → 0 < amount'
