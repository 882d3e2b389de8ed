-- THE TOTALS of a set: what its ledgers' books say, which is what its history adds up to.
use Rattle.std.specs.Prelude.{◌≡◌, ◌+◌, ◌*◌, ◌<◌, ◌≤◌, ℕ, [], Vec, vec_len, vec_capacity}
use Rattle.set_events.specs.declared.answer.Answer.{Answer}
use Rattle.set_events.specs.declared.answer.Counts.{Counts}
use Rattle.set_events.specs.declared.event.Actor.{Actor}
use Rattle.set_events.specs.declared.event.Actor.TheVariants.{User, Terminal}
use Rattle.set_events.specs.declared.event.Event.{Event}
use Rattle.set_model.specs.History.{LinkSet, books_in, entries_in, longest_history}
use Rattle.set_model.specs.Rows.{total_of}
use Rattle.set_model.specs.Step.{messages_in, octets_of}
use Rattle.set_ledger.specs.declared.share.Blanks.{Blanks}
use Rattle.set_ledger.specs.declared.share.SeatShare.{SeatShare}
use Rattle.set_ledger.specs.Seats.{acked_in}

-- a set with how many users and links have a seat, and what the books of its ledgers say
pub record HeldState : Type 0 where
  pub users : ℕ
  pub links : ℕ
  pub totals : SeatShare
  pub set : LinkSet

-- they are what its history adds up to: the entries, the accepted messages, their octets, those acknowledged
pub record AreTotals (totals : SeatShare) (set : LinkSet) : Type 0 where
  pub calls_is : totals.calls ≡ entries_in set
  pub messages_is : totals.messages ≡ (books_in set).messages
  pub octets_is : totals.octets ≡ (books_in set).octets
  pub acknowledged_is : totals.acknowledged ≡ acked_in set

-- THE LEDGER OF A FULL HISTORY has an amount only where it's full
abbrev pub TellsFull : ℕ → LinkSet → Type 0
TellsFull total set = 0 < total → longest_history ≤ entries_in set

-- four totals together
abbrev pub totals_of : ℕ → ℕ → ℕ → ℕ → SeatShare
totals_of calls messages octets acknowledged =
    record { calls = calls; messages = messages; octets = octets; acknowledged = acknowledged }

-- a user acknowledges nothing; a terminal accepts nothing
abbrev pub GainsNoOther : Actor → SeatShare → Type 0
GainsNoOther (User number) gained = gained.acknowledged ≡ 0
GainsNoOther (Terminal link) gained = (gained.messages ≡ 0) × (gained.octets ≡ 0)

-- what a step brought to the totals, and how far they go
pub record Gains (old : LinkSet) (who : Actor) (event : Event) (answer : Answer) (gained : SeatShare)
    (new : LinkSet) : Type 0 where
  pub call : gained.calls ≡ 1
  pub message : gained.messages ≡ messages_in answer
  pub octet : gained.octets ≡ octets_of event answer
  pub no_other : GainsNoOther who gained
  pub calls : entries_in new ≡ entries_in old + gained.calls
  pub messages : (books_in new).messages ≡ (books_in old).messages + gained.messages
  pub octets : (books_in new).octets ≡ (books_in old).octets + gained.octets
  pub acknowledged : acked_in new ≡ acked_in old + gained.acknowledged
  pub few_calls : entries_in new ≤ longest_history
  pub few_messages : (books_in new).messages ≤ longest_history
  pub few_octets : (books_in new).octets ≤ 273 * longest_history
  pub few_acknowledged : acked_in new ≤ longest_history

-- each seat has one part of each ledger that it moves: calls, checkpoints, and what tells of a full history, are everybody's,
-- messages and octets the users', acknowledgements the terminals'
pub record AreParts (blanks : Blanks) (users links : ℕ) : Type 0 where
  pub calls_cut : blanks.calls.parts ≡ users + links
  pub messages_cut : blanks.messages.parts ≡ users
  pub octets_cut : blanks.octets.parts ≡ users
  pub acknowledged_cut : blanks.acknowledged.parts ≡ links
  pub full_cut : blanks.full.parts ≡ users + links
  pub checkpoints_cut : blanks.checkpoints.parts ≡ users + links

-- what a seat has is a part of the totals, and so of what stands in each place
pub record IsPartOf (share totals : SeatShare) : Type 0 where
  pub calls : share.calls ≤ totals.calls
  pub messages : share.messages ≤ totals.messages
  pub octets : share.octets ≤ totals.octets
  pub acknowledged : share.acknowledged ≤ totals.acknowledged

pub record StandsIn (share : SeatShare) (counts : Counts) : Type 0 where
  pub messages : share.messages ≤ total_of counts
  pub acknowledged : share.acknowledged ≤ counts.acked

-- nothing yet, and room for so many
pub record IsRoom {T Z : Type 0} (seats : Vec T Z) (many : ℕ) : Type 0 where
  pub none : seats.items ≡ []
  pub no_length : vec_len seats ≡ 0
  pub wide : many ≤ vec_capacity seats
