-- What an entry brings to the books, and how far they go: what is added up of several parts of a history.
use Rattle.std.specs.Prelude.{◌≡◌, ◌≤◌, ℕ, ◌+◌, ◌*◌, List, All, slice_index, slice_set}
use Rattle.set_events.specs.declared.answer.Answer.{Answer}
use Rattle.set_events.specs.declared.books.Books.{Books}
use Rattle.set_events.specs.declared.event.Actor.{Actor}
use Rattle.set_events.specs.declared.event.Actor.TheVariants.{User, Terminal}
use Rattle.set_events.specs.declared.event.Event.{Event}
use Rattle.set_events.specs.Owners.{IsOwn}
use Rattle.set_model.specs.Step.{messages_in, octets_of}
use Rattle.set_model.specs.History.{longest_history}

-- one call more of this number
abbrev pub one_more : ℕ → List ℕ → List ℕ
one_more number calls = slice_set calls number (slice_index calls number + 1)

-- one call more of this actor
abbrev pub users_after : Actor → List ℕ → List ℕ
users_after (User number) calls = one_more number calls
users_after (Terminal link) calls = calls

abbrev pub terminals_after : Actor → List ℕ → List ℕ
terminals_after (User number) calls = calls
terminals_after (Terminal link) calls = one_more link calls

-- a user acknowledges nothing; a terminal accepts nothing
abbrev pub GainsNoOther : Actor → Books → Books → Type 0
GainsNoOther (User number) old new = new.acknowledged ≡ old.acknowledged
GainsNoOther (Terminal link) old new = (new.messages ≡ old.messages) × (new.octets ≡ old.octets)

-- the books before and after an entry
pub record BooksGain (old : Books) (who : Actor) (event : Event) (answer : Answer) (new : Books) : Type 0 where
  pub user_calls : new.user_calls ≡ users_after who old.user_calls
  pub term_calls : new.term_calls ≡ terminals_after who old.term_calls
  pub messages : new.messages ≡ old.messages + messages_in answer
  pub octets : new.octets ≡ old.octets + octets_of event answer
  pub acknowledged : old.acknowledged ≤ new.acknowledged
  pub own : IsOwn who event → GainsNoOther who old new

-- a set has at most 2^48 entries, and each brings one call, at most one message, and at most 273 octets
pub record AreBounded (books : Books) : Type 0 where
  pub user_calls : All (λ n. n ≤ longest_history) books.user_calls
  pub term_calls : All (λ n. n ≤ longest_history) books.term_calls
  pub messages : books.messages ≤ longest_history
  pub octets : books.octets ≤ 273 * longest_history
  pub acknowledged : books.acknowledged ≤ books.messages
