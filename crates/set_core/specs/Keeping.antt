-- What every set keeps beside the model: its history is legal, what it keeps agrees with the state after it, and its
-- tally is that history's.
use Rattle.std.specs.Prelude.{◌≡◌, ◌≤◌, ℕ, ◌+◌, ◌*◌, List, length, sum}
use Rattle.set_events.specs.declared.books.Books.{Books}
use Rattle.set_events.specs.declared.history.Entry.{Entry}
use Rattle.set_core.specs.declared.tally.Tally.{Tally}
use Rattle.set_model.specs.Sound.{AreFew}
use Rattle.set_model.specs.Rows.{total_of}
use Rattle.set_model.specs.State.{State}
use Rattle.set_model.specs.Checkpoint.{counts_in}
use Rattle.set_model.specs.History.{Base, LinkSet, IsLegal, after, books_of, entries_of, longest_history}
use Rattle.set_changeover.specs.Agreement.{Kept, Agrees, shown}

-- what the set held at first, all that was asked and answered since, and what it holds after that
abbrev pub with_history : Base → List Entry → LinkSet
with_history base history = record { base = base; state = after base.state history; history = history }

-- the running sums are those of the books
pub record IsTally (tally : Tally) (books : Books) : Type 0 where
  pub user_calls : tally.user_calls ≡ books.user_calls
  pub term_calls : tally.term_calls ≡ books.term_calls
  pub messages : tally.messages ≡ books.messages
  pub octets : tally.octets ≡ books.octets
  -- each entry is the call of one actor
  pub entries : tally.entries ≡ sum books.user_calls + sum books.term_calls

-- the books of which this is the tally, where so many messages are acknowledged
abbrev pub books_by : Tally → ℕ → Books
books_by tally acknowledged = record {
  user_calls = tally.user_calls;
  term_calls = tally.term_calls;
  messages = tally.messages;
  octets = tally.octets;
  acknowledged = acknowledged;
}

-- the base that has this state, and the books of this tally
abbrev pub base_at : State → Tally → Base
base_at state tally = record { state = state; books = books_by tally (counts_in state).acked }

-- the base of which this is kept: its rows stand in this order of their numbers
abbrev pub base_of : List ℕ → Kept → Tally → Base
base_of order kept tally = base_at (shown order kept) tally

pub record IsKept (base : Base) (kept : Kept) (tally : Tally) (history : List Entry) : Type 0 where
  pub legal : IsLegal base.state history
  pub agrees : Agrees kept (after base.state history)
  pub counted : IsTally tally (books_of base history)
  -- the books have a number of calls for each actor
  pub users : length base.books.user_calls ≡ 64
  pub terminals : length base.books.term_calls ≡ 16
  -- each entry is the call of one actor
  pub calls : sum (books_of base history).user_calls + sum (books_of base history).term_calls ≡ entries_of base history
  -- each accepted message stands in one place
  pub placed : total_of (counts_in (after base.state history)) ≡ (books_of base history).messages
  -- the bounds
  pub short : entries_of base history ≤ longest_history
  pub messages : (books_of base history).messages ≤ entries_of base history
  pub octets : (books_of base history).octets ≤ 273 * entries_of base history
  pub few : AreFew (entries_of base history) (after base.state history)
