-- A SET WITH ITS HISTORY: what it holds, and all that was ever asked of it and answered.
use Rattle.std.specs.Prelude.{◌≡◌, ◌<◌, ℕ, zero, suc, Bool, false, ◌==◌, ◌+◌, List, [], ◌∷◌, ◌++◌, length, replicate, sum, if◌then◌else◌, ◌^◌}
use Rattle.set_events.specs.declared.books.Books.{Books}
use Rattle.set_events.specs.declared.config.SetConfig.{SetConfig}
use Rattle.set_events.specs.declared.event.Actor.{Actor}
use Rattle.set_events.specs.declared.event.Actor.TheVariants.{User, Terminal}
use Rattle.set_events.specs.declared.history.Entry.{Entry}
use Rattle.set_model.specs.State.{State, new_state}
use Rattle.set_model.specs.Checkpoint.{checkpointed, counts_in}
use Rattle.set_model.specs.Step.{Answer, Event, step, messages_in, octets_of}

abbrev pub no_books : Books
no_books = record { user_calls = replicate 64 0; term_calls = replicate 16 0; messages = 0; octets = 0; acknowledged = 0 }

-- what a set goes on from: what it held then, and what it had added up by then. At first it's the opening.
pub record Base : Type 0 where
  pub state : State
  pub books : Books

abbrev pub opening_of : SetConfig → Base
opening_of config = record { state = new_state config; books = no_books }

-- the base, what the set holds now, and the entries from the one to the other
pub record LinkSet : Type 0 where
  pub base : Base
  pub state : State
  pub history : List Entry

-- a set that nothing was asked of
abbrev pub new_set : SetConfig → LinkSet
new_set config = record { base = opening_of config; state = new_state config; history = [] }

-- a set answered this event of this actor so: by the step, with the entry put last
pub record IsStep (old : LinkSet) (who : Actor) (event : Event) (answer : Answer) (new : LinkSet) : Type 0 where
  pub base_is : new.base ≡ old.base
  pub answer_is : answer ≡ (step old.state event).answer
  pub state_is : new.state ≡ (step old.state event).state
  pub history_is : new.history ≡ old.history ++ record { who = who; event = event; answer = answer } ∷ []

-- who can ask: a user below 64, a terminal below 16
abbrev pub IsActor : Actor → Type 0
IsActor (User number) = number < 64
IsActor (Terminal link) = link < 16

-- LEGAL. From this opening on, each entry is of an actor in range, and its answer is that of the step at the state
-- after the entries before it.
abbrev pub IsLegal : State → List Entry → Type 0
IsLegal s [] = Unit {0}
IsLegal s (entry ∷ entries) =
    IsActor entry.who × (entry.answer ≡ (step s entry.event).answer) × IsLegal (step s entry.event).state entries

-- what a set holds after these entries
abbrev pub after : State → List Entry → State
after s [] = s
after s (entry ∷ entries) = after (step s entry.event).state entries

-- a history has at most so many entries
abbrev pub longest_history : ℕ
longest_history = 2 ^ 48

-- THE BOOKS of a history.

abbrev pub added : List ℕ → List ℕ → List ℕ
added [] ns = ns
added (m ∷ ms) [] = m ∷ ms
added (m ∷ ms) (n ∷ ns) = (m + n) ∷ added ms ns

-- how many entries such actors made
abbrev pub calls_of : (Actor → Bool) → List Entry → ℕ
calls_of is_it [] = 0
calls_of is_it (entry ∷ entries) = (if is_it entry.who then 1 else 0) + calls_of is_it entries

abbrev pub is_user : ℕ → Actor → Bool
is_user n (User number) = number == n
is_user n (Terminal link) = false

abbrev pub is_terminal : ℕ → Actor → Bool
is_terminal n (User number) = false
is_terminal n (Terminal link) = link == n

-- how many each of them made, those of the numbers from k on, n of them
unfoldable pub calls_from : (ℕ → Actor → Bool) → ℕ → ℕ → List Entry → List ℕ
calls_from is_it k zero history = []
calls_from is_it k (suc n) history = calls_of (is_it k) history ∷ calls_from is_it (suc k) n history

-- the messages that were accepted, and the octets of their bodies
abbrev pub messages_of : List Entry → ℕ
messages_of [] = 0
messages_of (entry ∷ entries) = messages_in entry.answer + messages_of entries

abbrev pub octets_in_all : List Entry → ℕ
octets_in_all [] = 0
octets_in_all (entry ∷ entries) = octets_of entry.event entry.answer + octets_in_all entries

-- what was acknowledged stays so, hence those that were are those that are
abbrev pub books_of : Base → List Entry → Books
books_of base history = record {
  user_calls = added base.books.user_calls (calls_from is_user 0 64 history);
  term_calls = added base.books.term_calls (calls_from is_terminal 0 16 history);
  messages = base.books.messages + messages_of history;
  octets = base.books.octets + octets_in_all history;
  acknowledged = (counts_in (after base.state history)).acked;
}

abbrev pub books_in : LinkSet → Books
books_in set = books_of set.base set.history

-- how many entries were made since the opening: each is one actor's call
abbrev pub entries_of : Base → List Entry → ℕ
entries_of base history = sum base.books.user_calls + sum base.books.term_calls + length history

abbrev pub entries_in : LinkSet → ℕ
entries_in set = entries_of set.base set.history

-- A CHECKPOINT: what the set holds is the base from now on, without what is finished, and the history begins anew
abbrev pub based : LinkSet → LinkSet
based set = record {
  base = record { state = checkpointed set.state; books = books_in set };
  state = checkpointed set.state;
  history = [];
}
