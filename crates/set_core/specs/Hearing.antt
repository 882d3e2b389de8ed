-- WHAT AN AUDITOR HAS HEARD of a history that is told item by item.
use Rattle.std.specs.Prelude.{◌≡◌, ◌≤◌, ◌*◌, ℕ, true, List, [], ◌∷◌, ◌++◌, length, Option, Some, None, slice_index}
use Rattle.set_core.specs.declared.auditor.Finding.{Finding}
use Rattle.set_core.specs.declared.auditor.Finding.TheVariants.{Right, WrongAnswer, NoSuchActor}
use Rattle.set_core.specs.FirstWrong.{IsFirstWrong, answer_at}
pub use Rattle.set_core.specs.FirstWrong.{is_actor}
use Rattle.set_core.specs.declared.item.Item.{Item}
use Rattle.set_core.specs.declared.item.Item.TheVariants.{Entered, Checkpoint}
use Rattle.set_core.specs.Items.{AreLegal, after_items, books_over, entries_among}
use Rattle.set_core.specs.declared.tally.Tally.{Tally}
use Rattle.set_events.specs.declared.answer.Answer.{Answer}
use Rattle.set_events.specs.declared.event.Actor.{Actor}
use Rattle.set_events.specs.declared.event.Event.{Event}
use Rattle.set_events.specs.declared.history.Entry.{Entry}
use Rattle.set_model.specs.History.{Base, entries_of, longest_history, no_books}
use Rattle.set_model.specs.Sound.{AreFew}
use Rattle.set_model.specs.State.{State}
use Rattle.set_changeover.specs.Agreement.{Kept, Agrees}

-- what is kept of the set, what was added up, and the answer to the last entry
pub record Hearing : Type 0 where
  pub core : Kept
  pub tally : Tally
  pub answer : Answer

abbrev pub hearing_of : Kept → Tally → Answer → Hearing
hearing_of core tally answer = record { core = core; tally = tally; answer = answer }

-- a set that opened so, and of which nothing was asked
abbrev pub unasked : State → Base
unasked opening = record { state = opening; books = no_books }

-- IT HAS HEARD these items since this base: they are legal, what is kept agrees with what they lead to, and the sums are
-- those of their books
pub record HasHeard (base : Base) (items : List Item) (h : Hearing) : Type 0 where
  pub legal : AreLegal base.state items
  pub agrees : Agrees h.core (after_items base.state items)
  pub user_calls : h.tally.user_calls ≡ (books_over base items).user_calls
  pub term_calls : h.tally.term_calls ≡ (books_over base items).term_calls
  pub messages : h.tally.messages ≡ (books_over base items).messages
  pub octets : h.tally.octets ≡ (books_over base items).octets
  pub entries : h.tally.entries ≡ entries_of base (entries_among items)
  -- the base's books have a number of calls for each actor
  pub users : length base.books.user_calls ≡ 64
  pub terminals : length base.books.term_calls ≡ 16

-- THE LAST ANSWER, behind an item that a set makes: to an entry its own, and a checkpoint is asked nothing
abbrev pub answer_after : Item → Answer → Answer
answer_after (Entered entry) last = entry.answer
answer_after Checkpoint last = last

-- memory is wanted only for a checkpoint, and for an entry whose actor is one that a set has
abbrev pub MayWant : Item → Type 0
MayWant (Entered entry) = is_actor entry.who ≡ true
MayWant Checkpoint = Unit {0}

abbrev pub IsEntry : Item → Type 0
IsEntry (Entered entry) = Unit {0}
IsEntry Checkpoint = ⊥

-- this item is the first wrong one behind those, whatever comes behind it, and a set answers so there
pub record IsWrongNext (opening : State) (items : List Item) (item : Item) (answer : Option Answer) : Type 0 where
  pub is_entry : IsEntry item
  pub first : (more : List Item) → IsFirstWrong opening (items ++ item ∷ more) (length items)
  pub there : (more : List Item) → answer_at opening (items ++ item ∷ more) (length items) ≡ answer

-- what is found of the next item
abbrev pub IsFound : Base → List Item → Item → Finding → Hearing → Type 0
IsFound base items item Right new = HasHeard base (items ++ item ∷ []) new
IsFound base items item WrongAnswer new = IsWrongNext base.state items item (Some new.answer)
IsFound base items item NoSuchActor new = IsWrongNext base.state items item None

-- an entry of these
abbrev pub entry_of : Actor → Event → Answer → Entry
entry_of who event answer = record { who = who; event = event; answer = answer }

-- What every auditor keeps, also one that has found an item wrong: there is a state that what is kept agrees with, and
-- no sum is greater than so many entries make it.
pub record CanGoOn (h : Hearing) : Type 0 where
  pub state : State
  pub agrees : Agrees h.core state
  pub few : AreFew h.tally.entries state
  pub short : h.tally.entries ≤ longest_history
  pub user_calls : (n : ℕ) → slice_index h.tally.user_calls n ≤ h.tally.entries
  pub term_calls : (n : ℕ) → slice_index h.tally.term_calls n ≤ h.tally.entries
  pub messages : h.tally.messages ≤ h.tally.entries
  pub octets : h.tally.octets ≤ 273 * h.tally.entries
