-- THE ITEMS OF A HISTORY: entries, and checkpoints between them.
use Rattle.std.specs.Prelude.{◌≡◌, ◌↔◌, ◌+◌, List, [], ◌∷◌, ◌++◌, map}
use Rattle.set_core.specs.declared.item.Item.{Item}
use Rattle.set_core.specs.declared.item.Item.TheVariants.{Entered, Checkpoint}
use Rattle.set_events.specs.declared.books.Books.{Books}
use Rattle.set_events.specs.declared.history.Entry.{Entry}
use Rattle.set_model.specs.State.{State}
use Rattle.set_model.specs.Checkpoint.{checkpointed, counts_in}
use Rattle.set_model.specs.History.{Base, LinkSet, IsActor, IsLegal, after, added, based, books_of, calls_from, is_terminal, is_user, messages_of, octets_in_all}
use Rattle.set_model.specs.Step.{step}

-- what an item leaves: an entry what the step leaves, a checkpoint what isn't finished
abbrev pub left_by : State → Item → State
left_by s (Entered entry) = (step s entry.event).state
left_by s Checkpoint = checkpointed s

-- what a set holds after these items
abbrev pub after_items : State → List Item → State
after_items s [] = s
after_items s (item ∷ items) = after_items (left_by s item) items

-- an entry is right where its actor is in range and its answer is the step's; a checkpoint can be taken anywhere
abbrev pub IsRight : State → Item → Type 0
IsRight s (Entered entry) = IsActor entry.who × (entry.answer ≡ (step s entry.event).answer)
IsRight s Checkpoint = Unit {0}

-- LEGAL from this state on: each item is right at the state after those before it
abbrev pub AreLegal : State → List Item → Type 0
AreLegal s [] = Unit {0}
AreLegal s (item ∷ items) = IsRight s item × AreLegal (left_by s item) items

-- the entries among them
abbrev pub entries_among : List Item → List Entry
entries_among [] = []
entries_among (Entered entry ∷ items) = entry ∷ entries_among items
entries_among (Checkpoint ∷ items) = entries_among items

-- THE BOOKS run on over checkpoints: what all entries add up to
abbrev pub books_over : Base → List Item → Books
books_over base items = record {
  user_calls = added base.books.user_calls (calls_from is_user 0 64 (entries_among items));
  term_calls = added base.books.term_calls (calls_from is_terminal 0 16 (entries_among items));
  messages = base.books.messages + messages_of (entries_among items);
  octets = base.books.octets + octets_in_all (entries_among items);
  acknowledged = (counts_in (after_items base.state items)).acked;
}

-- a history without a checkpoint
abbrev pub entered : List Entry → List Item
entered entries = map Entered entries

-- LAW: without a checkpoint legality, what it leads to and the books are those of the entries
pub record IsAsEntries (base : Base) (entries : List Entry) : Type 0 where
  pub legal : AreLegal base.state (entered entries) ↔ IsLegal base.state entries
  pub state : after_items base.state (entered entries) ≡ after base.state entries
  pub books : books_over base (entered entries) ≡ books_of base entries

abbrev pub AreAsEntries : Type 0
AreAsEntries = (base : Base) (entries : List Entry) → IsAsEntries base entries

-- A PIECE is the entries since a base, with the checkpoint behind them
abbrev pub piece : List Entry → List Item
piece entries = entered entries ++ Checkpoint ∷ []

-- the set that made these entries since its base
abbrev pub set_of : Base → List Entry → LinkSet
set_of base entries = record { base = base; state = after base.state entries; history = entries }

-- LAW: behind a piece a history goes on from the base that the checkpoint made
pub record RunsOn (base : Base) (entries : List Entry) (items : List Item) : Type 0 where
  pub legal : AreLegal base.state (piece entries ++ items)
      ↔ (IsLegal base.state entries × AreLegal (based (set_of base entries)).base.state items)
  pub state : after_items base.state (piece entries ++ items)
      ≡ after_items (based (set_of base entries)).base.state items
  pub books : books_over base (piece entries ++ items) ≡ books_over (based (set_of base entries)).base items

abbrev pub RunOn : Type 0
RunOn = (base : Base) (entries : List Entry) (items : List Item) → RunsOn base entries items
