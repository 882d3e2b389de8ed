-- THE TEXT OF A HISTORY IN PIECES: its items, a line each.
use Rattle.std.specs.Prelude.{◌≡◌, ℕ, List, [], ◌∷◌, ◌++◌, Option, Some, codes, if◌then◌else◌}
use Rattle.std.specs.Option.{option_map}
use Rattle.std.specs.Str.{bytes_eq}
use Rattle.set_core.specs.declared.item.Item.{Item}
use Rattle.set_core.specs.declared.item.Item.TheVariants.{Entered, Checkpoint}
use Rattle.set_core.specs.Items.{entered}
use Rattle.text_entries.specs.Entries.{EntryFits, entries_text, entry_text}
use Rattle.text_entries.specs.Reading.{entry_of}
use Rattle.l2_units.specs.declared.profile.Profile.{Profile}
use Rattle.set_events.specs.declared.history.Entry.{Entry}

-- a checkpoint is this word
abbrev pub checkpoint_text : List ℕ
checkpoint_text = codes "checkpoint\n"

abbrev pub item_text : Profile → Item → List ℕ
item_text profile (Entered entry) = entry_text profile entry
item_text profile Checkpoint = checkpoint_text

abbrev pub items_text : Profile → List Item → List ℕ
items_text profile [] = []
items_text profile (item ∷ items) = item_text profile item ++ items_text profile items

-- THE ITEM of a history of this profile whose text a line is, with its LF
abbrev pub item_of : Profile → List ℕ → Option Item
item_of profile line =
    if bytes_eq line checkpoint_text then Some Checkpoint else option_map Entered (entry_of profile line)

abbrev pub ItemFits : Profile → Item → Type 0
ItemFits profile (Entered entry) = EntryFits profile entry
ItemFits profile Checkpoint = Unit {0}

-- LAW: an item's text is read back as that item
abbrev pub ItemsReadBack : Type 0
ItemsReadBack =
    (profile : Profile) (item : Item) → ItemFits profile item → item_of profile (item_text profile item) ≡ Some item

-- LAW: pieces one behind another are the text of the whole, and a history without a checkpoint is its entries' text
pub record AreTexts (profile : Profile) : Type 0 where
  pub pieces : (xs ys : List Item) → items_text profile (xs ++ ys) ≡ items_text profile xs ++ items_text profile ys
  pub entries : (entries : List Entry) → items_text profile (entered entries) ≡ entries_text profile entries

abbrev pub PiecesAreTheWhole : Type 0
PiecesAreTheWhole = (profile : Profile) → AreTexts profile
