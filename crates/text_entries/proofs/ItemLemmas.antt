-- An item's text is read back, and the texts of pieces stand one behind another.
use Rattle.std.proofs.Common.{refl, ◌≡◌, ◌∙◌, ap, sym, [], ◌∷◌, ℕ, true, false, List, ◌++◌, Some, append_assoc, append-nil}
use Rattle.std.specs.Str.{bytes_eq}
use Rattle.std.proofs.lemmas.Slice.Eq.{bytes_eq-Decides}
use Rattle.set_core.specs.declared.item.Item.{Item}
use Rattle.set_core.specs.declared.item.Item.TheVariants.{Entered, Checkpoint}
use Rattle.set_core.specs.Items.{entered, piece}
use Rattle.text_entries.specs.Entries.{EntryFits, actor_text, entries_text, entry_text}
use Rattle.text_entries.specs.Reading.{entry_of}
use Rattle.text_entries.specs.Pieces.{AreTexts, ItemFits, checkpoint_text, item_of, item_text, items_text}
use Rattle.text_entries.proofs.ReadingLemmas.{UnitsHaveOneText, words_tell}
use Rattle.l2_units.specs.declared.profile.Profile.{Profile}
use Rattle.set_events.specs.declared.event.Actor.{Actor}
use Rattle.set_events.specs.declared.event.Actor.TheVariants.{User, Terminal}
use Rattle.set_events.specs.declared.history.Entry.{Entry}

-- an entry begins with its actor, which no checkpoint does
not_checkpoint : (who : Actor) (more : List ℕ) → bytes_eq (actor_text who ++ more) checkpoint_text ≡ false
not_checkpoint (User n) more = refl
not_checkpoint (Terminal n) more = refl

same_octets : (xs : List ℕ) → bytes_eq xs xs ≡ true
same_octets xs = (bytes_eq-Decides xs xs).1 refl

pub entry_again : (p : Profile) → UnitsHaveOneText p → (entry : Entry) → EntryFits p entry → entry_of p (entry_text p entry) ≡ Some entry
entry_again p law entry fits = rw (words_tell p law (entry_text p entry) entry fits refl, same_octets (entry_text p entry)) refl

pub item_again : (p : Profile) → UnitsHaveOneText p → (item : Item) → ItemFits p item → item_of p (item_text p item) ≡ Some item
item_again p law (Entered entry) fits = rw (not_checkpoint entry.who _, entry_again p law entry fits) refl
item_again p law Checkpoint fits = refl

pieces_text : (p : Profile) (xs ys : List Item) → items_text p (xs ++ ys) ≡ items_text p xs ++ items_text p ys
pieces_text p [] ys = refl
pieces_text p (x ∷ xs) ys =
    ap (λ (l : List ℕ). item_text p x ++ l) (pieces_text p xs ys) ∙ sym (append_assoc (item_text p x) (items_text p xs) (items_text p ys))

entered_text : (p : Profile) (entries : List Entry) → items_text p (entered entries) ≡ entries_text p entries
entered_text p [] = refl
entered_text p (entry ∷ entries) = ap (λ (l : List ℕ). entry_text p entry ++ l) (entered_text p entries)

pub are_texts : (p : Profile) → AreTexts p
are_texts p = record { pieces = pieces_text p; entries = entered_text p }

pub piece_text : (p : Profile) (entries : List Entry) → items_text p (piece entries) ≡ entries_text p entries ++ checkpoint_text
piece_text p entries =
    pieces_text p (entered entries) (Checkpoint ∷ []) ∙ ap (λ (l : List ℕ). l ++ (checkpoint_text ++ [])) (entered_text p entries)
    ∙ ap (λ (l : List ℕ). entries_text p entries ++ l) (append-nil checkpoint_text)
