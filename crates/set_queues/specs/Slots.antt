-- A TABLE BY NUMBER that forgets: of the numbers given out some have an item, and the slots of the others are empty. Of
-- the older numbers those that have one are kept, ascending; from a first number on each has one.
use Rattle.std.specs.Prelude.{◌≡◌, ◌≤◌, ◌+◌, ◌-◌, ◌^◌, ◌==◌, ◌++◌, ℕ, zero, suc, nat_le, nat_lt, Bool, List, [], ◌∷◌, length, Option, None, Some, slice_get, slice_index, if◌then◌else◌}
use Rattle.std.specs.Option.{option_and_then, option_map}

-- the item of this number, if it has one
abbrev pub slot_at : {X : Type 0} → ℕ → List (Option X) → Option X
slot_at number [] = None
slot_at zero (slot ∷ slots) = slot
slot_at (suc number) (slot ∷ slots) = slot_at number slots

-- the slots of so many numbers
abbrev pub slots_to : {X : Type 0} → ℕ → (ℕ → Option X) → List (Option X)
slots_to zero item = []
slots_to (suc n) item = slots_to n item ++ item n ∷ []

-- WHERE ITEMS STAND

-- the place of an older number
abbrev pub older_place : ℕ → List ℕ → Option ℕ
older_place number [] = None
older_place number (n ∷ ns) = if n == number then Some 0 else option_map suc (older_place number ns)

-- the place of any number, and among so many items
abbrev pub place_in : ℕ → List ℕ → ℕ → Option ℕ
place_in number older first =
    if nat_le first number then Some (length older + (number - first)) else older_place number older

abbrev pub place_within : ℕ → List ℕ → ℕ → ℕ → Option ℕ
place_within number older first items =
    if nat_le first number
    then (if nat_lt (number - first) (items - length older) then Some (length older + (number - first)) else None)
    else older_place number older

-- the number of the item at this place
abbrev pub number_at : ℕ → List ℕ → ℕ → ℕ
number_at place older first =
    if nat_lt place (length older) then slice_index older place else first + (place - length older)

-- the item of this number, if it has one
abbrev pub item_at : {X : Type 0} → ℕ → List ℕ → ℕ → List X → Option X
item_at number older first items = option_and_then (λ place. slice_get items place) (place_in number older first)

-- how many numbers were given out
abbrev pub given_to : List ℕ → ℕ → ℕ → ℕ
given_to older first items = first + (items - length older)

-- what these items are by their numbers
abbrev pub slots_of : {X : Type 0} → List ℕ → ℕ → List X → List (Option X)
slots_of older first items =
    slots_to (given_to older first (length items)) (λ number. item_at number older first items)

-- each older number is above those before it, and below the first of the others
abbrev pub AreOlder : ℕ → List ℕ → ℕ → Type 0
AreOlder from [] first = from ≤ first
AreOlder from (n ∷ ns) first = (from ≤ n) × AreOlder (suc n) ns first

-- at most so many numbers are given out, and so many more can be
abbrev pub most_numbers : ℕ
most_numbers = 2 ^ 63 - 1

abbrev pub room_for : List ℕ → ℕ → ℕ → ℕ
room_for older first items = most_numbers - given_to older first items

-- each of them has one of so many items
pub record AreSlots (older : List ℕ) (first items : ℕ) : Type 0 where
  pub order : AreOlder 0 older first
  pub many : length older ≤ items
  pub few : given_to older first items ≤ most_numbers

-- WHAT STAYS of the items of the numbers below one
pub record AreKept {X : Type 0} (stays : ℕ → Bool) (below : ℕ) (older : List ℕ) (first : ℕ) (items : List X)
    (older' : List ℕ) (items' : List X) : Type 0 where
  pub order : AreOlder 0 older' below
  pub many : length older' ≡ length items'
  pub each : (k : ℕ) → option_and_then (λ place. slice_get items' place) (older_place k older')
      ≡ (if nat_lt k below then (if stays k then item_at k older first items else None) else None)
