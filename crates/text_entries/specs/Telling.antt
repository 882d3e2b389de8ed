-- What the lines of a text tell as a history.
use Rattle.std.specs.Prelude.{ℕ, Bool, suc, nat_lt, List, [], ◌∷◌, ◌++◌, length, Option, None, Some, if◌then◌else◌}
use Rattle.std.specs.Option.{option_map}
use Rattle.l2_units.specs.declared.profile.Profile.{Profile}
use Rattle.set_model.specs.State.{Settings}
use Rattle.set_core.specs.declared.item.Item.{Item}
use Rattle.text_entries.specs.Pieces.{item_of}
use Rattle.text_lines.specs.declared.flaw.LineFlaw.{LineFlaw}
use Rattle.text_lines.specs.declared.flaw.LineFlaw.TheVariants.{VeryLong, Words}
use Rattle.text_lines.specs.Flaws.{flaw_of}
use Rattle.text_lines.specs.Lines.{is_remark, lines_of}
use Rattle.text_entries.specs.FirstLine.{settings_in}

-- what the set was opened with, if that is told yet; the items, and the number of the line of each
pub record Told : Type 0 where
  pub settings : Option Settings
  pub items : List Item
  pub lines : List ℕ

abbrev pub nothing_told : Told
nothing_told = record { settings = None; items = []; lines = [] }

-- the first line that is no remark is the configuration
abbrev pub opened : Told → List ℕ → Option Told
opened told line = option_map (λ s. record told { settings = Some s }) (settings_in line)

-- an item more, on the line of this number
abbrev pub with_item : ℕ → Told → Item → Told
with_item n told item = record told { items = told.items ++ item ∷ []; lines = told.lines ++ n ∷ [] }

-- each further one is an item
abbrev pub told_next : ℕ → Profile → Told → List ℕ → Option Told
told_next n profile told line =
    option_map (λ item. with_item n told item) (item_of profile (line ++ 10 ∷ []))

abbrev pub told_by : ℕ → Option Settings → Told → List ℕ → Option Told
told_by n None told line = opened told line
told_by n (Some s) told line = told_next n s.profile told line

-- an empty line, and one that begins with #, tells nothing
abbrev pub with_line : ℕ → Told → List ℕ → Option Told
with_line n told line = if is_remark line then Some told else told_by n told.settings told line

-- A line of over 16,384 octets can't be read, whatever it is.
abbrev pub longest_line : ℕ
longest_line = 16384

abbrev pub is_very_long : List ℕ → Bool
is_very_long line = nat_lt longest_line (length line)

abbrev pub with_any_line : ℕ → Told → List ℕ → Option Told
with_any_line n told line = if is_very_long line then None else with_line n told line

abbrev pub flaw_in : List ℕ → LineFlaw
flaw_in line = if is_very_long line then VeryLong else flaw_of line

-- A text tells a history; or the line of this number can't be read, for this flaw, the one behind the last where there
-- is no configuration.
pub data Telling : Type 0 where
  tells : Settings → List Item → List ℕ → Telling
  unreadable : ℕ → LineFlaw → Telling

abbrev pub told_in_all : ℕ → Option Settings → Told → Telling
told_in_all n None told = unreadable n Words
told_in_all n (Some s) told = tells s told.items told.lines

abbrev pub goes_on : ℕ → List ℕ → Option Told → (Told → Telling) → Telling
goes_on n line None next = unreadable n (flaw_in line)
goes_on n line (Some told) next = next told

-- the lines from this number on
abbrev pub told_from : ℕ → Told → List (List ℕ) → Telling
told_from n told [] = told_in_all n told.settings told
told_from n told (line ∷ lines) =
    goes_on n line (with_any_line n told line) (λ next. told_from (suc n) next lines)

-- THE HISTORY that a text tells: its lines are counted from 1
abbrev pub history_in : List ℕ → Telling
history_in input = told_from 1 nothing_told (lines_of input)
