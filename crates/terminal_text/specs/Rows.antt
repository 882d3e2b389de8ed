-- ROWS UNDER WAY: what is printed of what turns show, while a row of units may go on.
use Rattle.std.specs.Prelude.{◌≡◌, ℕ, ◌+◌, true, false, List, [], ◌++◌, Option, Some, None}
use Rattle.term_managed.specs.Turns.{TurnAndDeeds}
use Rattle.l2_units.specs.declared.unit.Unit.{Unit as SignalUnit}
use Rattle.terminal_text.specs.Showing.{Shown, is_silent, leading, leading_at, row_line, shown_behind, turn_lines, unit_line, words_or}
use Rattle.terminal_text.specs.declared.rows.Row.{Row}
use Rattle.terminal_text.specs.declared.rows.Rows.{Rows}
use Rattle.terminal_text.specs.declared.stopping.Stopper.{Stopper}

-- what is left to print: the row that may go on, and what these turns show behind it
abbrev pub left_of : ℕ → Option Row → List Shown → List ℕ
left_of link None more = shown_behind link None more
left_of link (Some row) more =
    row_line link row.words.items (row.times + leading row.words.items more) ++ shown_behind link (Some row.words.items) more

-- the same where a turn's lines are printed, but not its unit yet
abbrev pub left_behind : ℕ → Option Row → Option SignalUnit → List Shown → List ℕ
left_behind link None unit more = unit_line link None unit more ++ shown_behind link (words_or unit None) more
left_behind link (Some row) unit more =
    row_line link row.words.items (row.times + leading_at row.words.items unit (leading row.words.items more))
    ++ (unit_line link (Some row.words.items) unit more ++ shown_behind link (words_or unit (Some row.words.items)) more)

-- a row that ends
abbrev pub row_text : ℕ → Option Row → List ℕ
row_text link None = []
row_text link (Some row) = row_line link row.words.items row.times

pub record EndsRow (old new : Rows) : Type 0 where
  pub text_is : new.text.items ≡ old.text.items ++ row_text old.link old.row
  pub link_is : new.link ≡ old.link
  pub row_is : new.row ≡ None

-- a turn is shown, but for its unit: where it shows something, the row ends before it
pub record ShowsLines (old : Rows) (stopper : Stopper) (turn : TurnAndDeeds) (new : Rows) : Type 0 where
  pub text_is : new.text.items ≡ old.text.items ++ (row_text old.link old.row ++ turn_lines old.link stopper turn)
  pub link_is : new.link ≡ old.link
  pub row_is : new.row ≡ None

pub record ShowsTurn (old : Rows) (stopper : Stopper) (turn : TurnAndDeeds) (new : Rows) : Type 0 where
  pub silent : is_silent turn ≡ true → new ≡ old
  pub loud : is_silent turn ≡ false → ShowsLines old stopper turn new

-- a unit is shown
pub record AddsUnit (old : Rows) (unit : SignalUnit) (new : Rows) : Type 0 where
  pub added : List ℕ
  pub text_is : new.text.items ≡ old.text.items ++ added
  pub link_is : new.link ≡ old.link
  pub goes_on : (more : List Shown)
      → left_behind old.link old.row (Some unit) more ≡ added ++ left_of old.link new.row more

-- turns and checkpoints are shown: whatever these and others show, this much of it is printed
pub record Shows (old : Rows) (heard : List Shown) (new : Rows) : Type 0 where
  pub added : List ℕ
  pub text_is : new.text.items ≡ old.text.items ++ added
  pub link_is : new.link ≡ old.link
  pub goes_on : (more : List Shown)
      → left_of old.link old.row (heard ++ more) ≡ added ++ left_of old.link new.row more
