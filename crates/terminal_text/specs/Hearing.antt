-- A LINE UNDER WAY: what came on it so far, and what its turns showed.
use Rattle.std.specs.Prelude.{◌≡◌, ℕ, ◌+◌, Bool, List, ◌++◌, length, map}
use Rattle.terminal_text.specs.Forgetting.{HearsEach}
use Rattle.terminal_text.specs.Rows.{Shows}
use Rattle.terminal_text.specs.Showing.{Shown, turns_among, without_unit}
use Rattle.terminal_text.specs.declared.forgetting.ForgettingBench.{ForgettingBench}
use Rattle.terminal_text.specs.declared.hearing.Hearing.{Hearing}
use Rattle.terminal_text.specs.declared.rows.Rows.{Rows}

-- pieces of bits came, and their turns were shown and counted
pub record Hears (link : ℕ) (pieces : List (List Bool)) (old new : ForgettingBench) (was now : Hearing) : Type 0 where
  pub items : List Shown
  pub hears : HearsEach link pieces old items new
  pub shows : Shows was.rows items now.rows
  pub turns_are : now.turns ≡ was.turns + length (turns_among items)
  pub links : length new.managed.bench.links ≡ length old.managed.bench.links

-- pieces of bits came, their turns were shown without units, and what they put was kept
pub record Exchanging (link : ℕ) (pieces : List (List Bool)) (old new : ForgettingBench) (was now : Rows) (before after : List ℕ)
    : Type 0 where
  pub items : List Shown
  pub hears : HearsEach link pieces old items new
  pub shows : Shows was (map without_unit items) now
  pub put_is : after ≡ before ++ map (λ h. h.turn.turn.put) (turns_among items)
  pub links : length new.managed.bench.links ≡ length old.managed.bench.links
