-- The units on a line between the ends of a link, as the error controls see them.
use Rattle.std.specs.Prelude.{ℕ, Option}
use Rattle.l2_units.specs.declared.unit.Header.{Header}

-- a unit on its way: an MSU has a message
pub record Carried : Type 0 where
  pub head : Header
  pub message : Option ℕ
