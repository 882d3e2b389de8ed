-- A unit under way, with its body left in its line.
use Rattle.std.specs.Prelude.{◌≡◌, ℕ, List, slice_get, Option, Some, None}
use Rattle.l2_units.specs.Lent.{unit_in}
use Rattle.l2_units.specs.declared.lent.UnitRef.{UnitRef}
use Rattle.l2_units.specs.declared.unit.Unit.{Unit as SignalUnit}

-- the unit at a place of a line; there is none exactly where the line ends before
abbrev pub IsUnitAt : List SignalUnit → ℕ → Option UnitRef → Type 0
IsUnitAt line place None = slice_get line place ≡ None
IsUnitAt line place (Some unit) = slice_get line place ≡ Some (unit_in unit)
