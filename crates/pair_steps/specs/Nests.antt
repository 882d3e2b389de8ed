-- STRETCHES of a line, one behind another: the units of all.
use Rattle.std.specs.Prelude.{◌≡◌, ℕ, ◌+◌, ◌<◌, ◌≤◌, List, [], ◌∷◌, ◌++◌, length, take, slice_get, Option, Some, None}
use Rattle.l2_units.specs.declared.unit.Unit.{Unit as SignalUnit}

-- the units of each, told by a function, one behind another
abbrev pub joined : {S : Type 0} → (S → List SignalUnit) → List S → List SignalUnit
joined units [] = []
joined units (s ∷ ss) = units s ++ joined units ss

-- the unit at a place of all is that at another place of this one
pub record StandsIn {S : Type 0} (units : S → List SignalUnit) (parts : List S) (place index rest : ℕ) (part : S) : Type 0 where
  pub there : slice_get parts index ≡ Some part
  pub before : length (joined units (take index parts)) + rest ≡ place
  pub within : rest < length (units part)

-- which of them has the unit at a place, and at which place of it; none does exactly where all end before
abbrev pub IsFound : {S : Type 0} → (S → List SignalUnit) → List S → ℕ → Option (ℕ × ℕ) → Type 0
IsFound units parts place None = length (joined units parts) ≤ place
IsFound {S} units parts place (Some found) = (part : S) × StandsIn units parts place found.0 found.1 part
