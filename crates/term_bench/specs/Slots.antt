-- THE LINE OF ONE TURN has one place.
use Rattle.std.specs.Prelude.{ℕ, Option, None, Some}

abbrev pub places_in : Option ℕ → ℕ
places_in None = 1
places_in (Some octet) = 0
