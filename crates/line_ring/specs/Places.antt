-- Octets that stand one behind the other in places, and go on at the first place behind the last.
use Rattle.std.specs.Prelude.{ℕ, List, ◌++◌, take, drop}

-- so many octets, the oldest of which stands at the place `first`
unfoldable pub octets_from : ℕ → ℕ → List ℕ → List ℕ
octets_from first count places = take count (drop first (places ++ places))
