-- TARGET: the link that streams and messages are moved to.
use Rattle.std.specs.Prelude.{◌≡◌, ◌≢◌, ℕ, suc, ◌<◌, Bool, true, false, Option, Some, None, List, [], ◌∷◌, slice_get}
use Rattle.std.specs.Option.{option_map}

-- the lowest-numbered link that is up, in a list that tells for each link whether it is
abbrev pub target_of : List Bool → Option ℕ
target_of [] = None
target_of (true ∷ rest) = Some 0
target_of (false ∷ rest) = option_map suc (target_of rest)

-- it is up and no lower one is, or there is none
abbrev pub IsTarget : List Bool → Option ℕ → Type 0
IsTarget up (Some link) =
    (slice_get up link ≡ Some true) × ((lower : ℕ) → lower < link → slice_get up lower ≢ Some true)
IsTarget up None = (link : ℕ) → slice_get up link ≢ Some true
