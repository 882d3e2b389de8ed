-- Whether a stream is away from its home.
use Rattle.std.proofs.Common.{refl, ◌≡◌, ap, ℕ, ◌||◌, List, [], ◌∷◌}
use Rattle.std.specs.List.{list_any}
use Rattle.set_route.specs.declared.stream.Stream.{Stream}
use Rattle.set_route.specs.Routing.{is_away, some_away}

pub any_away : (home alternative : ℕ) (streams : List Stream) → list_any (is_away home alternative) streams ≡ some_away home alternative streams
any_away home alternative [] = refl
any_away home alternative (s ∷ rest) = ap (λ b. is_away home alternative s || b) (any_away home alternative rest)
