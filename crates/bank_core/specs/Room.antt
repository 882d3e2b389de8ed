-- ROOM that was reserved.
use Rattle.std.specs.Prelude.{◌≡◌, ◌≤◌, ℕ, [], Vec, vec_len, vec_capacity}

-- nothing yet, and room for so many
pub record IsRoomFor {T Z : Type 0} (many : ℕ) (list : Vec T Z) : Type 0 where
  pub none : list.items ≡ []
  pub no_length : vec_len list ≡ 0
  pub wide : many ≤ vec_capacity list
