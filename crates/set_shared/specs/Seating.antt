-- HOW MANY SEATS a shared set has: one for each of its users and one for the terminal of each of its links.
use Rattle.std.specs.Prelude.{ℕ}

pub record Seating : Type 0 where
  pub users : ℕ
  pub links : ℕ
