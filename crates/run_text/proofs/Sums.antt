-- A sum that is told up to 2^64 - 1.
use Rattle.std.proofs.Common.{arith, ◌≡◌, ◌+◌, ◌-◌, ◌<◌, ◌^◌, min, ℕ}
use Rattle.run_text.specs.Figures.{capped}

-- where nothing more comes
pub sum_ends : (sum : ℕ) → sum < 2 ^ 64 → capped (sum + 0) ≡ sum
sum_ends sum few = omega (arith, few)
