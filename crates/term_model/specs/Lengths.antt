-- THE LENGTHS OF TIMERS: none is 0.
use Rattle.std.proofs.Common.{arith}
use Rattle.std.specs.Prelude.{ℕ, ◌+◌, ◌<◌}

pub above_0 : (n : ℕ) → 0 < n + 1
above_0 n = omega arith
