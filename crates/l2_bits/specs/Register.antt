-- What a shift register of 16 bits stands for in the long division
use Rattle.std.specs.Prelude.{◌≡◌, ℕ, zero, suc, ◌+◌, ◌/◌, ◌%◌, ◌==◌, Bool, if◌then◌else◌, List, ◌++◌, length, bit_xor}
use Rattle.l2_bits.specs.LineBits.{bits_of}
use Rattle.l2_bits.specs.CheckBits.{sum_of, remainder_after}

-- The register holds what is still to be subtracted from the next 16 terms, the highest in its lowest
-- bit. To divide the terms and then more from `old` on is to divide what comes after them from `new` on
pub record DividesTo (old : ℕ) (terms : List Bool) (new : ℕ) : Type 0 where
  pub divides : (k : ℕ) (more : List Bool) →
      remainder_after (length terms + k) (sum_of (terms ++ more) (bits_of 16 old))
      ≡ remainder_after k (sum_of more (bits_of 16 new))

-- the register after k bits of zero
unfoldable pub steps : ℕ → ℕ → ℕ
steps zero register = register
steps (suc k) register = steps k (if register % 2 == 1 then bit_xor (register / 2) 0x8408 else register / 2)
