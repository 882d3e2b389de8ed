-- The bits of the line packed into octets (Q.703 2.4).
use Rattle.std.specs.Prelude.{◌≡◌, ℕ, ◌+◌, ◌*◌, Bool, List, ◌++◌}
use Rattle.arrayvec.specs.ArrayVec.{ArrayVec, array_vec_len}
use Rattle.l2_bits.specs.Flags.{flag}
use Rattle.l2_bits.specs.LineBits.{bits_of, line_bits}
use Rattle.l2_bits.specs.SealedText.{sealed_text}
use Rattle.l2_bits.specs.Stuffing.{Stuffed}
use Rattle.l2_bits.specs.declared.part.Part.{Part}

-- octets, and then bits that make no whole one
abbrev pub packed : ArrayVec ℕ → Part → List Bool
packed octets part = line_bits octets.items ++ bits_of part.count part.bits

-- how many they are
abbrev pub bits_in : ArrayVec ℕ → Part → ℕ
bits_in octets part = 8 * array_vec_len octets + part.count

-- the octets of a unit and their check octets, with zeros inserted, and a flag
pub record AppendsUnit (octets : List ℕ) (old new : List Bool) : Type 0 where
  pub wire : List Bool
  pub stuffed : Stuffed (line_bits (sealed_text octets)) wire
  pub appended : new ≡ old ++ wire ++ flag
