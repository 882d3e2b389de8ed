use Rattle.std.proofs.Common.{◌≡◌, ◌+◌, ◌-◌, ◌/◌, ◌^◌, ◌++◌}
use Rattle.arrayvec.specs.ArrayVec.{array_vec_len}
use Rattle.l2_bits.specs.LineBits.{bits_of}
use Rattle.l2_bits.proofs.packing.unpack.Given as goal

-- what stands there and the bits from the place on make all of them
abbrev pub invariant-loop-place : goal.invariant-loop-place
invariant-loop-place l = record {
  bits : l.initial.line.items ++ bits_of l.count l.bits
      ≡ l.line.items ++ bits_of (l.count - l.place) (l.bits / 2 ^ l.place);
  len : array_vec_len l.line ≡ array_vec_len l.initial.line + l.place;
}
