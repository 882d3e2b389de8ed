use Rattle.std.proofs.Common.{◌≡◌, ◌+◌, ◌*◌, ◌++◌, drop}
use Rattle.arrayvec.specs.ArrayVec.{array_vec_len}
use Rattle.l2_bits.specs.LineBits.{line_bits}
use Rattle.l2_bits.proofs.packing.unpack_octets.Given as goal

-- what stands there and the bits of the octets that are left make those of all
abbrev pub invariant-loop-octet : goal.invariant-loop-octet
invariant-loop-octet l = record {
  bits : l.initial.line.items ++ line_bits l.octets ≡ l.line.items ++ line_bits (drop l.octet-index l.octets);
  len : array_vec_len l.line ≡ array_vec_len l.initial.line + 8 * l.octet-index;
}
