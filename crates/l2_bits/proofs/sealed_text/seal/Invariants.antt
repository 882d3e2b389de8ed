use Rattle.std.proofs.Common.{◌≡◌, take}
use Rattle.l2_bits.proofs.sealed_text.seal.Given as goal

abbrev pub invariant-loop-octet : goal.invariant-loop-octet
invariant-loop-octet l = l.text.items ≡ take l.octet-index l.octets
