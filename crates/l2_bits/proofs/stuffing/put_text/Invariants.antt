use Rattle.std.proofs.Common.{◌≡◌, ◌+◌, ◌*◌, ◌≤◌, ◌++◌, drop}
use Rattle.l2_bits.specs.LineBits.{line_bits}
use Rattle.l2_bits.specs.Stuffing.{text_after}
use Rattle.l2_bits.specs.Packing.{packed, bits_in}
use Rattle.l2_bits.proofs.stuffing.put_text.Given as goal

-- what stands there and the text of the octets that are left make the text of all
abbrev pub invariant-loop-octet : goal.invariant-loop-octet
invariant-loop-octet l = record {
  text : packed l.initial.octets l.initial.end.part ++ text_after 0 (line_bits l.text)
      ≡ packed l.octets l.end.part ++ text_after l.end.run (line_bits (drop l.octet-index l.text));
  few : l.end.run ≤ 4;
  bound : bits_in l.octets l.end.part * 5 + l.end.run ≤ bits_in l.initial.octets l.initial.end.part * 5 + 48 * l.octet-index;
}
