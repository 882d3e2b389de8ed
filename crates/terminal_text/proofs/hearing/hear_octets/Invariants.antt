use Rattle.std.proofs.Common.{map, take}
use Rattle.l2_bits.specs.LineBits.{bits_of}
use Rattle.terminal_text.specs.Hearing.{Exchanging}
use Rattle.terminal_text.proofs.hearing.hear_octets.Given as goal

-- the octets so far
abbrev pub invariant-loop-octet : goal.invariant-loop-octet
invariant-loop-octet l =
    Exchanging l.link (map (bits_of 8) (take l.octet-index l.octets)) l.initial.bench l.bench l.initial.rows l.rows l.initial.put.items l.put.items
