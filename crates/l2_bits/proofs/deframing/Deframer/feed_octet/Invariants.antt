use Rattle.std.proofs.Common.{List, Bool, length}
use Rattle.l2_bits.specs.LineBits.{bits_of}
use Rattle.l2_bits.specs.Deframing.{StandsFor, rest_of, MarkedUpTo}
use Rattle.l2_bits.proofs.deframing.Deframer.feed_octet.Given as goal

-- these marks have ended with the bits so far
abbrev pub invariant-loop-kind : goal.invariant-loop-kind
invariant-loop-kind l =
    (past : List Bool) → StandsFor past l.initial.self
    → MarkedUpTo past (bits_of 8 l.octet) (rest_of l.rest) l.self l.marks.items

abbrev pub decreases-loop-kind : goal.decreases-loop-kind
decreases-loop-kind l = length (rest_of l.rest)
