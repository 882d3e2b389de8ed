-- STEP 2 OF A TURN: ONE OCTET IN. Where the line has an octet, its eight bits are taken, the lowest first (Q.703
-- 2.4). Which marks they give is a matter of all bits taken so far, and of nothing else that the terminal holds.
use Rattle.std.specs.Prelude.{ℕ, Bool, List, [], Option, Some, None}
use Rattle.l2_bits.specs.declared.marks.Mark.{Mark}
use Rattle.l2_bits.specs.LineBits.{bits_of}
use Rattle.l2_bits.specs.Marks.{AreMarks}

abbrev pub bits_in : Option ℕ → List Bool
bits_in None = []
bits_in (Some octet) = bits_of 8 octet

-- after these bits were taken, the octet gives these marks: signal units that check, others, and what octet counting
-- tells where alignment is lost (Q.703 3.1, 3.2, 4.1, 4.2)
abbrev pub GivesMarks : List Bool → Option ℕ → List Mark → Type 0
GivesMarks taken octet marks = AreMarks taken (bits_in octet) marks
