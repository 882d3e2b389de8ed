-- THE UNITS ON A TAPE, as a signalling terminal finds them (Q.703 4.1), each with the octet time in which its closing flag
-- ended.
use Rattle.std.specs.Prelude.{◌≡◌, ℕ, suc, Bool, List, [], ◌∷◌, ◌++◌}
use Rattle.l2_bits.specs.declared.marks.Mark.{Mark}
use Rattle.l2_bits.specs.declared.marks.Mark.TheVariants.{Good, Bad, Sixteen}
use Rattle.l2_bits.specs.LineBits.{bits_of}
use Rattle.l2_bits.specs.Marks.{AreMarks}
use Rattle.text_pcap.specs.declared.sent.Packet.{Packet}
use Rattle.text_pcap.specs.declared.sent.Side.{Side}

-- the good units among the marks of an octet
abbrev pub packets_of : Side → ℕ → List Mark → List Packet
packets_of side turn [] = []
packets_of side turn (Good octets ∷ marks) =
    record { turn = turn; side = side; octets = octets.items } ∷ packets_of side turn marks
packets_of side turn (Bad ∷ marks) = packets_of side turn marks
packets_of side turn (Sixteen ∷ marks) = packets_of side turn marks

-- those of octets from this octet time on, behind these bits
abbrev pub AreSentFrom : Side → ℕ → List Bool → List ℕ → List Packet → Type 0
AreSentFrom side turn past [] packets = packets ≡ []
AreSentFrom side turn past (octet ∷ octets) packets =
    (marks : List Mark) × (later : List Packet) × AreMarks past (bits_of 8 octet) marks
    × AreSentFrom side (suc turn) (past ++ bits_of 8 octet) octets later
    × (packets ≡ packets_of side turn marks ++ later)

-- ALL OF A TAPE
abbrev pub AreSent : Side → List ℕ → List Packet → Type 0
AreSent side octets packets = AreSentFrom side 0 [] octets packets
