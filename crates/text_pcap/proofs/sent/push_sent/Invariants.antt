use Rattle.std.proofs.Common.{◌≡◌, ◌++◌, Bool, List, drop}
use Rattle.l2_bits.specs.Deframing.{StandsFor}
use Rattle.text_pcap.specs.declared.sent.Packet.{Packet}
use Rattle.text_pcap.proofs.Sending.{Completes}
use Rattle.text_pcap.proofs.sent.push_sent.Given as goal

abbrev pub invariant-loop-octet : goal.invariant-loop-octet
invariant-loop-octet l = (past : List Bool) × (before : List Packet) × StandsFor past l.deframer × (l.packets.items ≡ l.initial.packets.items ++ before)
    × Completes l.side l.turn past (drop l.octet-index l.octets) l.octets before × (l.turn ≡ l.octet-index)
