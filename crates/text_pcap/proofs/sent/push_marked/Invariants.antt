use Rattle.std.proofs.Common.{◌≡◌, ◌++◌, drop}
use Rattle.text_pcap.specs.Sent.{packets_of}
use Rattle.text_pcap.proofs.sent.push_marked.Given as goal

abbrev pub invariant-loop-mark : goal.invariant-loop-mark
invariant-loop-mark l = l.packets.items ++ packets_of l.side l.turn (drop l.mark-index l.marks) ≡ l.initial.packets.items ++ packets_of l.side l.turn l.marks
