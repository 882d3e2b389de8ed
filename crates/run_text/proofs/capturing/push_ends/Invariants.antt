use Rattle.std.proofs.Common.{◌≡◌, ◌++◌, List, drop}
use Rattle.run_text.specs.Capturing.{IsOfEnd}
use Rattle.text_pcap.specs.declared.sent.Packet.{Packet}
use Rattle.run_text.proofs.Each.{Completes}
use Rattle.run_text.proofs.capturing.push_ends.Given as goal

abbrev pub invariant-loop-end : goal.invariant-loop-end
invariant-loop-end l = (before : List Packet) × (l.packets.items ≡ l.initial.packets.items ++ before)
    × Completes (IsOfEnd l.is_a) l.set (drop l.end-index l.ends) l.ends before × (l.set ≡ l.end-index)
