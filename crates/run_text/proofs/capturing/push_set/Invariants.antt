use Rattle.std.proofs.Common.{◌≡◌, ◌++◌, List, drop}
use Rattle.run_text.specs.Capturing.{IsTaped}
use Rattle.text_pcap.specs.declared.sent.Packet.{Packet}
use Rattle.run_text.proofs.Each.{Completes}
use Rattle.run_text.proofs.capturing.push_set.Given as goal

abbrev pub invariant-loop-report : goal.invariant-loop-report
invariant-loop-report l = (before : List Packet) × (l.packets.items ≡ l.initial.packets.items ++ before)
    × Completes (IsTaped l.is_a l.set) l.link (drop l.report-index l.reports) l.reports before × (l.link ≡ l.report-index)
