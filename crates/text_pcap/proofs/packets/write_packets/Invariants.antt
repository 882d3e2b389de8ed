use Rattle.std.proofs.Common.{◌≡◌, ◌++◌, drop}
use Rattle.text_pcap.specs.Packets.{capture_text, records_of}
use Rattle.text_pcap.proofs.packets.write_packets.Given as goal

abbrev pub invariant-loop-packet : goal.invariant-loop-packet
invariant-loop-packet l = l.text.items ++ records_of (drop l.packet-index l.packets) ≡ capture_text l.packets
