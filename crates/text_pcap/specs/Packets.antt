-- THE FILE of packets: in order of time, a record each.
use Rattle.std.specs.Prelude.{ℕ, ◌*◌, ◌/◌, ◌%◌, List, [], ◌∷◌, ◌++◌, if◌then◌else◌}
use Rattle.std.specs.List.Sorted.{IsNonDecreasingBy, IsPermutation, IsStableByKey}
use Rattle.std.specs.Ordering.{nat_cmp}
use Rattle.text_pcap.specs.PcapFile.{file_head, record_at}
use Rattle.text_pcap.specs.declared.sent.Packet.{Packet}
use Rattle.text_pcap.specs.declared.sent.Side.{Side}

-- IN ORDER: the same packets, none before one of an earlier time; those of one time stand as they stood
pub record IsInOrder (all sorted : List Packet) : Type 0 where
  pub same : IsPermutation all sorted
  pub by_time : IsNonDecreasingBy (λ (packet : Packet). packet.turn) sorted
  pub ties : IsStableByKey (λ (packet : Packet). packet.turn) nat_cmp all sorted

-- end a's side is the one that captures: it sends its own units and receives those of end b
abbrev pub direction : Side → ℕ
direction side = if side.is_a then 1 else 0

-- the pseudo-header of link type 139: 1 for a unit that is sent and 0 for one that is received; that Annex A of Q.703 isn't
-- used; and the link's number in two octets, of which the high one is the set's
abbrev pub side_header : Side → List ℕ
side_header side = direction side ∷ 0 ∷ (side.set % 256) ∷ (side.link % 256) ∷ []

-- an octet time is 125 microseconds
abbrev pub packet_record : Packet → List ℕ
packet_record packet =
    record_at (packet.turn / 8000) (packet.turn % 8000 * 125) (side_header packet.side ++ packet.octets)

abbrev pub records_of : List Packet → List ℕ
records_of [] = []
records_of (packet ∷ packets) = packet_record packet ++ records_of packets

-- THE FILE
abbrev pub capture_text : List Packet → List ℕ
capture_text packets = file_head 280 ++ records_of packets
