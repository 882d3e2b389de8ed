-- THE CAPTURE OF A RUN: the units that stand on the tapes of all terminals, in order of time; of one time those of the ends a
-- stand before those of the ends b, set by set, and link by link.
use Rattle.std.specs.Prelude.{◌≡◌, ℕ, suc, Bool, true, false, List, [], ◌∷◌, ◌++◌, Some, Result, Ok, Err}
use Rattle.link_term.specs.declared.fault.TermFault.{TermFault}
use Rattle.bank_crew.specs.declared.end.SetEnd.{SetEnd}
use Rattle.bank_crew.specs.declared.report.ShiftReport.{ShiftReport}
use Rattle.text_pcap.specs.declared.sent.Packet.{Packet}
use Rattle.text_pcap.specs.declared.sent.Side.{Side}
use Rattle.text_pcap.specs.Packets.{IsInOrder, capture_text}
use Rattle.text_pcap.specs.Sent.{AreSent}

-- what each of a list gives, from this number on, one after another
abbrev pub EachFrom : {X : Type 0} → (ℕ → X → List Packet → Type 0) → ℕ → List X → List Packet → Type 0
EachFrom Gives n [] packets = packets ≡ []
EachFrom Gives n (x ∷ xs) packets =
    (own : List Packet) × (later : List Packet) × Gives n x own × EachFrom Gives (suc n) xs later
    × (packets ≡ own ++ later)

abbrev pub side_of : Bool → ℕ → ℕ → Side
side_of is_a set link = record { set = set; link = link; is_a = is_a }

-- the units that stand on the tape of a terminal; one that failed hands out none
abbrev pub IsTaped : Bool → ℕ → ℕ → Result ShiftReport TermFault → List Packet → Type 0
IsTaped is_a set link (Ok report) packets =
    (octets : List ℕ) × (report.tape ≡ Some octets) × AreSent (side_of is_a set link) octets packets
IsTaped is_a set link (Err fault) packets = packets ≡ []

-- those of the links of an end of a set, and of all ends at one side
abbrev pub AreOfSet : Bool → ℕ → List (Result ShiftReport TermFault) → List Packet → Type 0
AreOfSet is_a set reports packets = EachFrom (IsTaped is_a set) 0 reports packets

abbrev pub IsOfEnd : Bool → ℕ → SetEnd → List Packet → Type 0
IsOfEnd is_a set end packets = AreOfSet is_a set end.reports.items packets

abbrev pub AreOfEnds : Bool → List SetEnd → List Packet → Type 0
AreOfEnds is_a ends packets = EachFrom (IsOfEnd is_a) 0 ends packets

-- THE FILE
pub record IsCapture (near far : List SetEnd) (text : List ℕ) : Type 0 where
  pub of_a : List Packet
  pub of_b : List Packet
  pub are_of_a : AreOfEnds true near of_a
  pub are_of_b : AreOfEnds false far of_b
  pub sorted : List Packet
  pub in_order : IsInOrder (of_a ++ of_b) sorted
  pub text_is : text ≡ capture_text sorted
