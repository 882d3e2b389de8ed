-- A PCAP FILE of link type 139 (MTP2 with a pseudo-header): a head, and records.
use Rattle.std.specs.Prelude.{ℕ, List, [], ◌∷◌, ◌++◌, ◌/◌, ◌%◌, length}

-- the low 16 and the low 32 bits of a number, the low octet first
abbrev pub two : ℕ → List ℕ
two n = (n % 256) ∷ (n / 256 % 256) ∷ []

abbrev pub four : ℕ → List ℕ
four n = (n % 256) ∷ (n / 256 % 256) ∷ (n / 65536 % 256) ∷ (n / 16777216 % 256) ∷ []

-- the file begins with the magic number of time stamps in microseconds, version 2.4, no offset and no accuracy of the
-- time stamps, the most octets that a record holds, and the link type
abbrev pub file_head : ℕ → List ℕ
file_head longest =
    four 2712847316 ++ (two 2 ++ (two 4 ++ (four 0 ++ (four 0 ++ (four longest ++ four 139)))))

-- a record: its time in seconds and microseconds; how many octets it holds, and how many there were; and the octets
abbrev pub record_at : ℕ → ℕ → List ℕ → List ℕ
record_at seconds microseconds octets =
    four seconds ++ (four microseconds ++ (four (length octets) ++ (four (length octets) ++ octets)))
