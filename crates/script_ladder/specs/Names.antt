-- THE NAMES OF MESSAGES of the ISDN user part, by their types (Q.763 table 4).
use Rattle.std.specs.Prelude.{ℕ, ◌==◌, List, [], Option, Some, None, codes, slice_get, if◌then◌else◌}
use Rattle.set_model.specs.Rows.{service_indicator}

-- of the circuits, or of groups of them; of any other type there is none
abbrev pub circuit_name : ℕ → List ℕ
circuit_name kind =
    if kind == 0x11 then codes "CCR" else (
    if kind == 0x12 then codes "RSC" else (
    if kind == 0x13 then codes "BLO" else (
    if kind == 0x14 then codes "UBL" else (
    if kind == 0x15 then codes "BLA" else (
    if kind == 0x16 then codes "UBA" else (
    if kind == 0x17 then codes "GRS" else (
    if kind == 0x18 then codes "CGB" else (
    if kind == 0x19 then codes "CGU" else (
    if kind == 0x1A then codes "CGBA" else (
    if kind == 0x1B then codes "CGUA" else (
    if kind == 0x29 then codes "GRA" else (
    if kind == 0x2E then codes "UCIC" else (
    if kind == 0x2F then codes "CFN" else (
    []))))))))))))))

-- of a call, or else of the circuits
abbrev pub type_name : ℕ → List ℕ
type_name kind =
    if kind == 0x01 then codes "IAM" else (
    if kind == 0x02 then codes "SAM" else (
    if kind == 0x03 then codes "INR" else (
    if kind == 0x04 then codes "INF" else (
    if kind == 0x05 then codes "COT" else (
    if kind == 0x06 then codes "ACM" else (
    if kind == 0x07 then codes "CON" else (
    if kind == 0x09 then codes "ANM" else (
    if kind == 0x0C then codes "REL" else (
    if kind == 0x0D then codes "SUS" else (
    if kind == 0x0E then codes "RES" else (
    if kind == 0x10 then codes "RLC" else (
    if kind == 0x2C then codes "CPG" else (
    circuit_name kind)))))))))))))

abbrev pub name_at : Option ℕ → List ℕ
name_at None = []
name_at (Some kind) = type_name kind

-- of a body whose service indicator is 5 (Q.704 14.2.1) the type stands behind the SIO, the label and the two octets of
-- the circuit (Q.763 1.2, 1.3)
abbrev pub isup_name : List ℕ → List ℕ
isup_name body = if service_indicator body == 5 then name_at (slice_get body 7) else []
