-- The grammar of signal units (Q.703 2.2, 2.3): which octets stand for which unit, in either profile.
use Rattle.std.proofs.Common.{arith}
use Rattle.std.specs.Prelude.{◌≡◌, ℕ, Bool, ◌+◌, ◌*◌, ◌/◌, ◌%◌, ◌^◌, ◌==◌, nat_le, ◌<◌, ◌≤◌, Option, Some, None, List, [], ◌∷◌, ◌++◌, length, min, slice_index, if◌then◌else◌}
use Rattle.l2_units.specs.declared.status.Status.{Status}
use Rattle.l2_units.specs.Numbers.{status_number}
use Rattle.l2_units.specs.declared.unit.Header.{Header}
use Rattle.l2_units.specs.declared.unit.Unit.{Unit as SignalUnit}
use Rattle.l2_units.specs.declared.unit.Unit.TheVariants.{Fisu, Lssu, Msu}
use Rattle.l2_units.specs.Profile.{Profile, Narrow, Wide, fsn_count, longest_body}

-- NARROW: a sequence number in the low seven bits, its indicator in the highest (Q.703 2.2)
abbrev pub sequence_octet : ℕ → Bool → ℕ
sequence_octet number indicator = number + (if indicator then 128 else 0)

-- BSN with BIB, then FSN with FIB
abbrev pub header_text : Header → List ℕ
header_text head = sequence_octet head.bsn head.bib ∷ sequence_octet head.fsn head.fib ∷ []

-- WIDE (own): BSN in 12 bits, BIB, FSN in 12 bits, FIB, and a form in 6, least significant first; on the line the form is
-- the length indicator
abbrev pub wide_number : Header → ℕ → ℕ
wide_number head form =
    head.bsn + (if head.bib then 0x1000 else 0) + 0x2000 * head.fsn + (if head.fib then 0x2000000 else 0)
    + 0x4000000 * form

-- a number of 32 bits in four octets, least significant first
abbrev pub four_octets : ℕ → List ℕ
four_octets n = n % 256 ∷ n / 0x100 % 256 ∷ n / 0x10000 % 256 ∷ n / 0x1000000 % 256 ∷ []

abbrev pub head_of : SignalUnit → Header
head_of (Fisu head) = head
head_of (Lssu head status) = head
head_of (Msu head body) = head

-- both numbers are the profile's
abbrev pub IsHeadOf : Profile → Header → Type 0
IsHeadOf profile head = (head.bsn < fsn_count profile) × (head.fsn < fsn_count profile)

-- a message has 3 octets of body or more
abbrev pub HasBody : Profile → SignalUnit → Type 0
HasBody profile (Fisu head) = Unit {0}
HasBody profile (Lssu head status) = Unit {0}
HasBody profile (Msu head body) = (3 ≤ length body.items) × (length body.items ≤ longest_body profile)

-- the values that a unit of the profile can have
abbrev pub IsUnit : Profile → SignalUnit → Type 0
IsUnit profile unit = IsHeadOf profile (head_of unit) × HasBody profile unit

-- what may stand behind the length indicator: nothing; a status field of one or two octets, read by the low three bits
-- of its first (own); the SIO and SIF themselves
abbrev pub IsBodyOf : SignalUnit → List ℕ → Type 0
IsBodyOf (Fisu head) field = field ≡ []
IsBodyOf (Lssu head status) field =
    (1 ≤ length field) × (length field ≤ 2) × (slice_index field 0 % 8 ≡ status_number status)
IsBodyOf (Msu head body) field = (field ≡ body.items) × (3 ≤ length field)

-- the length indicator of a body: its length, or 63 where that is 63 or more (Q.703 2.3.3)
abbrev pub length_indicator : List ℕ → ℕ
length_indicator body = min (length body) 63

-- the spare bits beside it have so many values; a wide header has none
abbrev pub spares : Profile → ℕ
spares Narrow = 4
spares Wide = 1

-- a header and a body, with these spare bits beside the length indicator
abbrev pub octets_with : Profile → ℕ → Header → List ℕ → List ℕ
octets_with Narrow spare head body = header_text head ++ (length_indicator body + 64 * spare) ∷ body
octets_with Wide spare head body = four_octets (wide_number head (length_indicator body)) ++ body

-- THE GRAMMAR: octets stand for a unit if they are its header, any spare bits, and what may be its body
pub record StandsFor (profile : Profile) (octets : List ℕ) (unit : SignalUnit) : Type 0 where
  pub spare : ℕ
  pub body : List ℕ
  pub in_range : spare < spares profile
  pub head_is : IsHeadOf profile (head_of unit)
  pub body_is : IsBodyOf unit body
  pub not_long : length body ≤ longest_body profile
  pub octets_are : octets ≡ octets_with profile spare (head_of unit) body

-- the body that is sent: a status field has one octet, whose spare bits are 0 (own)
abbrev pub body_of : SignalUnit → List ℕ
body_of (Fisu head) = []
body_of (Lssu head status) = status_number status ∷ []
body_of (Msu head body) = body.items

-- a unit as it is sent: spare bits 0
abbrev pub text : Profile → SignalUnit → List ℕ
text profile unit = octets_with profile 0 (head_of unit) (body_of unit)

-- The grammar read from the left: which unit octets stand for, if any.

pub low_7 : (n : ℕ) → n % 128 < 2 ^ 12
low_7 n = omega arith

pub low_12 : (n : ℕ) → n % 4096 < 2 ^ 12
low_12 n = omega arith

-- the header of two octets
abbrev pub header_in : ℕ → ℕ → Header
header_in backward forward = record {
  bsn = backward % 128;
  bib = nat_le 128 backward;
  fsn = forward % 128;
  fib = nat_le 128 forward;
  bsn_in_range = low_7 backward;
  fsn_in_range = low_7 forward;
}

-- the header of 32 bits
abbrev pub wide_header : ℕ → Header
wide_header n = record {
  bsn = n % 4096;
  bib = n / 0x1000 % 2 == 1;
  fsn = n / 0x2000 % 4096;
  fib = n / 0x2000000 % 2 == 1;
  bsn_in_range = low_12 n;
  fsn_in_range = low_12 (n / 0x2000);
}

-- the form above it
abbrev pub wide_form : ℕ → ℕ
wide_form n = n / 0x4000000

-- the status of three bits
abbrev pub status_of : ℕ → Status
status_of n =
    if n == 0 then Status.OutOfAlignment else
    if n == 1 then Status.Normal else
    if n == 2 then Status.Emergency else
    if n == 3 then Status.OutOfService else
    if n == 4 then Status.ProcessorOutage else
    if n == 5 then Status.Busy else
    if n == 6 then Status.Unassigned6 else Status.Unassigned7

abbrev pub unit_with : Header → List ℕ → SignalUnit
unit_with head [] = Fisu head
unit_with head (first ∷ []) = Lssu head (status_of (first % 8))
unit_with head (first ∷ second ∷ []) = Lssu head (status_of (first % 8))
unit_with head (first ∷ second ∷ third ∷ body) = Msu head (record { items = first ∷ second ∷ third ∷ body })

-- a header whose length indicator is that of a body that isn't too long
abbrev pub unit_if : Profile → ℕ → Header → List ℕ → Option SignalUnit
unit_if profile indicator head body =
    if nat_le (length body) (longest_body profile)
    then (if indicator == length_indicator body then Some (unit_with head body) else None)
    else None

abbrev pub narrow_unit : List ℕ → Option SignalUnit
narrow_unit (backward ∷ forward ∷ third ∷ body) = unit_if Narrow (third % 64) (header_in backward forward) body
narrow_unit (backward ∷ forward ∷ []) = None
narrow_unit (backward ∷ []) = None
narrow_unit [] = None

abbrev pub wide_unit : List ℕ → Option SignalUnit
wide_unit (a ∷ b ∷ c ∷ d ∷ body) =
    let n = a + 0x100 * b + 0x10000 * c + 0x1000000 * d in unit_if Wide (wide_form n) (wide_header n) body
wide_unit (a ∷ b ∷ c ∷ []) = None
wide_unit (a ∷ b ∷ []) = None
wide_unit (a ∷ []) = None
wide_unit [] = None

abbrev pub unit_of : Profile → List ℕ → Option SignalUnit
unit_of Narrow octets = narrow_unit octets
unit_of Wide octets = wide_unit octets

-- the text of a unit stands for it, and for no other
pub record IsTheTextOf (profile : Profile) (unit : SignalUnit) : Type 0 where
  pub stands : StandsFor profile (text profile unit) unit
  pub alone : (other : SignalUnit) → StandsFor profile (text profile unit) other → other ≡ unit
