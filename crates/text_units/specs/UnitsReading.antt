-- What a reader of `units` under way stands for, and what calls on it print.
use Rattle.std.specs.Prelude.{◌≡◌, ℕ, ◌+◌, ◌≤◌, ◌<◌, ◌^◌, Bool, List, [], ◌∷◌, ◌++◌, length, Some, Result, MatchResult}
use Rattle.std.specs.Option.{option_map}
use Rattle.l2_bits.specs.declared.marks.Mark.{Mark}
use Rattle.l2_bits.specs.LineBits.{line_bits}
use Rattle.l2_bits.specs.Marks.{AreMarks}
use Rattle.l2_bits.specs.Deframing.{StandsFor}
use Rattle.text_base.specs.declared.fault.Stop.{Stop}
use Rattle.text_base.specs.declared.fault.Stop.TheVariants.{Input, Memory}
use Rattle.text_units.specs.declared.digits.Digits.{Digits}
use Rattle.text_units.specs.declared.marked_line.MarkedLine.{MarkedLine}
use Rattle.text_units.specs.declared.units_reading.UnitsReader.{UnitsReader}
use Rattle.text_units.specs.declared.fault.UnreadableOctet.{UnreadableOctet}
use Rattle.text_base.specs.Printing.{IsWhole, StopsIn}
use Rattle.text_base.specs.Figures.{octet_of, octets_of}
use Rattle.text_units.specs.UnitsText.{IsUnitsText, readable, values_of, paired, left_over, octets_in, fault_place, marks_text, counts_of}

-- The line.

-- it has had these bits, and their marks print these lines
pub record IsLine (bits : List Bool) (lines : List ℕ) (line : MarkedLine) : Type 0 where
  pub marks : List Mark
  pub are : AreMarks [] bits marks
  pub printed : lines ≡ marks_text marks
  pub counted : line.counts ≡ counts_of marks
  pub deframed : StandsFor bits line.deframer

-- the marks of the bits print this first, and maybe more
abbrev pub Begins : List Bool → List ℕ → Type 0
Begins bits printed =
    (marks : List Mark) → AreMarks [] bits marks
    → (more : List ℕ) × (marks_text marks ≡ printed ++ more)

-- the line had these bits more, and what their marks print was added
pub record Feeds (old : MarkedLine) (bits : List Bool) (before after : List ℕ)
    (new : MarkedLine) : Type 0 where
  pub printed : List ℕ
  pub added : after ≡ before ++ printed
  pub goes_on : (past : List Bool) (lines : List ℕ) → length past + length bits < 2 ^ 64
      → IsLine past lines old → IsLine (past ++ bits) (lines ++ printed) new

-- memory was wanted among these bits, and what was added is the beginning of what they print, whatever follows
pub record Breaks (old : MarkedLine) (bits : List Bool) (before after : List ℕ) : Type 0 where
  pub printed : List ℕ
  pub added : after ≡ before ++ printed
  pub begins : (past : List Bool) (lines : List ℕ) → length past + length bits < 2 ^ 64
      → IsLine past lines old → (left : List Bool)
      → Begins (past ++ (bits ++ left)) (lines ++ printed)

-- the first of these bits were fed, and the line of their mark was added, if they gave one: what is done with the
-- others completes what is done with all
pub record FeedsFirst (old : MarkedLine) (bits : List Bool) (before : List ℕ) (rest : List Bool)
    (middle : List ℕ) (new : MarkedLine) : Type 0 where
  pub feeds : (after : List ℕ) (last : MarkedLine) → Feeds new rest middle after last
      → Feeds old bits before after last
  pub breaks : (after : List ℕ) → Breaks new rest middle after → Breaks old bits before after

-- The input.

-- the characters of an input: this was read without a fault
pub record HasDigits (past : List ℕ) (digits : Digits) : Type 0 where
  pub all_readable : readable past ≡ past
  pub place : digits.place ≡ length past
  pub digit : option_map (λ digit. digit.value) digits.high ≡ left_over (values_of past)

-- these were read, and the octets that they complete were added; an input has at most 2^60 characters
pub record Decodes (old : Digits) (text before after : List ℕ) (new : Digits) : Type 0 where
  pub octets : List ℕ
  pub added : after ≡ before ++ octets
  pub few : length octets ≤ length text
  pub goes_on : (past : List ℕ) → length past + length text ≤ 2 ^ 60 → HasDigits past old
      → HasDigits (past ++ text) new
      × (paired (values_of (past ++ text)) ≡ paired (values_of past) ++ octets)

-- the characters begin with the two digits of this octet
pub record BeginsWithOctet (text : List ℕ) (octet : ℕ) (left : List ℕ) : Type 0 where
  pub high : ℕ
  pub low : ℕ
  pub split : text ≡ high ∷ low ∷ left
  pub is : Some octet ≡ octet_of (high ∷ low ∷ [])

-- the octets of the first of these characters, two digits each, were added; the other characters are left
pub record ReadsPairs (text left before after : List ℕ) : Type 0 where
  pub digits : List ℕ
  pub octets : List ℕ
  pub split : text ≡ digits ++ left
  pub are : octets_of digits ≡ Some octets
  pub added : after ≡ before ++ octets

-- the input's octets are these up to the fault; where memory was wanted, they begin so
abbrev pub HaltsIn : Stop UnreadableOctet → List ℕ → List ℕ → Type 0
HaltsIn (Input fault) input octets =
    (octets_in input ≡ octets) × (fault_place input ≡ Some fault.place)
HaltsIn Memory input octets = (more : List ℕ) × (octets_in input ≡ octets ++ more)

-- among these it stopped, whatever follows, and the octets before were added
pub record Halts (stop : Stop UnreadableOctet) (old : Digits)
    (text before after : List ℕ) : Type 0 where
  pub octets : List ℕ
  pub added : after ≡ before ++ octets
  pub few : length octets ≤ length text
  pub ends : (past : List ℕ) → length past + length text ≤ 2 ^ 60 → HasDigits past old
      → (left : List ℕ) → HaltsIn stop (past ++ (text ++ left)) (paired (values_of past) ++ octets)

-- the first of these characters were read: what is done with the others completes what is done with all
pub record DecodesFirst (old : Digits) (text before left middle : List ℕ)
    (new : Digits) : Type 0 where
  pub decodes : (after : List ℕ) (last : Digits) → Decodes new left middle after last
      → Decodes old text before after last
  pub halts : (stop : Stop UnreadableOctet) (after : List ℕ) → Halts stop new left middle after
      → Halts stop old text before after

-- the reader has read this without a fault, and has printed these lines
pub record HasRead (past lines : List ℕ) (reader : UnitsReader) : Type 0 where
  pub digits : HasDigits past reader.digits
  pub line : IsLine (line_bits (paired (values_of past))) lines reader.line

-- these octets were read, and what they print was added; an input has at most 2^60 octets
pub record Reads (old : UnitsReader) (octets before after : List ℕ)
    (new : UnitsReader) : Type 0 where
  pub printed : List ℕ
  pub added : after ≡ before ++ printed
  pub goes_on : (past lines : List ℕ) → length past + length octets ≤ 2 ^ 60
      → HasRead past lines old → HasRead (past ++ octets) (lines ++ printed) new

-- these octets ended the input with a fault, whatever follows
pub record Stops (stop : Stop UnreadableOctet) (old : UnitsReader)
    (octets before after : List ℕ) : Type 0 where
  pub printed : List ℕ
  pub added : after ≡ before ++ printed
  pub ends : (past lines : List ℕ) → length past + length octets ≤ 2 ^ 60
      → HasRead past lines old → (left : List ℕ)
      → StopsIn stop (IsUnitsText (past ++ (octets ++ left))) (lines ++ printed)

-- the input ended, and what its text still has was added
pub record Ends (result : Result (Unit {0}) (Stop UnreadableOctet)) (old : UnitsReader)
    (before after : List ℕ) : Type 0 where
  pub printed : List ℕ
  pub added : after ≡ before ++ printed
  pub ends : (past lines : List ℕ) → length past ≤ 2 ^ 60 → HasRead past lines old
      → MatchResult result
      (λ done. IsWhole (IsUnitsText past) (lines ++ printed))
      (λ stop. StopsIn stop (IsUnitsText past) (lines ++ printed))
