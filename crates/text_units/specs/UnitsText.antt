-- THE TEXT OF `units`: from the octets that are read to the octets that are printed and the fault.
use Rattle.std.specs.Prelude.{◌≡◌, ℕ, Bool, true, false, ◌==◌, ◌||◌, ◌+◌, ◌*◌, nat_lt, List, [], ◌∷◌, ◌++◌, length, count_by, Option, Some, None, if◌then◌else◌, codes, decimal}
use Rattle.std.specs.Option.{option_to_list, option_map, is_some}
use Rattle.std.specs.List.{flat_map}
use Rattle.l2_bits.specs.declared.marks.Mark.{Mark}
use Rattle.l2_bits.specs.declared.marks.Mark.TheVariants.{Good, Bad, Sixteen}
use Rattle.l2_bits.specs.LineBits.{line_bits}
use Rattle.l2_bits.specs.Marks.{AreMarks}
use Rattle.l2_units.specs.Numbers.{status_number}
use Rattle.l2_units.specs.declared.unit.Header.{Header}
use Rattle.l2_units.specs.declared.unit.Unit.{Unit as SignalUnit}
use Rattle.l2_units.specs.declared.unit.Unit.TheVariants.{Fisu, Lssu, Msu}
use Rattle.l2_units.specs.Grammar.{unit_of}
use Rattle.l2_units.specs.declared.profile.Profile.TheVariants.{Narrow}
use Rattle.text_units.specs.declared.fault.UnreadableOctet.{UnreadableOctet}
use Rattle.text_units.specs.declared.unit_lines.MarkCounts.{MarkCounts}
use Rattle.text_base.specs.Figures.{hex_value, hex_text, bit}
use Rattle.text_base.specs.Printing.{Printed}

-- The octets of the line.

-- space, tab, CR and LF are skipped
abbrev pub is_blank : ℕ → Bool
is_blank c = (c == 32) || ((c == 9) || ((c == 13) || (c == 10)))

-- the characters before the first that is neither skipped nor a hexadecimal digit
abbrev pub readable : List ℕ → List ℕ
readable [] = []
readable (c ∷ cs) = if is_blank c || is_some (hex_value c) then c ∷ readable cs else []

-- the values of the digits among them
abbrev pub values_of : List ℕ → List ℕ
values_of cs = flat_map (λ c. option_to_list (hex_value c)) cs

-- each two digits are an octet, the high one first
abbrev pub paired : List ℕ → List ℕ
paired (high ∷ low ∷ values) = (16 * high + low) ∷ paired values
paired (high ∷ []) = []
paired [] = []

-- the last digit, where their number is odd
abbrev pub left_over : List ℕ → Option ℕ
left_over (high ∷ low ∷ values) = left_over values
left_over (high ∷ []) = Some high
left_over [] = None

abbrev pub octets_in : List ℕ → List ℕ
octets_in input = paired (values_of (readable input))

-- where the input is at fault: at its first character that can't be read, or at its end, where a digit is left over
abbrev pub fault_place : List ℕ → Option ℕ
fault_place input =
    if nat_lt (length (readable input)) (length input) then Some (length (readable input))
    else option_map (λ digit. length input) (left_over (values_of (readable input)))

-- The lines of the marks, each ended by LF.

abbrev pub line_head : List ℕ → Header → List ℕ
line_head kind h =
    kind ++ (codes " bsn=" ++ (decimal h.bsn ++ (codes " bib=" ++ (decimal (bit h.bib)
    ++ (codes " fsn=" ++ (decimal h.fsn ++ (codes " fib=" ++ decimal (bit h.fib))))))))

-- a unit's words
abbrev pub unit_words : SignalUnit → List ℕ
unit_words (Fisu head) = line_head (codes "fisu") head
unit_words (Lssu head status) = line_head (codes "lssu") head ++ (codes " status=" ++ decimal (status_number status))
unit_words (Msu head body) = line_head (codes "msu") head ++ (codes " body=" ++ hex_text body.items)

abbrev pub unit_text : SignalUnit → List ℕ
unit_text unit = codes "good " ++ (unit_words unit ++ codes "\n")

-- the number of what is wrong with octets that are no unit: 1 too short, 2 too long, 3 another length indicator
abbrev pub unit_fault : List ℕ → ℕ
unit_fault octets =
    if nat_lt (length octets) 3 then 1 else (if nat_lt 276 (length octets) then 2 else 3)

abbrev pub good_text : Option SignalUnit → List ℕ → List ℕ
good_text (Some unit) octets = unit_text unit
good_text None octets = codes "good fault=" ++ (decimal (unit_fault octets) ++ codes "\n")

abbrev pub mark_text : Mark → List ℕ
mark_text (Good octets) = good_text (unit_of Narrow octets.items) octets.items
mark_text Bad = codes "bad\n"
mark_text Sixteen = codes "sixteen\n"

abbrev pub marks_text : List Mark → List ℕ
marks_text marks = flat_map mark_text marks

-- The last line: how many marks of each kind.

abbrev pub is_good : Mark → Bool
is_good (Good octets) = true
is_good Bad = false
is_good Sixteen = false

abbrev pub is_bad : Mark → Bool
is_bad (Good octets) = false
is_bad Bad = true
is_bad Sixteen = false

abbrev pub is_sixteen : Mark → Bool
is_sixteen (Good octets) = false
is_sixteen Bad = false
is_sixteen Sixteen = true

abbrev pub counts_of : List Mark → MarkCounts
counts_of marks = record {
  good = count_by is_good marks;
  bad = count_by is_bad marks;
  sixteen = count_by is_sixteen marks;
}

abbrev pub counts_text : MarkCounts → List ℕ
counts_text c =
    codes "end good=" ++ (decimal c.good ++ (codes " bad=" ++ (decimal c.bad
    ++ (codes " sixteen=" ++ (decimal c.sixteen ++ codes "\n")))))

-- a fault leaves out the last line
abbrev pub with_end : Option ℕ → List Mark → Printed UnreadableOctet
with_end None marks =
    record { printed = marks_text marks ++ counts_text (counts_of marks); fault = None }
with_end (Some place) marks =
    record { printed = marks_text marks; fault = Some (record { place = place }) }

-- THE TEXT: the lines of the marks that the octets' bits give, each octet's lowest bit first, and the last line or the
-- fault
pub record IsUnitsText (input : List ℕ) (played : Printed UnreadableOctet) : Type 0 where
  pub marks : List Mark
  pub are : AreMarks [] (line_bits (octets_in input)) marks
  pub played_is : played ≡ with_end (fault_place input) marks

-- there is one at most
abbrev pub InputHasOneText : Type 0
InputHasOneText =
    (input : List ℕ) (a b : Printed UnreadableOctet) → IsUnitsText input a → IsUnitsText input b
    → a ≡ b
