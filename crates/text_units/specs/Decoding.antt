-- THE TEXT OF `decode`: the octets of a unit, a unit a line, and what they say.
use Rattle.std.specs.Prelude.{ℕ, Bool, true, false, ◌&&◌, ◌+◌, ◌*◌, ◌/◌, ◌%◌, ◌-◌, nat_le, List, [], ◌∷◌, ◌++◌, length, take, Option, Some, None, codes, decimal}
use Rattle.std.specs.Str.{bytes_eq}
use Rattle.l2_bits.specs.SealedText.{sealed_text}
use Rattle.l2_units.specs.declared.status.Status.{Status}
use Rattle.l2_units.specs.declared.unit.Header.{Header}
use Rattle.l2_units.specs.declared.unit.Unit.{Unit as SignalUnit}
use Rattle.l2_units.specs.declared.unit.Unit.TheVariants.{Fisu, Lssu, Msu}
use Rattle.l2_units.specs.Grammar.{unit_of}
use Rattle.l2_units.specs.declared.profile.Profile.{Profile}
use Rattle.l2_units.specs.declared.profile.Profile.TheVariants.{Narrow, Wide}
use Rattle.l3_orders.specs.declared.order.Order.{Order}
use Rattle.l3_orders.specs.declared.order.Order.TheVariants.{Coo, Coa, Cbd, Cba, Eco, Eca}
use Rattle.l3_orders.specs.Grammar.{order_of}
use Rattle.text_base.specs.Figures.{octets_of, hex_text, bit}
use Rattle.text_lines.specs.declared.flaw.LineFlaw.TheVariants.{Long}
use Rattle.text_lines.specs.Flaws.{flaw_of}
use Rattle.text_lines.specs.Lines.{LineOutcome, Rules, prints, stops, IsLinesText}
use Rattle.text_base.specs.Printing.{Printed}
use Rattle.text_units.specs.declared.decode_fault.UnreadableUnit.{UnreadableUnit}
use Rattle.text_units.specs.declared.unit_line.Check.{Check}
use Rattle.text_units.specs.declared.unit_line.Check.TheVariants.{Right, Wrong, Absent}

-- The header (Q.703 2.2, 2.3).

abbrev pub check_word : Check → List ℕ
check_word Right = codes "right"
check_word Wrong = codes "wrong"
check_word Absent = codes "none"

-- the length indicator that the octets have: the low six bits of the third (Q.703 2.3.3)
abbrev pub narrow_indicator : List ℕ → ℕ
narrow_indicator (backward ∷ forward ∷ third ∷ body) = third % 64
narrow_indicator (backward ∷ forward ∷ []) = 0
narrow_indicator (backward ∷ []) = 0
narrow_indicator [] = 0

-- in the wide profile: the high six bits of the fourth
abbrev pub wide_indicator : List ℕ → ℕ
wide_indicator (a ∷ b ∷ c ∷ d ∷ body) = d / 4
wide_indicator (a ∷ b ∷ c ∷ []) = 0
wide_indicator (a ∷ b ∷ []) = 0
wide_indicator (a ∷ []) = 0
wide_indicator [] = 0

abbrev pub indicator_in : Profile → List ℕ → ℕ
indicator_in Narrow octets = narrow_indicator octets
indicator_in Wide octets = wide_indicator octets

abbrev pub numbers_text : List ℕ → Header → List ℕ
numbers_text kind h =
    kind ++ (codes " bsn=" ++ (decimal h.bsn ++ (codes " bib=" ++ (decimal (bit h.bib)
    ++ (codes " fsn=" ++ (decimal h.fsn ++ (codes " fib=" ++ decimal (bit h.fib))))))))

abbrev pub checks_text : ℕ → Check → List ℕ
checks_text indicator check =
    codes " li=" ++ (decimal indicator ++ (codes " check=" ++ check_word check))

abbrev pub head_text : List ℕ → Header → ℕ → Check → List ℕ
head_text kind h indicator check = numbers_text kind h ++ checks_text indicator check

-- The status of a link status signal unit (Q.703 11.1.3).

abbrev pub status_word : Status → List ℕ
status_word Status.OutOfAlignment = codes "SIO"
status_word Status.Normal = codes "SIN"
status_word Status.Emergency = codes "SIE"
status_word Status.OutOfService = codes "SIOS"
status_word Status.ProcessorOutage = codes "SIPO"
status_word Status.Busy = codes "SIB"
status_word Status.Unassigned6 = codes "6"
status_word Status.Unassigned7 = codes "7"

abbrev pub status_text : Status → List ℕ
status_text status = codes " status=" ++ (status_word status ++ codes "\n")

-- A message (Q.704 14.2, 15.2).

-- the service indicator and the subservice field, the low and the high four bits of the SIO, and the point codes
abbrev pub label_text : ℕ → ℕ → ℕ → ℕ → ℕ → List ℕ
label_text sio a b c d =
    codes " si=" ++ (decimal (sio % 16) ++ (codes " ssf=" ++ (decimal (sio / 16)
    ++ (codes " dpc=" ++ (decimal (a + 256 * (b % 64))
    ++ (codes " opc=" ++ decimal (b / 64 + 4 * c + 1024 * (d % 16))))))))

-- the link that an order speaks of, and what it carries (Q.704 15.4 to 15.6)
abbrev pub about : List ℕ → ℕ → List ℕ → ℕ → List ℕ
about name link field number =
    name ++ (codes " link " ++ (decimal link
    ++ (codes " " ++ (field ++ (codes "=" ++ decimal number)))))

abbrev pub about_no_number : List ℕ → ℕ → List ℕ
about_no_number name link = name ++ (codes " link " ++ decimal link)

abbrev pub order_words : Order → List ℕ
order_words (Coo link number) = about (codes "COO") link (codes "fsn") number
order_words (Coa link number) = about (codes "COA") link (codes "fsn") number
order_words (Cbd link code) = about (codes "CBD") link (codes "code") code
order_words (Cba link code) = about (codes "CBA") link (codes "code") code
order_words (Eco link) = about_no_number (codes "ECO") link
order_words (Eca link) = about_no_number (codes "ECA") link

abbrev pub order_text : Order → List ℕ
order_text order = codes " " ++ (order_words order ++ codes "\n")

-- any other message is one of the stream that its SLS is, and has this behind its label
abbrev pub data_text : ℕ → List ℕ → List ℕ
data_text stream more =
    codes " stream=" ++ (decimal stream ++ (codes " data=" ++ (hex_text more ++ codes "\n")))

abbrev pub content_text : Option Order → ℕ → List ℕ → List ℕ
content_text (Some order) stream more = order_text order
content_text None stream more = data_text stream more

-- octets without a whole label
abbrev pub short_text : List ℕ → List ℕ
short_text octets = codes " body=" ++ (hex_text octets ++ codes "\n")

abbrev pub body_text : Profile → List ℕ → List ℕ
body_text profile (sio ∷ a ∷ b ∷ c ∷ d ∷ more) =
    label_text sio a b c d ++ content_text (order_of profile (sio ∷ a ∷ b ∷ c ∷ d ∷ more)) (d / 16) more
body_text profile (sio ∷ a ∷ b ∷ c ∷ []) = short_text (sio ∷ a ∷ b ∷ c ∷ [])
body_text profile (sio ∷ a ∷ b ∷ []) = short_text (sio ∷ a ∷ b ∷ [])
body_text profile (sio ∷ a ∷ []) = short_text (sio ∷ a ∷ [])
body_text profile (sio ∷ []) = short_text (sio ∷ [])
body_text profile [] = short_text []

-- A line.

abbrev pub unit_text : Profile → Check → ℕ → SignalUnit → List ℕ
unit_text profile check indicator (Fisu head) = head_text (codes "fisu") head indicator check ++ codes "\n"
unit_text profile check indicator (Lssu head status) =
    head_text (codes "lssu") head indicator check ++ status_text status
unit_text profile check indicator (Msu head body) =
    head_text (codes "msu") head indicator check ++ body_text profile body.items

-- all octets but the last two, which may be the check octets of these
abbrev pub front_of : List ℕ → List ℕ
front_of octets = take (length octets - 2) octets

-- at most 276 octets, and then their check octets (Q.703 4.2)
abbrev pub is_sealed : List ℕ → Bool
is_sealed octets =
    nat_le (length (front_of octets)) 276 && bytes_eq octets (sealed_text (front_of octets))

-- The unit of the octets before the last two, where those are their check octets; else the unit of all octets; else the
-- unit of those before the last two, which are wrong then. Only at length indicator 63 can both be units.
abbrev pub octets_text : Profile → Option SignalUnit → Bool → Option SignalUnit → ℕ → List ℕ
octets_text profile (Some unit) true whole indicator = unit_text profile Right indicator unit
octets_text profile (Some unit) false (Some whole) indicator =
    unit_text profile Absent indicator whole
octets_text profile (Some unit) false None indicator = unit_text profile Wrong indicator unit
octets_text profile None checked (Some whole) indicator =
    unit_text profile Absent indicator whole
octets_text profile None checked None indicator = codes "no unit\n"

abbrev pub line_text : Profile → List ℕ → List ℕ
line_text profile octets =
    octets_text profile (unit_of profile (front_of octets)) (is_sealed octets) (unit_of profile octets)
    (indicator_in profile octets)

-- a line that isn't hexadecimal digits, two an octet, can't be read
abbrev pub decoded : Profile → ℕ → List ℕ → Option (List ℕ) → LineOutcome (Unit {0}) UnreadableUnit
decoded profile n line None = stops (record { line = n; flaw = flaw_of line })
decoded profile n line (Some octets) = prints (line_text profile octets) tt

-- no line leaves anything for the next
abbrev pub decode_rules : Profile → Rules (Unit {0}) UnreadableUnit
decode_rules profile = record {
  start = tt;
  on_line = λ n state line. decoded profile n line (octets_of line);
  at_the_end = λ state. [];
  unreadable = λ n. record { line = n; flaw = Long };
}

-- THE TEXT, of units of this profile
abbrev pub IsDecodeText : Profile → List ℕ → Printed UnreadableUnit → Type 0
IsDecodeText profile input text = IsLinesText (decode_rules profile) input text
