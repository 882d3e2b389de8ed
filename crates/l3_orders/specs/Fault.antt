-- Which bodies are refused as an order, and why.
use Rattle.std.specs.Prelude.{ℕ, Bool, ◌%◌, ◌==◌, ◌||◌, not, nat_lt, Option, Some, None, List, length, slice_index, drop, if◌then◌else◌}
use Rattle.l2_units.specs.declared.profile.Profile.{Profile}
use Rattle.l2_units.specs.declared.profile.Profile.TheVariants.{Narrow, Wide}
use Rattle.l3_orders.specs.Grammar.{heading, is_numbered}
use Rattle.l3_orders.specs.declared.reading.OrderFault.{OrderFault}
use Rattle.l3_orders.specs.declared.reading.OrderFault.TheVariants.{NotManagement, Unknown, Length}

-- the numbers of the refusals
abbrev pub number_of : OrderFault → ℕ
number_of NotManagement = 1
number_of Unknown = 2
number_of Length = 3

-- the heading codes of ECO and ECA, with no octet after them
abbrev pub is_emergency : ℕ → Bool
is_emergency code = (code == heading 2 1) || (code == heading 2 2)

-- the six heading codes
abbrev pub is_heading : ℕ → Bool
is_heading code =
    (code == heading 1 1) || (code == heading 1 2) || (code == heading 1 5) || (code == heading 1 6)
    || is_emergency code

-- a heading code with these octets after it is refused: it is none of the six, or has another length
abbrev pub number_octets : Profile → ℕ
number_octets Narrow = 1
number_octets Wide = 2

abbrev pub content_octets : Profile → ℕ → ℕ
content_octets profile code =
    if is_emergency code then 0 else (if is_numbered code then number_octets profile else 1)

abbrev pub refusal_with : Profile → ℕ → List ℕ → Option OrderFault
refusal_with profile code content =
    if not (is_heading code) then Some Unknown
    else (if not (length content == content_octets profile code) then Some Length
    else None)

-- the first refusal that holds, in the order of their numbers
abbrev pub refusal_of : Profile → List ℕ → Option OrderFault
refusal_of profile octets =
    if (length octets == 0) || not (slice_index octets 0 % 16 == 0) then Some NotManagement
    else (if nat_lt (length octets) 6 then Some Unknown
    else refusal_with profile (slice_index octets 5) (drop 6 octets))
