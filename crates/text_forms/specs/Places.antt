-- THE PLACES of a line's forms: what a word is read as in each, and the mistake of one that isn't.
use Rattle.std.specs.Prelude.{ℕ, Bool, true, false, ◌==◌, ◌%◌, ◌||◌, ◌&&◌, nat_lt, nat_le, List, length, map, Option, Some, None, if◌then◌else◌, codes, is_some}
use Rattle.std.specs.Option.{option_map, option_and_then}
use Rattle.std.specs.List.{list_all}
use Rattle.std.specs.Str.{bytes_eq}
use Rattle.l2_units.specs.declared.profile.Profile.{Profile}
use Rattle.l2_units.specs.declared.profile.Profile.TheVariants.{Narrow, Wide}
use Rattle.l2_units.specs.declared.unit.Unit.{Unit as SignalUnit}
use Rattle.l2_units.specs.Grammar.{unit_of as unit_of_octets}
use Rattle.pair_steps.specs.declared.step.End.{End as AnEnd}
use Rattle.pair_steps.specs.declared.step.End.TheVariants.{A, B}
use Rattle.text_base.specs.Figures.{number_of, hex_value, octets_of}
use Rattle.text_forms.specs.declared.mistake.Mistake.{Mistake}
use Rattle.text_forms.specs.declared.mistake.Mistake.TheVariants.{End, Link, Number, OddDigits, NotHexadecimal, UnitShort, WideUnitShort, UnitLong, UnitLength, WideUnitLength, Terminal}
use Rattle.text_forms.specs.declared.terminal_mistake.TerminalMistake.{TerminalMistake}
use Rattle.text_forms.specs.declared.terminal_mistake.TerminalMistake.TheVariants.{Bits, UnitName, Body, FirstBody, Quiet, Told, Switch, Number as NoNumber}
use Rattle.text_forms.specs.declared.named.Named.{Named}
use Rattle.text_forms.specs.Named.{named_of}
use Rattle.text_forms.specs.Words.{Place, value_in}

-- an end of the pair
abbrev pub end_of : List ℕ → Option AnEnd
end_of word = if bytes_eq word (codes "a") then Some A else (if bytes_eq word (codes "b") then Some B else None)

abbrev pub an_end : Place AnEnd
an_end = record { value = end_of; wrong = λ word. End }

-- a link's number; one over 255 is read as 255, since no set has either link
abbrev pub link_of : List ℕ → Option ℕ
link_of word = option_map (λ number. if nat_lt number 256 then number else 255) (number_of word)

abbrev pub a_link : Place ℕ
a_link = record { value = link_of; wrong = λ word. Link }

-- the number of a message, or the place of a unit
abbrev pub a_number : Place ℕ
a_number = record { value = number_of; wrong = λ word. Number }

-- Octets in hexadecimal, at least one.

abbrev pub some_octets : List ℕ → Option (List ℕ)
some_octets word = if length word == 0 then None else octets_of word

abbrev pub is_hex : ℕ → Bool
is_hex c = is_some (hex_value c)

-- digits, one too many; or this, where they are octets
abbrev pub wrong_digits : List ℕ → Mistake → Mistake
wrong_digits word other =
    if list_all is_hex word then (if length word % 2 == 1 then OddDigits else other)
    else NotHexadecimal

abbrev pub octets : Place (List ℕ)
octets = record { value = some_octets; wrong = λ word. wrong_digits word OddDigits }

-- The unit of a profile that a word gives: its octets, without check octets.

abbrev pub unit_of : Profile → List ℕ → Option SignalUnit
unit_of profile word = option_and_then (unit_of_octets profile) (some_octets word)

-- a unit of 3 to 276 octets (Q.703 2.2, 2.3), or of 4 to 276 in the wide profile, is at fault in its length indicator
abbrev pub wrong_length : Profile → List ℕ → Mistake
wrong_length Narrow word =
    if nat_lt (length word) 6 then UnitShort
    else (if nat_lt 552 (length word) then UnitLong else UnitLength)
wrong_length Wide word =
    if nat_lt (length word) 8 then WideUnitShort
    else (if nat_lt 552 (length word) then UnitLong else WideUnitLength)

abbrev pub a_unit : Profile → Place SignalUnit
a_unit profile = record { value = unit_of profile; wrong = λ word. wrong_digits word (wrong_length profile word) }

-- Places of the lines of a terminal.

-- a number behind its name
abbrev pub a_named : Named → Place ℕ
a_named named = record { value = named_of named; wrong = λ word. Terminal (NoNumber named) }

-- a word that stands for yes
abbrev pub flag_of : List ℕ → List ℕ → Option Bool
flag_of name word = if bytes_eq word name then Some true else None

abbrev pub a_flag : List ℕ → TerminalMistake → Place Bool
a_flag name wrong = record { value = flag_of name; wrong = λ word. Terminal wrong }

abbrev pub a_quiet : Place Bool
a_quiet = a_flag (codes "quiet") Quiet

abbrev pub a_told : Place Bool
a_told = a_flag (codes "told") Told

-- on or off
abbrev pub switch_of : List ℕ → Option Bool
switch_of word = if bytes_eq word (codes "on") then Some true else (if bytes_eq word (codes "off") then Some false else None)

abbrev pub a_switch : Place Bool
a_switch = record { value = switch_of; wrong = λ word. Terminal Switch }

-- digits 0 (48) and 1 (49), at least one
abbrev pub is_bit : ℕ → Bool
is_bit c = c == 48 || c == 49

abbrev pub bits_of : List ℕ → Option (List ℕ)
bits_of word =
    if length word == 0 then None else (if list_all is_bit word then Some (map (λ c. c % 2) word) else None)

abbrev pub bits : Place (List ℕ)
bits = record { value = bits_of; wrong = λ word. Terminal Bits }

-- the octets of a unit, 1 to 276, whatever they say; another word is no unit's name
abbrev pub short_enough : List ℕ → Option (List ℕ)
short_enough octets = if nat_le (length octets) 276 then Some octets else None

abbrev pub wrong_any_unit : List ℕ → Mistake
wrong_any_unit word =
    if list_all is_hex word then wrong_digits word UnitLong else Terminal UnitName

abbrev pub any_unit : Place (List ℕ)
any_unit = record { value = λ word. option_and_then short_enough (some_octets word); wrong = wrong_any_unit }

-- body=HEX, 3 to 273 octets; the words of a header may stand before it where none stood yet
abbrev pub long_enough : List ℕ → Option (List ℕ)
long_enough body = if nat_le 3 (length body) && nat_le (length body) 273 then Some body else None

abbrev pub body_of : List ℕ → Option (List ℕ)
body_of word = option_and_then long_enough (option_and_then some_octets (value_in (codes "body=") word))

abbrev pub wrong_body : Bool → Mistake
wrong_body true = Terminal Body
wrong_body false = Terminal FirstBody

abbrev pub a_body : Bool → Place (List ℕ)
a_body has_head = record { value = body_of; wrong = λ word. wrong_body has_head }
