-- WHAT IS WRONG with a line that can't be read, as far as its octets tell it, whatever its words are.
use Rattle.std.specs.Prelude.{ℕ, Bool, true, false, ◌==◌, List, [], ◌∷◌, if◌then◌else◌, codes}
use Rattle.std.specs.List.{list_any}
use Rattle.text_lines.specs.declared.flaw.LineFlaw.{LineFlaw}
use Rattle.text_lines.specs.declared.flaw.LineFlaw.TheVariants.{Words, Long, VeryLong, CarriageReturn, Tab, FirstSpace, LastSpace, TwoSpaces}

abbrev pub begins_with : ℕ → List ℕ → Bool
begins_with octet [] = false
begins_with octet (first ∷ others) = first == octet

abbrev pub ends_with : ℕ → List ℕ → Bool
ends_with octet [] = false
ends_with octet (first ∷ []) = first == octet
ends_with octet (first ∷ second ∷ others) = ends_with octet (second ∷ others)

abbrev pub is_tab : ℕ → Bool
is_tab octet = octet == 9

abbrev pub has_tab : List ℕ → Bool
has_tab line = list_any is_tab line

-- a space (32), and one right behind it
abbrev pub has_two_spaces : List ℕ → Bool
has_two_spaces [] = false
has_two_spaces (first ∷ others) =
    if first == 32 then (if begins_with 32 others then true else has_two_spaces others)
    else has_two_spaces others

-- THE FLAW of a line that can't be read and isn't too long: a CR (13) at its end, a tab, a space at its beginning or end,
-- two in a row; where it has none of these, its words
abbrev pub flaw_of : List ℕ → LineFlaw
flaw_of line =
    if ends_with 13 line then CarriageReturn
    else (if has_tab line then Tab
    else (if begins_with 32 line then FirstSpace
    else (if ends_with 32 line then LastSpace
    else (if has_two_spaces line then TwoSpaces else Words))))

-- what is said of it behind `fault line N text`
abbrev pub flaw_text : LineFlaw → List ℕ
flaw_text Words = codes ""
flaw_text Long = codes ": the line has more than 4,096 octets"
flaw_text VeryLong = codes ": the line has more than 16,384 octets"
flaw_text CarriageReturn = codes ": the line ends with a carriage return (CRLF)"
flaw_text Tab = codes ": the line has a tab"
flaw_text FirstSpace = codes ": the line begins with a space"
flaw_text LastSpace = codes ": the line ends with a space"
flaw_text TwoSpaces = codes ": the line has two spaces in a row"
