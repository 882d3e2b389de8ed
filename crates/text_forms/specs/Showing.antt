-- A LINE SHOWN, in at most 100 columns, with a caret under one of its columns.
use Rattle.std.specs.Prelude.{ℕ, ◌+◌, ◌-◌, nat_le, min, List, [], ◌++◌, length, take, drop, map, replicate, if◌then◌else◌, codes, decimal}
use Rattle.text_forms.specs.Words.{is_plain}
use Rattle.text_forms.specs.Texts.{mistake_text}
use Rattle.text_forms.specs.declared.words.Blame.{Blame}

-- a printable character of ASCII is shown as itself, any other octet as a dot
abbrev pub plain : ℕ → ℕ
plain c = if is_plain c then c else 46

-- of a line at most 64 columns stand before the caret, and 96 are shown in all
abbrev pub shown : List ℕ → List ℕ
shown behind = map plain (take 96 behind)

-- two columns at the left, where dots say that the line begins before; and dots where it goes on behind
abbrev pub front_mark : ℕ → List ℕ
front_mark column = if nat_le column 64 then codes "  " else codes ".."

abbrev pub back_mark : List ℕ → List ℕ
back_mark behind = if nat_le (length behind) 96 then [] else codes ".."

abbrev pub shown_from : ℕ → List ℕ → List ℕ
shown_from column behind = front_mark column ++ (shown behind ++ back_mark behind)

abbrev pub shown_line : ℕ → List ℕ → List ℕ
shown_line column text = shown_from column (drop (column - 64) text)

abbrev pub caret_line : ℕ → List ℕ
caret_line column = replicate (min column 64 + 2) 32 ++ codes "^"

-- THE EXPLANATION of a line: its number and what is wanted there, the line, and a caret under the word at fault
abbrev pub explanation : ℕ → Blame → List ℕ → List ℕ
explanation number blame text =
    codes "line " ++ (decimal number ++ (codes ": " ++ (mistake_text blame.mistake ++ (codes "\n"
    ++ (shown_line blame.column text ++ (codes "\n" ++ caret_line blame.column))))))
