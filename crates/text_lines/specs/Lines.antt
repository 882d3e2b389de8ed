-- A TEXT THAT IS READ LINE BY LINE: what its lines print, one after another.
use Rattle.std.specs.Prelude.{◌≡◌, ℕ, Bool, true, ◌==◌, nat_lt, suc, List, [], ◌∷◌, length, Some, None, if◌then◌else◌}
use Rattle.text_base.specs.Printing.{Printed, behind}

-- The lines of a text: each ends in LF (10), which the last may lack.

-- the octet that ends a line
abbrev pub is_lf : ℕ → Bool
is_lf octet = octet == 10

abbrev pub onto_first : ℕ → List (List ℕ) → List (List ℕ)
onto_first octet [] = (octet ∷ []) ∷ []
onto_first octet (line ∷ lines) = (octet ∷ line) ∷ lines

abbrev pub lines_of : List ℕ → List (List ℕ)
lines_of [] = []
lines_of (octet ∷ octets) =
    if octet == 10 then [] ∷ lines_of octets else onto_first octet (lines_of octets)

-- an empty line, or one that begins with # (35)
abbrev pub is_remark : List ℕ → Bool
is_remark [] = true
is_remark (octet ∷ octets) = octet == 35

-- In what follows S is what the lines before a line leave for it, and F how a text can be at fault.

-- A line prints this and leaves that; or it ends the text with a fault.
pub data LineOutcome (S F : Type 0) : Type 0 where
  prints : List ℕ → S → LineOutcome S F
  stops : F → LineOutcome S F

-- What a text's lines are: what is there before the first, what the line of a number does that is no remark, what is
-- printed behind the last, and the fault of a line that can't be read.
pub record Rules (S F : Type 0) : Type 0 where
  pub start : S
  pub on_line : ℕ → S → List ℕ → LineOutcome S F
  pub at_the_end : S → List ℕ
  pub unreadable : ℕ → F

-- the line of this number: one of over 4,096 octets can't be read, a remark prints nothing
abbrev pub read_line : {S F : Type 0} → Rules S F → ℕ → S → List ℕ → LineOutcome S F
read_line rules n state line =
    if nat_lt 4096 (length line) then stops (rules.unreadable n)
    else (if is_remark line then prints [] state else rules.on_line n state line)

-- a line, and what goes on from what it leaves
abbrev pub goes_on : {S F : Type 0} → LineOutcome S F → (S → Printed F) → Printed F
goes_on (prints printed state) next = behind printed (next state)
goes_on (stops fault) next = record { printed = []; fault = Some fault }

-- the lines from this number on
abbrev pub text_of_lines : {S F : Type 0} → Rules S F → ℕ → S → List (List ℕ) → Printed F
text_of_lines rules n state [] = record { printed = rules.at_the_end state; fault = None }
text_of_lines rules n state (line ∷ lines) =
    goes_on (read_line rules n state line) (λ next. text_of_lines rules (suc n) next lines)

-- THE TEXT: its lines are counted from 1
abbrev pub lines_text : {S F : Type 0} → Rules S F → List ℕ → Printed F
lines_text rules input = text_of_lines rules 1 rules.start (lines_of input)

abbrev pub IsLinesText : {S F : Type 0} → Rules S F → List ℕ → Printed F → Type 0
IsLinesText rules input text = text ≡ lines_text rules input
