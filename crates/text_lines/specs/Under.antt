-- WHAT A READER OF LINES UNDER WAY STANDS FOR: the lines that were read, and the octets of the one that is being read.
use Rattle.std.specs.Prelude.{◌≡◌, ◌+◌, ◌^◌, ◌≤◌, ℕ, suc, List, ◌++◌, length, Result, MatchResult}
use Rattle.text_base.specs.Printing.{Progress, StopsIn, Texts}
use Rattle.text_base.specs.declared.fault.Stop.{Stop}
use Rattle.text_lines.specs.Lines.{lines_of}
use Rattle.text_lines.specs.LineTexts.{IsLast, LinesRead, LinesText}
use Rattle.text_lines.specs.Reading.{Reading}

-- the text of an input is that of its lines
abbrev pub text_by : {F : Type 0} → LinesText F → Texts F
text_by IsText input text = IsText (lines_of input) text

-- so much was read of an input, and printed: whatever is left, it goes on from the octets of this line
pub record HasReadLines {S : Type 0} (HasRead : S → LinesRead) (r : Reading S) (past printed : List ℕ) : Type 0 where
  pub lines : List (List ℕ)
  pub read : HasRead r.state lines printed
  pub numbered : r.line ≡ suc (length lines)
  pub few : length lines ≤ length past
  pub goes_on : (left : List ℕ) → lines_of (past ++ left) ≡ lines ++ lines_of (r.text ++ left)

-- these octets were read, and what they print was added
pub record Advances (HadRead : Progress) (octets before after : List ℕ) (HasRead : Progress) : Type 0 where
  pub printed : List ℕ
  pub added : after ≡ before ++ printed
  pub goes_on : (past lines : List ℕ) → length past + length octets ≤ 2 ^ 60 → HadRead past lines
      → HasRead (past ++ octets) (lines ++ printed)

-- among these octets the text ended with a fault, after what was added
pub record Halts {F : Type 0} (IsText : Texts F) (stop : Stop F) (HadRead : Progress)
    (octets before after : List ℕ) : Type 0 where
  pub printed : List ℕ
  pub added : after ≡ before ++ printed
  pub ends : (past lines : List ℕ) → length past + length octets ≤ 2 ^ 60 → HadRead past lines
      → (left : List ℕ) → StopsIn stop (IsText (past ++ (octets ++ left))) (lines ++ printed)

abbrev pub AdvancesOrHalts : {F : Type 0} → Texts F → Result (Unit {0}) (Stop F) → Progress
    → List ℕ → List ℕ → List ℕ → Progress → Type 0
AdvancesOrHalts IsText result HadRead octets before after HasRead =
    MatchResult result (λ done. Advances HadRead octets before after HasRead)
    (λ stop. Halts IsText stop HadRead octets before after)

-- no octet is left, and what the text prints then was added
pub record Finishes {F : Type 0} (IsText : Texts F) (result : Result (Unit {0}) (Stop F)) (HasRead : Progress)
    (before after : List ℕ) : Type 0 where
  pub printed : List ℕ
  pub added : after ≡ before ++ printed
  pub ends : (past lines : List ℕ) → length past ≤ 2 ^ 60 → HasRead past lines
      → IsLast result (IsText past) (lines ++ printed)
