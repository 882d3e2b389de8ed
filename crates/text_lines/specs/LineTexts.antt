-- A TEXT THAT IS PRINTED WHILE ITS LINES ARE READ: which text lines have, and how far a reader has come.
use Rattle.std.specs.Prelude.{◌≡◌, ◌<◌, ℕ, suc, List, [], ◌∷◌, ◌++◌, length, Some, None, Result, MatchResult}
use Rattle.text_base.specs.Printing.{IsBegun, Printed, StopsIn}
use Rattle.text_base.specs.declared.fault.Stop.{Stop}

-- In what follows F is how lines can be at fault, and S what a reader keeps.

-- which text lines have
abbrev pub LinesText : Type 0 → Type 1
LinesText F = List (List ℕ) → Printed F → Type 0

-- that these lines were read, and have printed this
abbrev pub LinesRead : Type 1
LinesRead = List (List ℕ) → List ℕ → Type 0

-- LAWS, which a reader has to keep

-- lines have one text
abbrev pub HaveOneText : {F : Type 0} → LinesText F → Type 0
HaveOneText {F} IsText = (lines : List (List ℕ)) (a b : Printed F) → IsText lines a → IsText lines b → a ≡ b

-- what was printed is the beginning of the text, whatever lines follow
abbrev pub AreBegun : {S F : Type 0} → LinesText F → (S → LinesRead) → Type 0
AreBegun {S} IsText HasRead =
    (state : S) (past : List (List ℕ)) (printed : List ℕ) → HasRead state past printed
    → (left : List (List ℕ)) → IsBegun (IsText (past ++ left)) printed

-- a line of more octets ends the text with this fault of its number, whatever it is
abbrev pub RefuseVeryLong : {S F : Type 0} → ℕ → (ℕ → F) → LinesText F → (S → LinesRead) → Type 0
RefuseVeryLong {S} longest fault IsText HasRead =
    (state : S) (past : List (List ℕ)) (printed : List ℕ) → HasRead state past printed
    → (line : List ℕ) (left : List (List ℕ)) → longest < length line
    → IsText (past ++ line ∷ left) (record { printed = printed; fault = Some (fault (suc (length past))) })

-- A LINE

-- it was read, and what it prints was added; it has the number behind those before it
pub record ReadsLine (HadRead : LinesRead) (n : ℕ) (line before after : List ℕ) (HasRead : LinesRead) : Type 0 where
  pub printed : List ℕ
  pub added : after ≡ before ++ printed
  pub goes_on : (past : List (List ℕ)) (lines : List ℕ) → n ≡ suc (length past) → HadRead past lines
      → HasRead (past ++ line ∷ []) (lines ++ printed)

-- it ended the text with a fault, whatever follows
pub record StopsAtLine {F : Type 0} (IsText : LinesText F) (stop : Stop F) (HadRead : LinesRead) (n : ℕ)
    (line before after : List ℕ) : Type 0 where
  pub printed : List ℕ
  pub added : after ≡ before ++ printed
  pub ends : (past : List (List ℕ)) (lines : List ℕ) → n ≡ suc (length past) → HadRead past lines
      → (left : List (List ℕ)) → StopsIn stop (IsText (past ++ line ∷ left)) (lines ++ printed)

abbrev pub ReadsLineOrStops : {F : Type 0} → LinesText F → Result (Unit {0}) (Stop F) → LinesRead → ℕ
    → List ℕ → List ℕ → List ℕ → LinesRead → Type 0
ReadsLineOrStops IsText result HadRead n line before after HasRead =
    MatchResult result
    (λ done. ReadsLine HadRead n line before after HasRead)
    (λ stop. StopsAtLine IsText stop HadRead n line before after)

-- THE END

-- the text was printed to its end, or a fault ended it
abbrev pub IsLast : {F : Type 0} → Result (Unit {0}) (Stop F) → (Printed F → Type 0) → List ℕ → Type 0
IsLast result IsIt printed =
    MatchResult result
    (λ done. IsIt (record { printed = printed; fault = None }))
    (λ stop. StopsIn stop IsIt printed)

-- no line is left, and what the text prints then was added
pub record EndsLines {F : Type 0} (IsText : LinesText F) (result : Result (Unit {0}) (Stop F)) (HasRead : LinesRead) (n : ℕ)
    (before after : List ℕ) : Type 0 where
  pub printed : List ℕ
  pub added : after ≡ before ++ printed
  pub ends : (past : List (List ℕ)) (lines : List ℕ) → n ≡ suc (length past) → HasRead past lines
      → IsLast result (IsText past) (lines ++ printed)
