-- What a line of a text whose outcomes a relation tells prints, and what the lines so far have printed.
use Rattle.std.specs.Prelude.{◌≡◌, ℕ, suc, List, ◌++◌, length, Result, MatchResult}
use Rattle.text_base.specs.declared.fault.Stop.{Stop}
use Rattle.text_base.specs.declared.fault.Stop.TheVariants.{Input, Memory}
use Rattle.text_base.specs.Printing.{Printed, behind}
use Rattle.text_lines.specs.Lines.{LineOutcome, stops, prints}
use Rattle.text_lines.specs.Talks.{IsBehind, IsTextOfLines, TalkRules}

-- a fault that a line tells is one that it may have; want of memory tells nothing
abbrev pub MayTell : {S F : Type 0} → Stop F → (LineOutcome S F → Type 0) → Type 0
MayTell (Input fault) May = May (stops fault)
MayTell Memory May = Unit {0}

-- a line may print this and leave that
pub record MayDo {S F : Type 0} (May : LineOutcome S F → Type 0) (before after : List ℕ) (new : S) : Type 0 where
  pub printed : List ℕ
  pub added : after ≡ before ++ printed
  pub may : May (prints printed new)

-- a line was carried out, and what it prints was added; or it tells a fault, and nothing was added
abbrev pub IsCarriedOut : {S F : Type 0} → Result (Unit {0}) (Stop F) → (LineOutcome S F → Type 0) → List ℕ → List ℕ
    → S → Type 0
IsCarriedOut result May before after new =
    MatchResult result (λ done. MayDo May before after new) (λ stop. MayTell stop May × (after ≡ before))

-- The text from a line on.

-- the whole is this, and behind it what goes on
pub record Leads {F : Type 0} (Whole : Printed F → Type 0) (printed : List ℕ) (Later : Printed F → Type 0) : Type 0 where
  pub on : (later : Printed F) → Later later → Whole (behind printed later)
  pub back : (text : Printed F) → Whole text → IsBehind printed Later text

-- the text of all lines
abbrev pub IsTextOfAll : {S F : Type 0} → TalkRules S F → List (List ℕ) → Printed F → Type 0
IsTextOfAll rules lines text = IsTextOfLines rules 1 rules.start lines text

-- these lines were read, and have printed this
abbrev pub HasTalked : {S F : Type 0} → TalkRules S F → S → List (List ℕ) → List ℕ → Type 0
HasTalked rules state past printed =
    (left : List (List ℕ)) → Leads (IsTextOfAll rules (past ++ left)) printed
    (IsTextOfLines rules (suc (length past)) state left)
