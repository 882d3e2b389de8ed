-- A TEXT WHOSE LINES' OUTCOMES A RELATION TELLS: as in Lines.antt, with the outcomes that a line may have in place of the one
-- that it has, and the law that it has one.
use Rattle.std.specs.Prelude.{◌≡◌, ℕ, Bool, true, false, nat_lt, suc, List, [], ◌∷◌, length, Some, None}
use Rattle.std.proofs.Common.{sym, ◌∙◌}
use Rattle.text_base.specs.Printing.{Printed, behind}
use Rattle.text_lines.specs.Lines.{LineOutcome, Rules, prints, stops, is_remark, lines_of}

-- what is there before the first line, the outcomes that the line of a number may have that is no remark, what is printed
-- behind the last, and the fault of a line that can't be read
pub record TalkRules (S F : Type 0) : Type 1 where
  pub start : S
  pub may : ℕ → S → List ℕ → LineOutcome S F → Type 0
  pub at_the_end : S → List ℕ
  pub unreadable : ℕ → F

-- LAW, which a text has to keep: a line has one outcome
abbrev pub HaveOneOutcome : {S F : Type 0} → TalkRules S F → Type 0
HaveOneOutcome {S} {F} rules =
    (n : ℕ) (state : S) (line : List ℕ) (a b : LineOutcome S F) → rules.may n state line a → rules.may n state line b → a ≡ b

-- one that is too long can't be read, a remark prints nothing
abbrev pub MayBe : {S F : Type 0} → Bool → Bool → TalkRules S F → ℕ → S → List ℕ → LineOutcome S F → Type 0
MayBe true remark rules n state line outcome = outcome ≡ stops (rules.unreadable n)
MayBe false true rules n state line outcome = outcome ≡ prints [] state
MayBe false false rules n state line outcome = rules.may n state line outcome

-- the line of this number: at most 4,096 octets
abbrev pub MayRead : {S F : Type 0} → TalkRules S F → ℕ → S → List ℕ → LineOutcome S F → Type 0
MayRead rules n state line outcome = MayBe (nat_lt 4096 (length line)) (is_remark line) rules n state line outcome

-- what goes on is printed behind this
abbrev pub IsBehind : {F : Type 0} → List ℕ → (Printed F → Type 0) → Printed F → Type 0
IsBehind {F} printed Later text = (later : Printed F) × Later later × (text ≡ behind printed later)

-- a line, and what goes on from what it leaves
abbrev pub GoesOnBy : {S F : Type 0} → LineOutcome S F → (S → Printed F → Type 0) → Printed F → Type 0
GoesOnBy (prints printed state) Next text = IsBehind printed (Next state) text
GoesOnBy (stops fault) Next text = text ≡ record { printed = []; fault = Some fault }

-- the lines from this number on
abbrev pub IsTextOfLines : {S F : Type 0} → TalkRules S F → ℕ → S → List (List ℕ) → Printed F → Type 0
IsTextOfLines rules n state [] text = text ≡ record { printed = rules.at_the_end state; fault = None }
IsTextOfLines {S} {F} rules n state (line ∷ lines) text =
    (outcome : LineOutcome S F) × MayRead rules n state line outcome
    × GoesOnBy outcome (λ next later. IsTextOfLines rules (suc n) next lines later) text

-- THE TEXT: its lines are counted from 1
abbrev pub IsTalkText : {S F : Type 0} → TalkRules S F → List ℕ → Printed F → Type 0
IsTalkText rules input text = IsTextOfLines rules 1 rules.start (lines_of input) text

-- LAW: an input has one text
abbrev pub HasOneText : {S F : Type 0} → TalkRules S F → Type 0
HasOneText {S} {F} rules =
    (input : List ℕ) (a b : Printed F) → IsTalkText rules input a → IsTalkText rules input b → a ≡ b

-- the rules of a text whose lines a function tells
abbrev pub by_function : {S F : Type 0} → Rules S F → TalkRules S F
by_function rules = record {
  start = rules.start;
  may = λ n state line outcome. rules.on_line n state line ≡ outcome;
  at_the_end = rules.at_the_end;
  unreadable = rules.unreadable;
}

-- such a line has one outcome
pub have_one : {S F : Type 0} (rules : Rules S F) → HaveOneOutcome (by_function rules)
have_one rules n state line a b x y = sym x ∙ y
