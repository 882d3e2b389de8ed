-- What a reader of lines under way holds, and what a whole line prints.
use Rattle.std.specs.Prelude.{◌≡◌, ℕ, ◌≤◌, ◌≢◌, List, [], ◌∷◌, ◌++◌, length, Result, MatchResult}
use Rattle.text_base.specs.declared.fault.Stop.{Stop}
use Rattle.text_base.specs.declared.fault.Stop.TheVariants.{Input, Memory}
use Rattle.text_lines.specs.Lines.{LineOutcome, stops, prints}

-- the number of the line that is being read, its octets so far, and what the lines before it left
pub record Reading (S : Type 0) : Type 0 where
  pub line : ℕ
  pub text : List ℕ
  pub state : S

-- no octet ends the line
abbrev pub IsOpen : List ℕ → Type 0
IsOpen [] = Unit {0}
IsOpen (octet ∷ octets) = (octet ≢ 10) × IsOpen octets

-- the line is no longer than a line may be, and hasn't ended
pub record IsReading (longest : ℕ) (text : List ℕ) : Type 0 where
  pub short : length text ≤ longest
  pub is_open : IsOpen text

-- a fault that a line tells is that of its definition; want of memory tells nothing
abbrev pub Tells : {S F : Type 0} → Stop F → LineOutcome S F → Type 0
Tells (Input fault) outcome = outcome ≡ stops fault
Tells Memory outcome = Unit {0}

-- a line prints this and leaves that
pub record Does {S F : Type 0} (outcome : LineOutcome S F) (before after : List ℕ)
    (new : S) : Type 0 where
  pub printed : List ℕ
  pub added : after ≡ before ++ printed
  pub outcome_is : outcome ≡ prints printed new

-- a line was carried out, and what it prints was added; or it tells a fault, and nothing was added
abbrev pub IsDone : {S F : Type 0} → Result (Unit {0}) (Stop F) → LineOutcome S F → List ℕ → List ℕ
    → S → Type 0
IsDone result outcome before after new =
    MatchResult result (λ done. Does outcome before after new)
    (λ stop. Tells stop outcome × (after ≡ before))

-- this was added, or memory was wanted, and nothing was
abbrev pub Adds : {F : Type 0} → Result (Unit {0}) (Stop F) → List ℕ → List ℕ → List ℕ → Type 0
Adds result printed before after =
    MatchResult result (λ done. after ≡ before ++ printed)
    (λ stop. (stop ≡ Memory) × (after ≡ before))
