-- A TEXT WITH EXPLANATIONS: what is said of the line that ends it with a fault.
use Rattle.std.specs.Prelude.{◌≡◌, ℕ, List, [], ◌++◌, codes, Option, Some, None, Result, Ok, Err}
use Rattle.std.specs.Option.{option_map}
use Rattle.std.proofs.Common.{ap, sym, ◌∙◌}
use Rattle.text_base.specs.declared.fault.Fault.{Fault}
use Rattle.text_base.specs.declared.fault.Fault.TheVariants.{Input, Memory, Read, Long, Write}
use Rattle.text_base.specs.declared.fault.Stop.{Stop}
use Rattle.text_base.specs.declared.fault.Stop.TheVariants.{Input as StopsAt, Memory as NoMemory}
use Rattle.text_base.specs.Printing.{Printed}
use Rattle.text_lines.specs.Lines.{LineOutcome, prints, stops}
use Rattle.text_lines.specs.Talks.{HaveOneOutcome, TalkRules}

-- a fault, and the lines that explain it
pub record Explained (F : Type 0) : Type 0 where
  pub fault : F
  pub told : Option (List ℕ)

-- what is shown behind the fault's own text: on lines of their own those that explain it
abbrev pub lines_behind : Option (List ℕ) → List ℕ
lines_behind None = []
lines_behind (Some lines) = codes "\n" ++ lines

-- what is said of a fault of a line, by what the lines before it leave
abbrev pub Said : Type 0 → Type 0 → Type 0
Said S F = S → List ℕ → F → Option (List ℕ)

-- a line does what it does, and its fault is explained
abbrev pub explains : {S F : Type 0} → Said S F → S → List ℕ → LineOutcome S F → LineOutcome S (Explained F)
explains said state line (prints printed next) = prints printed next
explains said state line (stops fault) = stops (record { fault = fault; told = said state line fault })

pub record MayExplain {S F : Type 0} (rules : TalkRules S F) (said : Said S F) (n : ℕ) (state : S) (line : List ℕ)
    (outcome : LineOutcome S (Explained F)) : Type 0 where
  pub own : LineOutcome S F
  pub may : rules.may n state line own
  pub outcome_is : outcome ≡ explains said state line own

-- a line that is too long isn't kept, and so not explained
abbrev pub explained_rules : {S F : Type 0} → TalkRules S F → Said S F → TalkRules S (Explained F)
explained_rules rules said = record {
  start = rules.start;
  may = MayExplain rules said;
  at_the_end = rules.at_the_end;
  unreadable = λ n. record { fault = rules.unreadable n; told = None };
}

-- a line has one outcome, since it has one without the explanation
pub one_explained : {S F : Type 0} (rules : TalkRules S F) (said : Said S F) → HaveOneOutcome rules → HaveOneOutcome (explained_rules rules said)
one_explained {S} {F} rules said one n state line a b x y =
    x.outcome_is ∙ ap (λ (own : LineOutcome S F). explains said state line own) (one n state line x.own y.own x.may y.may) ∙ sym y.outcome_is

-- but for what is said of a fault
abbrev pub with_fault_alone : {F : Type 0} → Printed (Explained F) → Printed F
with_fault_alone p = record { printed = p.printed; fault = option_map (λ e. e.fault) p.fault }

abbrev pub fault_alone : {F : Type 0} → Result (Unit {0}) (Fault (Explained F)) → Result (Unit {0}) (Fault F)
fault_alone (Ok done) = Ok done
fault_alone (Err (Input e)) = Err (Input e.fault)
fault_alone (Err Memory) = Err Memory
fault_alone (Err Read) = Err Read
fault_alone (Err Long) = Err Long
fault_alone (Err Write) = Err Write

-- The code beside the definition: a fault with its explanation, or want of memory.
abbrev pub IsExplained : {F : Type 0} → Stop (Explained F) → F → Option (List ℕ) → Type 0
IsExplained (StopsAt e) fault told = e ≡ record { fault = fault; told = told }
IsExplained NoMemory fault told = Unit {0}
