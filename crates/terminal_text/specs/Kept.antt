-- THE TEXT OF `terminal --keep`: a line that can't be read or can't be done prints its fault, and leaves the end as it was.
use Rattle.std.specs.Prelude.{◌≡◌, ℕ, List, ◌++◌, codes, Option, None, Result, Ok, Err}
use Rattle.std.proofs.Common.{ap, sym, ◌∙◌}
use Rattle.text_base.specs.declared.fault.Stop.{Stop}
use Rattle.text_base.specs.declared.fault.Stop.TheVariants.{Input, Memory}
use Rattle.text_base.specs.Printing.{Printed}
use Rattle.text_lines.specs.Explaining.{Said, lines_behind}
use Rattle.text_lines.specs.Lines.{prints, stops}
use Rattle.text_lines.specs.Talks.{HaveOneOutcome, IsTalkText, TalkRules}
use Rattle.terminal_text.specs.Explaining.{said}
use Rattle.terminal_text.specs.Faults.{fault_text}
use Rattle.terminal_text.specs.Named.{named_rules}
use Rattle.terminal_text.specs.Text.{TerminalOutcome, early_in, terminal_rules}
use Rattle.terminal_text.specs.declared.fault.TerminalFault.{TerminalFault}
use Rattle.terminal_text.specs.declared.open_end.End.{End as EndState}

-- the fault as the program tells it, and on lines of their own those that explain it
abbrev pub fault_lines : TerminalFault → Option (List ℕ) → List ℕ
fault_lines fault told = codes "fault " ++ ((fault_text fault ++ lines_behind told) ++ codes "\n")

-- what a line does from this end, of whose fault this is said
abbrev pub kept : Option EndState → (TerminalFault → Option (List ℕ)) → TerminalOutcome → TerminalOutcome
kept end told (prints printed new) = prints printed new
kept end told (stops fault) = prints (fault_lines fault (told fault)) end

pub record MayKeep (rules : TalkRules (Option EndState) TerminalFault) (told : Said (Option EndState) TerminalFault) (n : ℕ)
    (end : Option EndState) (line : List ℕ) (outcome : TerminalOutcome) : Type 0 where
  pub own : TerminalOutcome
  pub may : rules.may n end line own
  pub outcome_is : outcome ≡ kept end (told end line) own

-- one of over 4,096 octets isn't kept, and ends the text
abbrev pub kept_rules : TalkRules (Option EndState) TerminalFault → Said (Option EndState) TerminalFault
    → TalkRules (Option EndState) TerminalFault
kept_rules rules told = record {
  start = rules.start;
  may = MayKeep rules told;
  at_the_end = rules.at_the_end;
  unreadable = rules.unreadable;
}

-- a line has one outcome, since it has one where a fault ends the text
pub one_kept : (rules : TalkRules (Option EndState) TerminalFault) (told : Said (Option EndState) TerminalFault)
    → HaveOneOutcome rules → HaveOneOutcome (kept_rules rules told)
one_kept rules told one n end line a b x y =
    x.outcome_is ∙ ap (kept end (told end line)) (one n end line x.own y.own x.may y.may) ∙ sym y.outcome_is

-- THE TEXTS: by numbers alone; and in words, where a fault has its explanation
abbrev pub untold : Said (Option EndState) TerminalFault
untold end line fault = None

abbrev pub kept_terminal : TalkRules (Option EndState) TerminalFault
kept_terminal = kept_rules terminal_rules untold

abbrev pub kept_named : TalkRules (Option EndState) TerminalFault
kept_named = kept_rules named_rules (λ end. said (early_in end))

abbrev pub IsKeptTerminalText : List ℕ → Printed TerminalFault → Type 0
IsKeptTerminalText = IsTalkText kept_terminal

abbrev pub IsKeptNamedText : List ℕ → Printed TerminalFault → Type 0
IsKeptNamedText = IsTalkText kept_named

-- THE CODE beside the definition: a line at fault leaves what was there
abbrev pub StaysAtFault : {F S : Type 0} → Result (Unit {0}) (Stop F) → S → S → Type 0
StaysAtFault (Ok done) old new = Unit {0}
StaysAtFault (Err (Input fault)) old new = new ≡ old
StaysAtFault (Err Memory) old new = Unit {0}
