-- THE TEXT OF `terminal` IN WORDS: a line prints what it prints, and a number that tells a reason has its words behind it.
use Rattle.std.specs.Prelude.{◌≡◌, ℕ, List, Option}
use Rattle.std.proofs.Common.{ap, sym, ◌∙◌}
use Rattle.text_base.specs.Printing.{Printed}
use Rattle.text_entries.specs.Reasons.{named}
use Rattle.text_lines.specs.Lines.{prints, stops}
use Rattle.text_lines.specs.Talks.{HaveOneOutcome, IsTalkText, TalkRules}
use Rattle.terminal_text.specs.declared.fault.TerminalFault.{TerminalFault}
use Rattle.terminal_text.specs.declared.open_end.End.{End as EndState}
use Rattle.terminal_text.specs.One.{one_outcome}
use Rattle.terminal_text.specs.Text.{MayRead, TerminalOutcome, terminal_rules}

abbrev pub in_words : TerminalOutcome → TerminalOutcome
in_words (prints printed new) = prints (named printed) new
in_words (stops fault) = stops fault

pub record MayPrint (n : ℕ) (end : Option EndState) (text : List ℕ) (outcome : TerminalOutcome) : Type 0 where
  pub own : TerminalOutcome
  pub may : MayRead n end text own
  pub outcome_is : outcome ≡ in_words own

abbrev pub named_rules : TalkRules (Option EndState) TerminalFault
named_rules = record {
  start = terminal_rules.start;
  may = MayPrint;
  at_the_end = terminal_rules.at_the_end;
  unreadable = terminal_rules.unreadable;
}

abbrev pub IsNamedTerminalText : List ℕ → Printed TerminalFault → Type 0
IsNamedTerminalText = IsTalkText named_rules

-- a line has one outcome, since it has one by its numbers
pub one_named : HaveOneOutcome named_rules
one_named n end line a b x y = x.outcome_is ∙ ap in_words (one_outcome n end line x.own y.own x.may y.may) ∙ sym y.outcome_is
