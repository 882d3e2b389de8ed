-- THE TEXT OF `terminal` with explanations: what is said of a line that ends it with a fault.
use Rattle.std.specs.Prelude.{ℕ, List, Option, Some, None, unwrap_or}
use Rattle.std.specs.Option.{option_map}
use Rattle.std.specs.Result.{result_err}
use Rattle.text_forms.specs.Asking.{blamed_line}
use Rattle.text_forms.specs.Impossible.{blamed_link, blamed_profile}
use Rattle.text_forms.specs.Opening.{opening_read}
use Rattle.text_forms.specs.Showing.{explanation}
use Rattle.text_forms.specs.declared.words.Blame.{Blame}
use Rattle.text_lines.specs.Explaining.{Explained, explained_rules}
use Rattle.text_lines.specs.Talks.{IsTalkText}
use Rattle.text_base.specs.Printing.{Printed}
use Rattle.terminal_text.specs.declared.fault.TerminalFault.{TerminalFault}
use Rattle.terminal_text.specs.declared.fault.TerminalFault.TheVariants.{Text, Step}
use Rattle.terminal_text.specs.Named.{named_rules}
use Rattle.terminal_text.specs.Text.{early_in}
use Rattle.text_forms.specs.declared.early.Early.{Early}

-- the word at fault of a line that can't be read: a first line is refused as a script's is, or since it's wide
abbrev pub unread : Option Early → List ℕ → Option Blame
unread None text = Some (unwrap_or (result_err (opening_read text)) (blamed_profile text))
unread (Some early) text = blamed_line early text

-- the lines that explain a fault on this line
abbrev pub said : Option Early → List ℕ → TerminalFault → Option (List ℕ)
said early text (Text n flaw) = option_map (λ blame. explanation n blame text) (unread early text)
said early text (Step n) = Some (explanation n (blamed_link text) text)

-- THE TEXT: that of `terminal` in words, with an explanation of the fault
abbrev pub IsExplainedTerminalText : List ℕ → Printed (Explained TerminalFault) → Type 0
IsExplainedTerminalText = IsTalkText (explained_rules named_rules (λ end. said (early_in end)))
