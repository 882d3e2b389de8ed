-- THE TEXT OF `audit` with explanations: what is said of a line that can't be read. An entry that no set makes is no such
-- line.
use Rattle.std.specs.Prelude.{◌≡◌, ℕ, suc, List, [], ◌∷◌, Option, Some, None, if◌then◌else◌}
use Rattle.std.specs.Option.{option_map}
use Rattle.history_audit.specs.Auditing.{IsAuditOfLines}
use Rattle.history_audit.specs.declared.fault.AuditFault.{AuditFault}
use Rattle.set_model.specs.State.{Settings}
use Rattle.text_base.specs.Printing.{Printed}
use Rattle.text_entries.specs.Blaming.{explained_line}
use Rattle.text_entries.specs.Telling.{Told, is_very_long, nothing_told, with_any_line}
use Rattle.text_lines.specs.Explaining.{Explained}
use Rattle.text_lines.specs.Lines.{lines_of}

-- a line that is too long isn't kept, and so not explained; any other so by the profile, if it was told before
abbrev pub said_of : ℕ → Option Settings → List ℕ → Option (List ℕ)
said_of n settings line =
    if is_very_long line then None else explained_line (option_map (λ s. s.profile) settings) n line

abbrev pub said_on : ℕ → Told → List ℕ → Option Told → (Told → Option (List ℕ)) → Option (List ℕ)
said_on n told line None next = said_of n told.settings line
said_on n told line (Some more) next = next more

-- what is said of the first line that can't be read, of those from this number on
abbrev pub said_from : ℕ → Told → List (List ℕ) → Option (List ℕ)
said_from n told [] = None
said_from n told (line ∷ lines) = said_on n told line (with_any_line n told line) (λ next. said_from (suc n) next lines)

abbrev pub explains : Option (List ℕ) → Printed AuditFault → Printed (Explained AuditFault)
explains said own =
    record { printed = own.printed; fault = option_map (λ fault. record { fault = fault; told = said }) own.fault }

-- THE TEXT: that of `audit`, whose fault is explained
pub record IsExplainedOfLines (lines : List (List ℕ)) (text : Printed (Explained AuditFault)) : Type 0 where
  pub own : Printed AuditFault
  pub is_own : IsAuditOfLines lines own
  pub text_is : text ≡ explains (said_from 1 nothing_told lines) own

abbrev pub IsExplainedAuditText : List ℕ → Printed (Explained AuditFault) → Type 0
IsExplainedAuditText input text = IsExplainedOfLines (lines_of input) text
