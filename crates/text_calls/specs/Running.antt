-- WHAT EACH SUBCOMMAND MAKES OF AN INPUT.
use Rattle.std.specs.Prelude.{◌≡◌, ◌^◌, ℕ, Bool, true, false, List, Result, Ok, Err}
use Rattle.std.specs.Option.{option_map}
use Rattle.mtpbank_words.specs.declared.words.Words.{Words}
use Rattle.mtpbank_words.specs.declared.words.Words.TheVariants.{Units, Script, Decode, Audit, Terminal, Run}
use Rattle.mtpbank_words.specs.declared.words.Told.{Told}
use Rattle.mtpbank_words.specs.declared.words.Told.TheVariants.{Play, Capture, Ladder, HistoryOfA, HistoryOfB}
use Rattle.text_base.specs.declared.fault.Fault.{Fault}
use Rattle.text_base.specs.declared.fault.Fault.TheVariants.{Input, Memory, Read, Long, Write}
use Rattle.text_base.specs.Printing.{Printed}
use Rattle.l2_units.specs.declared.profile.Profile.{Profile}
use Rattle.l2_units.specs.declared.profile.Profile.TheVariants.{Narrow, Wide}
use Rattle.script_accounts.specs.PlayText.{IsPlayText, IsExplainedPlayText}
use Rattle.text_units.specs.UnitsText.{IsUnitsText}
use Rattle.text_units.specs.Decoding.{IsDecodeText}
use Rattle.text_units.specs.DecodeExplaining.{IsExplainedDecodeText}
use Rattle.script_walk.specs.declared.fault.ScriptFault.{ScriptFault}
use Rattle.script_accounts.specs.Capture.{IsCapture, IsExplainedCapture}
use Rattle.script_ladder.specs.Ladder.{IsExplainedLadder, IsLadder}
use Rattle.script_accounts.specs.Histories.{IsExplainedHistoryText, IsHistoryText}
use Rattle.text_lines.specs.Explaining.{Explained}
use Rattle.pair_steps.specs.declared.step.End.TheVariants.{A, B}
use Rattle.history_audit.specs.Auditing.{IsAuditText}
use Rattle.history_audit.specs.Explaining.{IsExplainedAuditText}
use Rattle.terminal_text.specs.Explaining.{IsExplainedTerminalText}
use Rattle.terminal_text.specs.Kept.{IsKeptNamedText, IsKeptTerminalText}
use Rattle.terminal_text.specs.Text.{IsTerminalText}
use Rattle.terminal_text.specs.declared.fault.TerminalFault.{TerminalFault}
use Rattle.text_calls.specs.declared.running.TextFault.{TextFault}
use Rattle.text_calls.specs.declared.running.TextFault.TheVariants.{Units as UnitsFault, Play as PlayFault, Explained as ExplainedPlayFault, Decode as DecodeFault, ExplainedDecode as ExplainedDecodeFault, Audit as AuditedFault, ExplainedAudit as ExplainedAuditedFault, Terminal as TerminalLineFault, ExplainedTerminal as ExplainedTerminalLineFault}

-- a text of which only the fault, if any, has another type
pub record IsText {F : Type 0} (IsIt : Printed F → Type 0) (of : F → TextFault)
    (text : Printed TextFault) : Type 0 where
  pub own : Printed F
  pub is_it : IsIt own
  pub same : text ≡ record { printed = own.printed; fault = option_map of own.fault }

-- what is told of a script, and that with an explanation of its fault
abbrev pub IsToldOf : Told → List ℕ → Printed ScriptFault → Type 0
IsToldOf Play = IsPlayText
IsToldOf Capture = IsCapture
IsToldOf Ladder = IsLadder
IsToldOf HistoryOfA = IsHistoryText A
IsToldOf HistoryOfB = IsHistoryText B

abbrev pub IsExplainedOf : Told → List ℕ → Printed (Explained ScriptFault) → Type 0
IsExplainedOf Play = IsExplainedPlayText
IsExplainedOf Capture = IsExplainedCapture
IsExplainedOf Ladder = IsExplainedLadder
IsExplainedOf HistoryOfA = IsExplainedHistoryText A
IsExplainedOf HistoryOfB = IsExplainedHistoryText B

abbrev pub profile_of : Bool → Profile
profile_of true = Wide
profile_of false = Narrow

-- an end that goes on behind a line at fault, by numbers alone or in words
abbrev pub IsKeptOf : Bool → List ℕ → Printed TerminalFault → Type 0
IsKeptOf false = IsKeptTerminalText
IsKeptOf true = IsKeptNamedText

abbrev pub IsTextOf : Words → List ℕ → Printed TextFault → Type 0
IsTextOf Units input text = IsText (IsUnitsText input) UnitsFault text
IsTextOf (Script told false) input text = IsText (IsToldOf told input) PlayFault text
IsTextOf (Script told true) input text = IsText (IsExplainedOf told input) ExplainedPlayFault text
IsTextOf (Decode wide false) input text = IsText (IsDecodeText (profile_of wide) input) DecodeFault text
IsTextOf (Decode wide true) input text =
    IsText (IsExplainedDecodeText (profile_of wide) input) ExplainedDecodeFault text
IsTextOf (Audit false) input text = IsText (IsAuditText input) AuditedFault text
IsTextOf (Audit true) input text = IsText (IsExplainedAuditText input) ExplainedAuditedFault text
IsTextOf (Terminal false false) input text = IsText (IsTerminalText input) TerminalLineFault text
IsTextOf (Terminal false true) input text = IsText (IsExplainedTerminalText input) ExplainedTerminalLineFault text
IsTextOf (Terminal true explains) input text = IsText (IsKeptOf explains input) TerminalLineFault text
IsTextOf (Run run) input text = ⊥

-- all subcommands read an input but `run`, whose text stands in `run_text`
abbrev pub ReadsInput : Words → Type 0
ReadsInput (Run run) = ⊥
ReadsInput words = Unit {0}

-- the most octets that are read: units and decode keep nothing of them, and audit and terminal what their sets keep
abbrev pub longest_of : Words → ℕ
longest_of (Script told explains) = 2 ^ 24
longest_of words = 2 ^ 60

-- an answer that gives these of the input's faults, and else the same
abbrev pub GivesInput : {F G : Type 0} → (F → G → Type 0) → F → Result (Unit {0}) (Fault G) → Type 0
GivesInput Gives fault (Err (Input given)) = Gives fault given
GivesInput Gives fault _ = ⊥

abbrev pub GivesFault : {F G : Type 0} → (F → G → Type 0) → Result (Unit {0}) (Fault F)
    → Result (Unit {0}) (Fault G) → Type 0
GivesFault Gives (Ok done) given = given ≡ Ok done
GivesFault Gives (Err (Input fault)) given = GivesInput Gives fault given
GivesFault Gives (Err Memory) given = given ≡ Err Memory
GivesFault Gives (Err Read) given = given ≡ Err Read
GivesFault Gives (Err Long) given = given ≡ Err Long
GivesFault Gives (Err Write) given = given ≡ Err Write
