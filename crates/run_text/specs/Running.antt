-- A RUN, from its traffic to what is written.
use Rattle.std.specs.Prelude.{◌≡◌, ◌/◌, ◌≢◌, ℕ, Bool, true, false, List, [], ◌++◌, Option, None, Some, Result, MatchResult, All, IsOk, if◌then◌else◌}
use Rattle.std.specs.Duration.{as_nanos}
use Rattle.std.specs.Io.KnownBytes.{Appends}
use Rattle.std.specs.declared.time.Duration.{Duration}
use Rattle.set_events.specs.declared.config.SetConfig.{SetConfig}
use Rattle.bank_crew.specs.declared.end.SetEnd.{SetEnd}
use Rattle.bank_crew.specs.Ends.{IsEndOf}
use Rattle.bank_core.specs.declared.fault.BankFault.{BankFault}
use Rattle.bank_core.specs.declared.fault.BankFault.TheVariants.{NoMemory, Users, Sets, NoThread, Unclosed, Wide}
use Rattle.bank_traffic.specs.declared.asked.Traffic.{Traffic}
use Rattle.bank_traffic.specs.Opening.{AreEndsOf, far_end, near_end}
use Rattle.text_base.specs.declared.fault.Fault.{Fault}
use Rattle.text_base.specs.declared.fault.Fault.TheVariants.{Input, Memory, Read, Long, Write}
use Rattle.text_base.specs.Printing.{IsDevices}
use Rattle.run_text.specs.declared.verdict.Missing.{Missing}
use Rattle.run_text.specs.Absences.{IsExplained}
use Rattle.run_text.specs.Figures.{capped}
use Rattle.run_text.specs.ReportText.{report_text}
use Rattle.run_text.specs.Verdict.{IsVerdict}
use Rattle.run_text.specs.declared.fault.RunFault.{RunFault}
use Rattle.run_text.specs.declared.running.Shown.{Shown}
use Rattle.run_text.specs.declared.fault.RunFault.TheVariants.{Thread, Close, User, Terminal}
use Rattle.run_text.specs.Capturing.{IsCapture}
use Rattle.run_text.specs.Failures.{failure_of}
use Rattle.run_text.specs.RunText.{run_text}

-- the end of a set of some configuration
abbrev pub IsAnEnd : SetEnd → Type 0
IsAnEnd end = (config : SetConfig) × IsEndOf config end

-- each user got through, and no terminal failed
pub record GotThrough (end : SetEnd) : Type 0 where
  pub users : All IsOk end.users.items
  pub terminals : All IsOk end.reports.items

-- what is shown of ends: their lines, with a report or not, or the capture in place of them; and how many milliseconds the
-- run took, if a clock told them
pub record Showing : Type 0 where
  pub report : Bool
  pub capture : Bool
  pub time : Option ℕ

abbrev pub showing : Shown → Showing
showing shown =
    record { report = shown.report; capture = shown.capture; time = shown.time }

-- the text, with a report where one is asked for
abbrev pub shown_text : Showing → List SetEnd → List SetEnd → Option Missing → List ℕ
shown_text shown near far missing =
    run_text near far ++ (if shown.report then report_text shown.time near far missing else [])

-- that, or the capture of what was sent in place of it
abbrev pub IsShownWhere : Bool → Showing → List SetEnd → List SetEnd → Option Missing → List ℕ → Type 0
IsShownWhere false shown near far missing text = text ≡ shown_text shown near far missing
IsShownWhere true shown near far missing text = IsCapture near far text

abbrev pub IsShown : Showing → List SetEnd → List SetEnd → Option Missing → List ℕ → Type 0
IsShown shown = IsShownWhere shown.capture shown

-- the first message that is missing is looked for where a report is asked for, and why it's missing
abbrev pub IsMissing : Bool → Traffic → List SetEnd → List SetEnd → Option Missing → Type 0
IsMissing false traffic near far missing = missing ≡ None
IsMissing true traffic near far missing =
    IsVerdict traffic.users traffic.messages 0 far missing × IsExplained traffic near missing

-- what is printed of these ends: something only where each user got through, and no terminal failed
pub record IsTextOfEnds (traffic : Traffic) (shown : Showing) (near far : List SetEnd) (missing : Option Missing)
    (text : List ℕ) : Type 0 where
  pub no_failure : failure_of near far ≡ None
  pub near_got_through : All GotThrough near
  pub far_got_through : All GotThrough far
  pub missing_is : IsMissing shown.report traffic near far missing
  pub text_is : IsShown shown near far missing text

-- what this traffic came to at its ends, in this time, and what is printed of it
pub record IsRunText (traffic : Traffic) (report : Bool) (time : Option ℕ) (missing : Option Missing)
    (text : List ℕ) : Type 0 where
  pub near : List SetEnd
  pub far : List SetEnd
  pub near_are : AreEndsOf traffic (near_end traffic) near
  pub far_are : AreEndsOf traffic (far_end traffic) far
  pub of_ends : IsTextOfEnds traffic
      (record { report = report; capture = traffic.keeps; time = time }) near far missing text

-- where the sink failed, the text was begun; for any other fault nothing was written
abbrev pub CutsOff : {T : Type 0} → (T → List ℕ → Type 0) → List ℕ → Fault RunFault → Type 0
CutsOff IsText printed (Input fault) = printed ≡ []
CutsOff IsText printed Memory = printed ≡ []
CutsOff IsText printed Read = ⊥
CutsOff IsText printed Long = ⊥
CutsOff {T} IsText printed Write = (answer : T) × (more : List ℕ) × IsText answer (printed ++ more)

pub record WritesText {T : Type 0} (IsText : T → List ℕ → Type 0) (result : Result T (Fault RunFault))
    (old new : Option (List ℕ)) : Type 0 where
  pub printed : List ℕ
  pub added : Appends old new printed
  pub ends : MatchResult result (λ (answer : T). IsText answer printed) (CutsOff IsText printed)

-- what was written is the text of these ends
abbrev pub WritesEnds : Traffic → Showing → List SetEnd → List SetEnd → Result (Option Missing) (Fault RunFault)
    → Option (List ℕ) → Option (List ℕ) → Type 0
WritesEnds traffic shown near far result old new = WritesText (IsTextOfEnds traffic shown near far) result old new

-- a length of time in milliseconds, as it's told: up to 2^64 - 1
abbrev pub milliseconds : Duration → ℕ
milliseconds elapsed = capped (as_nanos elapsed / 1000000)

-- THE RUN: what was written is the text of what the threads came to in this time
abbrev pub Runs : Traffic → Bool → Option ℕ → Result (Option Missing) (Fault RunFault) → Option (List ℕ)
    → Option (List ℕ) → Type 0
Runs traffic report time result old new = WritesText (IsRunText traffic report time) result old new

-- WHY IT ENDS SO. Of ends that are at hand: a failure is told, the first one; memory was wanted here, or the sink failed,
-- only where there is none.
abbrev pub IsFaultOfEnds : List SetEnd → List SetEnd → Fault RunFault → Type 0
IsFaultOfEnds near far (Input fault) = failure_of near far ≡ Some fault
IsFaultOfEnds near far Memory = failure_of near far ≡ None
IsFaultOfEnds near far Read = ⊥
IsFaultOfEnds near far Long = ⊥
IsFaultOfEnds near far Write = failure_of near far ≡ None

-- that the sink failed is told exactly where it did in that call: how often its writes have failed before the call and behind
-- it
abbrev pub FailsByWrites : {T : Type 0} → Result T (Fault RunFault) → ℕ → ℕ → Type 0
FailsByWrites result writes writes' =
    MatchResult result (λ answer. writes' ≡ writes)
    (λ fault. IsDevices fault ⊥ ⊥ (writes' ≢ writes) (writes' ≡ writes))

-- this is the failure of what the traffic came to at its ends
pub record FailsAt (traffic : Traffic) (fault : RunFault) : Type 0 where
  pub near : List SetEnd
  pub far : List SetEnd
  pub near_are : AreEndsOf traffic (near_end traffic) near
  pub far_are : AreEndsOf traffic (far_end traffic) far
  pub failure_is : failure_of near far ≡ Some fault

abbrev pub IsFailure : Traffic → RunFault → Type 0
IsFailure traffic Thread = Unit {0}
IsFailure traffic Close = Unit {0}
IsFailure traffic (User set end user fault) = FailsAt traffic (User set end user fault)
IsFailure traffic (Terminal set end link fault) = FailsAt traffic (Terminal set end link fault)

abbrev pub IsFaultOfRun : Traffic → Fault RunFault → Type 0
IsFaultOfRun traffic (Input fault) = IsFailure traffic fault
IsFaultOfRun traffic Memory = Unit {0}
IsFaultOfRun traffic Read = ⊥
IsFaultOfRun traffic Long = ⊥
IsFaultOfRun traffic Write = Unit {0}

-- a bank that ended early is told by what it lacked; no end is at hand then
abbrev pub TellsLack : BankFault → Fault RunFault → Type 0
TellsLack NoMemory told = told ≡ Memory
TellsLack Users told = ⊥
TellsLack Sets told = ⊥
TellsLack NoThread told = told ≡ Input Thread
TellsLack Unclosed told = told ≡ Input Close
TellsLack Wide told = ⊥
