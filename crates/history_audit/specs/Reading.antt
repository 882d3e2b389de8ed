-- WHAT A READER OF A HISTORY STANDS FOR: what the lines so far told, and what they came to.
use Rattle.std.specs.Prelude.{◌≡◌, ◌<◌, ◌≤◌, ◌+◌, ℕ, suc, Bool, true, false, nat_le, List, [], ◌∷◌, ◌++◌, length, Option, None, Some, Result, Ok, Err, get_or, if◌then◌else◌}
use Rattle.history_audit.specs.Auditing.{IsAuditOf, IsAudited}
use Rattle.history_audit.specs.Explaining.{said_from}
use Rattle.history_audit.specs.declared.course.Course.{Course}
use Rattle.history_audit.specs.declared.course.Stand.{Stand}
use Rattle.history_audit.specs.declared.course.Stand.TheVariants.{Legal, Wrong, Full}
use Rattle.history_audit.specs.declared.fault.AuditFault.{AuditFault}
use Rattle.history_audit.specs.declared.fault.AuditFault.TheVariants.{Text}
use Rattle.set_core.specs.Hearing.{HasHeard, Hearing, IsWrongNext, unasked}
use Rattle.set_core.specs.declared.item.Item.{Item}
use Rattle.set_core.specs.declared.item.Item.TheVariants.{Entered, Checkpoint}
use Rattle.set_core.specs.Items.{entries_among}
use Rattle.text_entries.specs.Telling.{Told, nothing_told, opened, told_from, told_in_all}
use Rattle.text_base.specs.Printing.{Printed}
use Rattle.text_base.specs.declared.fault.Stop.{Stop}
use Rattle.text_base.specs.declared.fault.Stop.TheVariants.{Input, Memory}
use Rattle.set_events.specs.declared.answer.Answer.{Answer}
use Rattle.set_model.specs.History.{longest_history}
use Rattle.set_model.specs.State.{State, Settings, opened_with}
use Rattle.text_lines.specs.Flaws.{flaw_of}
use Rattle.text_lines.specs.LineTexts.{IsLast}

-- WHAT WAS TOLD, AND WHERE IT STANDS

-- the first wrong entry stands on this line, and so many entries were told
pub record IsWrongAt (opening : State) (told : Told) (line : ℕ) (answer : Option Answer) (entries : ℕ) : Type 0 where
  pub front : List Item
  pub item : Item
  pub rest : List Item
  pub items_are : told.items ≡ front ++ item ∷ rest
  pub next : IsWrongNext opening front item answer
  pub within : length front < length told.lines
  pub line_is : line ≡ get_or told.lines (length front) 0
  pub entries_are : entries ≡ length (entries_among told.items)
  pub few : entries ≤ longest_history

abbrev pub StandsAt : State → Told → Hearing → Stand → Type 0
StandsAt opening told heard Legal = HasHeard (unasked opening) told.items heard
StandsAt opening told heard (Wrong line answer entries) = IsWrongAt opening told line answer entries
StandsAt opening told heard Full = longest_history < length (entries_among told.items)

pub record IsCourse (told : Told) (course : Course) : Type 0 where
  pub settings : Settings
  pub told_is : told.settings ≡ Some settings
  pub profile_is : course.profile ≡ settings.profile
  pub numbered : length told.lines ≡ length told.items
  pub stands : StandsAt (opened_with settings) told course.auditor course.stand

-- before the configuration nothing was told
abbrev pub StandsFor : Told → Option Course → Type 0
StandsFor told None = told ≡ nothing_told
StandsFor told (Some course) = IsCourse told course

-- A LINE

-- it can't be read; want of memory tells nothing
abbrev pub IsUnread : Stop AuditFault → ℕ → List ℕ → Option Told → Type 0
IsUnread (Input fault) n line outcome = (fault ≡ Text n (flaw_of line)) × (outcome ≡ None)
IsUnread Memory n line outcome = Unit {0}

-- a line was read, and this is told then; or the line of this number can't be read
abbrev pub IsRead : Result (Unit {0}) (Stop AuditFault) → ℕ → List ℕ → Option Told → Option Course → Type 0
IsRead (Ok done) n line outcome new = (told : Told) × (outcome ≡ Some told) × StandsFor told new
IsRead (Err stop) n line outcome new = IsUnread stop n line outcome

abbrev pub opened_by : List ℕ → Option Told
opened_by line = opened nothing_told line

abbrev pub IsTold : Result Course (Stop AuditFault) → ℕ → List ℕ → Option Told → Type 0
IsTold (Ok course) n line outcome = (told : Told) × (outcome ≡ Some told) × IsCourse told course
IsTold (Err stop) n line outcome = IsUnread stop n line outcome

-- an item was told; or memory was wanted
abbrev pub IsNoted : Result (Unit {0}) (Stop AuditFault) → Told → Option Course → Type 0
IsNoted (Ok done) told new = StandsFor told new
IsNoted (Err stop) told new = stop ≡ Memory

abbrev pub is_legal : Stand → Bool
is_legal Legal = true
is_legal Full = false
is_legal (Wrong line answer entries) = false

-- an entry behind a wrong one is only counted
abbrev pub passed_over : Item → Stand → Stand
passed_over Checkpoint stand = stand
passed_over (Entered entry) Legal = Legal
passed_over (Entered entry) Full = Full
passed_over (Entered entry) (Wrong line answer entries) =
    if nat_le longest_history entries then Full else Wrong line answer (entries + 1)

-- LINES, one after another

-- these lines were told, and nothing was printed: whatever lines are left, it goes on from there, and so does what is said of
-- one that can't be read
pub record HasTold (course : Option Course) (past : List (List ℕ)) (printed : List ℕ) : Type 0 where
  pub told : Told
  pub stands : StandsFor told course
  pub nothing : printed ≡ []
  pub goes_on : (left : List (List ℕ)) → told_from 1 nothing_told (past ++ left) ≡ told_from (suc (length past)) told left
  pub says : (left : List (List ℕ)) → said_from 1 nothing_told (past ++ left) ≡ said_from (suc (length past)) told left

-- THE END

-- this was appended, and it's all that is said of what was told where no line is left from this number on; where memory is
-- wanted it's the beginning
pub record Concludes (result : Result (Unit {0}) (Stop AuditFault)) (course : Option Course) (n : ℕ)
    (before after : List ℕ) : Type 0 where
  pub printed : List ℕ
  pub added : after ≡ before ++ printed
  pub ends : (told : Told) → StandsFor told course
      → IsLast result (IsAuditOf (told_in_all n told.settings told)) printed

-- what is said of a course
abbrev pub IsSaidOf : Told → Printed AuditFault → Type 0
IsSaidOf told text =
    (s : Settings) → told.settings ≡ Some s → IsAudited (opened_with s) told.items told.lines text
