-- THE END of a set: what it came to, whatever its threads did.
use Rattle.std.specs.Prelude.{◌≡◌, ◌≤◌, ℕ, min, All, List, length, Result, Err}
use Rattle.set_events.specs.declared.config.SetConfig.{SetConfig}
use Rattle.set_ledger.specs.Openings.{IsBaseOf}
use Rattle.set_ledger.specs.declared.ending.Closed.{Closed}
use Rattle.set_model.specs.State.{settings_of}
use Rattle.set_model.specs.Checkpoint.{counts_in}
use Rattle.set_model.specs.History.{IsLegal, after, books_of, entries_of, longest_history}
use Rattle.set_model.specs.Rows.{total_of}
use Rattle.line_ring.specs.declared.line.Line as line_end
use Rattle.link_term.specs.declared.fault.TermFault.{TermFault}
use Rattle.bank_crew.specs.declared.end.SetEnd.{SetEnd}
use Rattle.bank_crew.specs.declared.fault.UserFault.{UserFault}
use Rattle.bank_crew.specs.declared.plan.Plan.{Plan}
use Rattle.bank_crew.specs.Jobs.{Duty, DidJobs}
use Rattle.bank_crew.specs.Shifts.{AskNothing, DidShifts, DidShiftsOver}

-- what was closed has a history that is legal from a base of this configuration, with its books and counts
pub record IsClosedAs (config : SetConfig) (closed : Closed) : Type 0 where
  pub config_is : closed.config ≡ config
  pub base_of : IsBaseOf (settings_of config) closed.base
  pub legal : IsLegal closed.base.state closed.history.items
  pub books_are : closed.books ≡ books_of closed.base closed.history.items
  pub counts_are : closed.counts ≡ counts_in (after closed.base.state closed.history.items)
  pub placed : total_of closed.counts ≡ closed.books.messages
  pub few : closed.books.messages ≤ longest_history

abbrev pub IsEndOf : SetConfig → SetEnd → Type 0
IsEndOf config end = IsClosedAs config end.closed

-- what a set is to do: its users' jobs and its terminals' plan, and how many of its links have a line
pub record Task : Type 0 where
  pub config : SetConfig
  pub users : ℕ
  pub lines : ℕ
  pub jobs : List Duty
  pub plan : Plan

abbrev pub task_of : SetConfig → ℕ → ℕ → List Duty → Plan → Task
task_of config users lines jobs plan =
    record { config = config; users = users; lines = lines; jobs = jobs; plan = plan }

-- its history, and what lies before its base, have as many entries as a history can
abbrev pub EndsFull : SetEnd → Type 0
EndsFull end = entries_of end.closed.base end.closed.history.items ≡ longest_history

-- who tells of a full history tells the truth
abbrev pub AreTrulyFull : {R F : Type 0} → F → SetEnd → List (Result R F) → Type 0
AreTrulyFull exhausted end = All (λ told. told ≡ Err exhausted → EndsFull end)

-- THE TASK WAS DONE: its history is legal, and the calls that it tells of each user are the last of those of its job, and
-- of each terminal that has a line the last of what the turns of its plan asked, as far as they came; the books of its base
-- count those before them. The others asked nothing.
pub record IsDone (task : Task) (end : SetEnd) : Type 0 where
  pub closed : IsEndOf task.config end
  pub users : length end.users.items ≡ task.users
  pub jobs : DidJobs 0 task.jobs end.users.items end.closed.base.books end.closed.history.items
  pub terminals : length end.reports.items ≡ min task.lines task.config.links
  pub shifts : DidShifts 0 task.plan end.reports.items end.closed.base.books end.closed.history.items
  pub idle : AskNothing task.lines task.config.links end.closed.base.books end.closed.history.items
  pub users_full : AreTrulyFull UserFault.Exhausted end end.users.items
  pub terminals_full : AreTrulyFull TermFault.Exhausted end end.reports.items

-- A TASK WITH ITS LINES, by the links' numbers
pub record LinedTask (L : Type 0) : Type 0 where
  pub config : SetConfig
  pub users : ℕ
  pub lines : List L
  pub jobs : List Duty
  pub plan : Plan

abbrev pub lined_task : {L : Type 0} → SetConfig → ℕ → List L → List Duty → Plan → LinedTask L
lined_task config users lines jobs plan =
    record { config = config; users = users; lines = lines; jobs = jobs; plan = plan }

abbrev pub counted : {L : Type 0} → LinedTask L → Task
counted task = task_of task.config task.users (length task.lines) task.jobs task.plan

-- IT WAS DONE, and each terminal took its turns over its own line
pub record IsDoneOver {L : Type 0} (l : line_end.Ghosts L) (task : LinedTask L) (end : SetEnd) : Type 0 where
  pub done : IsDone (counted task) end
  pub over : DidShiftsOver l 0 task.plan task.lines end.reports.items end.closed.base.books end.closed.history.items
