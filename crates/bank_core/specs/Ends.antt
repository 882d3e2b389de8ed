-- THE ENDS of sets: what each came to.
use Rattle.std.specs.Prelude.{ℕ, List, [], ◌∷◌, drop, Result, Ok, Err}
use Rattle.line_ring.specs.declared.line.Line as line_end
use Rattle.set_events.specs.declared.config.SetConfig.{SetConfig}
use Rattle.bank_crew.specs.declared.end.SetEnd.{SetEnd}
use Rattle.bank_crew.specs.declared.fault.CrewFault.{CrewFault}
use Rattle.bank_crew.specs.declared.plan.Plan.{Plan}
use Rattle.bank_crew.specs.Jobs.{Duty, first_or}
use Rattle.bank_crew.specs.Ends.{IsDone, IsDoneOver, LinedTask, Task, lined_task}

-- set by set, in the order of the tasks
abbrev pub AreEnds : List Task → List SetEnd → Type 0
AreEnds [] [] = Unit {0}
AreEnds [] (end ∷ ends) = ⊥
AreEnds (task ∷ tasks) [] = ⊥
AreEnds (task ∷ tasks) (end ∷ ends) = IsDone task end × AreEnds tasks ends

-- and each terminal over its own line
abbrev pub AreEndsOver : {L : Type 0} → line_end.Ghosts L → List (LinedTask L) → List SetEnd → Type 0
AreEndsOver l [] [] = Unit {0}
AreEndsOver l [] (end ∷ ends) = ⊥
AreEndsOver l (task ∷ tasks) [] = ⊥
AreEndsOver l (task ∷ tasks) (end ∷ ends) = IsDoneOver l task end × AreEndsOver l tasks ends

-- a bank that isn't started
pub record BankState : Type 0 where
  pub configs : List SetConfig
  pub users : ℕ

-- THE TASKS of a bank's sets: each set its own lines and jobs, in order, and all the same plan; one for which there
-- are none has none
abbrev pub tasks_from : {L : Type 0} → ℕ → Plan → List SetConfig → List (List L) → List (List Duty) → List (LinedTask L)
tasks_from users plan [] lines jobs = []
tasks_from users plan (config ∷ configs) lines jobs =
    lined_task config users (first_or [] lines) (first_or [] jobs) plan
    ∷ tasks_from users plan configs (drop 1 lines) (drop 1 jobs)

-- what each set's thread answered, in order: its end, or else the first fault
abbrev pub and_end : SetEnd → Result (List SetEnd) CrewFault → Result (List SetEnd) CrewFault
and_end end (Ok ends) = Ok (end ∷ ends)
and_end end (Err fault) = Err fault

abbrev pub outcome : List (Result SetEnd CrewFault) → Result (List SetEnd) CrewFault
outcome [] = Ok []
outcome (Ok end ∷ answers) = and_end end (outcome answers)
outcome (Err fault ∷ answers) = Err fault
