-- WHAT A BANK IS STARTED WITH.
use Rattle.std.specs.Prelude.{◌≡◌, ℕ, List, map, vec_len, Vec, Result, Ok, Err}
use Rattle.bank_crew.specs.declared.plan.Job.{Job}
use Rattle.bank_crew.specs.declared.plan.Plan.{Plan}
use Rattle.bank_crew.specs.Ends.{LinedTask, counted}
use Rattle.bank_crew.specs.Jobs.{Duty, duty_of}
use Rattle.bank_crew.specs.declared.end.SetEnd.{SetEnd}
use Rattle.line_ring.specs.Rings.{AreJoined}
use Rattle.line_ring.specs.declared.line.Line as line_end
use Rattle.line_ring.specs.declared.ring.RingLine.{RingLine}
use Rattle.std.specs.List.{AllZip}
use Rattle.bank_traffic.specs.Noise.{all_noises}
use Rattle.bank_traffic.specs.Opening.{AreTasks, far_end, near_end}
use Rattle.bank_traffic.specs.declared.asked.Traffic.{Traffic}
use Rattle.bank_traffic.specs.declared.noise.Noise.{Noise}
use Rattle.bank_core.specs.Ends.{AreEndsOver, BankState, tasks_from}
use Rattle.bank_core.specs.declared.fault.BankFault.{BankFault}

-- how many lines each set has, and what its users are to do
abbrev pub line_counts : {L Y Z : Type 0} → Vec (Vec L Y) Z → List ℕ
line_counts lines = map (λ of_set. vec_len of_set) lines.items

abbrev pub duties : {Y Z : Type 0} → Vec (Vec Job Y) Z → List (List Duty)
duties jobs = map (λ of_set. map duty_of of_set.items) jobs.items

abbrev pub lines_in : {L Y Z : Type 0} → Vec (Vec L Y) Z → List (List L)
lines_in lines = map (λ of_set. of_set.items) lines.items

-- set by set, what it is to do, and over which lines
abbrev pub tasks_over : {L Y Z X W : Type 0} → BankState → Plan → Vec (Vec L Y) Z → Vec (Vec Job X) W → List (LinedTask L)
tasks_over bank plan lines jobs = tasks_from bank.users plan bank.configs (lines_in lines) (duties jobs)

-- these are the tasks' lines
abbrev pub AreLinesOf : {L Y Z : Type 0} → Vec (Vec L Y) Z → List (LinedTask L) → Type 0
AreLinesOf {L} lines tasks = map (λ (task : LinedTask L). task.lines) tasks ≡ lines_in lines

-- WHY TWO BANKS CAME TO NO END, once both have ended: the fault of the ends a, or else that of the ends b
abbrev pub TellsNearFirst : {X Y : Type 0} → Result X BankFault → Result Y BankFault → BankFault → Type 0
TellsNearFirst (Err near) far fault = fault ≡ near
TellsNearFirst (Ok ends) (Err far) fault = fault ≡ far
TellsNearFirst (Ok ends) (Ok others) fault = ⊥

-- OVER PAIRS: the lines of each link at both sides are the two ends of one pair of rings, with the traffic's noise on what each end
-- puts; and each terminal took its turns over its own
pub record RunOverPairs {A X : Type 0} (l : line_end.Ghosts X) (ring : X → RingLine A) (noise : X → Noise) (traffic : Traffic)
    (near far : List SetEnd) : Type 0 where
  pub near_tasks : List (LinedTask X)
  pub far_tasks : List (LinedTask X)
  pub near_are : AreTasks traffic (near_end traffic) (map counted near_tasks)
  pub far_are : AreTasks traffic (far_end traffic) (map counted far_tasks)
  pub near_noise : map (λ task. map noise task.lines) near_tasks ≡ all_noises traffic 0
  pub far_noise : map (λ task. map noise task.lines) far_tasks ≡ all_noises traffic 1
  pub joined : AllZip (λ a b. AllZip (λ x y. AreJoined (ring x) (ring y)) a.lines b.lines) near_tasks far_tasks
  pub near_did : AreEndsOver l near_tasks near
  pub far_did : AreEndsOver l far_tasks far
