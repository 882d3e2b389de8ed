-- WHAT TWO BANKS ARE OPENED WITH, and what their sets came to.
use Rattle.std.specs.Prelude.{◌≡◌, ◌*◌, ◌/◌, ◌%◌, ℕ, Bool, true, false, zero, suc, List, [], ◌∷◌, ◌++◌, map, All, Option, None, Some, if◌then◌else◌}
use Rattle.l2_units.specs.declared.profile.Profile.TheVariants.{Narrow}
use Rattle.set_events.specs.declared.config.SetConfig.{SetConfig}
use Rattle.set_events.specs.declared.config.Method.{Method}
use Rattle.set_events.specs.declared.config.Method.TheVariants.{Basic, Cyclic}
use Rattle.set_events.specs.Config.{IsConfigOf}
use Rattle.bank_crew.specs.declared.end.SetEnd.{SetEnd}
use Rattle.bank_crew.specs.declared.plan.Managed.{Managed}
use Rattle.bank_crew.specs.declared.plan.Plan.{Plan}
use Rattle.bank_crew.specs.Ends.{Task}
use Rattle.bank_crew.specs.Jobs.{Duty, collects, offers, takes}
use Rattle.term_model.specs.declared.timers.Timers.{Timers}
use Rattle.term_model.specs.Lengths.{above_0}
use Rattle.bank_core.specs.Ends.{AreEnds}
use Rattle.bank_traffic.specs.declared.asked.Traffic.{Traffic}

-- 0, 1, .. below a number
abbrev pub numbers_below : ℕ → List ℕ
numbers_below zero = []
numbers_below (suc n) = numbers_below n ++ n ∷ []

-- by cycles, forced by 127 messages or 8,000 octets (Q.703 6.4), or by the basic method
abbrev pub method_of : Bool → Method
method_of true = Cyclic 127 8000
method_of false = Basic

-- THE MESSAGES. A user's are numbered from 0: SIO 0x85, a label to point code 1 from point code 2 whose SLS is the user's
-- number (Q.704 2.2), and the message's number, the high octet first
abbrev pub body_of : ℕ → ℕ → List ℕ
body_of user number = 133 ∷ 1 ∷ 128 ∷ 0 ∷ (user % 16 * 16) ∷ (number / 256) ∷ (number % 256) ∷ []

-- a user at an end a offers so many of them, in order; the one user at an end b takes a thousand times, or, where links are
-- managed, takes as often as messages are offered, and keeps them
abbrev pub offers_of : ℕ → ℕ → Duty
offers_of messages user = offers (map (body_of user) (numbers_below messages))

abbrev pub near_jobs : ℕ → ℕ → List Duty
near_jobs users messages = map (offers_of messages) (numbers_below users)

abbrev pub far_jobs : Traffic → List Duty
far_jobs traffic =
    (if traffic.managed then collects (traffic.users * traffic.messages) else takes 1000) ∷ []

-- THE PLAN: all timers are 100,000 octet times, but T5, which is 800; turns and checkpoints are the traffic's
abbrev pub timers : Timers
timers = record {
  t1 = 100000;
  t2 = 100000;
  t3 = 100000;
  t5 = 800;
  t6 = 100000;
  t7 = 100000;
  t1_set = above_0 99999;
  t2_set = above_0 99999;
  t3_set = above_0 99999;
  t5_set = above_0 799;
  t6_set = above_0 99999;
  t7_set = above_0 99999;
}

-- of how many links each set's are managed, if they are
abbrev pub links_managed : Option Managed → Option ℕ
links_managed None = None
links_managed (Some managed) = Some managed.links

pub record IsPlan (traffic : Traffic) (fail : Option ℕ) (plan : Plan) : Type 0 where
  pub timers_are : plan.timers ≡ timers
  pub turns_are : plan.turns ≡ traffic.turns
  pub fail_is : plan.fail ≡ fail
  pub checkpoint_is : plan.checkpoint ≡ traffic.checkpoint
  pub managed_is : links_managed plan.managed ≡ (if traffic.managed then Some traffic.links else None)
  pub keeps_is : plan.keeps ≡ traffic.keeps

-- the same for each of so many sets
abbrev pub each_set : {X : Type 0} → ℕ → X → List X
each_set zero x = []
each_set (suc n) x = each_set n x ++ x ∷ []

-- AN END of a traffic's sets: the point codes of this end and the other, its users, their jobs, and the link that fails here
pub record OneEnd : Type 0 where
  pub opc : ℕ
  pub dpc : ℕ
  pub users : ℕ
  pub jobs : List Duty
  pub fail : Option ℕ

abbrev pub near_end : Traffic → OneEnd
near_end traffic = record {
  opc = 2;
  dpc = 1;
  users = traffic.users;
  jobs = near_jobs traffic.users traffic.messages;
  fail = traffic.fail;
}

abbrev pub far_end : Traffic → OneEnd
far_end traffic = record { opc = 1; dpc = 2; users = 1; jobs = far_jobs traffic; fail = None }

-- the sets 0, 1, .., each of so many links, at the end of point code `opc`; the SIO of orders is 0x80
pub record AreConfigs (sets links opc dpc : ℕ) (method : Method) (configs : List SetConfig) : Type 0 where
  pub numbers : map (λ (config : SetConfig). config.set) configs ≡ numbers_below sets
  pub alike : All (λ (config : SetConfig). IsConfigOf config Narrow config.set links opc dpc 128 method) configs

-- what each set is to do at this end: all have a line for each link, the same jobs and the same plan
pub record IsTaskOf (traffic : Traffic) (side : OneEnd) (task : Task) : Type 0 where
  pub users_are : task.users ≡ side.users
  pub lines_are : task.lines ≡ traffic.links
  pub jobs_are : task.jobs ≡ side.jobs
  pub plan_is : IsPlan traffic side.fail task.plan

pub record AreTasks (traffic : Traffic) (side : OneEnd) (tasks : List Task) : Type 0 where
  pub configs : AreConfigs traffic.sets traffic.links side.opc side.dpc (method_of traffic.cyclic)
      (map (λ (task : Task). task.config) tasks)
  pub each : All (IsTaskOf traffic side) tasks

-- THE ENDS of a traffic at one side: set by set, its task was done
abbrev pub AreEndsOf : Traffic → OneEnd → List SetEnd → Type 0
AreEndsOf traffic side ends = (tasks : List Task) × AreTasks traffic side tasks × AreEnds tasks ends
