-- WHAT THREADS PROMISE, and that they keep it.
use Rattle.std.specs.Prelude.{◌≡◌, ℕ, suc, ◌+◌, min, true, List, [], ◌∷◌, ◌++◌, length, map, drop, Result, Err}
use Rattle.std.specs.List.{AllZip}
use Rattle.set_ledger.specs.Seats.{SeatState, new_seat}
use Rattle.set_events.specs.declared.event.Actor.{Actor}
use Rattle.set_events.specs.declared.event.Actor.TheVariants.{User, Terminal}
use Rattle.bank_crew.specs.declared.report.ShiftReport.{ShiftReport}
use Rattle.bank_crew.specs.declared.report.UserReport.{UserReport}
use Rattle.link_term.specs.declared.fault.TermFault.{TermFault}
use Rattle.bank_crew.specs.declared.crew.Ended.{Ended}
use Rattle.bank_crew.specs.declared.plan.Plan.{Plan}
use Rattle.bank_crew.specs.declared.user.JobOf.{JobOf}
use Rattle.bank_crew.specs.declared.terminal.ShiftOf.{ShiftOf}
use Rattle.bank_crew.specs.declared.fault.UserFault.{UserFault}
use Rattle.bank_crew.specs.Jobs.{DoesJob, Duty, duty_of, first_or, no_duty}
use Rattle.set_events.specs.declared.history.Entry.{Entry}
use Rattle.bank_crew.specs.Seats.{AreAll}
use Rattle.bank_crew.specs.Shifts.{DoesShiftOver}
use Rattle.line_ring.specs.declared.line.Line as line_end

-- thread by thread, what came of it keeps its promise: the seats, and what each thread tells
pub record AreKept {P S T : Type 0} (kept : P → Ended S T → Type 0) (promises : List P) (seats : List S)
    (told : List T) : Type 0 where
  pub ends : List (Ended S T)
  pub each : AllZip kept promises ends
  pub seats_are : seats ≡ map (λ (end : Ended S T). end.seat) ends
  pub told_are : told ≡ map (λ (end : Ended S T). end.told) ends

-- seats of which nothing was asked yet, from this number on
abbrev pub AreNew : (ℕ → Actor) → ℕ → List SeatState → Type 0
AreNew actor n [] = Unit {0}
AreNew actor n (seat ∷ seats) = (seat ≡ new_seat (actor n)) × AreNew actor (suc n) seats

-- the users' promises, from this number on: each its own job
abbrev pub AreJobs : ℕ → List Duty → List JobOf → Type 0
AreJobs user jobs [] = Unit {0}
AreJobs user jobs (promise ∷ promises) =
    ((promise.user ≡ user) × (duty_of promise.job.value ≡ first_or no_duty jobs)) × AreJobs (suc user) (drop 1 jobs) promises

-- A USER'S THREAD keeps its promise: all that was asked at its seat are the calls of its job.
abbrev pub KeepsJob : JobOf → Ended SeatState (Result UserReport UserFault) → Type 0
KeepsJob promise end = (end.seat.who ≡ User promise.user)
    × ((all : List Entry) × AreAll end.seat all × DoesJob (User promise.user) (duty_of promise.job.value) end.told all)
    × (end.told ≡ Err UserFault.Exhausted → end.seat.full ≡ true)

-- A TERMINAL'S: it's what its turns asked, over its line.
abbrev pub KeepsShift : {L : Type 0} → line_end.Ghosts L → ShiftOf L → Ended SeatState (Result ShiftReport TermFault) → Type 0
KeepsShift l promise end = (end.seat.who ≡ Terminal promise.link)
    × ((all : List Entry) × AreAll end.seat all × DoesShiftOver l promise.line.value promise.plan promise.link end.told all)
    × (end.told ≡ Err TermFault.Exhausted → end.seat.full ≡ true)

-- the terminals' promises, from this link on: each its own line, and all the same plan
abbrev pub AreShifts : {L : Type 0} → ℕ → Plan → List L → List (ShiftOf L) → Type 0
AreShifts link plan lines [] = Unit {0}
AreShifts link plan [] (promise ∷ promises) = ⊥
AreShifts link plan (line ∷ lines) (promise ∷ promises) =
    ((promise.link ≡ link) × (promise.plan ≡ plan) × (promise.line.value ≡ line)) × AreShifts (suc link) plan lines promises

-- of so many terminals those that have one of these lines promise the turns of this plan over it; the seats of the others are
-- left, and new
pub record PromiseShifts {L : Type 0} (lines : List L) (links : ℕ) (plan : Plan) (promises : List (ShiftOf L))
    (idle : List SeatState) : Type 0 where
  pub many : length promises ≡ min (length lines) links
  pub are : AreShifts 0 plan lines promises
  pub new : AreNew Terminal (length promises) idle
  pub all : length promises + length idle ≡ links

-- so many users promise these jobs
pub record PromiseJobs (users : ℕ) (jobs : List Duty) (promises : List JobOf) : Type 0 where
  pub many : length promises ≡ users
  pub are : AreJobs 0 jobs promises

-- WHAT WAS GATHERED: each user did its job
pub record AreUsers (users : ℕ) (jobs : List Duty) (seats : List SeatState) (told : List (Result UserReport UserFault))
    : Type 0 where
  pub promises : List JobOf
  pub promised : PromiseJobs users jobs promises
  pub kept : AreKept KeepsJob promises seats told

-- the seats of these terminals, and then those of which nothing was asked
pub record GathersTerminals {L : Type 0} (l : line_end.Ghosts L) (promises : List (ShiftOf L)) (idle seats : List SeatState)
    (told : List (Result ShiftReport TermFault)) : Type 0 where
  pub run : List SeatState
  pub kept : AreKept (KeepsShift l) promises run told
  pub seats_are : seats ≡ run ++ idle

-- AND OF THE TERMINALS: each that has a line took its turns, and of the others nothing was asked
pub record AreTerminals {L : Type 0} (l : line_end.Ghosts L) (lines : List L) (links : ℕ) (plan : Plan) (seats : List SeatState)
    (told : List (Result ShiftReport TermFault)) : Type 0 where
  pub promises : List (ShiftOf L)
  pub idle : List SeatState
  pub promised : PromiseShifts lines links plan promises idle
  pub gathered : GathersTerminals l promises idle seats told
