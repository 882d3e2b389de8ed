-- WHAT A TERMINAL DOES, turn by turn, as the entries that it leaves in the set's history.
use Rattle.std.specs.Prelude.{◌≡◌, ◌==◌, ◌&&◌, ◌<◌, ◌≤◌, ◌+◌, ◌-◌, ◌/◌, ◌^◌, ℕ, suc, min, nat_lt, Bool, not, true, false, if◌then◌else◌, List, [], ◌∷◌, ◌++◌, length, Option, None, Some, Result, Ok, Err, MatchResult}
use Rattle.set_events.specs.declared.books.Books.{Books}
use Rattle.set_events.specs.declared.event.Actor.{Actor}
use Rattle.set_events.specs.declared.history.Entry.{Entry}
use Rattle.term_model.specs.declared.command.Command.TheVariants.{Emergency, Start, Stop}
use Rattle.term_model.specs.declared.report.TermReport.{TermReport}
use Rattle.term_model.specs.declared.timers.Timers.{Timers}
use Rattle.term_model.specs.Terminal.{Terminal, opened, told}
use Rattle.link_term.specs.declared.fault.TermFault.{TermFault}
use Rattle.line_ring.specs.declared.line.Line as line_end
use Rattle.link_term.specs.Looking.{Seen, seen}
use Rattle.link_term.specs.Running.{Runs, RunFails}
use Rattle.link_term.specs.Standing.{Standing, standing}
use Rattle.link_term.specs.States.{is_out_of_service, state_of}
use Rattle.bank_crew.specs.declared.manager.Instruction.{Instruction}
use Rattle.bank_crew.specs.declared.manager.Sight.{Sight}
use Rattle.bank_crew.specs.declared.plan.Managed.{Managed}
use Rattle.bank_crew.specs.declared.plan.Plan.{Plan}
use Rattle.bank_crew.specs.declared.report.ShiftReport.{ShiftReport}
use Rattle.bank_crew.specs.Carrying.{carried_in}
use Rattle.bank_crew.specs.Counts.{answered_in, reported}
use Rattle.bank_crew.specs.declared.questions.Awaited.{Awaited}
use Rattle.bank_crew.specs.Awaiting.{AsksFrom}
use Rattle.bank_crew.specs.Managing.{Look, are_marks, looks_in, of_turns}
use Rattle.line_tape.specs.Taping.{IsTape}
use Rattle.bank_crew.specs.Seats.{AreCalls}

-- SO MANY TURNS of one run, or fewer, where a fault broke them off
abbrev pub RunTurns : ℕ → Result TermReport TermFault → Standing → Standing → Type 0
RunTurns turns told before after = MatchResult told
    (λ report. Runs turns before report after) (λ fault. RunFails fault turns before after)

-- what two runs counted together; the second one knows why the link failed last
abbrev pub added : ℕ → ℕ → ℕ
added m n = min (m + n) (2 ^ 64 - 1)

abbrev pub both : TermReport → TermReport → TermReport
both first second = record {
  turns = added first.turns second.turns;
  sent = added first.sent second.sent;
  good = added first.good second.good;
  bad = added first.bad second.bad;
  sixteen = added first.sixteen second.sixteen;
  cause = second.cause;
}

-- WHAT IS ORDERED of a terminal between two slices of its turns. A changeover order about the link that came late goes before
-- what is instructed, unless the terminal is out of service (own): the far end has left a life to which this end may still be
-- coming up. And a link is started only where its set has settled it.
abbrev pub is_out : Terminal → Bool
is_out t = is_out_of_service (state_of t)

abbrev pub started : Bool → Terminal → Terminal
started true t = told Start (told Emergency t)
started false t = t

abbrev pub instructed : Sight → Instruction → Terminal → Terminal
instructed sight Instruction.Run t = t
instructed sight Instruction.Start t = started sight.settled t
instructed sight Instruction.Stop t = told Stop t
instructed sight Instruction.End t = t

abbrev pub ordered : Sight → Instruction → Terminal → Terminal
ordered sight instruction t = if sight.late && not (is_out t) then told Stop t else instructed sight instruction t

abbrev pub standing_told : (Terminal → Terminal) → Standing → Standing
standing_told orders t = record t { inside = orders t.inside }

-- A SLICE: so many turns, behind what was seen and instructed
abbrev pub Slice : Sight → Instruction → ℕ → Result TermReport TermFault → Standing → Standing → Type 0
Slice sight instruction turns ended before after = RunTurns turns ended (standing_told (ordered sight instruction) before) after

-- the look by which that was seen
abbrev pub look_of : ℕ → Bool → Sight → Look
look_of made out sight = record { made = made; out = out; settled = sight.settled; late = sight.late }

abbrev pub look_at : Standing → Sight → Look
look_at before sight = look_of (length before.made) (is_out before.inside) sight

-- WHERE LINKS AREN'T MANAGED the terminal of the link that is to fail is told Stop when so many turns are left: the half of
-- them, and of an odd number one more
abbrev pub is_to_fail : Option ℕ → ℕ → Bool
is_to_fail None link = false
is_to_fail (Some number) link = number == link

abbrev pub stop_where : Option Managed → Bool → ℕ → Option ℕ
stop_where None true turns = Some (turns - turns / 2)
stop_where None false turns = None
stop_where (Some managed) fails turns = None

abbrev pub stop_of : Plan → ℕ → Option ℕ
stop_of plan link = stop_where plan.managed (is_to_fail plan.fail link) plan.turns

-- what is instructed then, when so many are left
abbrev pub due : Option ℕ → ℕ → Instruction
due None left = Instruction.Run
due (Some stop) left = if left == stop then Instruction.Stop else Instruction.Run

-- WHAT MAY BE INSTRUCTED when so many turns are left: where links are managed, whatever their manager says, of whom nothing is
-- promised
abbrev pub MayBeIn : Option Managed → Option ℕ → ℕ → Instruction → Type 0
MayBeIn None stop left instruction = instruction ≡ due stop left
MayBeIn (Some managed) stop left instruction = Unit {0}

abbrev pub MayBe : Plan → ℕ → ℕ → Instruction → Type 0
MayBe plan link = MayBeIn plan.managed (stop_of plan link)

-- so many turns up to that Stop, or to the last of those that are left
abbrev pub up_to : Option ℕ → ℕ → ℕ
up_to None left = left
up_to (Some stop) left = if nat_lt stop left then left - stop else left

-- slices one after another, each of 1 to 256 turns, behind a look and what may be instructed, and none across Stop; what they
-- counted is added to what was counted before, up to the first that a fault broke off. They end behind End, or when none is left
abbrev pub longest_slice : ℕ
longest_slice = 256

pub data SlicesFrom (plan : Plan) (link : ℕ) : ℕ → TermReport → Result TermReport TermFault → List Look → Standing → Standing → Type 0 where
  all_taken : (counted : TermReport) (at : Standing) → SlicesFrom plan link 0 counted (Ok counted) [] at at
  told_end : (left : ℕ) (sight : Sight) (counted : TermReport) (at : Standing) → MayBe plan link left Instruction.End → 0 < left
      → SlicesFrom plan link left counted (Ok counted) (look_at at sight ∷ []) at at
  broken_off : (left turns : ℕ) (sight : Sight) (instruction : Instruction) (counted : TermReport) (fault : TermFault)
      (before after : Standing) → MayBe plan link left instruction → turns ≤ up_to (stop_of plan link) left → turns ≤ longest_slice
      → Slice sight instruction turns (Err fault) before after
      → SlicesFrom plan link left counted (Err fault) (look_at before sight ∷ []) before after
  one_more : (left turns : ℕ) (sight : Sight) (instruction : Instruction) (counted report : TermReport)
      (ended : Result TermReport TermFault) (looks : List Look) (before between after : Standing) → MayBe plan link left instruction
      → 0 < turns → turns ≤ up_to (stop_of plan link) left → turns ≤ longest_slice → Slice sight instruction turns (Ok report) before between
      → SlicesFrom plan link (left - turns) (both counted report) ended looks between after
      → SlicesFrom plan link left counted ended (look_at before sight ∷ looks) before after

abbrev pub no_turns : TermReport
no_turns = record { turns = 0; sent = 0; good = 0; bad = 0; sixteen = 0; cause = 0 }

-- THE TURNS OF A SHIFT
abbrev pub TurnsOf : Plan → ℕ → Result TermReport TermFault → List Look → Standing → Standing → Type 0
TurnsOf plan link = SlicesFrom plan link plan.turns no_turns

-- a terminal that did nothing yet, and is told to come up in an emergency
abbrev pub fresh : ℕ → Timers → Seen → Standing
fresh link timers line = standing [] (told Start (told Emergency (opened link timers))) [] [] line

-- A SHIFT: the turns of the plan over a line left these entries, but those that level 3 asked for, and the terminal looked
-- before each slice of them, as the marks tell; level 3 asked each of its own when it was due behind a turn's entry or a look,
-- whatever is awaited after; what is reported of both; and the tape of what they put into the line, of which nothing was put
-- before. What the set told at a look, and by which entries an order had come late, the marks alone tell.
pub record DoesShift (plan : Plan) (link : ℕ) (ended : Result ShiftReport TermFault) (made : List Entry) : Type 0 where
  pub line : Seen
  pub after : Standing
  pub counts : Result TermReport TermFault
  pub marks : List ℕ
  pub turns : TurnsOf plan link counts (looks_in marks) (fresh link plan.timers line) after
  pub marks_are : are_marks link marks made ≡ true
  pub awaited : Awaited
  pub asks : AsksFrom plan.managed link marks made awaited
  pub made_is : of_turns marks made ≡ after.made
  pub none_put : line.put ≡ []
  pub tape : Option (List ℕ)
  pub tape_is : IsTape plan.keeps tape after.line.put
  pub ended_is : ended ≡ reported (answered_in link made) (carried_in plan.managed link made) tape counts

-- OVER THIS LINE: what a shift found first was there when the line was handed in, of which nothing was put since; and what it
-- saw last is of the same end of the same line, into which it put what it put
pub record RunsOver {L : Type 0} (l : line_end.Ghosts L) (line : L) (first last : Seen) : Type 0 where
  pub left : L
  pub same : l.is_same line left
  pub first_is : first ≡ seen (l.taken_so_far line) (l.waiting line) [] (l.free line)
  pub last_is : last ≡ seen (l.taken_so_far left) (l.waiting left) last.put (l.free left)
  pub put_is : l.put_so_far left ≡ l.put_so_far line ++ last.put

-- so a shift over this line
pub record DoesShiftOver {L : Type 0} (l : line_end.Ghosts L) (line : L) (plan : Plan) (link : ℕ)
    (ended : Result ShiftReport TermFault) (made : List Entry) : Type 0 where
  pub shift : DoesShift plan link ended made
  pub over : RunsOver l line shift.line shift.after.line

-- THE TERMINALS, from this link on, each took its own turns, and asked the set nothing else
abbrev pub DidShifts : ℕ → Plan → List (Result ShiftReport TermFault) → Books → List Entry → Type 0
DidShifts link plan [] books history = Unit {0}
DidShifts link plan (ended ∷ more) books history =
    ((calls : List Entry) × AreCalls (Actor.Terminal link) books history calls × DoesShift plan link ended calls)
    × DidShifts (suc link) plan more books history

-- and each over its own line
abbrev pub DidShiftsOver : {L : Type 0} → line_end.Ghosts L → ℕ → Plan → List L → List (Result ShiftReport TermFault) → Books → List Entry → Type 0
DidShiftsOver l link plan lines [] books history = Unit {0}
DidShiftsOver l link plan [] (ended ∷ more) books history = ⊥
DidShiftsOver l link plan (line ∷ lines) (ended ∷ more) books history =
    ((calls : List Entry) × AreCalls (Actor.Terminal link) books history calls × DoesShiftOver l line plan link ended calls)
    × DidShiftsOver l (suc link) plan lines more books history

-- and those that have no line asked it nothing
abbrev pub AskNothing : ℕ → ℕ → Books → List Entry → Type 0
AskNothing lines links books history =
    (link : ℕ) → lines ≤ link → link < links → AreCalls (Actor.Terminal link) books history []
