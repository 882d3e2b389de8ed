-- WHAT A SET ANSWERED to the terminal of a link: whether the link came up, and the messages that were accepted on it.
use Rattle.std.specs.Prelude.{◌==◌, ◌&&◌, ◌+◌, ℕ, Bool, true, false, List, [], ◌∷◌, Option, Result, Ok, Err, if◌then◌else◌}
use Rattle.set_events.specs.declared.answer.Answer.{Answer}
use Rattle.set_events.specs.declared.answer.Answer.TheVariants.{Done, Heard as HeardAnswer}
use Rattle.set_events.specs.declared.answer.Took.{Took}
use Rattle.set_events.specs.declared.answer.Took.TheVariants.{Message}
use Rattle.set_events.specs.declared.event.Event.{Event}
use Rattle.set_events.specs.declared.event.Event.TheVariants.{Heard, Up}
use Rattle.set_events.specs.declared.history.Entry.{Entry}
use Rattle.term_model.specs.declared.report.TermReport.{TermReport}
use Rattle.link_term.specs.declared.fault.TermFault.{TermFault}
use Rattle.bank_crew.specs.declared.carried.Carried.{Carried}
use Rattle.bank_crew.specs.declared.report.Answered.{Answered}
use Rattle.bank_crew.specs.declared.report.ShiftReport.{ShiftReport}

abbrev pub is_up : ℕ → Event → Bool
is_up link (Up l) = l == link
is_up link event = false

abbrev pub is_heard : ℕ → Event → Bool
is_heard link (Heard l unit) = l == link
is_heard link event = false

abbrev pub is_done : Answer → Bool
is_done Done = true
is_done answer = false

abbrev pub is_message : Took → Bool
is_message Message = true
is_message took = false

abbrev pub took_message : Answer → Bool
took_message (HeardAnswer report) = is_message report.took
took_message answer = false

abbrev pub counts_up : ℕ → Event → Answer → Bool
counts_up link event answer = is_up link event && is_done answer

abbrev pub counts_message : ℕ → Event → Answer → Bool
counts_message link event answer = is_heard link event && took_message answer

-- one answer more
abbrev pub counted : ℕ → Event → Answer → Answered → Answered
counted link event answer before = record {
  came_up = if before.came_up then true else counts_up link event answer;
  messages = if counts_message link event answer then before.messages + 1 else before.messages;
}

-- the set answered Done to an Up of the link
abbrev pub came_up : ℕ → List Entry → Bool
came_up link [] = false
came_up link (entry ∷ entries) = if counts_up link entry.event entry.answer then true else came_up link entries

-- how many messages were heard on the link and accepted
abbrev pub taken_on : ℕ → List Entry → ℕ
taken_on link [] = 0
taken_on link (entry ∷ entries) = (if counts_message link entry.event entry.answer then 1 else 0) + taken_on link entries

-- WHAT WAS ANSWERED, where these are all entries of the terminal
abbrev pub answered_in : ℕ → List Entry → Answered
answered_in link entries = record { came_up = came_up link entries; messages = taken_on link entries }

-- what turns came to
abbrev pub reported : Answered → Carried → Option (List ℕ) → Result TermReport TermFault → Result ShiftReport TermFault
reported answered carried tape (Ok turns) =
    Ok (record { turns = turns; answered = answered; carried = carried; tape = tape })
reported answered carried tape (Err fault) = Err fault
