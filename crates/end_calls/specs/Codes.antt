-- THE NUMBERS by which programs in other languages speak with an end. They never change.
use Rattle.std.specs.Prelude.{ℕ, ◌+◌, ◌==◌, Option, Some, None, if◌then◌else◌}
use Rattle.end_calls.specs.declared.fault.CallFault.{CallFault}
use Rattle.l2_units.specs.Numbers.{cause_number}
use Rattle.l2_units.specs.declared.cause.Cause.{Cause}
use Rattle.set_events.specs.Numbers.{cause_number as discard_number, config_fault_number, refusal_number}
use Rattle.set_events.specs.declared.answer.Fate.{Fate}
use Rattle.set_events.specs.declared.answer.Refusal.{Refusal as SetRefusal}
use Rattle.set_events.specs.declared.fault.SetFault.{SetFault}
use Rattle.link_term.specs.declared.fault.TermFault.{TermFault}
use Rattle.term_bench.specs.declared.word.LinkWord.{LinkWord}
use Rattle.term_bench.specs.declared.word.Phase.{Phase}
use Rattle.term_managed.specs.declared.fault.ManageFault.{ManageFault}
use Rattle.term_model.specs.declared.command.Command.{Command}

-- WHY A CALL WASN'T CARRIED OUT
abbrev pub fault_number : CallFault → ℕ
fault_number (CallFault.Refused why) = refusal_number why
fault_number CallFault.NoMemory = 16
fault_number CallFault.Exhausted = 17
fault_number CallFault.Failed = 18
fault_number CallFault.Profile = 19
fault_number (CallFault.Config fault) = 32 + config_fault_number fault
fault_number CallFault.Timers = 37
fault_number CallFault.Times = 38
fault_number CallFault.NoSuchUser = 48
fault_number CallFault.NoSuchCommand = 49
fault_number CallFault.NoRoom = 50

abbrev pub no_such_link : CallFault
no_such_link = CallFault.Refused SetRefusal.NoSuchLink

-- what is told of a fault of the set, or of a terminal
abbrev pub of_set : SetFault → CallFault
of_set SetFault.NoMemory = CallFault.NoMemory
of_set SetFault.Exhausted = CallFault.Exhausted

abbrev pub of_term : TermFault → CallFault
of_term TermFault.NoMemory = CallFault.NoMemory
of_term TermFault.Failed = CallFault.Failed
of_term TermFault.Exhausted = CallFault.Exhausted
of_term TermFault.Profile = CallFault.Profile

abbrev pub of_manage : ManageFault → CallFault
of_manage ManageFault.AlreadySo = CallFault.Refused SetRefusal.Nothing
of_manage (ManageFault.Set fault) = of_set fault

-- COMMANDS
abbrev pub command_of : ℕ → Option Command
command_of number =
    if number == 0 then Some Command.Start else
    if number == 1 then Some Command.Stop else
    if number == 2 then Some Command.Emergency else
    if number == 3 then Some Command.Calm else
    if number == 4 then Some Command.Busy else
    if number == 5 then Some Command.Ease else
    if number == 6 then Some Command.Blind else
    if number == 7 then Some Command.Outage else
    if number == 8 then Some Command.Recover else None

-- HOW A LINK STANDS, where it is in its life, and why it failed last
abbrev pub word_number : LinkWord → ℕ
word_number LinkWord.Out = 0
word_number LinkWord.Unaligned = 1
word_number LinkWord.Aligned = 2
word_number LinkWord.Proving = 3
word_number LinkWord.Ready = 4
word_number LinkWord.Waiting = 5
word_number LinkWord.Up = 6
word_number LinkWord.Paused = 7
word_number LinkWord.Outage = 8

abbrev pub phase_number : Phase → ℕ
phase_number Phase.Settled = 0
phase_number Phase.Up = 1
phase_number Phase.Left = 2

abbrev pub cause_code : Option Cause → ℕ
cause_code None = 0
cause_code (Some cause) = cause_number cause

-- WHERE A MESSAGE STANDS, and on which link, by which code, or why
abbrev pub place_number : Fate → ℕ
place_number (Fate.Waiting link) = 0
place_number (Fate.Unacked link) = 1
place_number (Fate.Acked link) = 2
place_number (Fate.Held link) = 3
place_number Fate.Parked = 4
place_number (Fate.Back code) = 5
place_number (Fate.Discarded cause) = 6

abbrev pub detail_of : Fate → ℕ
detail_of (Fate.Waiting link) = link
detail_of (Fate.Unacked link) = link
detail_of (Fate.Acked link) = link
detail_of (Fate.Held link) = link
detail_of Fate.Parked = 0
detail_of (Fate.Back code) = code
detail_of (Fate.Discarded cause) = discard_number cause
