-- The numbers by which an entry's octets tell what was asked and answered, and what each number tells.
use Rattle.std.specs.Prelude.{ℕ, Bool, ◌+◌, ◌*◌, ◌/◌, ◌%◌, ◌==◌, if◌then◌else◌, Option, Some, None}
use Rattle.l2_units.specs.declared.cause.ControlFault.{ControlFault}
use Rattle.l2_units.specs.declared.unit.Unit.{Unit as SignalUnit}
use Rattle.l2_units.specs.declared.unit.Unit.TheVariants.{Fisu, Lssu, Msu}
use Rattle.l2_units.specs.Numbers.{status_number}
use Rattle.set_events.specs.Numbers.{cause_number}
use Rattle.set_events.specs.declared.answer.Answer.{Answer}
use Rattle.set_events.specs.declared.answer.Answer.TheVariants.{Accepted, Taken, Found, Sent, Heard as Reported, Done, Refused}
use Rattle.set_events.specs.declared.answer.DiscardCause.{DiscardCause}
use Rattle.set_events.specs.declared.answer.Fate.{Fate}
use Rattle.set_events.specs.declared.answer.Fate.TheVariants.{Waiting, Unacked, Acked, Held, Parked, Back, Discarded}
use Rattle.set_events.specs.declared.answer.Refusal.{Refusal}
use Rattle.set_events.specs.declared.answer.Report.{Report}
use Rattle.set_events.specs.declared.answer.Took.{Took}
use Rattle.set_events.specs.declared.event.Actor.{Actor}
use Rattle.set_events.specs.declared.event.Actor.TheVariants.{User, Terminal}
use Rattle.set_events.specs.declared.event.Event.{Event}
use Rattle.set_events.specs.declared.event.Event.TheVariants.{Offer, Take, Find, Next, Heard, Up, Down, DownBlind, NoAnswer, Timed, Restore, Redeclare, BackTimeout, Test}

-- what was asked
abbrev pub event_form : Event → ℕ
event_form (Offer body) = 0
event_form Take = 1
event_form (Find number) = 2
event_form (Next link) = 3
event_form (Heard link unit) = 4
event_form (Up link) = 5
event_form (Down link) = 6
event_form (DownBlind link) = 7
event_form (NoAnswer link) = 8
event_form (Restore link) = 9
event_form (BackTimeout link) = 10
event_form (Timed link) = 11
event_form (Redeclare link) = 12
event_form (Test link) = 13

-- what was answered
abbrev pub answer_form : Answer → ℕ
answer_form (Accepted number) = 0
answer_form (Taken body) = 1
answer_form (Found fate) = 2
answer_form (Sent unit) = 3
answer_form (Reported report) = 4
answer_form Done = 5
answer_form (Refused why) = 6

-- who asked
abbrev pub actor_form : Actor → ℕ
actor_form (User number) = 0
actor_form (Terminal number) = 1

-- all three in an octet
abbrev pub form_octet : Actor → Event → Answer → ℕ
form_octet who event answer = event_form event + 16 * answer_form answer + 128 * actor_form who

-- a unit's kind, with an LSSU's status in it
abbrev pub unit_form : SignalUnit → ℕ
unit_form (Fisu head) = 0
unit_form (Msu head body) = 1
unit_form (Lssu head status) = 8 + status_number status

-- a fate: its place in the low three bits; the link, the code or the cause above them
abbrev pub fate_number : Fate → ℕ
fate_number Parked = 0
fate_number (Waiting link) = 1 + 8 * link
fate_number (Unacked link) = 2 + 8 * link
fate_number (Acked link) = 3 + 8 * link
fate_number (Held link) = 4 + 8 * link
fate_number (Back code) = 5 + 8 * code
fate_number (Discarded cause) = 6 + 8 * cause_number cause

abbrev pub cause_told : ℕ → DiscardCause
cause_told n =
    if n == 1 then DiscardCause.Emergency else
    if n == 2 then DiscardCause.Unreasonable else DiscardCause.NoAnswer

abbrev pub fate_in : ℕ → ℕ → Fate
fate_in place above =
    if place == 0 then Parked else
    if place == 1 then Waiting above else
    if place == 2 then Unacked above else
    if place == 3 then Acked above else
    if place == 4 then Held above else
    if place == 5 then Back above else Discarded (cause_told above)

abbrev pub fate_told : ℕ → Fate
fate_told n = fate_in (n % 8) (n / 8 % 256)

-- a report: what became of the body in the low two bits, who asks for retransmission in two, the fault in two, and
-- above them how many messages it acknowledged
abbrev pub took_number : Took → ℕ
took_number Took.Nothing = 0
took_number Took.Message = 1
took_number Took.Order = 2
took_number Took.Ignored = 3

abbrev pub took_told : ℕ → Took
took_told n =
    if n == 0 then Took.Nothing else
    if n == 1 then Took.Message else
    if n == 2 then Took.Order else Took.Ignored

abbrev pub fault_number : Option ControlFault → ℕ
fault_number None = 0
fault_number (Some ControlFault.Bsn) = 1
fault_number (Some ControlFault.Fib) = 2

abbrev pub fault_told : ℕ → Option ControlFault
fault_told n =
    if n == 0 then None else
    if n == 1 then Some ControlFault.Bsn else Some ControlFault.Fib

abbrev pub bit : Bool → ℕ
bit b = if b then 1 else 0

abbrev pub report_number : Report → ℕ
report_number report =
    took_number report.took + 4 * bit report.asked + 8 * bit report.resend + 16 * fault_number report.fault
    + 64 * report.acked

abbrev pub report_told : ℕ → Report
report_told n = record {
  acked = n / 64 % 0x10000;
  took = took_told (n % 4);
  asked = n / 4 % 2 == 1;
  resend = n / 8 % 2 == 1;
  fault = fault_told (n / 16 % 4);
}

abbrev pub refusal_told : ℕ → Refusal
refusal_told n =
    if n == 1 then Refusal.TooShort else
    if n == 2 then Refusal.TooLong else
    if n == 3 then Refusal.Reserved else
    if n == 4 then Refusal.StreamFull else
    if n == 5 then Refusal.NotUp else
    if n == 6 then Refusal.NotDown else
    if n == 7 then Refusal.Unsettled else
    if n == 8 then Refusal.UnknownNumber else
    if n == 9 then Refusal.Nothing else
    if n == 10 then Refusal.NoSuchLink else Refusal.Finished
