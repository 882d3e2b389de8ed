-- HOW AN ENTRY IS WRITTEN, in octets.
use Rattle.std.specs.Prelude.{◌≤◌, ◌<◌, ◌^◌, ℕ, List, [], ◌∷◌, ◌++◌, length, nat_lt, if◌then◌else◌}
use Rattle.std.specs.Int.{w16, w32, w64, to_le_bytes}
use Rattle.l2_units.specs.Grammar.{head_of, wide_number}
use Rattle.l2_units.specs.declared.unit.Unit.{Unit as SignalUnit}
use Rattle.l2_units.specs.declared.unit.Unit.TheVariants.{Msu}
use Rattle.set_events.specs.Numbers.{refusal_number}
use Rattle.set_events.specs.declared.answer.Answer.{Answer}
use Rattle.set_events.specs.declared.answer.Answer.TheVariants.{Accepted, Taken, Found, Sent, Heard as Reported, Done, Refused}
use Rattle.set_events.specs.declared.answer.Fate.{Fate}
use Rattle.set_events.specs.declared.answer.Fate.TheVariants.{Waiting, Unacked, Acked, Held, Parked, Back, Discarded}
use Rattle.set_events.specs.declared.event.Actor.{Actor}
use Rattle.set_events.specs.declared.event.Actor.TheVariants.{User, Terminal}
use Rattle.set_events.specs.declared.event.Event.{Event}
use Rattle.set_events.specs.declared.event.Event.TheVariants.{Offer, Take, Find, Next, Heard, Up, Down, DownBlind, NoAnswer, Timed, Restore, Redeclare, BackTimeout, Test}
use Rattle.set_events.specs.declared.history.Entry.{Entry}
use Rattle.set_history.specs.Forms.{form_octet, unit_form, fate_number, report_number}

-- a number: one octet below 253; else 253, 254 or 255, and two, four or eight octets, lowest first
abbrev pub large_text : ℕ → List ℕ
large_text n =
    if nat_lt n 0x10000 then 253 ∷ to_le_bytes w16 n else
    if nat_lt n 0x100000000 then 254 ∷ to_le_bytes w32 n else
    255 ∷ to_le_bytes w64 n

abbrev pub number_text : ℕ → List ℕ
number_text n = if nat_lt n 253 then n ∷ [] else large_text n

-- a body: how many octets, and the octets
abbrev pub body_text : List ℕ → List ℕ
body_text body = number_text (length body) ++ body

-- a unit: its header in 26 bits of four octets, and its kind above it; an MSU's body
abbrev pub head_text : SignalUnit → List ℕ
head_text unit = to_le_bytes w32 (wide_number (head_of unit) (unit_form unit))

abbrev pub content_text : SignalUnit → List ℕ
content_text (Msu head body) = body_text body.items
content_text unit = []

abbrev pub unit_text : SignalUnit → List ℕ
unit_text unit = head_text unit ++ content_text unit

abbrev pub who_text : Actor → List ℕ
who_text (User number) = number_text number
who_text (Terminal number) = number ∷ []

abbrev pub event_text : Event → List ℕ
event_text (Offer body) = body_text body
event_text Take = []
event_text (Find number) = number_text number
event_text (Heard link unit) = link ∷ unit_text unit
event_text (Next link) = link ∷ []
event_text (Up link) = link ∷ []
event_text (Down link) = link ∷ []
event_text (DownBlind link) = link ∷ []
event_text (NoAnswer link) = link ∷ []
event_text (Timed link) = link ∷ []
event_text (Restore link) = link ∷ []
event_text (Redeclare link) = link ∷ []
event_text (BackTimeout link) = link ∷ []
event_text (Test link) = link ∷ []

abbrev pub answer_text : Answer → List ℕ
answer_text (Accepted number) = number_text number
answer_text (Taken body) = body_text body.items
answer_text (Found fate) = number_text (fate_number fate)
answer_text (Sent unit) = unit_text unit
answer_text (Reported report) = number_text (report_number report)
answer_text Done = []
answer_text (Refused why) = refusal_number why ∷ []

-- AN ENTRY: what was asked, answered and by whom in an octet; the actor's number; what the event and the answer bring
abbrev pub entry_text : Entry → List ℕ
entry_text entry =
    form_octet entry.who entry.event entry.answer
    ∷ (who_text entry.who ++ event_text entry.event ++ answer_text entry.answer)

-- the numbers are those that their types have, and a unit has room for its body (Q.703 2.3.8)
abbrev pub IsActorKept : Actor → Type 0
IsActorKept (User number) = number < 2 ^ 16
IsActorKept (Terminal number) = Unit {0}

abbrev pub HasKeptBody : SignalUnit → Type 0
HasKeptBody (Msu head body) = length body.items ≤ 273
HasKeptBody unit = Unit {0}

abbrev pub IsEventKept : Event → Type 0
IsEventKept (Offer body) = length body < 2 ^ 64
IsEventKept (Find number) = number < 2 ^ 64
IsEventKept (Heard link unit) = HasKeptBody unit
IsEventKept event = Unit {0}

abbrev pub IsFateKept : Fate → Type 0
IsFateKept (Waiting link) = link < 2 ^ 8
IsFateKept (Unacked link) = link < 2 ^ 8
IsFateKept (Acked link) = link < 2 ^ 8
IsFateKept (Held link) = link < 2 ^ 8
IsFateKept Parked = Unit {0}
IsFateKept (Back code) = code < 2 ^ 8
IsFateKept (Discarded cause) = Unit {0}

abbrev pub IsAnswerKept : Answer → Type 0
IsAnswerKept (Accepted number) = number < 2 ^ 64
IsAnswerKept (Taken body) = length body.items ≤ 273
IsAnswerKept (Found fate) = IsFateKept fate
IsAnswerKept (Sent unit) = HasKeptBody unit
IsAnswerKept (Reported report) = report.acked < 2 ^ 16
IsAnswerKept answer = Unit {0}

abbrev pub IsKept : Entry → Type 0
IsKept entry = IsActorKept entry.who × IsEventKept entry.event × IsAnswerKept entry.answer

-- A HISTORY: its entries, one behind another
abbrev pub history_text : List Entry → List ℕ
history_text [] = []
history_text (entry ∷ entries) = entry_text entry ++ history_text entries

abbrev pub AreAllKept : List Entry → Type 0
AreAllKept [] = Unit {0}
AreAllKept (entry ∷ entries) = IsKept entry × AreAllKept entries
