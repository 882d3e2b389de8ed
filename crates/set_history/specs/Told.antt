-- WHAT OCTETS TELL: an entry, whichever they are. Each reading has a second one beside it, of the octets behind.
use Rattle.std.specs.Prelude.{Bool, true, false, ◌≡◌, ◌≤◌, ◌+◌, ◌/◌, ◌%◌, ◌^◌, ◌==◌, ℕ, zero, suc, List, [], ◌∷◌, length, take, drop, replicate, min, nat_le, nat_lt, if◌then◌else◌}
use Rattle.std.specs.Int.{w16, w32, w64, from_le_bytes}
use Rattle.l2_units.specs.Grammar.{wide_form, wide_header, status_of}
use Rattle.l2_units.specs.declared.unit.Header.{Header}
use Rattle.l2_units.specs.declared.unit.Unit.{Unit as SignalUnit}
use Rattle.l2_units.specs.declared.unit.Unit.TheVariants.{Fisu, Lssu, Msu}
use Rattle.set_events.specs.declared.answer.Answer.{Answer}
use Rattle.set_events.specs.declared.answer.Answer.TheVariants.{Accepted, Taken, Found, Sent, Heard as Reported, Done, Refused}
use Rattle.set_events.specs.declared.event.Actor.{Actor}
use Rattle.set_events.specs.declared.event.Actor.TheVariants.{User, Terminal}
use Rattle.set_events.specs.declared.event.Event.{Event}
use Rattle.set_events.specs.declared.event.Event.TheVariants.{Offer, Take, Find, Next, Heard, Up, Down, DownBlind, NoAnswer, Timed, Restore, Redeclare, BackTimeout, Test}
use Rattle.set_events.specs.declared.history.Entry.{Entry}
use Rattle.set_history.specs.Forms.{fate_told, report_told, refusal_told}
use Rattle.set_history.specs.Written.{history_text, AreAllKept}

-- an octet, 0 where there is none
abbrev pub octet : List ℕ → ℕ
octet [] = 0
octet (first ∷ rest) = first

-- so many octets, zeros where there are fewer
abbrev pub chunk : ℕ → List ℕ → List ℕ
chunk size octets = if nat_le size (length octets) then take size octets else replicate size 0

-- a number behind its first octet, and how many octets it has there
abbrev pub number_from : ℕ → List ℕ → ℕ
number_from first octets =
    if first == 253 then from_le_bytes w16 (chunk 2 octets) else
    if first == 254 then from_le_bytes w32 (chunk 4 octets) else
    if first == 255 then from_le_bytes w64 (chunk 8 octets) else first

abbrev pub size_from : ℕ → ℕ
size_from first =
    if first == 253 then 2 else
    if first == 254 then 4 else
    if first == 255 then 8 else 0

abbrev pub number : List ℕ → ℕ
number octets = number_from (octet octets) (drop 1 octets)

abbrev pub behind_number : List ℕ → List ℕ
behind_number octets = drop (size_from (octet octets)) (drop 1 octets)

-- a body, of at most so many octets
abbrev pub body : ℕ → List ℕ → List ℕ
body most octets = take (min (number octets) most) (behind_number octets)

abbrev pub behind_body : ℕ → List ℕ → List ℕ
behind_body most octets = drop (min (number octets) most) (behind_number octets)

-- a unit, whose body has at most 273 octets (Q.703 2.3.3)
abbrev pub unit_as : ℕ → Header → List ℕ → SignalUnit
unit_as form head octets =
    if form == 0 then Fisu head else
    if form == 1 then Msu head (record { items = body 273 octets }) else Lssu head (status_of (form % 8))

abbrev pub behind_unit_as : ℕ → List ℕ → List ℕ
behind_unit_as form octets = if form == 1 then behind_body 273 octets else octets

abbrev pub word : List ℕ → ℕ
word octets = from_le_bytes w32 (chunk 4 octets)

abbrev pub unit : List ℕ → SignalUnit
unit octets = unit_as (wide_form (word octets)) (wide_header (word octets)) (drop 4 octets)

abbrev pub behind_unit : List ℕ → List ℕ
behind_unit octets = behind_unit_as (wide_form (word octets)) (drop 4 octets)

-- who asked: a terminal, or a user
abbrev pub who_at : Bool → List ℕ → Actor
who_at true octets = Terminal (octet octets)
who_at false octets = User (number octets % 0x10000)

abbrev pub behind_who_at : Bool → List ℕ → List ℕ
behind_who_at true octets = drop 1 octets
behind_who_at false octets = behind_number octets

abbrev pub event_told : ℕ → List ℕ → Event
event_told form octets =
    if form == 0 then Offer (body (2 ^ 64) octets) else
    if form == 1 then Take else
    if form == 2 then Find (number octets) else
    if form == 3 then Next (octet octets) else
    if form == 4 then Heard (octet octets) (unit (drop 1 octets)) else
    if form == 5 then Up (octet octets) else
    if form == 6 then Down (octet octets) else
    if form == 7 then DownBlind (octet octets) else
    if form == 8 then NoAnswer (octet octets) else
    if form == 9 then Restore (octet octets) else
    if form == 10 then BackTimeout (octet octets) else
    if form == 11 then Timed (octet octets) else
    if form == 12 then Redeclare (octet octets) else Test (octet octets)

abbrev pub behind_event : ℕ → List ℕ → List ℕ
behind_event form octets =
    if form == 0 then behind_body (2 ^ 64) octets else
    if form == 1 then octets else
    if form == 2 then behind_number octets else
    if form == 4 then behind_unit (drop 1 octets) else drop 1 octets

abbrev pub answer_told : ℕ → List ℕ → Answer
answer_told form octets =
    if form == 0 then Accepted (number octets) else
    if form == 1 then Taken (record { items = body 273 octets }) else
    if form == 2 then Found (fate_told (number octets)) else
    if form == 3 then Sent (unit octets) else
    if form == 4 then Reported (report_told (number octets)) else
    if form == 5 then Done else Refused (refusal_told (octet octets))

abbrev pub behind_answer : ℕ → List ℕ → List ℕ
behind_answer form octets =
    if form == 1 then behind_body 273 octets else
    if form == 3 then behind_unit octets else
    if form == 5 then octets else
    if nat_lt form 5 then behind_number octets else drop 1 octets

-- AN ENTRY, by its forms
abbrev pub entry_as : Bool → ℕ → ℕ → List ℕ → Entry
entry_as terminal asked answered octets = record {
  who = who_at terminal octets;
  event = event_told asked (behind_who_at terminal octets);
  answer = answer_told answered (behind_event asked (behind_who_at terminal octets));
}

abbrev pub behind_entry_as : Bool → ℕ → ℕ → List ℕ → List ℕ
behind_entry_as terminal asked answered octets =
    behind_answer answered (behind_event asked (behind_who_at terminal octets))

abbrev pub entry_told : List ℕ → Entry
entry_told octets = entry_as (nat_le 128 (octet octets)) (octet octets % 16) (octet octets / 16 % 8) (drop 1 octets)

abbrev pub behind_entry : List ℕ → List ℕ
behind_entry octets =
    behind_entry_as (nat_le 128 (octet octets)) (octet octets % 16) (octet octets / 16 % 8) (drop 1 octets)

-- A HISTORY of so many entries
abbrev pub entries_told : ℕ → List ℕ → List Entry
entries_told zero octets = []
entries_told (suc n) octets = entry_told octets ∷ entries_told n (behind_entry octets)

-- the octets are those of what they tell
abbrev pub AreWritten : ℕ → List ℕ → Type 0
AreWritten n octets = (history_text (entries_told n octets) ≡ octets) × AreAllKept (entries_told n octets)

-- A history to contracts: its entries, and how many octets more want no memory.
pub record HistoryState : Type 0 where
  pub items : List Entry
  pub room : ℕ

-- the octets of an event's body; there may be none
abbrev pub body_of_unit : SignalUnit → List ℕ
body_of_unit (Msu head body) = body.items
body_of_unit unit = []

abbrev pub body_of : Event → List ℕ
body_of (Offer body) = body
body_of (Heard link unit) = body_of_unit unit
body_of event = []

-- there is room for this event with whatever is answered to it: 37 octets, and both bodies, of which an answer's has at
-- most 273 (Q.703 2.3.8)
abbrev pub HasRoom : Event → HistoryState → Type 0
HasRoom event history = length (body_of event) + 273 + 37 ≤ history.room
