-- WHAT A LINK CARRIED, as the entries of its terminal tell: how often it came up, and the messages of users that went each
-- way. Only a Next is answered with a unit to send, and only a Heard brings one.
use Rattle.std.specs.Prelude.{◌==◌, ◌&&◌, not, ◌+◌, ◌-◌, ◌%◌, ◌^◌, ℕ, min, Bool, true, false, List, [], ◌∷◌, length, Option, None, Some, if◌then◌else◌}
use Rattle.l2_units.specs.declared.unit.Unit.{Unit as SignalUnit}
use Rattle.l2_units.specs.declared.unit.Unit.TheVariants.{Msu}
use Rattle.set_events.specs.declared.answer.Answer.{Answer}
use Rattle.set_events.specs.declared.answer.Answer.TheVariants.{Sent}
use Rattle.set_events.specs.declared.event.Event.{Event}
use Rattle.set_events.specs.declared.event.Event.TheVariants.{Heard}
use Rattle.set_events.specs.declared.history.Entry.{Entry}
use Rattle.set_model.specs.Rows.{service_indicator, stream_of}
use Rattle.bank_crew.specs.declared.carried.Carried.{Carried}
use Rattle.bank_crew.specs.declared.plan.Managed.{Managed}
use Rattle.bank_crew.specs.Counts.{counts_message, counts_up}

abbrev pub one_if : Bool → ℕ
one_if true = 1
one_if false = 0

-- a message of users (Q.704 14.2.1), and its octets
abbrev pub is_users : List ℕ → Bool
is_users body = not (service_indicator body == 0)

abbrev pub users_octets : List ℕ → ℕ
users_octets body = if is_users body then length body else 0

abbrev pub unit_is_message : SignalUnit → Bool
unit_is_message (Msu head body) = is_users body.items
unit_is_message unit = false

abbrev pub message_octets : SignalUnit → ℕ
message_octets (Msu head body) = users_octets body.items
message_octets unit = 0

-- THE UNIT THAT THE SET GAVE to send: a message, and its octets
abbrev pub sends_message : Answer → Bool
sends_message (Sent unit) = unit_is_message unit
sends_message answer = false

abbrev pub sent_octets : Answer → ℕ
sent_octets (Sent unit) = message_octets unit
sent_octets answer = 0

-- it's an MSU with the FSN that the next new one has
abbrev pub unit_is_new : ℕ → SignalUnit → Bool
unit_is_new due (Msu head body) = head.fsn == due
unit_is_new due unit = false

abbrev pub sends_new : ℕ → Answer → Bool
sends_new due (Sent unit) = unit_is_new due unit
sends_new due answer = false

-- a message that isn't new to the link was sent on it before
abbrev pub sends_again : ℕ → Answer → Bool
sends_again due answer = sends_message answer && not (sends_new due answer)

-- the home of its stream is another link
abbrev pub is_away : Option Managed → ℕ → ℕ → Bool
is_away None link stream = false
is_away (Some managed) link stream = not (stream % managed.links == link)

abbrev pub unit_is_away : Option Managed → ℕ → SignalUnit → Bool
unit_is_away managed link (Msu head body) = is_away managed link (stream_of body.items)
unit_is_away managed link unit = false

abbrev pub told_away : Option Managed → ℕ → Answer → Bool
told_away managed link (Sent unit) = unit_is_away managed link unit
told_away managed link answer = false

abbrev pub sends_away : Option Managed → ℕ → ℕ → Answer → Bool
sends_away managed link due answer =
    sends_message answer && (sends_new due answer && told_away managed link answer)

-- THE MESSAGE THAT WAS HEARD and accepted
abbrev pub told_octets : Event → ℕ
told_octets (Heard l unit) = message_octets unit
told_octets event = 0

abbrev pub heard_octets : ℕ → Event → Answer → ℕ
heard_octets link event answer = if counts_message link event answer then told_octets event else 0

-- THE FSN OF THE NEXT NEW MESSAGE: 0 once the link came up, and one more behind each new one (Q.703 5.2)
abbrev pub due_after : ℕ → ℕ → Event → Answer → ℕ
due_after link due event answer =
    if counts_up link event answer then 0
    else (if sends_new due answer then (due + 1) % 128 else due)

abbrev pub due_in : ℕ → ℕ → List Entry → ℕ
due_in link due [] = due
due_in link due (entry ∷ entries) = due_in link (due_after link due entry.event entry.answer) entries

-- WHAT ADDS UP over entries: how much each brings, given the FSN that is due before it
abbrev pub Brings : Type 0
Brings = ℕ → Event → Answer → ℕ

abbrev pub sum_in : ℕ → Brings → ℕ → List Entry → ℕ
sum_in link brings due [] = 0
sum_in link brings due (entry ∷ entries) =
    brings due entry.event entry.answer
    + sum_in link brings (due_after link due entry.event entry.answer) entries

abbrev pub ups : ℕ → Brings
ups link due event answer = one_if (counts_up link event answer)

abbrev pub sent : Brings
sent due event answer = one_if (sends_message answer)

abbrev pub octets_sent : Brings
octets_sent due event answer = sent_octets answer

abbrev pub again : Brings
again due event answer = one_if (sends_again due answer)

abbrev pub diverted : Option Managed → ℕ → Brings
diverted managed link due event answer = one_if (sends_away managed link due answer)

abbrev pub octets_heard : ℕ → Brings
octets_heard link due event answer = heard_octets link event answer

-- a sum is told up to 2^64 - 1
abbrev pub capped : ℕ → ℕ
capped n = min n (2 ^ 64 - 1)

-- WHAT WAS CARRIED, where these are all entries of the terminal of this link
abbrev pub carried_in : Option Managed → ℕ → List Entry → Carried
carried_in managed link entries = record {
  ups = capped (sum_in link (ups link) 0 entries);
  sent = capped (sum_in link sent 0 entries);
  sent_octets = capped (sum_in link octets_sent 0 entries);
  again = capped (sum_in link again 0 entries);
  diverted = capped (sum_in link (diverted managed link) 0 entries);
  heard_octets = capped (sum_in link (octets_heard link) 0 entries);
  next = due_in link 0 entries;
}

-- one answer more
abbrev pub carried_more : Option Managed → ℕ → Event → Answer → Carried → Carried
carried_more managed link event answer c = record {
  ups = capped (c.ups + ups link c.next event answer);
  sent = capped (c.sent + sent c.next event answer);
  sent_octets = capped (c.sent_octets + octets_sent c.next event answer);
  again = capped (c.again + again c.next event answer);
  diverted = capped (c.diverted + diverted managed link c.next event answer);
  heard_octets = capped (c.heard_octets + octets_heard link c.next event answer);
  next = due_after link c.next event answer;
}
