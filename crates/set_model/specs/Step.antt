-- THE STEP OF A SET: what it answers to an event, and what it holds then.
use Rattle.std.specs.Prelude.{◌≡◌, ◌≤◌, ℕ, Bool, true, false, ◌&&◌, ◌+◌, nat_lt, nat_le, List, [], ◌∷◌, ◌++◌, length, slice_get, Option, Some, None, slice_set, if◌then◌else◌}
pub use Rattle.l2_units.specs.declared.unit.Unit.{Unit as SignalUnit}
pub use Rattle.l2_units.specs.declared.unit.Unit.TheVariants.{Fisu, Lssu, Msu}
use Rattle.l2_units.specs.declared.profile.Profile.{Profile}
use Rattle.l2_units.specs.Profile.{fsn_count, longest_body}
use Rattle.l2_units.specs.Grammar.{head_of as header_in}
use Rattle.l3_orders.specs.Grammar.{order_of}
pub use Rattle.set_events.specs.Places.{one_if}
pub use Rattle.set_events.specs.declared.answer.Took.{Took}
pub use Rattle.set_events.specs.declared.answer.Took.TheVariants.{Nothing as NothingTaken, Message, Ignored, Order}
use Rattle.set_events.specs.declared.answer.Report.{Report}
pub use Rattle.set_events.specs.declared.answer.Refusal.{Refusal as SetRefusal}
pub use Rattle.set_events.specs.declared.answer.Refusal.TheVariants.{TooShort, TooLong, Reserved, StreamFull, NotUp, NotDown, Unsettled, UnknownNumber, Nothing, NoSuchLink, Finished}
pub use Rattle.set_events.specs.declared.answer.Answer.{Answer}
pub use Rattle.set_events.specs.declared.answer.Answer.TheVariants.{Accepted, Taken, Found, Sent, Heard as HeardBack, Done, Refused}
pub use Rattle.set_events.specs.declared.event.Event.{Event}
pub use Rattle.set_events.specs.declared.event.Event.TheVariants.{Offer, Take, Find, Next, Heard, Up as UpEvent, Down as DownEvent, DownBlind, NoAnswer, Timed, Restore, Redeclare, BackTimeout, Test}
use Rattle.set_route.specs.Routing.{place_of, code_for, accepted, raised}
use Rattle.set_model.specs.Rows.{Fate, Waiting, Parked, Unacked, Acked, Row, all_with, unack, wait, is_unacked, is_waiting, is_parked, octets_in, unsent, stream_of, is_managements, turned, moved, appended, place, counts_of, total_of}
use Rattle.set_model.specs.State.{Phase, Up, Down, Settled, LinkState, State, given, open_link, with_link, link_count, late_at, has_phase_up, fate_at, window_of}
use Rattle.set_model.specs.Control.{Header, Method, HeardPart, Choice, again, first, fill, start_of, choice_of, fsn_of, head_of, control_after, part_of, control_heard}
use Rattle.set_model.specs.Changeover.{Unanswered, Unasked, taken_back, Obeyed, cleared, left_by, leaving_order, queued, settled, declared_from, some_declare, redeclared_from, some_overdue, released_from, some_in_use, obeyed}

-- what is answered, and what the set holds then
pub record Outcome : Type 0 where
  pub answer : Answer
  pub state : State

-- a refusal changes nothing
abbrev pub refused : State → SetRefusal → Outcome
refused s why = record { answer = Refused why; state = s }

-- OFFER. The first refusal that holds, in the order of their numbers, by how many of the stream aren't sent yet.
abbrev pub refusal_by : Profile → ℕ → List ℕ → Option SetRefusal
refusal_by profile unsent body =
    if nat_lt (length body) 5 then Some TooShort
    else (if nat_lt (longest_body profile) (length body) then Some TooLong
    else (if is_managements body then Some Reserved
    else (if nat_le 1024 unsent then Some StreamFull
    else None)))

abbrev pub offer_refusal : Profile → List Row → List ℕ → Option SetRefusal
offer_refusal profile rows body = refusal_by profile (length (unsent (stream_of body) rows)) body

-- a new row stands at the end, where its stream runs
abbrev pub offered : Option SetRefusal → State → List ℕ → Outcome
offered (Some why) s body = refused s why
offered None s body = record {
  answer = Accepted (given s);
  state = record s {
    rows = appended (given s) s.rows body (fate_at (place_of (stream_of body) s.routing) s);
    routing = accepted (stream_of body) s.routing;
  };
}

-- TAKE. The oldest message of the inbox leaves it.
abbrev pub taken : List (List ℕ) → State → Outcome
taken [] s = refused s Nothing
taken (body ∷ rest) s = record { answer = Taken (record { items = body }); state = record s { inbox = rest } }

-- FIND. A message that has left the rows is refused 11, a number that wasn't given out 8.
abbrev pub found : Option Fate → ℕ → State → Outcome
found (Some fate) number s = record { answer = Found fate; state = s }
found None number s = refused s (if nat_lt number (given s) then Finished else UnknownNumber)

-- An event that names a link is refused 10 before anything else.
abbrev pub with_known : Option LinkState → State → (LinkState → Outcome) → Outcome
with_known None s outcome = refused s NoSuchLink
with_known (Some link) s outcome = outcome link

abbrev pub on_link : ℕ → State → (LinkState → Outcome) → Outcome
on_link number s outcome = with_known (slice_get s.links number) s outcome

-- one that needs the link in service is refused 5 where it isn't
abbrev pub in_service : ℕ → State → (LinkState → Outcome) → Outcome
in_service number s outcome =
    on_link number s (λ link. if has_phase_up link.phase then outcome link else refused s NotUp)

-- NEXT, once the orders that were overtaken are discarded. The message that is chosen (a chosen place is always one of them).
abbrev pub chosen : Choice → ℕ → List Row → Option Row
chosen (again place) number rows = slice_get (unack number rows) place
chosen first number rows = slice_get (wait number rows) 0
chosen fill number rows = None

abbrev pub unit_of : Option Row → Header → SignalUnit
unit_of (Some row) head = Msu head (record { items = row.body })
unit_of None head = Fisu head

-- a first sending turns the first waiting message into an unacknowledged one
abbrev pub rows_sent : Choice → ℕ → List Row → List Row
rows_sent first number rows = turned (is_waiting number) (Unacked number) 1 rows
rows_sent _ number rows = rows

abbrev pub sends : Choice → ℕ → State → LinkState → Outcome
sends choice number s link =
    let window = window_of number link s.rows in
    let octets = octets_in (unack number s.rows) in
    record {
      answer = Sent (unit_of (chosen choice number s.rows) (head_of link.control window (fsn_of choice window)));
      state = with_link number (record link { control = control_after choice octets link.control window })
          (record s { rows = rows_sent choice number s.rows });
    }

-- the control chooses by its state, the window, and the octets of the unacknowledged bodies
abbrev pub choice_in : ℕ → LinkState → State → Choice
choice_in number link s = choice_of (octets_in (unack number s.rows)) link.control (window_of number link s.rows)

abbrev pub next : ℕ → State → LinkState → Outcome
next number s link = sends (choice_in number link s) number s link

-- HEARD.
abbrev pub is_msu : SignalUnit → Bool
is_msu (Msu head body) = true
is_msu _ = false

-- the body that the control accepted, if any
abbrev pub brought : Bool → SignalUnit → Option (List ℕ)
brought accept (Msu head body) = if accept then Some body.items else None
brought accept _ = None

-- where an accepted body goes: a message to the users' inbox; one of the management, of service indicator 0
-- (Q.704 14.2.1), to the rules of changeover
abbrev pub takes : Option (List ℕ) → State → Obeyed
takes None s = record { took = NothingTaken; state = s }
takes (Some body) s =
    if is_managements body
    then obeyed (order_of s.settings.profile body) s
    else record { took = Message; state = record s { inbox = s.inbox ++ body ∷ [] } }

abbrev pub report_of : HeardPart → Took → Report
report_of part took = record {
  acked = part.acked;
  took = took;
  asked = part.asked;
  resend = part.resend;
  fault = part.fault;
}

-- what the control makes of the unit: acknowledged messages are the first ones, and so many
abbrev pub after_control : HeardPart → Header → SignalUnit → ℕ → State → LinkState → State
after_control part head unit number s link =
    with_link number (record link {
      acked = link.acked + part.acked;
      accepted = link.accepted + one_if part.accept;
      control = control_heard link.control (window_of number link s.rows) head (is_msu unit);
    }) (record s { rows = turned (is_unacked number) (Acked number) part.acked s.rows })

-- what it finds in the unit, by its state and the window
abbrev pub part_in : SignalUnit → ℕ → LinkState → State → HeardPart
part_in unit number link s = part_of link.control (window_of number link s.rows) (header_in unit) (is_msu unit)

abbrev pub controlled : SignalUnit → ℕ → State → LinkState → State
controlled unit number s link = after_control (part_in unit number link s) (header_in unit) unit number s link

-- then an accepted body goes where it belongs
abbrev pub controls : SignalUnit → ℕ → State → LinkState → Outcome
controls unit number s link =
    let part = part_in unit number link s in
    let after = takes (brought part.accept unit) (controlled unit number s link) in
    record { answer = HeardBack (report_of part after.took); state = after.state }

-- a link status signal unit is the terminal's own affair, not the error control's; and a unit of the other profile,
-- which has a number or a body that this one hasn't, tells nothing here (own)
abbrev pub has_numbers : Profile → Header → Bool
has_numbers profile head = nat_lt head.bsn (fsn_count profile) && nat_lt head.fsn (fsn_count profile)

abbrev pub is_heard : Profile → SignalUnit → Bool
is_heard profile (Lssu head status) = false
is_heard profile (Fisu head) = has_numbers profile head
is_heard profile (Msu head body) = has_numbers profile head && nat_le (length body.items) (longest_body profile)

abbrev pub heard : SignalUnit → ℕ → State → LinkState → Outcome
heard unit number s link =
    if is_heard s.settings.profile unit then controls unit number s link else refused s Nothing

-- UP. The error control starts anew;
abbrev pub risen_link : Profile → Method → ℕ → LinkState
risen_link profile method late = record {
  phase = Up;
  tested = false;
  profile = profile;
  blind = false;
  answered = false;
  acked = 0;
  accepted = 0;
  control = start_of method;
  late = late;
  order = 0;
}

abbrev pub risen : ℕ → State → State
risen number s = with_link number (risen_link s.settings.profile s.settings.method (late_at number s)) s

-- OPEN. Streams move to the link, and what was parked waits for it.
abbrev pub opened_link : LinkState → LinkState
opened_link link = record link { tested = true }

abbrev pub opened : ℕ → LinkState → State → State
opened number link s = record s {
  links = slice_set s.links number (opened_link link);
  rows = moved is_parked (all_with (Waiting number)) s.rows;
  routing = raised number s.routing;
}

-- a link that comes up is open at once
abbrev pub rises : ℕ → State → Phase → Outcome
rises number s Up = refused s NotDown
rises number s Down = refused s Unsettled
rises number s Settled = record {
  answer = Done;
  state = opened number (risen_link s.settings.profile s.settings.method (late_at number s)) (risen number s);
}

-- DOWN. The link is left, and an order tells the far end (Q.704 5.3, 5.4.1); blind, it's an emergency (Q.704 5.6.1).
abbrev pub falls : Bool → ℕ → State → LinkState → Outcome
falls blind number s link = record {
  answer = Done;
  state = queued (leaving_order blind number link) (left_by blind number link s);
}

-- NO ANSWER came from the far end (Q.704 5.7.2): what was sent may have arrived or not, and is discarded; what users
-- offered and was never sent moves to another link (own).
abbrev pub gives_up : ℕ → State → LinkState → Phase → Outcome
gives_up number s link Down = record { answer = Done; state = settled Unanswered number link s }
gives_up number s link _ = refused s Nothing

-- TIME (Q.704 5.6.2): an order that never was sent is taken back from where it waits, or is parked, and the link settles:
-- what was sent on it may have arrived or not, and is discarded; all that never was sent moves to another link. Once it was
-- sent the far end may answer it (own).
abbrev pub over_by_time : Fate → ℕ → State → LinkState → Outcome
over_by_time from number s link = record { answer = Done; state = settled Unasked number link (taken_back link.order from s) }

abbrev pub timed : Option Fate → ℕ → State → LinkState → Outcome
timed (Some (Waiting to)) number s link = over_by_time (Waiting to) number s link
timed (Some Parked) number s link = over_by_time Parked number s link
timed _ number s link = refused s Nothing

abbrev pub times_out : ℕ → State → LinkState → Phase → Outcome
times_out number s link Down = timed (place link.order s.rows) number s link
times_out number s link _ = refused s Nothing

-- RESTORE (Q.704 6.2): streams come back from every other link that is open, the lowest-numbered first.
abbrev pub comes_back : ℕ → State → Outcome
comes_back number s =
    if some_declare number 0 (link_count s) s
    then record { answer = Done; state = declared_from number 0 (link_count s) s }
    else refused s Nothing

-- to one that is open
abbrev pub restores : ℕ → State → LinkState → Outcome
restores number s link = if open_link link then comes_back number s else refused s NotUp

-- NO ACKNOWLEDGEMENT of a changeback came in time (Q.704 6.3): each overdue declaration of this home is made once more, the
-- lowest code first.
abbrev pub redeclares : ℕ → State → Outcome
redeclares number s =
    if some_overdue (code_for number 0) 16 s
    then record { answer = Done; state = redeclared_from (code_for number 0) 16 s }
    else refused s Nothing

-- NO ACKNOWLEDGEMENT of a changeback came (Q.704 6.3): messages go home as if each code of this home were acknowledged,
-- the lowest first, and all of them are free (own).
abbrev pub runs_out : ℕ → State → Outcome
runs_out number s =
    if some_in_use (code_for number 0) 16 s
    then record { answer = Done; state = released_from (code_for number 0) 16 s }
    else refused s Nothing

-- THE STEP, event by event
abbrev pub stepped : State → Event → Outcome
stepped s (Offer body) = offered (offer_refusal s.settings.profile s.rows body) s body
stepped s Take = taken s.inbox s
stepped s (Find number) = found (place number s.rows) number s
stepped s (Next link) = in_service link s (next link (cleared link s))
stepped s (Heard link unit) = in_service link s (heard unit link s)
stepped s (UpEvent link) = on_link link s (λ state. rises link s state.phase)
stepped s (DownEvent link) = in_service link s (falls false link s)
stepped s (DownBlind link) = in_service link s (falls true link s)
stepped s (NoAnswer link) = on_link link s (λ state. gives_up link s state state.phase)
stepped s (Timed link) = on_link link s (λ state. times_out link s state state.phase)
stepped s (Restore link) = in_service link s (restores link s)
stepped s (Redeclare link) = on_link link s (λ state. redeclares link s)
stepped s (BackTimeout link) = on_link link s (λ state. runs_out link s)
stepped s (Test link) = in_service link s (λ state. refused s Nothing)

-- THE STEP. Its name is sealed, since a goal that names an event would compute all that the event does.
unfoldable pub step : State → Event → Outcome
step s event = stepped s event

-- WHAT A STEP BRINGS to the numbers of a set's books.

-- the messages that this answer accepts
abbrev pub messages_in : Answer → ℕ
messages_in (Accepted number) = 1
messages_in _ = 0

abbrev pub octets_offered : Event → ℕ
octets_offered (Offer body) = length body
octets_offered _ = 0

-- the octets of the body that this answer to this event accepts
abbrev pub octets_of : Event → Answer → ℕ
octets_of event (Accepted number) = octets_offered event
octets_of event _ = 0

-- each accepted message stands in one place more, what is acknowledged stays so, and a body has at most 273 octets
pub record Gains (old : State) (event : Event) (answer : Answer) (new : State) : Type 0 where
  pub messages : total_of (counts_of new.rows) ≡ total_of (counts_of old.rows) + messages_in answer
  pub acknowledged : (counts_of old.rows).acked ≤ (counts_of new.rows).acked
  pub octets : octets_of event answer ≤ 273
