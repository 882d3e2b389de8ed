-- THE LADDER of a script: a chart of what happened at both ends, a row or a few for each line.
use Rattle.std.specs.Prelude.{ℕ, Bool, true, false, ◌==◌, nat_lt, nat_le, ◌+◌, ◌-◌, ◌*◌, ◌/◌, ◌%◌, zero, suc, List, [], ◌∷◌, ◌++◌, length, take, drop, replicate, slice_get, Option, Some, None, option_map, codes, decimal, if◌then◌else◌}
use Rattle.l2_units.specs.declared.unit.Header.{Header}
use Rattle.l2_units.specs.declared.unit.Unit.{Unit as SignalUnit}
use Rattle.l2_units.specs.declared.unit.Unit.TheVariants.{Fisu, Lssu, Msu}
use Rattle.l3_orders.specs.declared.order.Order.{Order}
use Rattle.l3_orders.specs.declared.order.Order.TheVariants.{Coo, Coa, Cbd, Cba, Eco, Eca}
use Rattle.l2_units.specs.declared.profile.Profile.{Profile}
use Rattle.l2_units.specs.declared.profile.Profile.TheVariants.{Narrow, Wide}
use Rattle.l2_units.specs.Profile.{fsn_count}
use Rattle.l3_orders.specs.Grammar.{order_of}
use Rattle.text_units.specs.Decoding.{order_words}
use Rattle.set_events.specs.declared.event.Event.{Event}
use Rattle.set_events.specs.declared.event.Event.TheVariants.{Offer, Take, Find, Next, Heard as HeardEvent, Up as UpEvent, Down, DownBlind, NoAnswer, Timed, Restore, Redeclare, BackTimeout, Test}
use Rattle.set_events.specs.declared.answer.Answer.TheVariants.{Accepted, Taken, Found, Sent, Heard, Done, Refused}
use Rattle.set_events.specs.declared.answer.Counts.{Counts}
use Rattle.set_events.specs.declared.answer.Report.{Report}
use Rattle.set_events.specs.declared.answer.Took.{Took}
use Rattle.set_events.specs.declared.answer.Took.TheVariants.{Nothing, Message, Order as OrderTaken, Ignored}
use Rattle.set_events.specs.declared.answer.Fate.{Fate}
use Rattle.set_events.specs.declared.answer.Fate.TheVariants.{Waiting, Unacked, Acked, Held, Parked, Back, Discarded}
use Rattle.set_model.specs.Rows.{Row, place}
use Rattle.set_model.specs.State.{State, is_settled, unacked_in}
use Rattle.set_model.specs.declared.numbered.Numbered.{Numbered}
use Rattle.pair_steps.specs.declared.step.End.{End}
use Rattle.pair_steps.specs.declared.step.End.TheVariants.{A, B}
use Rattle.pair_steps.specs.declared.step.Step.TheVariants.{Act, Emit, Arrive, Lose, Together, Inject}
use Rattle.pair_steps.specs.declared.step.Shown.{Shown}
use Rattle.pair_steps.specs.declared.step.Shown.TheVariants.{Up, Lost, Answered}
use Rattle.pair_rises.specs.declared.moves.Move.{Move}
use Rattle.pair_rises.specs.declared.moves.Move.TheVariants.{Step as MoveStep, Rise, Fill}
use Rattle.pair_model.specs.World.{World, line_to, at_end, counts_at, other}
use Rattle.text_entries.specs.Reasons.{named}
use Rattle.text_entries.specs.Texts.{shown_text, took_text, fault_code}
use Rattle.text_base.specs.Figures.{bit, hex_text}
use Rattle.text_base.specs.Printing.{Printed}
use Rattle.script_walk.specs.declared.fault.ScriptFault.{ScriptFault}
use Rattle.script_walk.specs.Explaining.{IsExplainedText}
use Rattle.text_lines.specs.Explaining.{Explained}
use Rattle.script_walk.specs.Scripts.{Told, profile_of, IsScriptText}
use Rattle.script_ladder.specs.Names.{isup_name}
use Rattle.script_ladder.specs.Diverted.{stood, diverted}

-- A ROW has 100 columns at most: the number of the script's line, end a's words, an arrow at a's side, what is under
-- way, an arrow at b's side, and end b's words.

-- What doesn't fit into its columns ends with two dots, and is cut behind a whole word, so that none is taken for
-- another.

-- the words of a text that have a space (32) behind them, with it; the first began with these octets
abbrev pub whole_from : List ℕ → List ℕ → List ℕ
whole_from begun [] = []
whole_from begun (c ∷ cs) =
    if c == 32 then begun ++ (c ∷ whole_from [] cs) else whole_from (begun ++ c ∷ []) cs

abbrev pub whole_words : List ℕ → List ℕ
whole_words text = whole_from [] text

abbrev pub fitted : ℕ → List ℕ → List ℕ
fitted n text =
    if nat_le (length text) n then text else whole_words (take (n - 2) text) ++ codes ".."

-- octets are cut anywhere
abbrev pub shortened : ℕ → List ℕ → List ℕ
shortened n text = if nat_le (length text) n then text else take (n - 2) text ++ codes ".."

-- a text without its last octet: a line end, or the space behind the last of a row of marks
abbrev pub without_end : List ℕ → List ℕ
without_end text = take (length text - 1) text

-- what is shorter is filled up with spaces
abbrev pub padded : ℕ → List ℕ → List ℕ
padded n text = take n text ++ replicate (n - length text) 32

-- filled up on the left, with spaces or with dashes (45)
abbrev pub at_right : ℕ → List ℕ → List ℕ
at_right n text = replicate (n - length text) 32 ++ text

abbrev pub dashed : List ℕ → List ℕ
dashed text = replicate (3 - length text) 45 ++ text

-- and on the right, with dashes
abbrev pub trailed : List ℕ → List ℕ
trailed text = text ++ replicate (3 - length text) 45

abbrev pub side_a : List ℕ → List ℕ → List ℕ
side_a words arrow = padded 30 (fitted 30 words) ++ (codes " |" ++ padded 7 arrow)

abbrev pub last_cell : List ℕ → List ℕ
last_cell [] = codes "|\n"
last_cell (c ∷ cs) = codes "| " ++ (fitted 30 (c ∷ cs) ++ codes "\n")

abbrev pub side_b : List ℕ → List ℕ → List ℕ
side_b arrow words = padded 6 arrow ++ last_cell words

abbrev pub row_text : List ℕ → List ℕ → List ℕ → List ℕ → List ℕ → List ℕ → List ℕ
row_text number a at_a under_way at_b b =
    at_right 5 number ++ (codes " " ++ (side_a a at_a ++ (padded 17 under_way ++ side_b at_b b)))

-- the words of one end, with an arrow at its side
abbrev pub row_at : End → List ℕ → List ℕ → List ℕ → List ℕ → List ℕ
row_at A number under_way arrow words = row_text number words arrow under_way [] []
row_at B number under_way arrow words = row_text number [] [] under_way arrow words

-- a further row of a line, where there are words for it
abbrev pub further : End → List ℕ → List ℕ → List ℕ
further end under_way [] = []
further end under_way (c ∷ cs) = row_at end [] under_way [] (c ∷ cs)

-- THE UNITS UNDER WAY, each with its link, which way it goes, and its FSN; a fill-in unit is f, a status unit s.

abbrev pub mark_of : SignalUnit → List ℕ
mark_of (Fisu head) = codes "f"
mark_of (Lssu head status) = codes "s"
mark_of (Msu head body) = decimal head.fsn

abbrev pub mark : ℕ → List ℕ → SignalUnit → List ℕ
mark link way unit = decimal link ++ (way ++ (mark_of unit ++ codes " "))

abbrev pub marks : ℕ → List ℕ → List SignalUnit → List ℕ
marks link way [] = []
marks link way (unit ∷ units) = mark link way unit ++ marks link way units

-- no more than five of a line, since four fill the place
abbrev pub marks_on : World → ℕ → List ℕ
marks_on w link =
    marks link (codes ">") (take 5 (line_to w B link))
    ++ marks link (codes "<") (take 5 (line_to w A link))

-- of the links below this number
abbrev pub marks_below : World → ℕ → List ℕ
marks_below w zero = []
marks_below w (suc link) = marks_below w link ++ marks_on w link

unfoldable pub under_way : World → List ℕ
under_way w = fitted 17 (without_end (marks_below w 16))

-- AN ARROW at the side of an end: a unit goes out from there, arrives, is lost on its way there, or comes from nowhere.

abbrev pub going : End → ℕ → List ℕ
going A link = dashed (decimal link) ++ codes "-->"
going B link = codes "<--" ++ trailed (decimal link)

abbrev pub coming : End → List ℕ → ℕ → List ℕ
coming A tip link = tip ++ trailed (decimal link)
coming B tip link = dashed (decimal link) ++ tip

abbrev pub arriving : End → ℕ → List ℕ
arriving A link = coming A (codes "<--") link
arriving B link = coming B (codes "-->") link

abbrev pub losing : End → ℕ → List ℕ
losing A link = coming A (codes "x--") link
losing B link = coming B (codes "--x") link

abbrev pub forged : End → ℕ → List ℕ
forged A link = coming A (codes "<..") link
forged B link = coming B (codes "..>") link

-- A UNIT in the words of the trade

-- A message's number is that under which its sender accepted it: of the messages that it has unacknowledged on the link
-- it's the one with the unit's FSN, as many places behind the oldest as its FSN is behind that one's (Q.703 2.2). An
-- FSN is below the count of numbers; twice that keeps the difference whole.
abbrev pub number_behind : Profile → State → ℕ → ℕ → Option Numbered → Option ℕ
number_behind p s link fsn None = None
number_behind p s link fsn (Some oldest) =
    option_map (λ m. m.number) (unacked_in s link ((fsn + 2 * fsn_count p - oldest.fsn) % fsn_count p))

abbrev pub number_on : Profile → State → ℕ → ℕ → Option ℕ
number_on p s link fsn = number_behind p s link fsn (unacked_in s link 0)

abbrev pub unit_number : Profile → State → ℕ → SignalUnit → Option ℕ
unit_number p s link (Fisu head) = None
unit_number p s link (Lssu head status) = None
unit_number p s link (Msu head body) = number_on p s link head.fsn

abbrev pub number_words : Option ℕ → List ℕ
number_words None = []
number_words (Some number) = codes " #" ++ decimal number

abbrev pub numbers_of : Header → List ℕ
numbers_of head = codes " fsn=" ++ (decimal head.fsn ++ (codes " bsn=" ++ decimal head.bsn))

abbrev pub fsn_of : Header → List ℕ
fsn_of head = codes " fsn=" ++ decimal head.fsn

-- the stream of a message is its SLS, where the label is whole (Q.704 14.2)
abbrev pub stream_words : Option ℕ → List ℕ
stream_words None = []
stream_words (Some octet) = codes " stream " ++ decimal (octet / 16)

-- the name of its message, where it has one
abbrev pub or_msu : List ℕ → List ℕ
or_msu [] = codes "MSU"
or_msu (c ∷ cs) = c ∷ cs

abbrev pub message_name : List ℕ → List ℕ
message_name body = or_msu (isup_name body)

-- behind the three letters of an order stands its number
abbrev pub numbered_order : Option ℕ → List ℕ → List ℕ
numbered_order number words = take 3 words ++ (number_words number ++ drop 3 words)

-- a users' message: its name, its number, these numbers of its header, and its stream
abbrev pub users_words : Option ℕ → List ℕ → List ℕ → List ℕ
users_words number header body =
    message_name body ++ (number_words number ++ (header ++ stream_words (slice_get body 4)))

-- In the wide profile the second stands where the first doesn't fit into the columns of an end's words.
abbrev pub in_columns : Profile → List ℕ → List ℕ → List ℕ
in_columns Narrow whole short = whole
in_columns Wide whole short = if nat_le (length whole) 30 then whole else short

-- numbers of 12 bits are long: there the BSN is left out, so that the stream is seen
abbrev pub message_words : Profile → Option ℕ → Header → Option Order → List ℕ → List ℕ
message_words p number head (Some order) body = numbered_order number (order_words order)
message_words p number head None body =
    in_columns p (users_words number (numbers_of head) body) (users_words number (fsn_of head) body)

abbrev pub unit_words : Profile → Option ℕ → SignalUnit → List ℕ
unit_words p number (Fisu head) = codes "FISU" ++ numbers_of head
unit_words p number (Lssu head status) = codes "LSSU" ++ numbers_of head
unit_words p number (Msu head body) = message_words p number head (order_of p body.items) body.items

-- a unit that this set sent on the link
abbrev pub sent_words : Profile → State → ℕ → SignalUnit → List ℕ
sent_words p s link unit = unit_words p (unit_number p s link unit) unit

-- the unit that a move is about, in the world before it
abbrev pub affected : World → Move → Option SignalUnit
affected w (MoveStep (Act end event)) = None
affected w (MoveStep (Emit end link)) = None
affected w (MoveStep (Arrive end link)) = slice_get (line_to w end link) 0
affected w (MoveStep (Lose end link place)) = slice_get (line_to w end link) place
affected w (MoveStep (Together link)) = None
affected w (MoveStep (Inject end link unit)) = Some unit
affected w (Rise end link) = None
affected w (Fill end link) = None

abbrev pub words_of : Profile → State → ℕ → Option SignalUnit → List ℕ
words_of p s link None = []
words_of p s link (Some unit) = sent_words p s link unit

-- WHAT A MOVE SHOWED

-- what users take has its name first
abbrev pub spaced : List ℕ → List ℕ
spaced [] = []
spaced (c ∷ cs) = (c ∷ cs) ++ codes " "

abbrev pub taken_words : List ℕ → List ℕ
taken_words body = shortened 30 (codes "taken " ++ (spaced (isup_name body) ++ hex_text body))

-- else the answer as `play --explain` prints it
abbrev pub plain : Profile → Shown → List ℕ
plain p (Answered (Taken body)) = taken_words body.items
plain p shown = without_end (named (shown_text p shown))

abbrev pub sent_in : Shown → Option SignalUnit
sent_in Up = None
sent_in Lost = None
sent_in (Answered (Sent unit)) = Some unit
sent_in (Answered (Accepted number)) = None
sent_in (Answered (Taken body)) = None
sent_in (Answered (Found fate)) = None
sent_in (Answered (Heard report)) = None
sent_in (Answered Done) = None
sent_in (Answered (Refused why)) = None

abbrev pub report_in : Shown → Option Report
report_in Up = None
report_in Lost = None
report_in (Answered (Heard report)) = Some report
report_in (Answered (Accepted number)) = None
report_in (Answered (Taken body)) = None
report_in (Answered (Found fate)) = None
report_in (Answered (Sent unit)) = None
report_in (Answered Done) = None
report_in (Answered (Refused why)) = None

abbrev pub is_done : Shown → Bool
is_done Up = false
is_done Lost = false
is_done (Answered Done) = true
is_done (Answered (Accepted number)) = false
is_done (Answered (Taken body)) = false
is_done (Answered (Found fate)) = false
is_done (Answered (Sent unit)) = false
is_done (Answered (Heard report)) = false
is_done (Answered (Refused why)) = false

abbrev pub link_words : List ℕ → ℕ → List ℕ → List ℕ
link_words before link after = before ++ (codes "link " ++ (decimal link ++ after))

abbrev pub done_words : Event → List ℕ
done_words (Down link) = link_words [] link (codes " left")
done_words (DownBlind link) = link_words [] link (codes " left blindly")
done_words (NoAnswer link) = link_words [] link (codes " settled: no answer")
done_words (Timed link) = link_words [] link (codes " settled: order not sent")
done_words (Restore link) = link_words (codes "streams asked back to ") link []
done_words (Redeclare link) = link_words (codes "asked back again to ") link []
done_words (BackTimeout link) = link_words (codes "no answer about ") link []
done_words (Test link) = link_words (codes "test of ") link []
done_words (Offer body) = codes "done"
done_words Take = codes "done"
done_words (Find number) = codes "done"
done_words (Next link) = codes "done"
done_words (HeardEvent link unit) = codes "done"
done_words (UpEvent link) = codes "done"

abbrev pub accepted_in : Shown → Option ℕ
accepted_in Up = None
accepted_in Lost = None
accepted_in (Answered (Accepted number)) = Some number
accepted_in (Answered (Sent unit)) = None
accepted_in (Answered (Taken body)) = None
accepted_in (Answered (Found fate)) = None
accepted_in (Answered (Heard report)) = None
accepted_in (Answered Done) = None
accepted_in (Answered (Refused why)) = None

-- an accepted message is named with its number
abbrev pub offered_words : Profile → List ℕ → Shown → Option ℕ → List ℕ
offered_words p body shown None = plain p shown
offered_words p body shown (Some number) =
    codes "accepted " ++ (message_name body ++ number_words (Some number))

abbrev pub answer_words : Profile → Event → Shown → List ℕ
answer_words p (Offer body) shown = offered_words p body shown (accepted_in shown)
answer_words p (Down link) shown = plain p shown
answer_words p (DownBlind link) shown = plain p shown
answer_words p (NoAnswer link) shown = plain p shown
answer_words p (Timed link) shown = plain p shown
answer_words p (Restore link) shown = plain p shown
answer_words p (Redeclare link) shown = plain p shown
answer_words p (BackTimeout link) shown = plain p shown
answer_words p (Test link) shown = plain p shown
answer_words p Take shown = plain p shown
answer_words p (Find number) shown = plain p shown
answer_words p (Next link) shown = plain p shown
answer_words p (HeardEvent link unit) shown = plain p shown
answer_words p (UpEvent link) shown = plain p shown

abbrev pub event_words : Profile → Event → Shown → List ℕ
event_words p event shown =
    if is_done shown then done_words event else answer_words p event shown

-- THE ROWS OF A LINE: what happened first, with the line's number

-- (a unit's number is told by the world after the move: the set that sent it is as it was, or has sent it just now)
abbrev pub sent_row : List ℕ → List ℕ → World → End → ℕ → Shown → Option SignalUnit → List ℕ
sent_row number u w end link shown (Some unit) =
    row_at end number u (going end link) (sent_words (profile_of w) (at_end w end).state link unit)
sent_row number u w end link shown None =
    row_at end number u [] (plain (profile_of w) shown)

abbrev pub arrived_row : List ℕ → List ℕ → End → ℕ → Option Report → List ℕ → List ℕ
arrived_row number u end link (Some report) words = row_at end number u (arriving end link) words
arrived_row number u end link None words = row_at end number u (losing end link) words

abbrev pub forged_row : Profile → List ℕ → List ℕ → End → ℕ → Shown → Option Report → List ℕ → List ℕ
forged_row p number u end link shown (Some report) words =
    row_at end number u (forged end link) words
forged_row p number u end link shown None words =
    row_at end number u (forged end link) (plain p shown)

-- what came to an end was sent by the other
abbrev pub far_words : World → End → ℕ → Option SignalUnit → List ℕ
far_words w end link unit = words_of (profile_of w) (at_end w (other end)).state link unit

-- and what nobody sent has no number
abbrev pub first_row : List ℕ → List ℕ → World → Move → Shown → World → List ℕ
first_row number u before (MoveStep (Act end event)) shown after =
    row_at end number u [] (event_words (profile_of after) event shown)
first_row number u before (MoveStep (Emit end link)) shown after =
    sent_row number u after end link shown (sent_in shown)
first_row number u before (MoveStep (Arrive end link)) shown after =
    arrived_row number u end link (report_in shown)
    (far_words after end link (affected before (MoveStep (Arrive end link))))
first_row number u before (MoveStep (Lose end link place)) shown after =
    row_at end number u (losing end link)
    (far_words after end link (affected before (MoveStep (Lose end link place))))
first_row number u before (MoveStep (Together link)) shown after =
    row_text number (link_words [] link (codes " up")) [] u [] (link_words [] link (codes " up"))
first_row number u before (Rise end link) shown after =
    row_at end number u [] (link_words [] link (codes " up"))
first_row number u before (Fill end link) shown after =
    sent_row number u after end link shown (sent_in shown)
first_row number u before (MoveStep (Inject end link unit)) shown after =
    forged_row (profile_of after) number u end link shown (report_in shown)
    (unit_words (profile_of after) None unit)

-- then what a unit that arrived did

abbrev pub end_of : Move → End
end_of (MoveStep (Act end event)) = end
end_of (MoveStep (Emit end link)) = end
end_of (MoveStep (Arrive end link)) = end
end_of (MoveStep (Lose end link place)) = end
end_of (MoveStep (Together link)) = A
end_of (MoveStep (Inject end link unit)) = end
end_of (Rise end link) = end
end_of (Fill end link) = end

abbrev pub report_words : Report → List ℕ
report_words r = codes " took " ++ (took_text r.took ++ (codes ", acked " ++ decimal r.acked))

-- a retransmission that is asked for or begun, and a fault
abbrev pub is_plain : Report → Bool
is_plain r = if r.asked then false else (if r.resend then false else fault_code r.fault == 0)

abbrev pub trouble_words : Report → List ℕ
trouble_words r =
    if is_plain r then []
    else codes " asked=" ++ (decimal (bit r.asked) ++ (codes " resend=" ++ (decimal (bit r.resend)
    ++ (codes " fault=" ++ decimal (fault_code r.fault)))))

-- the link of a changeover that an order settles
abbrev pub changed_over : Option Order → Option ℕ
changed_over None = None
changed_over (Some (Coo link number)) = Some link
changed_over (Some (Coa link number)) = Some link
changed_over (Some (Eco link)) = Some link
changed_over (Some (Eca link)) = Some link
changed_over (Some (Cbd link code)) = None
changed_over (Some (Cba link code)) = None

abbrev pub order_in : Profile → Option SignalUnit → Option Order
order_in p None = None
order_in p (Some (Fisu head)) = None
order_in p (Some (Lssu head status)) = None
order_in p (Some (Msu head body)) = order_of p body.items

abbrev pub settled_words : World → End → Took → Option ℕ → List ℕ
settled_words w end OrderTaken (Some link) =
    if is_settled link (at_end w end).state then link_words (codes " ") link (codes " settled")
    else []
settled_words w end OrderTaken None = []
settled_words w end Nothing link = []
settled_words w end Message link = []
settled_words w end Ignored link = []

abbrev pub heard_rows : List ℕ → World → End → Option SignalUnit → Option Report → List ℕ
heard_rows u w end unit None = []
heard_rows u w end unit (Some r) =
    further end u (report_words r) ++ (further end u (trouble_words r)
    ++ further end u (settled_words w end r.took (changed_over (order_in (profile_of w) unit))))

-- THE MESSAGES THAT ARE DIVERTED (specs/Diverted.antt), where a link settles at an end

-- the link that a move could settle: its changeover is given up, or an order about it comes
abbrev pub given_up : Event → Option ℕ
given_up (NoAnswer link) = Some link
given_up (Down link) = None
given_up (DownBlind link) = None
given_up (Timed link) = Some link
given_up (Restore link) = None
given_up (Redeclare link) = None
given_up (BackTimeout link) = None
given_up (Test link) = None
given_up (Offer body) = None
given_up Take = None
given_up (Find number) = None
given_up (Next link) = None
given_up (HeardEvent link unit) = None
given_up (UpEvent link) = None

abbrev pub named_link : Profile → Move → Option SignalUnit → Option ℕ
named_link p (MoveStep (Act end event)) unit = given_up event
named_link p (MoveStep (Emit end link)) unit = None
named_link p (MoveStep (Arrive end link)) unit = changed_over (order_in p unit)
named_link p (MoveStep (Lose end link place)) unit = None
named_link p (MoveStep (Together link)) unit = None
named_link p (MoveStep (Inject end link forged)) unit = changed_over (order_in p unit)
named_link p (Rise end link) unit = None
named_link p (Fill end link) unit = None

-- if it hasn't settled yet
abbrev pub unsettled : State → Option ℕ → Option ℕ
unsettled s None = None
unsettled s (Some link) = if is_settled link s then None else Some link

abbrev pub link_at_stake : World → Move → Option ℕ
link_at_stake w move =
    unsettled (at_end w (end_of move)).state (named_link (profile_of w) move (affected w move))

-- the messages that stand on it before the move
abbrev pub stood_before : World → Move → List ℕ
stood_before w move = stood (link_at_stake w move) (at_end w (end_of move)).state

abbrev pub numbers_words : List ℕ → List ℕ
numbers_words [] = []
numbers_words (n ∷ ns) = number_words (Some n) ++ numbers_words ns

abbrev pub target_words : Option Fate → List ℕ
target_words None = []
target_words (Some (Waiting link)) = codes " to link " ++ decimal link
target_words (Some (Unacked link)) = []
target_words (Some (Acked link)) = []
target_words (Some (Held link)) = []
target_words (Some Parked) = codes " parked"
target_words (Some (Back code)) = []
target_words (Some (Discarded cause)) = []

-- where the first of them stands, they all stand
abbrev pub diverted_words : List Row → List ℕ → List ℕ
diverted_words rows [] = []
diverted_words rows (n ∷ ns) =
    fitted 19 (numbers_words (n ∷ ns)) ++ target_words (place n rows)

abbrev pub rows_of_diverted : List ℕ → End → List Row → List ℕ → List ℕ
rows_of_diverted u end rows numbers = further end u (diverted_words rows (diverted rows numbers))

abbrev pub diverted_rows : List ℕ → World → End → Option ℕ → List ℕ → List ℕ
diverted_rows u after end None numbers = []
diverted_rows u after end (Some link) numbers =
    if is_settled link (at_end after end).state
    then rows_of_diverted u end (at_end after end).state.rows numbers
    else []

-- and at last how many more or fewer messages stand aside, or are discarded, at each end

abbrev pub change : List ℕ → ℕ → ℕ → List ℕ
change name old new =
    if nat_lt old new then name ++ (codes "+" ++ decimal (new - old))
    else (if nat_lt new old then name ++ (codes "-" ++ decimal (old - new)) else [])

abbrev pub changes : Counts → Counts → List ℕ
changes old new =
    change (codes " held") old.held new.held ++ (change (codes " parked") old.parked new.parked
    ++ (change (codes " back") old.back new.back
    ++ change (codes " discarded") old.discarded new.discarded))

abbrev pub change_rows : List ℕ → World → Counts → Counts → List ℕ
change_rows u after a b =
    further A u (changes a (counts_at after A)) ++ further B u (changes b (counts_at after B))

-- what is kept of the world before a move for its rows: the unit that it's about, the link that it could settle and
-- what stood there, and how the messages of both ends stood
pub record Past : Type 0 where
  pub unit : Option SignalUnit
  pub link : Option ℕ
  pub stood : List ℕ
  pub a : Counts
  pub b : Counts

abbrev pub past_of : World → Move → Past
past_of w move = record {
  unit = affected w move;
  link = link_at_stake w move;
  stood = stood_before w move;
  a = counts_at w A;
  b = counts_at w B;
}

abbrev pub effect_rows : List ℕ → World → End → Option Report → Past → List ℕ
effect_rows u after end report past =
    heard_rows u after end past.unit report
    ++ (diverted_rows u after end past.link past.stood ++ change_rows u after past.a past.b)

abbrev pub rows_with : List ℕ → List ℕ → World → Move → Shown → World → List ℕ
rows_with u number before move shown after =
    first_row number u before move shown after
    ++ effect_rows u after (end_of move) (report_in shown) (past_of before move)

-- a name of its own, so that who speaks of it doesn't compute it
unfoldable pub move_rows : ℕ → World → Move → Shown → World → List ℕ
move_rows n before move shown after =
    rows_with (under_way after) (decimal n) before move shown after

unfoldable pub heading : List ℕ
heading = row_text (codes "line") (codes "end a") [] (codes "under way") [] (codes "end b")

abbrev pub ladder_told : Told
ladder_told = record { opening = λ w. heading; step = move_rows; at_the_end = λ w. [] }

-- THE TEXT (script_walk, specs/Scripts.antt)
abbrev pub IsLadder : List ℕ → Printed ScriptFault → Type 0
IsLadder = IsScriptText ladder_told

-- the text, with an explanation of the line that ends the script with a fault (script_walk, specs/Explaining.antt)
abbrev pub IsExplainedLadder : List ℕ → Printed (Explained ScriptFault) → Type 0
IsExplainedLadder = IsExplainedText ladder_told
