-- CHANGEOVER AND CHANGEBACK (Q.704 5, 6). A link is left, orders tell the far end, and once it's known how far the far
-- end got, the rest is moved to another link; and when it's back, its streams come back to it.
use Rattle.std.specs.Prelude.{ℕ, zero, suc, Bool, true, false, not, ◌&&◌, ◌||◌, ◌+◌, ◌==◌, nat_le, ◌%◌, ◌^◌, List, [], ◌∷◌, length, slice_get, slice_set, Option, None, Some, is_some, if◌then◌else◌}
use Rattle.l2_window.specs.Window.{distance_to, fsn_before_first}
pub use Rattle.l3_orders.specs.declared.order.Order.{Order}
pub use Rattle.l3_orders.specs.declared.order.Order.TheVariants.{Coo, Coa, Cbd, Cba, Eco, Eca}
use Rattle.l3_orders.specs.Grammar.{text, order_of}
pub use Rattle.set_events.specs.Places.{fate_on}
use Rattle.set_events.specs.declared.answer.Took.{Took}
use Rattle.set_events.specs.declared.answer.Took.TheVariants.{Order as TookOrder, Ignored}
use Rattle.set_model.specs.Rows.{Waiting, Acked, Discarded, DiscardCause, Emergency, Unreasonable, NoAnswer, Row, all_with, unack, wait, stream_of, was_acked, was_discarded, is_unacked, is_waiting, is_on, is_back, is_back_to, turned, changed, orders_changed, one_changed, same_fate, place, Fate, moved, appended, put_ahead}
use Rattle.set_route.specs.Routing.{place_of, code_for, home_of, code_of, is_free, can_ask, asked, asked_again, answered as answered_code, given_back, left, settled as streams_settled}
pub use Rattle.set_model.specs.declared.reached.Reached.{Reached}
pub use Rattle.set_model.specs.declared.reached.Reached.TheVariants.{Upto, Unknown, Unanswered, Unasked}
use Rattle.set_model.specs.State.{Phase, Up, Down, Settled, Code, Free, Asked, Spent, On, LinkState, State, given, with_link, is_up, is_open, fate_at, target, window_of, last_accepted}

-- QUEUE: an order stands as a row of its own for the target, ahead of the users' messages that wait for it (own), in the
-- octets that this set writes
abbrev pub queued : Order → State → State
queued order s = record s {
  rows = put_ahead (given s) s.rows (text s.settings.profile order s.settings.sio s.settings.dpc s.settings.opc) (fate_on (target s.links));
}

-- LEAVE (Q.704 5.3): the link is out of service; its messages stay on it until it settles, and the order that is queued
-- next tells of it. Streams on their way back to it run where they came from again,
abbrev pub left_link : Bool → ℕ → LinkState → LinkState
left_link blind order link = record link { phase = Down; blind = blind; order = order }

abbrev pub out_of_service : Bool → ℕ → LinkState → State → State
out_of_service blind number link s = record s {
  links = slice_set s.links number (left_link blind (given s) link);
  routing = left number s.routing;
}

-- and so do their messages, all together, in their order
abbrev pub turned_back : ℕ → State → State
turned_back number s = record s {
  rows = moved (is_back_to number) (λ row. fate_at (place_of (stream_of row.body) s.routing) s) s.rows;
}

abbrev pub left_by : Bool → ℕ → LinkState → State → State
left_by blind number link s = turned_back number (out_of_service blind number link s)

-- (Q.704 5.4.1, 5.6.1) the order with which an end leaves: with the FSN last accepted, or without it
abbrev pub leaving_order : Bool → ℕ → LinkState → Order
leaving_order false number link = Coo number (last_accepted link)
leaving_order true number link = Eco number

-- (own) Such an order was overtaken where its link is in service again by the time that it would be sent: it speaks of a
-- life that is over, and the far end would leave the present one.
abbrev pub overtakes : State → Option Order → Bool
overtakes s (Some (Coo link fsn)) = is_up link s
overtakes s (Some (Eco link)) = is_up link s
overtakes s _ = false

abbrev pub is_overtaken : State → Row → Bool
is_overtaken s row = overtakes s (order_of s.settings.profile row.body)

-- how many rows stand before the first of which the test doesn't hold
abbrev pub leading : (Row → Bool) → List Row → ℕ
leading test [] = 0
leading test (row ∷ rows) = if test row then suc (leading test rows) else 0

-- so many that wait foremost for the link are discarded in their places; and all of them that were overtaken
abbrev pub withdrawn : ℕ → ℕ → State → State
withdrawn count number s = record s { rows = turned (is_waiting number) (Discarded NoAnswer) count s.rows }

abbrev pub cleared : ℕ → State → State
cleared number s = withdrawn (leading (is_overtaken s) (wait number s.rows)) number s

-- (Q.704 5.6.2) Where the order of a link that was left stands, and the order taken back from there: it's discarded in its
-- place (own).
abbrev pub order_in : Option LinkState → State → Option Fate
order_in None s = None
order_in (Some link) s = place link.order s.rows

abbrev pub order_at : ℕ → State → Option Fate
order_at number s = order_in (slice_get s.links number) s

abbrev pub taken_back : ℕ → Fate → State → State
taken_back order from s = record s { rows = one_changed order (λ fate. same_fate fate from) (Discarded NoAnswer) s.rows }

-- SETTLE (Q.704 5.5). How far the far end got is told by its FSN, or isn't told, or no answer came, or it wasn't asked,
-- since the order never was sent (Reached).

-- the message numbers that the FSN acknowledges, if it's reasonable: that last acknowledged, or an unacknowledged one's
abbrev pub reached_by : ℕ → ℕ → LinkState → List Row → ℕ
reached_by fsn number link rows = distance_to (window_of number link rows) fsn

abbrev pub is_reasonable : ℕ → ℕ → LinkState → List Row → Bool
is_reasonable fsn number link rows = nat_le (reached_by fsn number link rows) (length (unack number rows))

-- what was sent on the link, or waits for it, is discarded in its place
abbrev pub discarded : DiscardCause → ℕ → State → State
discarded cause number s = record s {
  rows = changed (is_waiting number) (Discarded cause) (changed (is_unacked number) (Discarded cause) s.rows);
}

-- (own) What was sent may have arrived or not, and is discarded. An order that waits says nothing any more, and is discarded
-- too. What users offered and was never sent stays, and moves with the rest.
abbrev pub unanswered : ℕ → State → State
unanswered number s = record s {
  rows = orders_changed (is_waiting number) (Discarded NoAnswer) (changed (is_unacked number) (Discarded NoAnswer) s.rows);
}

abbrev pub acknowledged : ℕ → LinkState → LinkState
acknowledged count link = record link { acked = link.acked + count }

abbrev pub acknowledged_by : ℕ → ℕ → LinkState → State → State
acknowledged_by count number link s = record s {
  links = slice_set s.links number (acknowledged count link);
  rows = turned (is_unacked number) (Acked number) count s.rows;
}

-- first: what arrived is acknowledged, and (own) what might be doubled is discarded
abbrev pub judged : Reached → ℕ → LinkState → State → State
judged (Upto fsn) number link s =
    if is_reasonable fsn number link s.rows
    then acknowledged_by (reached_by fsn number link s.rows) number link s
    else discarded Unreasonable number s
judged Unknown number link s = record s { rows = changed (is_unacked number) (Discarded Emergency) s.rows }
judged Unanswered number link s = unanswered number s
judged Unasked number link s = record s { rows = changed (is_unacked number) (Discarded NoAnswer) s.rows }

abbrev pub judged_link : Reached → ℕ → LinkState → List Row → LinkState
judged_link (Upto fsn) number link rows =
    if is_reasonable fsn number link rows
    then acknowledged (reached_by fsn number link rows) link
    else link
judged_link _ number link rows = link

-- then: what stands on the link is moved, in its order, and so are its streams
abbrev pub is_told : Reached → Bool
is_told Unanswered = false
is_told Unasked = false
is_told _ = true

abbrev pub settled_link : Bool → LinkState → LinkState
settled_link told link = record link { phase = Settled; answered = told }

abbrev pub moved_over : Bool → ℕ → LinkState → State → State
moved_over told number link s = record s {
  links = slice_set s.links number (settled_link told link);
  rows = moved (is_on number) (all_with (fate_on (target s.links))) s.rows;
  routing = streams_settled number (target s.links) s.routing;
}

abbrev pub settled : Reached → ℕ → LinkState → State → State
settled reached number link s =
    moved_over (is_told reached) number (judged_link reached number link s.rows) (judged reached number link s)

-- CHANGEBACK (Q.704 6). A declaration tells the far end, on the link from which streams are to come back, that what
-- follows comes on their home; it stands behind all that was queued there. Until it's acknowledged what is offered for
-- them waits.
abbrev pub declared : ℕ → ℕ → State → State
declared home alternative s = record s {
  rows = appended (given s) s.rows
      (text s.settings.profile (Cbd home (code_for home alternative)) s.settings.sio s.settings.dpc s.settings.opc) (Waiting alternative);
  routing = asked home alternative (given s) s.routing;
}

-- from another link that is open, if its code is free and streams of the home run there
abbrev pub can_declare : ℕ → ℕ → State → Bool
can_declare home alternative s =
    not (alternative == home) && (is_open alternative s && can_ask home alternative s.routing)

abbrev pub declared_if : ℕ → ℕ → State → State
declared_if home alternative s = if can_declare home alternative s then declared home alternative s else s

-- from so many links, this one and those after it
abbrev pub declared_from : ℕ → ℕ → ℕ → State → State
declared_from home alternative zero s = s
declared_from home alternative (suc n) s = declared_from home (suc alternative) n (declared_if home alternative s)

abbrev pub some_declare : ℕ → ℕ → ℕ → State → Bool
some_declare home alternative zero s = false
some_declare home alternative (suc n) s = can_declare home alternative s || some_declare home (suc alternative) n s

-- REDECLARE (Q.704 6.3). The declaration of an open code is overdue once it's on its way no more: it was acknowledged as a
-- message, or discarded. It's made once more, behind all that stands on the link from which the streams come (own).
abbrev pub is_standing : Option Fate → Bool
is_standing None = false
is_standing (Some fate) = not (was_acked fate || was_discarded fate)

-- the link from which the streams of an overdue one come
abbrev pub overdue_via : Code → List Row → Option ℕ
overdue_via Free rows = None
overdue_via (Asked via declaration owed) rows = if is_standing (place declaration rows) then None else Some via
overdue_via (Spent owed) rows = None

abbrev pub redeclared_on : ℕ → Option ℕ → State → State
redeclared_on code None s = s
redeclared_on code (Some via) s = record s {
  rows = appended (given s) s.rows
      (text s.settings.profile (Cbd (home_of code) code) s.settings.sio s.settings.dpc s.settings.opc) (fate_at (On via) s);
  routing = asked_again code (given s) s.routing;
}

abbrev pub redeclared_if : ℕ → State → State
redeclared_if code s = redeclared_on code (overdue_via (code_of code s.routing) s.rows) s

-- so many codes, this one and those after it
abbrev pub redeclared_from : ℕ → ℕ → State → State
redeclared_from code zero s = s
redeclared_from code (suc n) s = redeclared_from (suc code) n (redeclared_if code s)

-- whether one of them is overdue
abbrev pub some_overdue : ℕ → ℕ → State → Bool
some_overdue code zero s = false
some_overdue code (suc n) s = is_some (overdue_via (code_of code s.routing) s.rows) || some_overdue (suc code) n s

-- what waits for the code's acknowledgement waits for its home now, and so its streams run there. (Of a code that is
-- spent nothing stands back, and no stream is on its way.)
abbrev pub comes_home : ℕ → List Row → List Row
comes_home code rows = moved (is_back code) (all_with (Waiting (home_of code))) rows

-- one acknowledgement came: more may be owed under the code
abbrev pub acknowledged_code : ℕ → State → State
acknowledged_code code s = record s { rows = comes_home code s.rows; routing = answered_code code s.routing }

-- none came, and the code is free
abbrev pub released : ℕ → State → State
released code s = record s { rows = comes_home code s.rows; routing = given_back code s.routing }

-- so many codes, this one and those after it
abbrev pub released_from : ℕ → ℕ → State → State
released_from code zero s = s
released_from code (suc n) s = released_from (suc code) n (released code s)

-- whether one of them is open or spent
abbrev pub some_in_use : ℕ → ℕ → State → Bool
some_in_use code zero s = false
some_in_use code (suc n) s = not (is_free (code_of code s.routing)) || some_in_use (suc code) n s

-- ORDERS HEARD: what became of the body, and what the set holds then
pub record Obeyed : Type 0 where
  pub took : Took
  pub state : State

abbrev pub ignored : State → Obeyed
ignored s = record { took = Ignored; state = s }

-- (own) After the link settled a late order gets the answer that its last life would have got, and once: how a life
-- ended is told once. An order that comes then is about a life that this end never had, of which it accepted nothing. Each
-- late order counts: where this end is about to come up into a life that the far end has left, units of that life may be
-- under way, and their messages go elsewhere as well. So whatever brings the link up begins anew where the count changed.
abbrev pub reply_of : ℕ → LinkState → Order
reply_of number link =
    if link.answered then Coa number (fsn_before_first link.profile)
    else (if link.blind then Eca number else Coa number (last_accepted link))

abbrev pub one_later : ℕ → ℕ
one_later late = (late + 1) % 2 ^ 32

abbrev pub answered_link : LinkState → LinkState
answered_link link = record link { answered = true; late = one_later link.late }

-- (Q.704 5.4.2, 5.6.2) a changeover order: a link that is up is left and answered for; one's own order that stands
-- unanswered is answered by it (own: with no acknowledgement)
abbrev pub changed_over : Reached → ℕ → LinkState → Phase → State → Obeyed
changed_over reached number link Up s = record {
  took = TookOrder;
  state = settled reached number (left_link false (given s) link)
      (queued (Coa number (last_accepted link)) (left_by false number link s));
}
changed_over reached number link Down s = record { took = TookOrder; state = settled reached number link s }
changed_over reached number link Settled s = record {
  took = TookOrder;
  state = with_link number (answered_link link) (queued (reply_of number link) s);
}

-- (Q.704 5.4.3, 5.6.3) an acknowledgement settles a link that waits for one
abbrev pub answered : Reached → ℕ → LinkState → Phase → State → Obeyed
answered reached number link Down s = record { took = TookOrder; state = settled reached number link s }
answered reached number link _ s = ignored s

-- an order for a link that doesn't exist is ignored; what is done for another goes by its phase
abbrev pub at_link : ℕ → State → (LinkState → Obeyed) → Option LinkState → Obeyed
at_link number s obeyed None = ignored s
at_link number s obeyed (Some link) = obeyed link

abbrev pub obeyed_at : ℕ → (LinkState → Phase → State → Obeyed) → State → Obeyed
obeyed_at number obeyed s = at_link number s (λ link. obeyed link link.phase s) (slice_get s.links number)

-- (Q.704 6.3) an acknowledgement of a code in no use is ignored; of another, one less is owed
abbrev pub acknowledged_back : ℕ → Code → State → Obeyed
acknowledged_back code Free s = ignored s
acknowledged_back code _ s = record { took = TookOrder; state = acknowledged_code code s }

-- the link of the order need not be the one that it was heard on; a declaration is acknowledged, whatever its code
-- (Q.704 6.3)
abbrev pub order_obeyed : Order → State → Obeyed
order_obeyed (Coo number fsn) s = obeyed_at number (changed_over (Upto fsn) number) s
order_obeyed (Eco number) s = obeyed_at number (changed_over Unknown number) s
order_obeyed (Coa number fsn) s = obeyed_at number (answered (Upto fsn) number) s
order_obeyed (Eca number) s = obeyed_at number (answered Unknown number) s
order_obeyed (Cbd number code) s = record { took = TookOrder; state = queued (Cba number code) s }
order_obeyed (Cba number code) s = acknowledged_back code (code_of code s.routing) s

-- a body of the management that is no order is ignored
abbrev pub obeyed : Option Order → State → Obeyed
obeyed None s = ignored s
obeyed (Some order) s = order_obeyed order s
