-- EACH STEP KEEPS OCTETS: what turns, changes or moves keeps its octets (`rows_turned`, `rows_orders`, `rows_moved`), a new row
-- is an offer or an order's text (`text_is_body`), and a unit that is given is a row's, or has none.
use Rattle.std.proofs.Common.{refl, sym, subst, arith, ◌≡◌, ◌∙◌, ℕ, zero, suc, ◌+◌, ◌*◌, ◌%◌, ◌/◌, ◌^◌, ◌<◌, ◌≤◌, ◌==◌, Bool, true, false, not, List, [], ◌∷◌, ◌++◌, length, map, Option, Some, None, slice_get, if◌then◌else◌}
use Rattle.std.proofs.lemmas.Bool.{cond_both}
use Rattle.std.proofs.lemmas.Bool.Decides.{nat_tests}
use Rattle.std.proofs.lemmas.List.Elements.{All-cons, All-nil}
use Rattle.std.proofs.lemmas.Option.{same_Some}
use Rattle.l2_units.specs.Profile.{fsn_count}
use Rattle.l2_units.specs.Grammar.{IsHeadOf}
use Rattle.l2_window.specs.Window.{fsn_before_first}
use Rattle.l3_orders.specs.Grammar.{IsOrder}
use Rattle.l3_orders.proofs.Texts.{one_grammar}
use Rattle.set_route.specs.Routing.{code_for, code_of, home_of}
use Rattle.set_model.specs.declared.reached.Reached.{Reached}
use Rattle.set_model.specs.declared.reached.Reached.TheVariants.{Upto, Unknown, Unanswered, Unasked}
use Rattle.set_model.specs.declared.phase.Phase.{Phase}
use Rattle.set_model.specs.declared.phase.Phase.TheVariants.{Up, Down, Settled}
use Rattle.set_model.specs.Changeover.{Obeyed, acknowledged_back, acknowledged_code, acknowledged_by, answered, at_link, can_declare, changed_over, cleared, declared, declared_from, discarded, fate_on, is_reasonable, judged, leaving_order, left_by, left_link, obeyed, order_obeyed, overdue_via, queued, reached_by, redeclared_from, redeclared_if, redeclared_on, released, released_from, reply_of, settled, taken_back, some_declare, some_in_use, some_overdue}
use Rattle.set_model.specs.Control.{Choice, again, first, fill, fsn_of, head_of}
use Rattle.set_model.specs.Rows.{AreFit, Parked, same_fate, Acked, Discarded, Emergency, NoAnswer, Unacked, Unreasonable, Waiting, is_back, is_back_to, is_on, is_parked, is_unacked, is_waiting, place, service_indicator}
use Rattle.set_model.specs.State.{Asked, Code, Free, Spent, On, fate_at, has_phase_up, link_count, target, window_of}
use Rattle.set_model.specs.Step.{Done, Message, Nothing, NotUp, Outcome, SetRefusal, brought, choice_in, chosen, comes_back, controlled, controls, falls, found as found_at, gives_up, over_by_time, timed, times_out, heard, in_service, restores, is_heard, next, offer_refusal, offered, on_link, part_in, redeclares, refused, rises, rows_sent, runs_out, step, taken, takes, unit_of, with_known}
use Rattle.set_model.proofs.Ahead.{each_put}
use Rattle.set_model.proofs.Lists.{each_set, within}
use Rattle.l2_units.specs.declared.profile.Profile.{Profile}
use Rattle.l2_units.specs.declared.profile.Profile.TheVariants.{Narrow}
use Rattle.l2_units.specs.declared.unit.Unit.{Unit as SignalUnit}
use Rattle.l2_units.specs.Grammar.{body_of, four_octets}
use Rattle.l2_units.specs.declared.unit.Header.{Header}
use Rattle.l3_orders.specs.declared.order.Order.{Order}
use Rattle.l3_orders.specs.declared.order.Order.TheVariants.{Coo, Coa, Cbd, Cba, Eco, Eca}
use Rattle.l3_orders.specs.Grammar.{text, order_of, label_number}
use Rattle.set_events.specs.declared.answer.Answer.{Answer}
use Rattle.set_events.specs.declared.event.Event.{Event}
use Rattle.set_model.specs.Rows.{Fate, Row, appended, changed, fated, moved, picked_changed, is_users, standing, turned, unack, wait}
use Rattle.set_model.specs.Sound.{IsSettings, IsSound}
use Rattle.set_model.specs.State.{LinkState, open_link, State, given, last_accepted}
use Rattle.set_model.proofs.Rows.{each_append, each_filter, turned_there, where_turned, where_picked}
use Rattle.set_octets.specs.Octets.{AreOctets, IsBody, AreBodies, HoldsOctets, AskedInOctets, IsOnWire, GivesOctets, StepsGiveOctets}

-- ROWS.
abbrev Is : Row → Type 0
Is row = IsBody row.body

rows_turned : (test : Fate → Bool) (fate : Fate) (n : ℕ) (rows : List Row) → AreBodies rows → AreBodies (turned test fate n rows)
rows_turned test fate n rows = where_turned test fate (λ xs ys. AreBodies xs → AreBodies ys) (λ e. e) (λ x xs ys p e. (e.0, p e.1)) (λ x xs ys h p e. (e.0, p e.1)) n rows

rows_changed : (test : Fate → Bool) (fate : Fate) (rows : List Row) → AreBodies rows → AreBodies (changed test fate rows)
rows_changed test fate rows = rows_turned test fate (length rows) rows

rows_picked : (picks : Row → Bool) (test : Fate → Bool) (fate : Fate) (rows : List Row) → AreBodies rows → AreBodies (picked_changed picks test fate rows)
rows_picked picks test fate rows = where_picked test fate (λ xs ys. AreBodies xs → AreBodies ys) (λ e. e) (λ x xs ys p e. (e.0, p e.1)) (λ x xs ys h p e. (e.0, p e.1)) picks rows

rows_fated : (fate : Row → Fate) (rows : List Row) → AreBodies rows → AreBodies (map (fated fate) rows)
rows_fated fate [] e = tt
rows_fated fate (row ∷ rows) e = (e.0, rows_fated fate rows e.1)

rows_moved : (test : Fate → Bool) (fate : Row → Fate) (rows : List Row) → AreBodies rows → AreBodies (moved test fate rows)
rows_moved test fate rows e =
    each_append Is (standing (λ f. not (test f)) rows) (map (fated fate) (standing test rows))
    (each_filter Is Is (λ row. not (test row.fate)) (λ x h is. is) rows e)
    (rows_fated fate (standing test rows) (each_filter Is Is (λ row. test row.fate) (λ x h is. is) rows e))

rows_appended : (number : ℕ) (rows : List Row) (body : List ℕ) (fate : Fate) → AreBodies rows → IsBody body → AreBodies (appended number rows body fate)
rows_appended number rows body fate e is = each_append Is rows _ e (is, tt)

-- AN ORDER'S TEXT.
abbrev Fits : ℕ → Type 0
Fits octet = octet < 2 ^ 8

whole : (sio n heading : ℕ) (content : List ℕ) → Fits sio → Fits heading → AreOctets content → AreOctets (sio ∷ four_octets n ++ heading ∷ content)
whole sio n heading content a b c =
    let fourth : List ℕ = n / 0x1000000 % 256 ∷ heading ∷ content in
    let third : List ℕ = n / 0x10000 % 256 ∷ fourth in
    let second : List ℕ = n / 0x100 % 256 ∷ third in
    All-cons Fits sio (n % 256 ∷ second) a
    (All-cons Fits (n % 256) second (omega arith)
    (All-cons Fits (n / 0x100 % 256) third (omega arith)
    (All-cons Fits (n / 0x10000 % 256) fourth (omega arith)
    (All-cons Fits (n / 0x1000000 % 256) (heading ∷ content) (omega arith)
    (All-cons Fits heading content b c)))))

one_more : (number : ℕ) → Fits number → AreOctets (number ∷ [])
one_more number fits = All-cons Fits number [] fits (All-nil Fits)

-- its numbers fit an octet
abbrev IsSmall : Order → Type 0
IsSmall (Coo link number) = number < 2 ^ 8
IsSmall (Coa link number) = number < 2 ^ 8
IsSmall (Cbd link code) = code < 2 ^ 8
IsSmall (Cba link code) = code < 2 ^ 8
IsSmall (Eco link) = Unit {0}
IsSmall (Eca link) = Unit {0}

text_is_body : (order : Order) (sio dpc opc : ℕ) → IsSmall order → sio < 2 ^ 8 → IsBody (text Narrow order sio dpc opc)
text_is_body (Coo link number) sio dpc opc small a = record {
  shortest = omega arith;
  octets = whole sio (label_number dpc opc link) 17 ((number + 128 * 0) ∷ []) a (omega arith) (one_more (number + 128 * 0) (omega (arith, small)));
}
text_is_body (Coa link number) sio dpc opc small a = record {
  shortest = omega arith;
  octets = whole sio (label_number dpc opc link) 33 ((number + 128 * 0) ∷ []) a (omega arith) (one_more (number + 128 * 0) (omega (arith, small)));
}
text_is_body (Cbd link code) sio dpc opc small a = record {
  shortest = omega arith;
  octets = whole sio (label_number dpc opc link) 81 (code ∷ []) a (omega arith) (one_more code small);
}
text_is_body (Cba link code) sio dpc opc small a = record {
  shortest = omega arith;
  octets = whole sio (label_number dpc opc link) 97 (code ∷ []) a (omega arith) (one_more code small);
}
text_is_body (Eco link) sio dpc opc small a = record {
  shortest = omega arith;
  octets = whole sio (label_number dpc opc link) 18 [] a (omega arith) (All-nil Fits);
}
text_is_body (Eca link) sio dpc opc small a = record {
  shortest = omega arith;
  octets = whole sio (label_number dpc opc link) 34 [] a (omega arith) (All-nil Fits);
}

-- WHAT EACH CHANGE KEEPS.
queued_holds : (order : Order) (s : State) → IsSmall order → HoldsOctets s → HoldsOctets (queued order s)
queued_holds order s small h = record {
  narrow = h.narrow;
  sio = h.sio;
  rows = each_put Is (given s) s.rows _ (fate_on (target s.links)) h.rows
      (subst (λ (p : Profile). IsBody (text p order s.settings.sio s.settings.dpc s.settings.opc)) (sym h.narrow)
      (text_is_body order s.settings.sio s.settings.dpc s.settings.opc small h.sio));
}

left_holds : (blind : Bool) (n : ℕ) (link : LinkState) (s : State) → HoldsOctets s → HoldsOctets (left_by blind n link s)
left_holds blind n link s h = record { narrow = h.narrow; sio = h.sio; rows = rows_moved (is_back_to n) _ s.rows h.rows }

judged_holds : (reached : Reached) (n : ℕ) (link : LinkState) (s : State) → HoldsOctets s → HoldsOctets (judged reached n link s)
judged_holds (Upto fsn) n link s h =
    cond_both (is_reasonable fsn n link s.rows) (acknowledged_by (reached_by fsn n link s.rows) n link s) (discarded Unreasonable n s) HoldsOctets
    (λ e. record { narrow = h.narrow; sio = h.sio; rows = rows_turned (is_unacked n) (Acked n) (reached_by fsn n link s.rows) s.rows h.rows })
    (λ e. record {
      narrow = h.narrow;
      sio = h.sio;
      rows = rows_changed (is_waiting n) (Discarded Unreasonable) _ (rows_changed (is_unacked n) (Discarded Unreasonable) s.rows h.rows);
    })
judged_holds Unknown n link s h = record { narrow = h.narrow; sio = h.sio; rows = rows_changed (is_unacked n) (Discarded Emergency) s.rows h.rows }
judged_holds Unanswered n link s h = record {
  narrow = h.narrow;
  sio = h.sio;
  rows = rows_picked (λ row. not (is_users row)) (is_waiting n) (Discarded NoAnswer) _ (rows_changed (is_unacked n) (Discarded NoAnswer) s.rows h.rows);
}
judged_holds Unasked n link s h = record { narrow = h.narrow; sio = h.sio; rows = rows_changed (is_unacked n) (Discarded NoAnswer) s.rows h.rows }

settled_holds : (reached : Reached) (n : ℕ) (link : LinkState) (s : State) → HoldsOctets s → HoldsOctets (settled reached n link s)
settled_holds reached n link s h =
    let j = judged_holds reached n link s h in
    record { narrow = j.narrow; sio = j.sio; rows = rows_moved (is_on n) _ (judged reached n link s).rows j.rows }

-- the numbers of a link's orders
last_fits : (accepted : ℕ) (profile : Profile) → profile ≡ Narrow → (accepted + fsn_before_first profile) % fsn_count profile < 2 ^ 8
last_fits accepted profile is = subst (λ (p : Profile). (accepted + fsn_before_first p) % fsn_count p < 2 ^ 8) (sym is) (omega arith)

first_fits : (profile : Profile) → profile ≡ Narrow → fsn_before_first profile < 2 ^ 8
first_fits profile is = subst (λ (p : Profile). fsn_before_first p < 2 ^ 8) (sym is) (omega arith)

leaving_small : (blind : Bool) (n : ℕ) (link : LinkState) → link.profile ≡ Narrow → IsSmall (leaving_order blind n link)
leaving_small false n link narrow = last_fits link.accepted link.profile narrow
leaving_small true n link narrow = tt

reply_small : (n : ℕ) (link : LinkState) → link.profile ≡ Narrow → IsSmall (reply_of n link)
reply_small n link narrow =
    cond_both link.answered (Coa n (fsn_before_first link.profile)) (if link.blind then Eca n else Coa n (last_accepted link)) IsSmall
    (λ e. first_fits link.profile narrow)
    (λ e. cond_both link.blind (Eca n) (Coa n (last_accepted link)) IsSmall (λ b. tt) (λ b. last_fits link.accepted link.profile narrow))

over_holds : (reached : Reached) (n : ℕ) (link : LinkState) (phase : Phase) (s : State) → link.profile ≡ Narrow → HoldsOctets s
    → HoldsOctets (changed_over reached n link phase s).state
over_holds reached n link Up s narrow h =
    settled_holds reached n (left_link false (given s) link) _
    (queued_holds (Coa n (last_accepted link)) (left_by false n link s) (last_fits link.accepted link.profile narrow) (left_holds false n link s h))
over_holds reached n link Down s narrow h = settled_holds reached n link s h
over_holds reached n link Settled s narrow h =
    let q = queued_holds (reply_of n link) s (reply_small n link narrow) h in record { narrow = q.narrow; sio = q.sio; rows = q.rows }

answered_holds : (reached : Reached) (n : ℕ) (link : LinkState) (phase : Phase) (s : State) → HoldsOctets s
    → HoldsOctets (answered reached n link phase s).state
answered_holds reached n link Up s h = h
answered_holds reached n link Down s h = settled_holds reached n link s h
answered_holds reached n link Settled s h = h

abbrev AreNarrow : List LinkState → Type 0
AreNarrow links = (n : ℕ) (link : LinkState) → slice_get links n ≡ Some link → link.profile ≡ Narrow

at_holds : (n : ℕ) (s : State) (f : LinkState → Phase → State → Obeyed) (found : Option LinkState) → HoldsOctets s
    → ((link : LinkState) → found ≡ Some link → HoldsOctets (f link link.phase s).state)
    → HoldsOctets (at_link n s (λ link. f link link.phase s) found).state
at_holds n s f None h each = h
at_holds n s f (Some link) h each = each link refl

released_holds : (code : ℕ) (s : State) → HoldsOctets s → HoldsOctets (released code s)
released_holds code s h = record { narrow = h.narrow; sio = h.sio; rows = rows_moved (is_back code) _ s.rows h.rows }

acknowledged_holds : (code : ℕ) (s : State) → HoldsOctets s → HoldsOctets (acknowledged_code code s)
acknowledged_holds code s h = record { narrow = h.narrow; sio = h.sio; rows = rows_moved (is_back code) _ s.rows h.rows }

back_holds : (code : ℕ) (is : Code) (s : State) → HoldsOctets s → HoldsOctets (acknowledged_back code is s).state
back_holds code Free s h = h
back_holds code (Asked via declaration owed) s h = acknowledged_holds code s h
back_holds code (Spent owed) s h = acknowledged_holds code s h

order_holds : (order : Order) (s : State) → AreNarrow s.links → IsSmall order → HoldsOctets s → HoldsOctets (order_obeyed order s).state
order_holds (Coo n fsn) s narrow small h =
    at_holds n s (changed_over (Upto fsn) n) (slice_get s.links n) h (λ link there. over_holds (Upto fsn) n link link.phase s (narrow n link there) h)
order_holds (Eco n) s narrow small h =
    at_holds n s (changed_over Unknown n) (slice_get s.links n) h (λ link there. over_holds Unknown n link link.phase s (narrow n link there) h)
order_holds (Coa n fsn) s narrow small h =
    at_holds n s (answered (Upto fsn) n) (slice_get s.links n) h (λ link there. answered_holds (Upto fsn) n link link.phase s h)
order_holds (Eca n) s narrow small h =
    at_holds n s (answered Unknown n) (slice_get s.links n) h (λ link there. answered_holds Unknown n link link.phase s h)
order_holds (Cbd n code) s narrow small h = queued_holds (Cba n code) s small h
order_holds (Cba n code) s narrow small h = back_holds code (code_of code s.routing) s h

-- an order that's read from octets has numbers that fit one
fits_small : (order : Order) → IsOrder Narrow order → IsSmall order
fits_small (Coo n fsn) is = omega (arith, is.1)
fits_small (Coa n fsn) is = omega (arith, is.1)
fits_small (Cbd n code) is = is.1
fits_small (Cba n code) is = is.1
fits_small (Eco n) is = tt
fits_small (Eca n) is = tt

obeyed_holds : (found : Option Order) (s : State) → AreNarrow s.links → ((order : Order) → found ≡ Some order → IsSmall order)
    → HoldsOctets s → HoldsOctets (obeyed found s).state
obeyed_holds None s narrow small h = h
obeyed_holds (Some order) s narrow small h = order_holds order s narrow (small order refl) h

read_small : (profile : Profile) (body : List ℕ) → profile ≡ Narrow → AreOctets body → (order : Order) → order_of profile body ≡ Some order → IsSmall order
read_small profile body narrow octets order is =
    fits_small order ((one_grammar Narrow body order octets).0 (subst (λ (p : Profile). order_of p body ≡ Some order) narrow is)).fits

takes_holds : (body : Option (List ℕ)) (s : State) → AreNarrow s.links → ((b : List ℕ) → body ≡ Some b → AreOctets b) → HoldsOctets s
    → HoldsOctets (takes body s).state
takes_holds None s narrow octets h = h
takes_holds (Some body) s narrow octets h =
    cond_both (service_indicator body == 0) (obeyed (order_of s.settings.profile body) s) (record { took = Message; state = record s { inbox = s.inbox ++ body ∷ [] } })
    (λ (o : Obeyed). HoldsOctets o.state)
    (λ e. obeyed_holds (order_of s.settings.profile body) s narrow (read_small s.settings.profile body h.narrow (octets body refl)) h)
    (λ e. record { narrow = h.narrow; sio = h.sio; rows = h.rows })

-- EVENTS.
in_holds : (n : ℕ) (s : State) (f : LinkState → Outcome) → HoldsOctets s
    → ((link : LinkState) → slice_get s.links n ≡ Some link → HoldsOctets (f link).state) → HoldsOctets (in_service n s f).state
in_holds n s f h each = go (slice_get s.links n) refl
  where
    go : (found : Option LinkState) → slice_get s.links n ≡ found
        → HoldsOctets (with_known found s (λ link. if has_phase_up link.phase then f link else refused s NotUp)).state
    go None e = h
    go (Some link) e = cond_both (has_phase_up link.phase) (f link) (refused s NotUp) (λ (o : Outcome). HoldsOctets o.state) (λ up. each link e) (λ down. h)

on_holds : (n : ℕ) (s : State) (f : LinkState → Outcome) → HoldsOctets s
    → ((link : LinkState) → slice_get s.links n ≡ Some link → HoldsOctets (f link).state) → HoldsOctets (on_link n s f).state
on_holds n s f h each = go (slice_get s.links n) refl
  where
    go : (found : Option LinkState) → slice_get s.links n ≡ found → HoldsOctets (with_known found s f).state
    go None e = h
    go (Some link) e = each link e

offer_holds : (s : State) (body : List ℕ) (why : Option SetRefusal) → offer_refusal s.settings.profile s.rows body ≡ why → AreOctets body
    → HoldsOctets s → HoldsOctets (offered why s body).state
offer_holds s body (Some why) is octets h = h
offer_holds s body None is octets h =
    let long : 3 ≤ length body = grind (arith, nat_tests, is) in
    record { narrow = h.narrow; sio = h.sio; rows = rows_appended (given s) s.rows body _ h.rows (record { shortest = long; octets = octets }) }

take_holds : (inbox : List (List ℕ)) (s : State) → HoldsOctets s → HoldsOctets (taken inbox s).state
take_holds [] s h = h
take_holds (body ∷ rest) s h = record { narrow = h.narrow; sio = h.sio; rows = h.rows }

find_holds : (found : Option Fate) (n : ℕ) (s : State) → HoldsOctets s → HoldsOctets (found_at found n s).state
find_holds None n s h = h
find_holds (Some fate) n s h = h

sent_rows : (choice : Choice) (n : ℕ) (rows : List Row) → AreBodies rows → AreBodies (rows_sent choice n rows)
sent_rows (again place) n rows e = e
sent_rows first n rows e = rows_turned (is_waiting n) (Unacked n) 1 rows e
sent_rows fill n rows e = e

cleared_holds : (n : ℕ) (s : State) → HoldsOctets s → HoldsOctets (cleared n s)
cleared_holds n s h = record { narrow = h.narrow; sio = h.sio; rows = rows_turned (is_waiting n) (Discarded NoAnswer) _ s.rows h.rows }

next_holds : (n : ℕ) (s : State) (link : LinkState) → HoldsOctets s → HoldsOctets (next n s link).state
next_holds n s link h = record { narrow = h.narrow; sio = h.sio; rows = sent_rows (choice_in n link s) n s.rows h.rows }

brought_is : (accept : Bool) (unit : SignalUnit) (b : List ℕ) → brought accept unit ≡ Some b → AreOctets (body_of unit) → AreOctets b
brought_is true (SignalUnit.Msu head body) b is octets = subst (λ x. AreOctets x) (same_Some body.items b is) octets
brought_is false (SignalUnit.Msu head body) b is octets = absurd cc
brought_is accept (SignalUnit.Fisu head) b is octets = absurd cc
brought_is accept (SignalUnit.Lssu head status) b is octets = absurd cc

hears_holds : (unit : SignalUnit) (n : ℕ) (s : State) (link : LinkState) → slice_get s.links n ≡ Some link → AreNarrow s.links
    → AreOctets (body_of unit) → HoldsOctets s → HoldsOctets (heard unit n s link).state
hears_holds unit n s link there narrow octets h =
    let part = part_in unit n link s in
    let u = controlled unit n s link in
    let held : HoldsOctets u = record { narrow = h.narrow; sio = h.sio; rows = rows_turned (is_unacked n) (Acked n) part.acked s.rows h.rows } in
    let each : AreNarrow u.links = each_set (λ m (l : LinkState). l.profile ≡ Narrow) s.links n _ (narrow n link there) (λ m y other at. narrow m y at) in
    cond_both (is_heard s.settings.profile unit) (controls unit n s link) (refused s Nothing) (λ (o : Outcome). HoldsOctets o.state)
    (λ fits. takes_holds (brought part.accept unit) u each (λ b is. brought_is part.accept unit b is octets) held) (λ not. h)

falls_holds : (blind : Bool) (n : ℕ) (s : State) (link : LinkState) → link.profile ≡ Narrow → HoldsOctets s → HoldsOctets (falls blind n s link).state
falls_holds blind n s link narrow h = queued_holds (leaving_order blind n link) (left_by blind n link s) (leaving_small blind n link narrow) (left_holds blind n link s h)

rises_holds : (n : ℕ) (s : State) (phase : Phase) → HoldsOctets s → HoldsOctets (rises n s phase).state
rises_holds n s Up h = h
rises_holds n s Down h = h
rises_holds n s Settled h = record { narrow = h.narrow; sio = h.sio; rows = rows_moved is_parked _ s.rows h.rows }

gives_up_holds : (n : ℕ) (s : State) (link : LinkState) (phase : Phase) → HoldsOctets s → HoldsOctets (gives_up n s link phase).state
gives_up_holds n s link Up h = h
gives_up_holds n s link Down h = settled_holds Unanswered n link s h
gives_up_holds n s link Settled h = h

declared_holds : (home alternative : ℕ) (s : State) → home < 16 → alternative < 16 → HoldsOctets s → HoldsOctets (declared home alternative s)
declared_holds home alternative s a b h = record {
  narrow = h.narrow;
  sio = h.sio;
  rows = rows_appended (given s) s.rows _ (Waiting alternative) h.rows
      (subst (λ (p : Profile). IsBody (text p (Cbd home (code_for home alternative)) s.settings.sio s.settings.dpc s.settings.opc)) (sym h.narrow)
      (text_is_body (Cbd home (code_for home alternative)) s.settings.sio s.settings.dpc s.settings.opc (omega (arith, a, b)) h.sio));
}

declares_hold : (home alternative n : ℕ) (s : State) → home < 16 → alternative + n ≤ 16 → HoldsOctets s → HoldsOctets (declared_from home alternative n s)
declares_hold home alternative zero s a b h = h
declares_hold home alternative (suc n) s a b h =
    declares_hold home (suc alternative) n _ a (omega (arith, b))
    (cond_both (can_declare home alternative s) (declared home alternative s) s HoldsOctets (λ e. declared_holds home alternative s a (omega (arith, b)) h) (λ e. h))

restores_hold : (n : ℕ) (s : State) → n < 16 → link_count s ≤ 16 → HoldsOctets s → HoldsOctets (comes_back n s).state
restores_hold n s a b h =
    cond_both (some_declare n 0 (link_count s) s) (record { answer = Done; state = declared_from n 0 (link_count s) s }) (refused s Nothing)
    (λ (o : Outcome). HoldsOctets o.state) (λ e. declares_hold n 0 (link_count s) s a (omega (arith, b)) h) (λ e. h)

releases_hold : (code n : ℕ) (s : State) → HoldsOctets s → HoldsOctets (released_from code n s)
releases_hold code zero s h = h
releases_hold code (suc n) s h = releases_hold (suc code) n (released code s) (released_holds code s h)

runs_out_holds : (n : ℕ) (s : State) → HoldsOctets s → HoldsOctets (runs_out n s).state
runs_out_holds n s h =
    cond_both (some_in_use (code_for n 0) 16 s) (record { answer = Done; state = released_from (code_for n 0) 16 s }) (refused s Nothing)
    (λ (o : Outcome). HoldsOctets o.state) (λ e. releases_hold (code_for n 0) 16 s h) (λ e. h)

again_holds : (code : ℕ) (due : Option ℕ) (s : State) → code < 256 → HoldsOctets s → HoldsOctets (redeclared_on code due s)
again_holds code None s few h = h
again_holds code (Some via) s few h = record {
  narrow = h.narrow;
  sio = h.sio;
  rows = rows_appended (given s) s.rows _ (fate_at (On via) s) h.rows
      (subst (λ (p : Profile). IsBody (text p (Cbd (home_of code) code) s.settings.sio s.settings.dpc s.settings.opc)) (sym h.narrow)
      (text_is_body (Cbd (home_of code) code) s.settings.sio s.settings.dpc s.settings.opc (omega (arith, few)) h.sio));
}

redeclared_hold : (code n : ℕ) (s : State) → code + n ≤ 256 → HoldsOctets s → HoldsOctets (redeclared_from code n s)
redeclared_hold code zero s few h = h
redeclared_hold code (suc n) s few h =
    redeclared_hold (suc code) n (redeclared_if code s) (omega (arith, few)) (again_holds code (overdue_via (code_of code s.routing) s.rows) s (omega (arith, few)) h)

redeclares_hold : (n : ℕ) (s : State) → n < 16 → HoldsOctets s → HoldsOctets (redeclares n s).state
redeclares_hold n s few h =
    cond_both (some_overdue (code_for n 0) 16 s) (record { answer = Done; state = redeclared_from (code_for n 0) 16 s }) (refused s Nothing)
    (λ (o : Outcome). HoldsOctets o.state) (λ e. redeclared_hold (code_for n 0) 16 s (omega (arith, few)) h) (λ e. h)

by_time_holds : (from : Fate) (n : ℕ) (s : State) (link : LinkState) → HoldsOctets s → HoldsOctets (over_by_time from n s link).state
by_time_holds from n s link h = settled_holds Unasked n link (taken_back link.order from s)
    (record { narrow = h.narrow; sio = h.sio; rows = rows_picked (λ row. row.number == link.order) (λ f. same_fate f from) (Discarded NoAnswer) s.rows h.rows })

timed_holds : (order : Option Fate) (n : ℕ) (s : State) (link : LinkState) → HoldsOctets s → HoldsOctets (timed order n s link).state
timed_holds (Some (Waiting to)) n s link h = by_time_holds (Waiting to) n s link h
timed_holds (Some Parked) n s link h = by_time_holds Parked n s link h
timed_holds order n s link h = grind (arith, h)

times_out_holds : (n : ℕ) (s : State) (link : LinkState) (phase : Phase) → HoldsOctets s → HoldsOctets (times_out n s link phase).state
times_out_holds n s link Down h = timed_holds (place link.order s.rows) n s link h
times_out_holds n s link Up h = h
times_out_holds n s link Settled h = h

module _ (s : State) (sound : IsSound s) (settings : IsSettings s.settings) (h : HoldsOctets s) where
  narrow : AreNarrow s.links
  narrow n link there = (sound.links n link there).profile ∙ h.narrow

  few : link_count s ≤ 16
  few = omega (arith, sound.count, settings.at_most_16)

  step_holds : (event : Event) → AskedInOctets event → HoldsOctets (step s event).state
  unfolding step
  step_holds (Event.Offer body) asked = offer_holds s body (offer_refusal s.settings.profile s.rows body) refl asked h
  step_holds Event.Take asked = take_holds s.inbox s h
  step_holds (Event.Find number) asked = find_holds (place number s.rows) number s h
  step_holds (Event.Next n) asked = in_holds n s (next n (cleared n s)) h (λ link there. next_holds n (cleared n s) link (cleared_holds n s h))
  step_holds (Event.Heard n unit) asked = in_holds n s (heard unit n s) h (λ link there. hears_holds unit n s link there narrow asked h)
  step_holds (Event.Up n) asked = on_holds n s (λ link. rises n s link.phase) h (λ link there. rises_holds n s link.phase h)
  step_holds (Event.Down n) asked = in_holds n s (falls false n s) h (λ link there. falls_holds false n s link (narrow n link there) h)
  step_holds (Event.DownBlind n) asked = in_holds n s (falls true n s) h (λ link there. falls_holds true n s link (narrow n link there) h)
  step_holds (Event.NoAnswer n) asked = on_holds n s (λ link. gives_up n s link link.phase) h (λ link there. gives_up_holds n s link link.phase h)
  step_holds (Event.Timed n) asked = on_holds n s (λ link. times_out n s link link.phase) h (λ link there. times_out_holds n s link link.phase h)
  step_holds (Event.Restore n) asked = in_holds n s (restores n s) h (λ link there. cond_both (open_link link) (comes_back n s) (refused s NotUp) (λ (o : Outcome). HoldsOctets o.state)
      (λ e. restores_hold n s (omega (arith, within s.links n link there, few)) few h) (λ e. h))
  step_holds (Event.Redeclare n) asked = on_holds n s (λ link. redeclares n s) h (λ link there. redeclares_hold n s (omega (arith, within s.links n link there, few)) h)
  step_holds (Event.BackTimeout n) asked = on_holds n s (λ link. runs_out n s) h (λ link there. runs_out_holds n s h)
  step_holds (Event.Test n) asked = in_holds n s (λ link. refused s Nothing) h (λ link there. h)

-- THE UNIT THAT IS GIVEN.
each_at : (rows : List Row) (n : ℕ) (row : Row) → AreBodies rows → slice_get rows n ≡ Some row → IsBody row.body
each_at [] n row e there = absurd cc
each_at (x ∷ rows) zero row e there = subst (λ (r : Row). IsBody r.body) (same_Some x row there) e.0
each_at (x ∷ rows) (suc n) row e there = each_at rows n row e.1 there

fit_at : (rows : List Row) (n : ℕ) (row : Row) → AreFit Narrow rows → slice_get rows n ≡ Some row → length row.body ≤ 273
fit_at [] n row e there = absurd cc
fit_at (x ∷ rows) zero row e there = subst (λ (r : Row). length r.body ≤ 273) (same_Some x row there) e.0
fit_at (x ∷ rows) (suc n) row e there = fit_at rows n row e.1 there

abbrev IsGiven : Option Row → Type 0
IsGiven None = Unit {0}
IsGiven (Some row) = IsBody row.body × (length row.body ≤ 273)

given_at : (rows : List Row) (n : ℕ) → AreBodies rows → AreFit Narrow rows → IsGiven (slice_get rows n)
given_at rows n e f = go (slice_get rows n) refl
  where
    go : (found : Option Row) → slice_get rows n ≡ found → IsGiven found
    go None is = tt
    go (Some row) is = (each_at rows n row e is, fit_at rows n row f is)

chosen_given : (choice : Choice) (n : ℕ) (rows : List Row) → AreBodies rows → AreFit Narrow rows → IsGiven (chosen choice n rows)
chosen_given (again place) n rows e f =
    given_at (unack n rows) place (each_filter Is Is (λ row. is_unacked n row.fate) (λ x h is. is) rows e)
    (each_filter _ (λ row. length row.body ≤ 273) (λ row. is_unacked n row.fate) (λ x h is. is) rows f)
chosen_given first n rows e f =
    given_at (wait n rows) 0 (each_filter Is Is (λ row. is_waiting n row.fate) (λ x h is. is) rows e)
    (each_filter _ (λ row. length row.body ≤ 273) (λ row. is_waiting n row.fate) (λ x h is. is) rows f)
chosen_given fill n rows e f = tt

unit_on_wire : (row : Option Row) (head : Header) → IsGiven row → IsHeadOf Narrow head → IsOnWire (unit_of row head)
unit_on_wire None head is fits = record { is_unit = (fits, tt); octets = All-nil Fits }
unit_on_wire (Some row) head is fits = record { is_unit = (fits, (is.0.shortest, is.1)); octets = is.0.octets }

head_fits : (n : ℕ) (s : State) (link : LinkState) (choice : Choice) → link.profile ≡ Narrow
    → IsHeadOf Narrow (head_of link.control (window_of n link s.rows) (fsn_of choice (window_of n link s.rows)))
head_fits n s link choice narrow = grind (arith, narrow)

abbrev is_sent : Answer → Bool
is_sent (Answer.Sent unit) = true
is_sent _ = false

silent : (answer : Answer) → is_sent answer ≡ false → GivesOctets answer
silent (Answer.Accepted number) not = tt
silent (Answer.Taken body) not = tt
silent (Answer.Found fate) not = tt
silent (Answer.Sent unit) not = absurd cc
silent (Answer.Heard report) not = tt
silent Answer.Done not = tt
silent (Answer.Refused why) not = tt

abbrev is_next : Event → Bool
is_next (Event.Next n) = true
is_next _ = false

others_silent : (s : State) (event : Event) → is_next event ≡ false → is_sent (step s event).answer ≡ false
unfolding step
others_silent s (Event.Next n) not = absurd cc
others_silent s (Event.Redeclare n) not = go (slice_get s.links n)
  where
    go : (o : Option LinkState) → is_sent (with_known o s (λ link. redeclares n s)).answer ≡ false
    go None = refl
    go (Some link) = cond_both (some_overdue (code_for n 0) 16 s) (record { answer = Done; state = redeclared_from (code_for n 0) 16 s }) (refused s Nothing)
        (λ (o : Outcome). is_sent o.answer ≡ false) (λ e. refl) (λ e. refl)
others_silent s event not = grind arith

cleared_fits : (n : ℕ) (s : State) → AreFit Narrow s.rows → AreFit Narrow (cleared n s).rows
cleared_fits n s f = (turned_there (is_waiting n) (Discarded NoAnswer) _ s.rows).fit Narrow f

next_gives : (n : ℕ) (s : State) (link : LinkState) → link.profile ≡ Narrow → HoldsOctets s → AreFit Narrow s.rows → GivesOctets (next n s link).answer
next_gives n s link narrow h fit =
    let choice = choice_in n link s in
    unit_on_wire (chosen choice n s.rows) (head_of link.control (window_of n link s.rows) (fsn_of choice (window_of n link s.rows)))
    (chosen_given choice n s.rows h.rows fit) (head_fits n s link choice narrow)

given_there : (n : ℕ) (s : State) (found : Option LinkState) → ((link : LinkState) → found ≡ Some link → link.profile ≡ Narrow) → HoldsOctets s
    → AreFit Narrow s.rows
    → GivesOctets (with_known found s (λ link. if has_phase_up link.phase then next n (cleared n s) link else refused s NotUp)).answer
given_there n s None narrow h fit = tt
given_there n s (Some link) narrow h fit =
    cond_both (has_phase_up link.phase) (next n (cleared n s) link) (refused s NotUp) (λ (o : Outcome). GivesOctets o.answer)
    (λ up. next_gives n (cleared n s) link (narrow link refl) (cleared_holds n s h) (cleared_fits n s fit)) (λ down. tt)

step_gives : (s : State) (event : Event) → IsSound s → HoldsOctets s → GivesOctets (step s event).answer
unfolding step
step_gives s (Event.Next n) sound h =
    given_there n s (slice_get s.links n) (λ link there. (sound.links n link there).profile ∙ h.narrow) h
    (subst (λ (p : Profile). AreFit p s.rows) h.narrow sound.fit)
step_gives s event sound h = silent _ (others_silent s event (grind arith))

pub steps_give_octets : StepsGiveOctets
steps_give_octets s event sound settings holds asked = record {
  holds = step_holds s sound settings holds event asked;
  gives = step_gives s event sound holds;
}
