-- THE INBOX of a set: what an event delivers joins it, what Take hands out leaves it, and nothing else changes it.
-- `event_passes` says so of each event, case by case; settling, orders and changeback leave it alone (`obeyed_leaves`),
-- which for the declarations and codes of one event is an induction on how many are left. `hands_out` follows along a
-- legal history by induction on its entries, and answers every_history_hands_out_in_order (src/laws.rt). No law of two
-- ends occurs here; Handing.antt uses `event_passes` for them.
use Rattle.set_model.specs.Step.{restores, is_heard, controls}
use Rattle.std.proofs.Common.{refl, ◌≡◌, ◌∙◌, ap, sym, ℕ, zero, suc, ◌==◌, Bool, true, false, List, [], ◌∷◌, ◌++◌, slice_get, Option, Some, None, cond, append_assoc}
use Rattle.std.proofs.lemmas.List.{append-nil}
use Rattle.l2_units.specs.declared.unit.Unit.{Unit as SignalUnit}
use Rattle.l2_units.specs.declared.unit.Unit.TheVariants.{Fisu, Lssu, Msu}
use Rattle.l3_orders.specs.declared.order.Order.{Order}
use Rattle.l3_orders.specs.declared.order.Order.TheVariants.{Coo, Coa, Cbd, Cba, Eco, Eca}
use Rattle.l3_orders.specs.Grammar.{order_of}
use Rattle.set_events.specs.declared.answer.Answer.TheVariants.{Done}
use Rattle.set_events.specs.declared.answer.DiscardCause.TheVariants.{Unreasonable}
use Rattle.set_events.specs.declared.answer.Fate.{Fate}
use Rattle.set_events.specs.declared.answer.Refusal.{Refusal as SetRefusal}
use Rattle.set_events.specs.declared.answer.Refusal.TheVariants.{NotUp, Nothing}
use Rattle.set_events.specs.declared.answer.Took.{Took}
use Rattle.set_events.specs.declared.event.Event.{Event}
use Rattle.set_events.specs.declared.event.Event.TheVariants.{Offer, Take, Find, Next, Heard, Up as UpEvent, Down as DownEvent, DownBlind, NoAnswer, Timed, Restore, Redeclare, BackTimeout, Test}
use Rattle.set_events.specs.declared.history.Entry.{Entry}
use Rattle.set_route.specs.declared.place.Code.{Code}
use Rattle.set_route.specs.declared.place.Code.TheVariants.{Free, Asked, Spent}
use Rattle.set_route.specs.Routing.{code_for, code_of}
use Rattle.set_model.specs.Changeover.{cleared, Obeyed, left_link, judged, discarded, acknowledged_by, is_reasonable, reached_by, changed_over, answered, at_link, can_declare, declared_if, declared_from, declared, some_declare, overdue_via, redeclared_from, redeclared_if, redeclared_on, released, released_from, some_in_use, some_overdue, acknowledged_back, order_obeyed, obeyed}
use Rattle.set_model.specs.declared.phase.Phase.{Phase}
use Rattle.set_model.specs.declared.phase.Phase.TheVariants.{Up, Down, Settled}
use Rattle.set_model.specs.declared.reached.Reached.{Reached}
use Rattle.set_model.specs.declared.reached.Reached.TheVariants.{Upto, Unknown, Unanswered, Unasked}
use Rattle.set_model.specs.History.{IsLegal, after}
use Rattle.set_model.specs.Rows.{Fate, Waiting, Unacked, Acked, Held, Back, Parked, Discarded, place, service_indicator}
use Rattle.set_model.specs.State.{open_link, given, LinkState, State, link_count, has_phase_up, window_of}
use Rattle.set_model.specs.Control.{part_of}
use Rattle.set_model.specs.Step.{Outcome, refused, offer_refusal, offered, taken, found, with_known, in_service, next, brought, takes, after_control, heard, rises, falls, gives_up, timed, times_out, comes_back, redeclares, runs_out, step}
use Rattle.pair_streams.specs.Handed.{handed_by, message_of, delivered_by, handed_in, delivered_in, EveryHistoryHandsOutInOrder}

-- SETTLING, ORDERS AND CHANGEBACK leave it alone.
judged_inbox : (reached : Reached) (n : ℕ) (link : LinkState) (s : State) → (judged reached n link s).inbox ≡ s.inbox
judged_inbox (Upto fsn) n link s = go (is_reasonable fsn n link s.rows)
  where
    go : (b : Bool) → (cond b (acknowledged_by (reached_by fsn n link s.rows) n link s) (discarded Unreasonable n s)).inbox ≡ s.inbox
    go true = refl
    go false = refl
judged_inbox Unknown n link s = refl
judged_inbox Unanswered n link s = refl
judged_inbox Unasked n link s = refl

declared_inbox : (home alternative n : ℕ) (s : State) → (declared_from home alternative n s).inbox ≡ s.inbox
declared_inbox home alternative zero s = refl
declared_inbox home alternative (suc n) s = declared_inbox home (suc alternative) n (declared_if home alternative s) ∙ go (can_declare home alternative s)
  where
    go : (b : Bool) → (cond b (declared home alternative s) s).inbox ≡ s.inbox
    go true = refl
    go false = refl

redeclared_inbox : (code n : ℕ) (s : State) → (redeclared_from code n s).inbox ≡ s.inbox
redeclared_inbox code zero s = refl
redeclared_inbox code (suc n) s = redeclared_inbox (suc code) n (redeclared_if code s) ∙ one (overdue_via (code_of code s.routing) s.rows)
  where
    one : (due : Option ℕ) → (redeclared_on code due s).inbox ≡ s.inbox
    one None = refl
    one (Some via) = refl

released_inbox : (code n : ℕ) (s : State) → (released_from code n s).inbox ≡ s.inbox
released_inbox code zero s = refl
released_inbox code (suc n) s = released_inbox (suc code) n (released code s)

-- an order is no message
record LeavesAlone (s : State) (o : Obeyed) : Type 0 where
  pub inbox : o.state.inbox ≡ s.inbox
  pub none : (body : List ℕ) → message_of o.took body ≡ []

over_leaves : (reached : Reached) (n : ℕ) (link : LinkState) (phase : Phase) (s : State) → LeavesAlone s (changed_over reached n link phase s)
over_leaves reached n link Up s = record { inbox = judged_inbox reached n (left_link false (given s) link) _; none = λ body. refl }
over_leaves reached n link Down s = record { inbox = judged_inbox reached n link s; none = λ body. refl }
over_leaves reached n link Settled s = record { inbox = refl; none = λ body. refl }

answer_leaves : (reached : Reached) (n : ℕ) (link : LinkState) (phase : Phase) (s : State) → LeavesAlone s (answered reached n link phase s)
answer_leaves reached n link Up s = record { inbox = refl; none = λ body. refl }
answer_leaves reached n link Down s = record { inbox = judged_inbox reached n link s; none = λ body. refl }
answer_leaves reached n link Settled s = record { inbox = refl; none = λ body. refl }

at_leaves : (n : ℕ) (s : State) (f : LinkState → Obeyed) → ((link : LinkState) → LeavesAlone s (f link))
    → (there : Option LinkState) → LeavesAlone s (at_link n s f there)
at_leaves n s f all None = record { inbox = refl; none = λ body. refl }
at_leaves n s f all (Some link) = all link

back_leaves : (code : ℕ) (c : Code) (s : State) → LeavesAlone s (acknowledged_back code c s)
back_leaves code Free s = record { inbox = refl; none = λ body. refl }
back_leaves code (Asked via declaration owed) s = record { inbox = refl; none = λ body. refl }
back_leaves code (Spent owed) s = record { inbox = refl; none = λ body. refl }

order_leaves : (order : Order) (s : State) → LeavesAlone s (order_obeyed order s)
order_leaves (Coo n fsn) s = at_leaves n s (λ link. changed_over (Upto fsn) n link link.phase s)
    (λ link. over_leaves (Upto fsn) n link link.phase s) (slice_get s.links n)
order_leaves (Eco n) s = at_leaves n s (λ link. changed_over Unknown n link link.phase s)
    (λ link. over_leaves Unknown n link link.phase s) (slice_get s.links n)
order_leaves (Coa n fsn) s = at_leaves n s (λ link. answered (Upto fsn) n link link.phase s)
    (λ link. answer_leaves (Upto fsn) n link link.phase s) (slice_get s.links n)
order_leaves (Eca n) s = at_leaves n s (λ link. answered Unknown n link link.phase s) (λ link. answer_leaves Unknown n link link.phase s) (slice_get s.links n)
order_leaves (Cbd n code) s = record { inbox = refl; none = λ body. refl }
order_leaves (Cba n code) s = back_leaves code (code_of code s.routing) s

obeyed_leaves : (order : Option Order) (s : State) → LeavesAlone s (obeyed order s)
obeyed_leaves None s = record { inbox = refl; none = λ body. refl }
obeyed_leaves (Some order) s = order_leaves order s

-- EACH EVENT
module _ (s : State) (event : Event) where
  -- what was delivered stands last, and what was handed out stood first
  abbrev pub Passes : Outcome → Type 0
  Passes o = s.inbox ++ delivered_by o.answer event ≡ handed_by o.answer ++ o.state.inbox

  done : (t : State) → t.inbox ≡ s.inbox → Passes (record { answer = Done; state = t })
  done t e = append-nil s.inbox ∙ sym e

  on_passes : (n : ℕ) (f : LinkState → Outcome) → ((link : LinkState) → Passes (f link)) → Passes (with_known (slice_get s.links n) s f)
  on_passes n f all = go (slice_get s.links n)
    where
      go : (there : Option LinkState) → Passes (with_known there s f)
      go None = append-nil s.inbox
      go (Some link) = all link

  in_passes : (n : ℕ) (f : LinkState → Outcome) → ((link : LinkState) → Passes (f link)) → Passes (in_service n s f)
  in_passes n f all = on_passes n (λ link. cond (has_phase_up link.phase) (f link) (refused s NotUp)) (λ link. go link (has_phase_up link.phase))
    where
      go : (link : LinkState) (b : Bool) → Passes (cond b (f link) (refused s NotUp))
      go link true = all link
      go link false = append-nil s.inbox

  offer_passes : (body : List ℕ) (o : Option SetRefusal) → Passes (offered o s body)
  offer_passes body None = append-nil s.inbox
  offer_passes body (Some why) = append-nil s.inbox

  take_passes : (inbox : List (List ℕ)) → s.inbox ≡ inbox → Passes (taken inbox s)
  take_passes [] e = append-nil s.inbox
  take_passes (body ∷ rest) e = append-nil s.inbox ∙ e

  find_passes : (number : ℕ) (o : Option Fate) → Passes (found o number s)
  find_passes number None = append-nil s.inbox
  find_passes number (Some fate) = append-nil s.inbox

  rise_passes : (n : ℕ) (phase : Phase) → Passes (rises n s phase)
  rise_passes n Up = append-nil s.inbox
  rise_passes n Down = append-nil s.inbox
  rise_passes n Settled = append-nil s.inbox

  give_passes : (n : ℕ) (link : LinkState) (phase : Phase) → Passes (gives_up n s link phase)
  give_passes n link Up = append-nil s.inbox
  give_passes n link Down = append-nil s.inbox
  give_passes n link Settled = append-nil s.inbox

  time_passes_by : (n : ℕ) (link : LinkState) (o : Option Fate) → Passes (timed o n s link)
  time_passes_by n link None = append-nil s.inbox
  time_passes_by n link (Some (Waiting to)) = append-nil s.inbox
  time_passes_by n link (Some Parked) = append-nil s.inbox
  time_passes_by n link (Some (Unacked to)) = append-nil s.inbox
  time_passes_by n link (Some (Acked to)) = append-nil s.inbox
  time_passes_by n link (Some (Held to)) = append-nil s.inbox
  time_passes_by n link (Some (Back code)) = append-nil s.inbox
  time_passes_by n link (Some (Discarded cause)) = append-nil s.inbox

  time_passes : (n : ℕ) (link : LinkState) (phase : Phase) → Passes (times_out n s link phase)
  time_passes n link Up = append-nil s.inbox
  time_passes n link Down = time_passes_by n link (place link.order s.rows)
  time_passes n link Settled = append-nil s.inbox

  come_passes : (n : ℕ) → Passes (comes_back n s)
  come_passes n = go (some_declare n 0 (link_count s) s)
    where
      go : (b : Bool) → Passes (cond b (record { answer = Done; state = declared_from n 0 (link_count s) s }) (refused s Nothing))
      go true = done (declared_from n 0 (link_count s) s) (declared_inbox n 0 (link_count s) s)
      go false = append-nil s.inbox

  restore_passes : (n : ℕ) (link : LinkState) (b : Bool) → Passes (cond b (comes_back n s) (refused s NotUp))
  restore_passes n link true = come_passes n
  restore_passes n link false = append-nil s.inbox

  redeclare_passes : (n : ℕ) → Passes (redeclares n s)
  redeclare_passes n = go (some_overdue (code_for n 0) 16 s)
    where
      go : (b : Bool) → Passes (cond b (record { answer = Done; state = redeclared_from (code_for n 0) 16 s }) (refused s Nothing))
      go true = done (redeclared_from (code_for n 0) 16 s) (redeclared_inbox (code_for n 0) 16 s)
      go false = append-nil s.inbox

  run_passes : (n : ℕ) → Passes (runs_out n s)
  run_passes n = go (some_in_use (code_for n 0) 16 s)
    where
      go : (b : Bool) → Passes (cond b (record { answer = Done; state = released_from (code_for n 0) 16 s }) (refused s Nothing))
      go true = done (released_from (code_for n 0) 16 s) (released_inbox (code_for n 0) 16 s)
      go false = append-nil s.inbox

-- an accepted body of the management goes to the rules of changeover, any other to the inbox
take_in : (accept : Bool) (unit : SignalUnit) (body : List ℕ) (s : State)
    → brought accept unit ≡ cond accept (Some body) None
    → s.inbox ++ message_of (takes (brought accept unit) s).took body ≡ (takes (brought accept unit) s).state.inbox
take_in false unit body s e = rw e (append-nil s.inbox)
take_in true unit body s e = rw e (go (service_indicator body == 0))
  where
    go : (b : Bool) → s.inbox ++ message_of
        (cond b (obeyed (order_of s.settings.profile body) s)
        (record {
          took = Rattle.set_events.specs.declared.answer.Took.TheVariants.Message;
          state = record s { inbox = s.inbox ++ body ∷ [] };
        })).took body
        ≡ (cond b (obeyed (order_of s.settings.profile body) s)
        (record {
          took = Rattle.set_events.specs.declared.answer.Took.TheVariants.Message;
          state = record s { inbox = s.inbox ++ body ∷ [] };
        })).state.inbox
    go true = let alone = obeyed_leaves (order_of s.settings.profile body) s in ap
        (λ (more : List (List ℕ)). s.inbox ++ more) (alone.none body) ∙ append-nil s.inbox ∙ sym alone.inbox
    go false = refl

control_passes : (s : State) (n : ℕ) (unit : SignalUnit) (link : LinkState) → is_heard s.settings.profile unit ≡ true
    → Passes s (Heard n unit) (controls unit n s link)
control_passes s n (Fisu head) link fits = append-nil s.inbox
control_passes s n (Lssu head status) link fits = absurd cc
control_passes s n (Msu head body) link fits =
    let part = part_of link.control (window_of n link s.rows) head true in
    take_in part.accept (Msu head body) body.items (after_control part head (Msu head body) n s link) refl

hear_passes : (s : State) (n : ℕ) (unit : SignalUnit) (link : LinkState) → Passes s (Heard n unit) (heard unit n s link)
hear_passes s n unit link = go (is_heard s.settings.profile unit) refl
  where
    go : (b : Bool) → is_heard s.settings.profile unit ≡ b → Passes s (Heard n unit) (heard unit n s link)
    go true e = rw e (control_passes s n unit link e)
    go false e = rw e (append-nil s.inbox)

pub event_passes : (s : State) (event : Event) → Passes s event (step s event)
unfolding step
event_passes s (Offer body) = offer_passes s (Offer body) body (offer_refusal s.settings.profile s.rows body)
event_passes s Take = take_passes s Take s.inbox refl
event_passes s (Find number) = find_passes s (Find number) number (place number s.rows)
event_passes s (Next n) = in_passes s (Next n) n (next n (cleared n s)) (λ link. append-nil s.inbox)
event_passes s (Heard n unit) = in_passes s (Heard n unit) n (heard unit n s) (λ link. hear_passes s n unit link)
event_passes s (UpEvent n) = on_passes s (UpEvent n) n (λ link. rises n s link.phase) (λ link. rise_passes s (UpEvent n) n link.phase)
event_passes s (DownEvent n) = in_passes s (DownEvent n) n (falls false n s) (λ link. append-nil s.inbox)
event_passes s (DownBlind n) = in_passes s (DownBlind n) n (falls true n s) (λ link. append-nil s.inbox)
event_passes s (NoAnswer n) = on_passes s (NoAnswer n) n (λ link. gives_up n s link link.phase) (λ link. give_passes s (NoAnswer n) n link link.phase)
event_passes s (Timed n) = on_passes s (Timed n) n (λ link. times_out n s link link.phase) (λ link. time_passes s (Timed n) n link link.phase)
event_passes s (Restore n) = in_passes s (Restore n) n (restores n s) (λ link. restore_passes s (Restore n) n link (open_link link))
event_passes s (Redeclare n) = on_passes s (Redeclare n) n (λ link. redeclares n s) (λ link. redeclare_passes s (Redeclare n) n)
event_passes s (BackTimeout n) = on_passes s (BackTimeout n) n (λ link. runs_out n s) (λ link. run_passes s (BackTimeout n) n)
event_passes s (Test n) = in_passes s (Test n) n (λ link. refused s Nothing) (λ link. append-nil s.inbox)

-- A WHOLE HISTORY, from any state
history_passes : (s : State) (entries : List Entry) → IsLegal s entries → s.inbox ++ delivered_in entries ≡ handed_in entries ++ (after s entries).inbox
history_passes s [] legal = append-nil s.inbox
history_passes s (entry ∷ entries) legal =
    let t = (step s entry.event).state in
    let here : s.inbox ++ delivered_by entry.answer entry.event ≡ handed_by entry.answer ++ t.inbox = rw legal.1 (event_passes s entry.event) in
    sym (append_assoc s.inbox (delivered_by entry.answer entry.event) (delivered_in entries))
    ∙ ap (λ (some : List (List ℕ)). some ++ delivered_in entries) here
    ∙ append_assoc (handed_by entry.answer) t.inbox (delivered_in entries)
    ∙ ap (λ (some : List (List ℕ)). handed_by entry.answer ++ some) (history_passes t entries legal.2)
    ∙ sym (append_assoc (handed_by entry.answer) (handed_in entries) (after t entries).inbox)

pub hands_out : EveryHistoryHandsOutInOrder
hands_out opening entries legal = sym (history_passes opening entries legal)
