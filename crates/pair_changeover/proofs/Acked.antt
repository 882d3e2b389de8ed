-- WHAT IS ACKNOWLEDGED STAYS SO: of one end, what counts as acknowledged on a link are the first of the messages that
-- were sent on it, and each of those stands acknowledged there; what is unacknowledged is the rest of them, unless it
-- was given up (`AckedFirst`). `acked_first` says that every event of a sound set keeps this; but for Next and Up an
-- event is a walk of small changes (`step_walks`, set_model's Walk.antt). Acknowledging turns the first of the
-- unacknowledged rows (`first_turned`, by induction on the rows), and no number stands in two of them. Whole.antt,
-- Arriving.antt and Runs.antt use it.
use Rattle.std.proofs.Common.{refl, arith, ◌≡◌, ◌∙◌, ap, sym, subst, ℕ, zero, suc, ◌+◌, ◌-◌, ◌≤◌, ◌==◌, Bool, true, false, not, List, [], ◌∷◌, ◌++◌, All, length, map, take, drop, slice_get, slice_set, Option, Some, None, replicate, ◌⊎◌, inl, inr, ◌||◌, if◌then◌else◌}
use Rattle.std.proofs.lemmas.Bool.{eqb-true}
use Rattle.std.proofs.lemmas.List.{append-nil, length-append, length-drop, length-map, map-append, drop-map, take-append-le, drop-append-le, drop-drop}
use Rattle.std.proofs.lemmas.List.Elements.{All-nil, All-cons, All-head, All-tail, All-append}
use Rattle.std.proofs.Math.Seq.{drop-length, drop-nil, drop-append_seam, take-add}
use Rattle.l2_units.specs.declared.unit.Unit.{Unit as SignalUnit}
use Rattle.l2_units.specs.Grammar.{head_of as header_in}
use Rattle.l3_orders.specs.declared.order.Order.{Order}
use Rattle.l3_orders.specs.Grammar.{text}
use Rattle.set_events.specs.declared.answer.DiscardCause.{DiscardCause}
use Rattle.set_events.specs.declared.answer.DiscardCause.TheVariants.{NoAnswer as NoAnswerCame}
use Rattle.set_events.specs.declared.answer.Fate.{Fate}
use Rattle.set_events.specs.declared.answer.Fate.TheVariants.{Waiting, Unacked, Acked, Discarded}
use Rattle.set_events.specs.declared.event.Event.{Event}
use Rattle.set_events.specs.declared.event.Event.TheVariants.{Offer, Take, Find, Next, Heard, Up as UpEvent, Down as DownEvent, DownBlind, NoAnswer, Timed, Restore, Redeclare, BackTimeout, Test}
use Rattle.set_model.specs.declared.phase.Phase.{Phase}
use Rattle.set_model.specs.declared.phase.Phase.TheVariants.{Up, Down, Settled}
use Rattle.set_model.specs.declared.reached.Reached.{Reached}
use Rattle.set_model.specs.Changeover.{fate_on, queued, left_by, left_link, out_of_service, declared, acknowledged_code, redeclared_on, released, acknowledged as acknowledged_link, acknowledged_by, answered_link, cleared, moved_over, settled, settled_link, taken_back, withdrawn}
use Rattle.set_model.specs.Control.{Choice, again, first, fill, choice_of, part_of}
use Rattle.set_model.specs.Rows.{orders_changed, Fate, is_users, is_parked, same_fate, waits, Row, all_with, is_waiting, is_unacked, is_on, is_back, is_back_to, is_parked, stands_back, octets_in, stream_of, turned, changed, moved, appended, with_fate, place, unack, wait, IsNumbered, IsInOrder}
use Rattle.set_model.specs.Sound.{IsSound}
use Rattle.set_model.specs.State.{late_at, FinishedCounts, all_finished, given, LinkState, State, Settings, has_phase_settled, is_settled, is_up, link_is_settled, new_link, opened_with, fate_at, On, target, window_of, with_link}
use Rattle.set_model.specs.Step.{opened, opened_link, risen, risen_link, with_known, is_msu, after_control, next, offered, rises, rows_sent, step, takes}
use Rattle.std.proofs.lemmas.Bool.{cond_both}
use Rattle.set_model.proofs.Ahead.{put_length, put_out, numbered_put}
use Rattle.set_model.proofs.Events.{sent_by, ChangesOn, acknowledged, appended_out, unparked, withdrawn_rows}
use Rattle.set_model.proofs.Events as events
use Rattle.set_model.proofs.Rows.{picked_there, with_number, numbered_appended, turned_there, turned_left, turned_same, changed_left, at_most_one, moved_length, moved_numbered, moved_same, new_row}
use Rattle.set_model.proofs.Lists.{set_twice, get_set_same, get_set_other, same_at, within}
use Rattle.set_model.proofs.Places.{false_true, itself, apart_back, on_other, not_on_unacked, back_not_on, code_back, home_back}
use Rattle.set_model.proofs.Staying.{acked_few, not_sent, offered_out}
use Rattle.set_model.proofs.Settling.{settled_empty}
use Rattle.set_model.proofs.Walk.{IsAt, KeptBy, settle_walks, takes_walks, step_walks}
use Rattle.set_route.specs.Routing.{place_of}
use Rattle.pair_model.specs.Run.{Message, Past, messages, first_sent, past_sent, past_risen}
use Rattle.pair_model.proofs.Moving.{next_refused}
use Rattle.pair_model.proofs.Runs.{is_at_up}
use Rattle.pair_model.proofs.Sending.{next_is, cleared_at, cleared_sends, cleared_sound, overtaken}
use Rattle.pair_changeover.proofs.Staying.{picked_stay, Stays, turned_stay, changed_stay, moved_stay, joined_stay, put_stay}
use Rattle.pair_changeover.proofs.Views.{acked_of, acked_on}

abbrev pub AreAcked : ℕ → List Row → List Message → Type 0
AreAcked l rows sent = All (λ message. place message.number rows ≡ Some (Acked l)) sent

-- what is unacknowledged is the rest of what was sent, unless it was given up
abbrev pub IsRest : ℕ → LinkState → List Row → List Message → Type 0
IsRest l link rows sent = (messages (unack l rows) ≡ drop link.acked sent) ⊎ ((link.phase ≡ Down) × (unack l rows ≡ []))

pub record AckedFirst (l : ℕ) (sent : List Message) (s : State) : Type 0 where
  pub numbered : IsNumbered (given s) s.rows
  pub few : acked_on l s ≤ length sent
  pub first : AreAcked l s.rows (take (acked_on l s) sent)
  pub going : (link : LinkState) → slice_get s.links l ≡ Some link → has_phase_settled link.phase ≡ false → IsRest l link s.rows sent

abbrev message_of : Row → Message
message_of row = record { number = row.number; body = row.body; users = row.users }

all_then : {X : Type 0} (P Q : X → Type 0) → ((x : X) → P x → Q x) → (xs : List X) → All P xs → All Q xs
all_then P Q f [] all = All-nil Q
all_then P Q f (x ∷ xs) all = All-cons Q x xs (f x (All-head P x xs all)) (all_then P Q f xs (All-tail P x xs all))

still : (l : ℕ) (rows new : List Row) → Stays (Acked l) rows new → (sent : List Message) → AreAcked l rows sent → AreAcked l new sent
still l rows new stay sent are =
    all_then (λ m. place m.number rows ≡ Some (Acked l)) (λ m. place m.number new ≡ Some (Acked l))
    (λ m e. stay m.number e) sent are

-- THE FIRST OF THE UNACKNOWLEDGED stand acknowledged once they turned, since no other row has their numbers.
AreApart : List Row → Type 0
AreApart rows = (number : ℕ) → length (with_number number rows) ≤ 1

apart_behind : (x : Row) (xs : List Row) → AreApart (x ∷ xs) → AreApart xs
unfolding AreApart
apart_behind x xs apart number = go (x.number == number) refl
  where
    go : (b : Bool) → (x.number == number) ≡ b → length (with_number number xs) ≤ 1
    go true h = let m : length (x ∷ with_number number xs) ≤ 1 = rw h at (apart number) in omega (arith, m)
    go false h = let m : length (with_number number xs) ≤ 1 = rw h at (apart number) in m

has_row : (number : ℕ) (rows : List Row) (fate : Fate) → place number rows ≡ Some fate → 1 ≤ length (with_number number rows)
has_row number [] fate e = absurd cc
has_row number (x ∷ rows) fate e = go (x.number == number) refl (has_row number rows fate)
  where
    go : (b : Bool) → (x.number == number) ≡ b → (place number rows ≡ Some fate → 1 ≤ length (with_number number rows))
        → 1 ≤ length (with_number number (x ∷ rows))
    go true h later = rw h (omega arith)
    go false h later = rw h (later (rw h at e))

found_behind : (x y : Row) (xs ys : List Row) → AreApart (x ∷ xs) → y.number ≡ x.number
    → ((number : ℕ) → length (with_number number ys) ≡ length (with_number number xs)) → (number : ℕ) (fate : Fate)
    → place number ys ≡ Some fate → place number (y ∷ ys) ≡ Some fate
unfolding AreApart
found_behind x y xs ys apart same many number fate e = go (y.number == number) refl
  where
    go : (b : Bool) → (y.number == number) ≡ b → place number (y ∷ ys) ≡ Some fate
    go true h =
        let first : (x.number == number) ≡ true = ap (λ (n : ℕ). n == number) (sym same) ∙ h in
        let one : length (x ∷ with_number number xs) ≤ 1 = rw first at (apart number) in
        let another = has_row number ys fate e in
        absurd (omega (arith, one, another, many number))
    go false h = rw h e

first_turned : (l count : ℕ) (rows : List Row) → AreApart rows → AreAcked l (turned (is_unacked l) (Acked l) count rows) (take count (messages (unack l rows)))
first_turned l zero rows apart = All-nil _
first_turned l (suc n) [] apart = All-nil _
first_turned l (suc n) (x ∷ rows) apart =
    go (is_unacked l x.fate) refl (first_turned l n rows (apart_behind x rows apart))
    (first_turned l (suc n) rows (apart_behind x rows apart))
  where
    behind : (y : Row) (count : ℕ) → y.number ≡ x.number → (sent : List Message)
        → AreAcked l (turned (is_unacked l) (Acked l) count rows) sent
        → AreAcked l (y ∷ turned (is_unacked l) (Acked l) count rows) sent
    behind y count same sent are =
        let new = turned (is_unacked l) (Acked l) count rows in
        let many : (number : ℕ) → length (with_number number new) ≡ length (with_number number rows) =
        λ number. (turned_there (is_unacked l) (Acked l) count rows).as_many (λ row. row.number == number)
        (λ f r. refl) in
        still l new (y ∷ new) (λ number e. found_behind x y rows new apart same many number (Acked l) e) sent are

    at_front : place x.number (with_fate (Acked l) x ∷ turned (is_unacked l) (Acked l) n rows) ≡ Some (Acked l)
    at_front = rw (itself x.number) refl

    go : (b : Bool) → is_unacked l x.fate ≡ b
        → AreAcked l (turned (is_unacked l) (Acked l) n rows) (take n (messages (unack l rows)))
        → AreAcked l (turned (is_unacked l) (Acked l) (suc n) rows) (take (suc n) (messages (unack l rows)))
        → AreAcked l (turned (is_unacked l) (Acked l) (suc n) (x ∷ rows)) (take (suc n) (messages (unack l (x ∷ rows))))
    go true h p q = rw h (All-cons
        (λ m. place m.number (with_fate (Acked l) x ∷ turned (is_unacked l) (Acked l) n rows) ≡ Some (Acked l))
        (message_of x) (take n (messages (unack l rows))) at_front
        (behind (with_fate (Acked l) x) n refl (take n (messages (unack l rows))) p))
    go false h p q = rw h (behind x (suc n) refl (take (suc n) (messages (unack l rows))) q)

-- MORE OF A LINK IS ACKNOWLEDGED: the first of its unacknowledged messages.
pub record Grown (l acked : ℕ) (sent : List Message) (rows : List Row) : Type 0 where
  pub few : acked ≤ length sent
  pub first : AreAcked l rows (take acked sent)
  pub rest : messages (unack l rows) ≡ drop acked sent

grown : (given l acked count : ℕ) (sent : List Message) (rows : List Row) → IsNumbered given rows → acked ≤ length sent
    → AreAcked l rows (take acked sent) → messages (unack l rows) ≡ drop acked sent → count ≤ length (unack l rows)
    → Grown l (acked + count) sent (turned (is_unacked l) (Acked l) count rows)
unfolding AreApart
grown given l acked count sent rows numbered few are rest enough =
    let new = turned (is_unacked l) (Acked l) count rows in
    let one_part = still l rows new (turned_stay (Acked l) (is_unacked l) refl (Acked l) count rows) (take acked sent) are in
    let other_part = first_turned l count rows (λ number. at_most_one given number rows numbered) in
    let many : length (unack l rows) ≡ length sent - acked = sym (length-map (unack l rows) message_of) ∙ ap length rest ∙ length-drop acked sent in
    record {
      few = omega (arith, few, enough, many);
      first = subst (AreAcked l new)
          (sym (take-add acked count sent ∙ ap (λ (ms : List Message). take acked sent ++ take count ms) (sym rest)))
          (All-append (λ m. place m.number new ≡ Some (Acked l)) (take acked sent)
          (take count (messages (unack l rows))) one_part other_part);
      rest = ap messages (turned_left (is_unacked l) (Acked l) refl count rows)
          ∙ sym (drop-map message_of count (unack l rows)) ∙ ap (drop count) rest ∙ drop-drop count acked sent;
    }

-- ONE END.
-- numbers given out, where as many rows are there
pub numbered_on : (s t : State) → t.finished ≡ s.finished → length t.rows ≡ length s.rows → IsNumbered (given s) t.rows → IsNumbered (given t) t.rows
numbered_on s t gone long numbered =
    subst (λ (n : ℕ). IsNumbered n t.rows)
    (sym (ap (λ (f : FinishedCounts). all_finished f + length t.rows) gone
    ∙ ap (λ (n : ℕ). all_finished s.finished + n) long)) numbered

never_acked : (l : ℕ) (from : Fate) → (waits from || is_parked from) ≡ true → same_fate (Acked l) from ≡ false
never_acked l from unsent = grind arith

module _ (l : ℕ) (sent : List Message) where
  -- nothing that is told of the link changed
  goes_on : (s t : State) → IsNumbered (given t) t.rows → Stays (Acked l) s.rows t.rows
      → slice_get t.links l ≡ slice_get s.links l → unack l t.rows ≡ unack l s.rows → AckedFirst l sent s
      → AckedFirst l sent t
  goes_on s t numbered stay same unacked a =
      let count : acked_on l t ≡ acked_on l s = ap acked_of same in
      record {
        numbered = numbered;
        few = omega (arith, count, a.few);
        first = subst (λ (n : ℕ). AreAcked l t.rows (take n sent)) (sym count) (still l s.rows t.rows stay (take (acked_on l s) sent) a.first);
        going = λ link there unsettled. subst
            (λ (rows : List Row). (messages rows ≡ drop link.acked sent) ⊎ ((link.phase ≡ Down) × (rows ≡ [])))
            (sym unacked) (a.going link (sym same ∙ there) unsettled);
      }

  -- the link itself is set
  own_set : (s t : State) (link after : LinkState) → slice_get s.links l ≡ Some link
      → t.links ≡ slice_set s.links l after → IsNumbered (given t) t.rows → after.acked ≤ length sent
      → AreAcked l t.rows (take after.acked sent) → (has_phase_settled after.phase ≡ false → IsRest l after t.rows sent)
      → AckedFirst l sent t
  own_set s t link after there links numbered few are rest =
      let found : slice_get t.links l ≡ Some after = ap (λ (ls : List LinkState). slice_get ls l) links
      ∙ get_set_same s.links l after (within s.links l link there) in
      let count : acked_on l t ≡ after.acked = ap acked_of found in
      record {
        numbered = numbered;
        few = omega (arith, count, few);
        first = subst (λ (n : ℕ). AreAcked l t.rows (take n sent)) (sym count) are;
        going = λ other is unsettled.
            let same : after ≡ other = sym (same_at t.links l after other found is) in
            subst (λ (k : LinkState). IsRest l k t.rows sent) same (rest (ap (λ (k : LinkState). has_phase_settled k.phase) same ∙ unsettled));
      }

  at_link : (s : State) (link : LinkState) → slice_get s.links l ≡ Some link → AckedFirst l sent s
      → (link.acked ≤ length sent) × AreAcked l s.rows (take link.acked sent)
  at_link s link there a =
      let count : acked_on l s ≡ link.acked = ap acked_of there in
      let few = a.few in
      (omega (arith, count, few), subst (λ (n : ℕ). AreAcked l s.rows (take n sent)) count a.first)

  -- so many of its unacknowledged messages are acknowledged
  own_acked : (count : ℕ) (link after : LinkState) (s t : State) → t.finished ≡ s.finished
      → slice_get s.links l ≡ Some link → t.links ≡ slice_set s.links l after
      → t.rows ≡ turned (is_unacked l) (Acked l) count s.rows → after.acked ≡ link.acked + count
      → after.phase ≡ link.phase → has_phase_settled link.phase ≡ false → count ≤ length (unack l s.rows)
      → AckedFirst l sent s → AckedFirst l sent t
  own_acked count link after s t gone there links rows acked phase unsettled enough a = go (a.going link there unsettled)
    where
      new : List Row
      new = turned (is_unacked l) (Acked l) count s.rows

      numbered : IsNumbered (given t) t.rows
      numbered = numbered_on s t gone (rw rows (acknowledged l count s.rows).kept.count)
          (rw rows ((acknowledged l count s.rows).kept.numbered (given s) a.numbered))

      go : IsRest l link s.rows sent → AckedFirst l sent t
      go (inl rest) =
          let now = at_link s link there a in
          let g = grown (given s) l link.acked count sent s.rows a.numbered now.0 now.1 rest enough in
          own_set s t link after there links numbered (rw acked g.few) (rw (acked, rows) g.first) (λ e. inl (rw (acked, rows) g.rest))
      go (inr none) =
          let now = at_link s link there a in
          let few = ap length none.1 in
          let same : after.acked ≡ link.acked = omega (arith, acked, enough, few) in
          let are : AreAcked l t.rows (take link.acked sent) =
          rw rows (still l s.rows new (turned_stay (Acked l) (is_unacked l) refl (Acked l) count s.rows)
          (take link.acked sent) now.1) in
          own_set s t link after there links numbered (rw same now.0) (rw same are)
          (λ e. inr (
            phase ∙ none.0,
            ap (unack l) rows ∙ turned_left (is_unacked l) (Acked l) refl count s.rows
                ∙ ap (drop count) none.1 ∙ drop-nil count,
          ))

  -- another link is set
  other_set : (n : ℕ) (after : LinkState) (links : List LinkState) → (n == l) ≡ false → slice_get (slice_set links n after) l ≡ slice_get links l
  other_set n after links d = get_set_other links n l after (λ same. false_true (n == l) d (rw same (itself l)))

  -- what is done to any link is kept if it is for this link and for the others
  by_link : (n : ℕ) (P : ℕ → Type 0) → P l → ((n == l) ≡ false → P n) → P n
  by_link n P own others = go (n == l) refl
    where
      go : (b : Bool) → (n == l) ≡ b → P n
      go true e = subst P (sym (eqb-true n l e)) own
      go false e = others e

  -- THE SMALL CHANGES
  appends : (s t : State) (body : List ℕ) (fate : Fate) → t.finished ≡ s.finished → is_unacked l fate ≡ false
      → t.rows ≡ appended (given s) s.rows body fate → slice_get t.links l ≡ slice_get s.links l → AckedFirst l sent s
      → AckedFirst l sent t
  appends s t body fate gone unsent rows links a =
      let long : length t.rows ≡ length s.rows + 1 = ap length rows ∙ length-append s.rows (new_row (given s) body fate ∷ []) in
      let more : given t ≡ given s + 1 = omega (arith, long, ap all_finished gone) in
      let numbered : IsNumbered (given s + 1) t.rows = rw rows (numbered_appended (given s) s.rows body fate a.numbered) in
      goes_on s t (subst (λ (n : ℕ). IsNumbered n t.rows) (sym more) numbered)
      (rw rows (joined_stay (Acked l) s.rows _)) links
      (ap (unack l) rows ∙ appended_out (given s) s.rows body fate (is_unacked l) unsent) a

  puts : (order : Order) (s : State) → AckedFirst l sent s → AckedFirst l sent (queued order s)
  puts order s a =
      let body = text s.settings.profile order s.settings.sio s.settings.dpc s.settings.opc in
      let fate = fate_on (target s.links) in
      let t = queued order s in
      let long : length t.rows ≡ length s.rows + 1 = put_length (given s) s.rows body fate in
      let more : given t ≡ given s + 1 = omega (arith, long) in
      goes_on s t (subst (λ (n : ℕ). IsNumbered n t.rows) (sym more) (numbered_put (given s) s.rows body fate a.numbered))
      (put_stay (Acked l) (given s) s.rows body fate a.numbered) refl
      (put_out (λ (row : Row). is_unacked l row.fate) (given s) s.rows body fate (not_sent l (target s.links))) a

  -- what stood back goes elsewhere
  turns : (test : Fate → Bool) (fate : Row → Fate) (s t : State) → t.finished ≡ s.finished → test (Acked l) ≡ false
      → ((f : Fate) → test f ≡ true → stands_back f ≡ true) → ((row : Row) → is_unacked l (fate row) ≡ false)
      → t.rows ≡ moved test fate s.rows → t.links ≡ s.links → AckedFirst l sent s → AckedFirst l sent t
  turns test fate s t gone w back unsent rows links a =
      goes_on s t (numbered_on s t gone (rw rows (moved_length test fate s.rows))
      (rw rows (moved_numbered test fate (given s) s.rows a.numbered)))
      (rw rows (moved_stay (Acked l) test w (given s) fate s.rows a.numbered))
      (ap (λ (ks : List LinkState). slice_get ks l) links)
      (ap (unack l) rows ∙ moved_same test (is_unacked l) fate s.rows unsent (λ f e. not_on_unacked l f (back_not_on l f (back f e)))) a

  leaves_own : (blind : Bool) (link : LinkState) (s : State) → IsAt l link Up s → AckedFirst l sent s → AckedFirst l sent (out_of_service blind l link s)
  leaves_own blind link s at a = let now =
      at_link s link at.there a in own_set s (out_of_service blind l link s) link (left_link blind (given s) link) at.there refl
      a.numbered now.0 now.1 (λ e. go (a.going link at.there (ap has_phase_settled at.phase_is)))
    where
      go : IsRest l link s.rows sent → IsRest l (left_link blind (given s) link) s.rows sent
      go (inl rest) = inl rest
      go (inr none) = inr (refl, none.1)

  leaves_any : (blind : Bool) (n : ℕ) (link : LinkState) (s : State) → IsAt n link Up s → AckedFirst l sent s → AckedFirst l sent (left_by blind n link s)
  leaves_any blind n link s at a =
      let out = out_of_service blind n link s in
      turns (is_back_to n) _ out (left_by blind n link s) refl refl (home_back n) (λ row. offered_out l _ out) refl refl
      (by_link n (λ m. IsAt m link Up s → AckedFirst l sent (out_of_service blind m link s))
      (λ here. leaves_own blind link s here a)
      (λ d here. goes_on s out a.numbered (λ number e. e) (other_set n (left_link blind (given s) link) s.links d) refl a) at)

  acknowledges_any : (count n : ℕ) (link after : LinkState) (s t : State) → t.finished ≡ s.finished
      → slice_get s.links n ≡ Some link → t.links ≡ slice_set s.links n after
      → t.rows ≡ turned (is_unacked n) (Acked n) count s.rows → after.acked ≡ link.acked + count
      → after.phase ≡ link.phase → has_phase_settled link.phase ≡ false → count ≤ length (unack n s.rows)
      → AckedFirst l sent s → AckedFirst l sent t
  acknowledges_any count n link after s t gone there links rows acked phase unsettled enough a =
      by_link n (λ m. slice_get s.links m ≡ Some link → t.links ≡ slice_set s.links m after
      → t.rows ≡ turned (is_unacked m) (Acked m) count s.rows → count ≤ length (unack m s.rows)
      → AckedFirst l sent t)
      (λ at ls rs few. own_acked count link after s t gone at ls rs acked phase unsettled few a)
      (λ d at ls rs few. goes_on s t
      (numbered_on s t gone (rw rs (acknowledged n count s.rows).kept.count)
      (rw rs ((acknowledged n count s.rows).kept.numbered (given s) a.numbered)))
      (rw rs (turned_stay (Acked l) (is_unacked n) refl (Acked n) count s.rows))
      (ap (λ (ks : List LinkState). slice_get ks l) ls ∙ other_set n after s.links d)
      (ap (unack l) rs ∙ ((acknowledged n count s.rows).others l d).unack_same) a)
      there links rows enough

  gives_up_own : (cause : DiscardCause) (link : LinkState) (s : State) → IsAt l link Down s → AckedFirst l sent s
      → AckedFirst l sent (record s { rows = changed (is_unacked l) (Discarded cause) s.rows })
  gives_up_own cause link s at a = record {
    numbered = numbered_on s (record s { rows = changed (is_unacked l) (Discarded cause) s.rows }) refl
        (events.given_up l true cause s.rows).kept.count
        ((events.given_up l true cause s.rows).kept.numbered (given s) a.numbered);
    few = a.few;
    first = still l s.rows (changed (is_unacked l) (Discarded cause) s.rows)
        (changed_stay (Acked l) (is_unacked l) refl (Discarded cause) s.rows) (take (acked_on l s) sent) a.first;
    going = λ other there unsettled. inr (
      ap (λ (k : LinkState). k.phase) (same_at s.links l link other at.there there)
          ∙ at.phase_is,
      changed_left (is_unacked l) (Discarded cause) refl s.rows,
    );
  }

  moves_off_any : (told : Bool) (n : ℕ) (link : LinkState) (s : State) → IsAt n link Down s → AckedFirst l sent s → AckedFirst l sent (moved_over told n link s)
  moves_off_any told n link s at a =
      by_link n (λ m. IsAt m link Down s → AckedFirst l sent (moved_over told m link s))
      (λ here. let now = at_link s link here.there a in own_set s (moved_over told l link s) link
      (settled_link told link) here.there refl (numbered l) now.0
      (still l s.rows (moved_over told l link s).rows (stay l) (take link.acked sent) now.1) (λ e. absurd cc))
      (λ d there. goes_on s (moved_over told n link s) (numbered n) (stay n)
      (other_set n (settled_link told link) s.links d)
      (moved_same (is_on n) (is_unacked l) (all_with (fate_on (target s.links))) s.rows
      (λ x. not_sent l (target s.links)) (λ f e. not_on_unacked l f (on_other l n (apart_back n l d) f e))) a)
      at
    where
      numbered : (m : ℕ) → IsNumbered (given (moved_over told m link s)) (moved (is_on m) (all_with (fate_on (target s.links))) s.rows)
      numbered m = numbered_on s (moved_over told m link s) refl
          (moved_length (is_on m) (all_with (fate_on (target s.links))) s.rows)
          (moved_numbered (is_on m) (all_with (fate_on (target s.links))) (given s) s.rows a.numbered)

      stay : (m : ℕ) → Stays (Acked l) s.rows (moved (is_on m) (all_with (fate_on (target s.links))) s.rows)
      stay m = moved_stay (Acked l) (is_on m) refl (given s) (all_with (fate_on (target s.links))) s.rows a.numbered

  -- one that settled is answered
  answers_any : (n : ℕ) (link : LinkState) (s : State) → IsAt n link Settled s → AckedFirst l sent s → AckedFirst l sent (with_link n (answered_link link) s)
  answers_any n link s at a =
      by_link n (λ m. IsAt m link Settled s → AckedFirst l sent (with_link m (answered_link link) s))
      (λ here. let now = at_link s link here.there a in own_set s (with_link l (answered_link link) s) link
      (answered_link link) here.there refl a.numbered now.0 now.1
      (λ e. absurd (let no : true ≡ false = sym (ap has_phase_settled here.phase_is) ∙ e in cc)))
      (λ d there. goes_on s (with_link n (answered_link link) s) a.numbered (λ number e. e) (other_set n (answered_link link) s.links d) refl a)
      at

  -- and what waits may be given up
  pub withdraws_any : (count n : ℕ) (s : State) → AckedFirst l sent s → AckedFirst l sent (withdrawn count n s)
  withdraws_any count n s a =
      let g = withdrawn_rows count n s.rows in
      goes_on s (withdrawn count n s)
      (numbered_on s (withdrawn count n s) refl g.kept.count (g.kept.numbered (given s) a.numbered))
      (turned_stay (Acked l) (is_waiting n) refl (Discarded NoAnswerCame) count s.rows) refl
      (turned_same (is_waiting n) (is_unacked l) (Discarded NoAnswerCame) refl (λ f e. grind arith) count s.rows) a

  -- a link opens, and what was parked waits for it
  opens_any : (n : ℕ) (link : LinkState) (s : State) → IsAt n link Up s → AckedFirst l sent s → AckedFirst l sent (opened n link s)
  opens_any n link s at a = by_link n (λ m. IsAt m link Up s → AckedFirst l sent (opened m link s)) own others at
    where
      numbers_stay : (m : ℕ) → IsNumbered (given (opened m link s)) (opened m link s).rows
      numbers_stay m = let u = unparked m s.rows in numbered_on s (opened m link s) refl u.kept.count (u.kept.numbered (given s) a.numbered)

      stays : (m : ℕ) → Stays (Acked l) s.rows (opened m link s).rows
      stays m = moved_stay (Acked l) is_parked refl (given s) (all_with (Waiting m)) s.rows a.numbered

      own : IsAt l link Up s → AckedFirst l sent (opened l link s)
      own here =
          let now = at_link s link here.there a in
          own_set s (opened l link s) link (opened_link link) here.there refl (numbers_stay l) now.0
          (still l s.rows (opened l link s).rows (stays l) (take link.acked sent) now.1)
          (λ e. subst (λ (rows : List Row). (messages rows ≡ drop link.acked sent) ⊎ ((link.phase ≡ Down) × (rows ≡ [])))
          (sym (unparked l s.rows).unack_same) (a.going link here.there (ap has_phase_settled here.phase_is)))

      others : (n == l) ≡ false → IsAt n link Up s → AckedFirst l sent (opened n link s)
      others d here = goes_on s (opened n link s) (numbers_stay n) (stays n) (other_set n _ s.links d) (((unparked n s.rows).others l d).unack_same) a

  -- whatever small change is made
  pub small : (Known : ℕ → Type 0) (May : Type 0) → KeptBy Known May (λ s t. AckedFirst l sent s → AckedFirst l sent t)
  small Known May = record {
    same = λ s a. a;
    after = λ s t u p q a. q (p a);
    delivers = λ body s a. record { numbered = a.numbered; few = a.few; first = a.first; going = a.going };
    queues = λ order s a. puts order s a;
    leaves = λ blind n link s known at a. leaves_any blind n link s at a;
    acknowledges = λ count n link s known at enough g a. acknowledges_any count n link (acknowledged_link count link) s
        (acknowledged_by count n link s) refl at.there refl refl refl refl (ap has_phase_settled at.phase_is) enough a;
    gives_up = λ was_sent cause n link s known at g. cond_both was_sent (is_unacked n) (is_waiting n)
        (λ test. ChangesOn n s.rows (changed test (Discarded cause) s.rows) → AckedFirst l sent s
        → AckedFirst l sent (record s { rows = changed test (Discarded cause) s.rows }))
        (λ e g a. by_link n (λ m. IsAt m link Down s
        → AckedFirst l sent (record s { rows = changed (is_unacked m) (Discarded cause) s.rows }))
        (λ here. gives_up_own cause link s here a)
        (λ d here. goes_on s (record s { rows = changed (is_unacked n) (Discarded cause) s.rows })
        (numbered_on s (record s { rows = changed (is_unacked n) (Discarded cause) s.rows }) refl g.kept.count
        (g.kept.numbered (given s) a.numbered))
        (changed_stay (Acked l) (is_unacked n) refl (Discarded cause) s.rows) refl ((g.others l d).unack_same) a)
        at)
        (λ e g a. goes_on s (record s { rows = changed (is_waiting n) (Discarded cause) s.rows })
        (numbered_on s (record s { rows = changed (is_waiting n) (Discarded cause) s.rows }) refl g.kept.count
        (g.kept.numbered (given s) a.numbered))
        (changed_stay (Acked l) (is_waiting n) refl (Discarded cause) s.rows) refl
        (turned_same (is_waiting n) (is_unacked l) (Discarded cause) refl (λ f e. grind arith) (length s.rows)
        s.rows) a) g;
    gives_up_orders = λ cause n link s known at g a.
        goes_on s (record s { rows = orders_changed (is_waiting n) (Discarded cause) s.rows })
        (numbered_on s (record s { rows = orders_changed (is_waiting n) (Discarded cause) s.rows }) refl g.kept.count
        (g.kept.numbered (given s) a.numbered))
        (picked_stay (Acked l) (is_waiting n) refl (Discarded cause) (λ row. not (is_users row)) s.rows) refl
        ((picked_there (λ row. not (is_users row)) (is_waiting n) (Discarded cause) s.rows).same (is_unacked l) refl (λ f e. grind arith)) a;
    takes_back = λ order from s unsent known g a.
        goes_on s (taken_back order from s)
        (numbered_on s (taken_back order from s) refl g.kept.count (g.kept.numbered (given s) a.numbered))
        (picked_stay (Acked l) (λ f. same_fate f from) (never_acked l from unsent) (Discarded NoAnswerCame) (λ row. row.number == order) s.rows) refl
        (g.unack_same l) a;
    moves_off = λ told n link s known at a. moves_off_any told n link s at a;
    answers = λ n link s known at a. answers_any n link s at a;
    withdraws = λ count n link s known at g a. withdraws_any count n s a;
    declares = λ may home alternative s up can a. appends s (declared home alternative s) _ (Waiting alternative) refl refl refl refl a;
    redeclares = λ code via s due a. appends s (redeclared_on code (Some via) s) _ (fate_at (On via) s) refl (offered_out l (On via) s) refl refl a;
    acknowledges_back = λ code s known a. turns (is_back code) (all_with (Waiting _)) s (acknowledged_code code s) refl refl (code_back code) (λ row. refl) refl refl a;
    releases = λ code s known a. turns (is_back code) (all_with (Waiting _)) s (released code s) refl refl (code_back code) (λ row. refl) refl refl a;
    opens = λ n link s known at shut u a. opens_any n link s at a;
  }

  pub settles_kept : (reached : Reached) (n : ℕ) (link : LinkState) (s : State) → IsAt n link Down s
      → AckedFirst l sent s → AckedFirst l sent (settled reached n link s)
  settles_kept reached n link s at a =
      settle_walks (λ m. Unit {0}) ⊥ (λ t u. AckedFirst l sent t → AckedFirst l sent u) (small (λ m. Unit {0}) ⊥)
      reached n link s tt at a

  pub takes_kept : (body : Option (List ℕ)) (s : State) → AckedFirst l sent s → AckedFirst l sent (takes body s).state
  takes_kept body s a = takes_walks (λ m. Unit {0}) ⊥ (λ t u. AckedFirst l sent t → AckedFirst l sent u) (small (λ m. Unit {0}) ⊥) body s (λ b e o f n g. tt) a

  -- of a link in service nothing was given up
  pub rest_up : (link : LinkState) (s : State) → IsAt l link Up s → AckedFirst l sent s → messages (unack l s.rows) ≡ drop link.acked sent
  rest_up link s at a = go (a.going link at.there (ap has_phase_settled at.phase_is))
    where
      go : IsRest l link s.rows sent → messages (unack l s.rows) ≡ drop link.acked sent
      go (inl rest) = rest
      go (inr none) = absurd (let no : Up ≡ Down = sym at.phase_is ∙ none.0 in cc)

  -- A UNIT IS HEARD: its own part
  pub hears_part : (n : ℕ) (unit : SignalUnit) (link : LinkState) (s : State) → IsAt n link Up s → AckedFirst l sent s
      → AckedFirst l sent (after_control (part_of link.control (window_of n link s.rows) (header_in unit) (is_msu unit))
      (header_in unit) unit n s link)
  hears_part n unit link s at a =
      let part = part_of link.control (window_of n link s.rows) (header_in unit) (is_msu unit) in
      acknowledges_any part.acked n link _ s (after_control part (header_in unit) unit n s link) refl at.there refl refl
      refl refl (ap has_phase_settled at.phase_is) (acked_few n link s.rows (header_in unit) (is_msu unit)) a

-- A UNIT IS SENT. What the link's unacknowledged messages gain stands behind them.
sent_more : (choice : Choice) (l : ℕ) (rows : List Row) → IsInOrder l rows → (more : List Row) × (unack l (rows_sent choice l rows) ≡ unack l rows ++ more)
sent_more (again place) l rows order = ([], sym (append-nil (unack l rows)))
sent_more first l rows order = (map (with_fate (Unacked l)) (take 1 (wait l rows)), (events.sent l rows).unack_is order)
sent_more fill l rows order = ([], sym (append-nil (unack l rows)))

sent_stay : (choice : Choice) (l n : ℕ) (rows : List Row) → Stays (Acked l) rows (rows_sent choice n rows)
sent_stay (again place) l n rows = λ number e. e
sent_stay first l n rows = turned_stay (Acked l) (is_waiting n) refl (Unacked n) 1 rows
sent_stay fill l n rows = λ number e. e

sent_apart : (choice : Choice) (l n : ℕ) (rows : List Row) → (n == l) ≡ false → unack l (rows_sent choice n rows) ≡ unack l rows
sent_apart (again place) l n rows d = refl
sent_apart first l n rows d = ((events.sent n rows).others l d).unack_same
sent_apart fill l n rows d = refl

module _ (l : ℕ) (sent : List Message) (s : State) where
  -- of the link itself
  sends_own : (link : LinkState) → IsSound s → IsAt l link Up s → AckedFirst l sent s
      → AckedFirst l (sent ++ first_sent l s (next l s link).state) (next l s link).state
  sends_own link sound at a =
      let t = (next l s link).state in
      let choice = choice_of (octets_in (unack l s.rows)) link.control (window_of l link s.rows) in
      let more = sent_more choice l s.rows (sound.links l link at.there).in_order in
      let now = at_link l sent s link at.there a in
      let gained : first_sent l s t ≡ messages more.0 =
      ap (λ (rows : List Row). messages (drop (length (unack l s.rows)) rows)) more.1
      ∙ ap messages (drop-append_seam (unack l s.rows) more.0) in
      let longer = length-append sent (first_sent l s t) in
      own_set l (sent ++ first_sent l s t) s t link _ at.there refl
      (numbered_on s (next l s link).state refl (sent_by choice l s.rows).kept.count
      ((sent_by choice l s.rows).kept.numbered (given s) a.numbered)) (omega (arith, now.0, longer))
      (subst (AreAcked l t.rows) (sym (take-append-le link.acked sent (first_sent l s t) now.0))
      (still l s.rows t.rows (sent_stay choice l l s.rows) (take link.acked sent) now.1))
      (λ e. inl (ap messages more.1 ∙ map-append message_of (unack l s.rows) more.0
      ∙ ap (λ (ms : List Message). ms ++ messages more.0) (rest_up l sent link s at a)
      ∙ ap (λ (ms : List Message). drop link.acked sent ++ ms) (sym gained)
      ∙ sym (drop-append-le link.acked sent (first_sent l s t) now.0)))

  pub sends_any : (n : ℕ) (link : LinkState) → IsSound s → IsAt n link Up s → AckedFirst l sent s
      → AckedFirst l (if l == n then sent ++ first_sent n s (next n s link).state else sent) (next n s link).state
  sends_any n link sound at a = go (l == n) refl
    where
      go : (b : Bool) → (l == n) ≡ b → AckedFirst l (if b then sent ++ first_sent n s (next n s link).state else sent) (next n s link).state
      go true e = subst (λ (m : ℕ). IsAt m link Up s
          → AckedFirst l (sent ++ first_sent m s (next m s link).state) (next m s link).state) (eqb-true l n e)
          (λ here. sends_own link sound here a) at
      go false e =
          let choice = choice_of (octets_in (unack n s.rows)) link.control (window_of n link s.rows) in
          let d = apart_back l n e in
          goes_on l sent s (next n s link).state
          (numbered_on s (next n s link).state refl (sent_by choice n s.rows).kept.count
          ((sent_by choice n s.rows).kept.numbered (given s) a.numbered)) (sent_stay choice l n s.rows)
          (other_set l sent n _ s.links d) (sent_apart choice l n s.rows d) a

  -- one that isn't in service sends nothing
  sends_none : (n : ℕ) → AckedFirst l sent s → AckedFirst l (if l == n then sent ++ first_sent n s s else sent) s
  sends_none n a = go (l == n)
    where
      none : sent ++ first_sent n s s ≡ sent
      none = ap (λ (rows : List Row). sent ++ messages rows) (drop-length (unack n s.rows)) ∙ append-nil sent

      go : (b : Bool) → AckedFirst l (if b then sent ++ first_sent n s s else sent) s
      go true = subst (λ (ms : List Message). AckedFirst l ms s) (sym none) a
      go false = a

module _ (l : ℕ) (sent : List Message) (s : State) where
  next_kept : (n : ℕ) → IsSound s → AckedFirst l sent s
      → AckedFirst l (if l == n then sent ++ first_sent n s (step s (Next n)).state else sent) (step s (Next n)).state
  next_kept n sound a = go (is_up n s) refl
    where
      go : (b : Bool) → is_up n s ≡ b → AckedFirst l (if l == n then sent ++ first_sent n s (step s (Next n)).state else sent) (step s (Next n)).state
      go true e =
          let at = is_at_up n s e in
          let clear = cleared n s in
          let more : first_sent n clear (next n clear at.0).state ≡ first_sent n s (next n clear at.0).state = cleared_sends n s (next n clear at.0).state in
          rw (next_is n at.0 s at.1)
          (rw more at (sends_any l sent clear n at.0 (cleared_sound n at.0 s at.1 sound) (cleared_at n at.0 s at.1)
          (withdraws_any l sent (overtaken n s) n s a)))
      go false e = rw ((next_refused n s e).1) (sends_none l sent s n a)

  -- A LINK COMES UP: what it sends is told anew.
  pub rises_any : (n : ℕ) (link : LinkState) → IsSound s → IsAt n link Settled s → AckedFirst l sent s
      → AckedFirst l (if l == n then [] else sent) (rises n s Settled).state
  rises_any n link sound at a = go (l == n) refl
    where
      t : State
      t = (rises n s Settled).state

      own : IsAt l link Settled s → AckedFirst l [] (rises l s Settled).state
      own here =
          let new = risen_link s.settings.profile s.settings.method (late_at l s) in
          let none : unack l (rises l s Settled).state.rows ≡ [] = (unparked l s.rows).unack_same
          ∙ (settled_empty s l link sound here.there here.phase_is).unack_none in
          own_set l [] s (rises l s Settled).state link (opened_link new) here.there (set_twice s.links l new (opened_link new))
          (numbered_on s (rises l s Settled).state refl (unparked l s.rows).kept.count
          ((unparked l s.rows).kept.numbered (given s) a.numbered)) (omega arith) (All-nil _)
          (λ e. inl (ap messages none))

      go : (b : Bool) → (l == n) ≡ b → AckedFirst l (if b then [] else sent) (rises n s Settled).state
      go true e = subst (λ (m : ℕ). IsAt m link Settled s → AckedFirst l [] (rises m s Settled).state) (eqb-true l n e) own at
      go false e =
          let d = apart_back l n e in
          goes_on l sent s (rises n s Settled).state
          (numbered_on s (rises n s Settled).state refl (unparked n s.rows).kept.count
          ((unparked n s.rows).kept.numbered (given s) a.numbered))
          (moved_stay (Acked l) is_parked refl (given s) (all_with (Waiting n)) s.rows a.numbered)
          (other_set l sent n _ (risen n s).links d ∙ other_set l sent n _ s.links d) (((unparked n s.rows).others l d).unack_same) a

  up_kept : (n : ℕ) → IsSound s → AckedFirst l sent s → AckedFirst l (if is_settled n s then (if l == n then [] else sent) else sent) (step s (UpEvent n)).state
  unfolding step
  up_kept n sound a = go (slice_get s.links n) refl
    where
      at : (link : LinkState) → slice_get s.links n ≡ Some link → (phase : Phase) → link.phase ≡ phase
          → AckedFirst l (if has_phase_settled phase then (if l == n then [] else sent) else sent)
          (rises n s phase).state
      at link e Up p = a
      at link e Down p = a
      at link e Settled p = rises_any n link sound (record { there = e; phase_is = p }) a

      go : (o : Option LinkState) → slice_get s.links n ≡ o
          → AckedFirst l (if link_is_settled o then (if l == n then [] else sent) else sent)
          (with_known o s (λ link. rises n s link.phase)).state
      go None e = a
      go (Some link) e = at link e link.phase refl

  -- ANY OTHER EVENT
  other_kept : (event : Event) → ((n : ℕ) → event ≡ Next n → ⊥) → ((n : ℕ) → event ≡ UpEvent n → ⊥)
      → AckedFirst l sent s → AckedFirst l sent (step s event).state
  other_kept event not_next not_up a = step_walks s (λ t u. AckedFirst l sent t → AckedFirst l sent u) (λ t. AckedFirst l sent t) event (record {
    small = small l sent _ _;
    unmoved = a;
    rests = λ t u b keeps. keeps b;
    offers = λ body e none. appends l sent s (offered None s body).state body
        (fate_at (place_of (stream_of body) s.routing) s) refl (offered_out l (place_of (stream_of body) s.routing) s)
        refl refl a;
    takes = λ body rest e there. record { numbered = a.numbered; few = a.few; first = a.first; going = a.going };
    sends = λ n link t e keeps at g. absurd (not_next n e);
    hears = λ n unit link e fits at g. hears_part l sent n unit link s at a;
    rises = λ n link e at. absurd (not_up n e);
  })

-- what was sent on the link in its present life, or its last one, when the event was asked
abbrev pub sent_then : ℕ → Event → State → List Message → List Message
sent_then l (Next n) s sent = if l == n then sent ++ first_sent n s (step s (Next n)).state else sent
sent_then l (UpEvent n) s sent = if is_settled n s then (if l == n then [] else sent) else sent
sent_then l _ s sent = sent

-- EVERY EVENT of a sound set keeps it.
pub acked_first : (l : ℕ) (s : State) (event : Event) (sent : List Message) → IsSound s → AckedFirst l sent s
    → AckedFirst l (sent_then l event s sent) (step s event).state
acked_first l s (Next n) sent sound a = next_kept l sent s n sound a
acked_first l s (UpEvent n) sent sound a = up_kept l sent s n sound a
acked_first l s (Offer body) sent sound a = other_kept l sent s (Offer body) (λ n e. absurd cc) (λ n e. absurd cc) a
acked_first l s Take sent sound a = other_kept l sent s Take (λ n e. absurd cc) (λ n e. absurd cc) a
acked_first l s (Find number) sent sound a = other_kept l sent s (Find number) (λ n e. absurd cc) (λ n e. absurd cc) a
acked_first l s (Heard n unit) sent sound a = other_kept l sent s (Heard n unit) (λ m e. absurd cc) (λ m e. absurd cc) a
acked_first l s (DownEvent n) sent sound a = other_kept l sent s (DownEvent n) (λ m e. absurd cc) (λ m e. absurd cc) a
acked_first l s (DownBlind n) sent sound a = other_kept l sent s (DownBlind n) (λ m e. absurd cc) (λ m e. absurd cc) a
acked_first l s (NoAnswer n) sent sound a = other_kept l sent s (NoAnswer n) (λ m e. absurd cc) (λ m e. absurd cc) a
acked_first l s (Timed n) sent sound a = other_kept l sent s (Timed n) (λ m e. absurd cc) (λ m e. absurd cc) a
acked_first l s (Restore n) sent sound a = other_kept l sent s (Restore n) (λ m e. absurd cc) (λ m e. absurd cc) a
acked_first l s (Redeclare n) sent sound a = other_kept l sent s (Redeclare n) (λ m e. absurd cc) (λ m e. absurd cc) a
acked_first l s (BackTimeout n) sent sound a = other_kept l sent s (BackTimeout n) (λ m e. absurd cc) (λ m e. absurd cc) a
acked_first l s (Test n) sent sound a = other_kept l sent s (Test n) (λ m e. absurd cc) (λ m e. absurd cc) a

-- A NEW SET
none_acked : (l count : ℕ) (link : LinkState) → link.acked ≡ 0 → acked_of (slice_get (replicate count link) l) ≡ 0
none_acked l zero link e = refl
none_acked zero (suc count) link e = e
none_acked (suc l) (suc count) link e = none_acked l count link e

pub new_acked_first : (l : ℕ) (settings : Settings) → AckedFirst l [] (opened_with settings)
new_acked_first l settings =
    let none = none_acked l settings.links (new_link settings.profile settings.method) refl in
    record {
      numbered = λ number. omega arith;
      few = omega (arith, none);
      first = subst (λ (n : ℕ). AreAcked l [] (take n [])) (sym none) (All-nil _);
      going = λ link there unsettled. inl (sym (drop-nil link.acked));
    }

-- THE PAST of an end goes on so.
pub emits_first : (l n : ℕ) (s : State) (past : Past) → IsSound s → AckedFirst l (past.sent l) s
    → AckedFirst l ((past_sent n s (step s (Next n)).state past).sent l) (step s (Next n)).state
emits_first l n s past sound a = next_kept l (past.sent l) s n sound a

pub rises_first : (l n : ℕ) (s : State) (past : Past) → IsSound s → is_settled n s ≡ true → AckedFirst l (past.sent l) s
    → AckedFirst l ((past_risen n past).sent l) (step s (UpEvent n)).state
rises_first l n s past sound settled a =
    subst (λ (b : Bool). AckedFirst l (if b then (if l == n then [] else past.sent l) else past.sent l)
    (step s (UpEvent n)).state) settled (up_kept l (past.sent l) s n sound a)
