-- NO EVENT CHANGES A MESSAGE, only an offer adds to what is counted, and an event adds at most one to each whole number
-- of a link. `messages_stay`, `moves_rows` and `step_at_most` answer no_message_changes, a_move_moves_the_links_rows
-- and a_step_counts (src/laws.rt); `keeps_messages` and `step_gains` are told by Soundness.antt. They're walks of small
-- changes (Walk.antt): `step_grows` of messages, whose rows turn, move, or are joined by an order, and `step_counts` of
-- the links' numbers; only `few_turned` is an induction, on the rows. Used by Soundness.antt, SoundBack.antt and
-- Framing.antt, by set_core's Keeping.antt and by pair_model's Pairs.antt.
use Rattle.std.proofs.Common.{arith, ℕ, Bool, List, Option, ◌≡◌, ◌∙◌, ap, sym, ◌≤◌, ◌==◌, true, false, refl, zero-le, zero, suc, ◌+◌, [], ◌∷◌, length, slice_get, slice_set, None, Some}
use Rattle.std.proofs.lemmas.List.{drop_at, length_push, length-append, append-nil, length-map, length-drop}
use Rattle.std.proofs.lemmas.List.Filters.{length-filter_both}
use Rattle.std.proofs.lemmas.List.Folds.{find-append}
use Rattle.std.proofs.lemmas.Bool.{cond_both}
use Rattle.std.proofs.lemmas.Bool.Decides.{nat_tests}
use Rattle.set_model.specs.Laws.{MessagesStay, MovesTheLinksRows, KeepsMessages}
use Rattle.set_model.specs.Rows.{Fate, IsNumbered, Row, appended, put_ahead, counts_of, service_indicator, total_of, was_acked, Acked, Unacked, is_on, is_unacked, is_waiting, moved, standing, turned, unack}
use Rattle.set_model.proofs.Rows.{turned_there, picked_there, moved_length, moved_numbered, not_found, numbered_appended, same_numbers, no_rows, body_moved, owner_moved, place_moved, row_is_first, total_is, filter_comm, fewer_filter, fated_none, turned_left}
use Rattle.set_model.proofs.Events.{ChangesOn, TakenBack, numbers_fated, Kept, moved_kept, acknowledged, appended_out}
use Rattle.std.proofs.lemmas.List.Elements.{filter-append}
use Rattle.l3_orders.specs.Grammar.{text}
use Rattle.set_model.specs.Changeover.{Order, fate_on, redeclared_from, some_overdue}
use Rattle.set_route.specs.Routing.{Routing, code_for}
use Rattle.set_model.specs.Step.{Event, Offer, Redeclare, Nothing, Done, Outcome, with_known, redeclares, refused, step, Answer, Gains, messages_in, octets_of, one_if, rows_sent}
use Rattle.set_model.specs.Control.{Choice, Header, part_of}
use Rattle.set_model.specs.Sound.{IsManaged, AreAtMost, WholeNumbers, one_more}
use Rattle.set_model.specs.State.{Place, Settings, State, given, fate_at, Phase, LinkState, window_of}
use Rattle.set_model.proofs.Walk.{step_walks, IsAt}
use Rattle.set_model.proofs.Ahead.{put_there, put_apart, put_length, put_others, put_found, numbered_put}
use Rattle.std.proofs.Math.Nat.{le_refl}
use Rattle.set_model.proofs.Lists.{each_set}

pub messages_stay : (test : Fate → Bool) (to : Fate) (fate : Row → Fate) (given : ℕ) (rows : List Row)
    → IsNumbered given rows → MessagesStay test to fate given rows
messages_stay test to fate given rows numbered =
    let turned = turned_there test to in
    let moved_same = λ (number : ℕ). body_moved test fate given number rows numbered in
    let owned_same = λ (number : ℕ). owner_moved test fate given number rows numbered in
    let moved_on = moved_numbered test fate given rows numbered in
    let none = not_found given given rows numbered in
    let found = λ (body : List ℕ). put_found given rows body to numbered in
    grind (arith, nat_tests, turned, same_numbers, moved_length, moved_same, owned_same, moved_on, none, find-append, row_is_first, no_rows, numbered_appended, put_others, found, numbered_put)

pub moves_rows : (link : ℕ) (fate : Row → Fate) (given : ℕ) (rows : List Row) → IsNumbered given rows → MovesTheLinksRows link fate rows
moves_rows link fate given rows numbered =
    let places = λ (number : ℕ). place_moved (is_on link) fate given number rows numbered in
    grind (arith, length-filter_both, drop_at, numbers_fated, places)

-- WHAT NO EVENT DOES to a message; and only what users offer counts as a new one.
abbrev pub is_offer : Event → Bool
is_offer (Offer body) = true
is_offer _ = false

-- a state with the messages of another one, and new ones or none: where Free, none of a user
pub record Grows (Free : Type 0) (s t : State) : Type 0 where
  pub settings_same : t.settings ≡ s.settings
  pub gone_same : t.finished ≡ s.finished
  pub keeps : IsNumbered (given s) s.rows → KeepsMessages s t
  pub acked : (counts_of s.rows).acked ≤ (counts_of t.rows).acked
  pub total : Free → IsManaged s.settings → total_of (counts_of t.rows) ≡ total_of (counts_of s.rows)

grows_appended : (Free : Type 0) (s : State) (routing : Routing) (body : List ℕ) (fate : Fate)
    → (Free → IsManaged s.settings → (service_indicator body == 0) ≡ true)
    → Grows Free s (record s { rows = appended (given s) s.rows body fate; routing = routing })
grows_appended Free s routing body fate order =
    let stay = λ (numbered : IsNumbered (given s) s.rows). (messages_stay (λ f. false) fate (λ row. fate) (given s) s.rows numbered).others_stay body in
    grind (arith, length_push, stay, total_is, filter-append, length-append, numbered_appended, order)

-- and an order, ahead of users' messages
grows_put : (Free : Type 0) (s : State) (body : List ℕ) (fate : Fate)
    → (Free → IsManaged s.settings → (service_indicator body == 0) ≡ true)
    → Grows Free s (record s { rows = put_ahead (given s) s.rows body fate })
grows_put Free s body fate order =
    let stay = λ (numbered : IsNumbered (given s) s.rows). (messages_stay (λ f. false) fate (λ row. fate) (given s) s.rows numbered).ahead_others_stay body in
    let t = put_there (given s) s.rows body fate in
    grind (arith, put_length, stay, total_is, t.was, t.is, filter-append, length-append, numbered_put, order)

pub step_grows : (s : State) (event : Event) → Grows (is_offer event ≡ false) s (step s event).state
step_grows s event =
    let grows_then : (Free : Type 0) (a b c : State) → Grows Free a b → Grows Free b c → Grows Free a c = λ Free a b c p q. grind arith in
    let grows_kept : (Free : Type 0) (s t : State) → t.settings ≡ s.settings → t.finished ≡ s.finished
    → Kept s.rows t.rows → Grows Free s t = λ Free s t same gone k. let bodies =
    k.bodies (given s) in let owners = k.owners (given s) in let numbered = k.numbered (given s) in grind (arith, bodies, owners, numbered) in
    let none_offered : (body : List ℕ) → event ≡ Offer body → is_offer event ≡ false
    → (service_indicator body == 0) ≡ true =
    λ body e other. absurd (let no : true ≡ false = sym (ap is_offer e) ∙ other in cc) in
    -- an order is the management's
    let order_managed : (order : Order) (settings : Settings) → IsManaged settings
    → (service_indicator (text settings.profile order settings.sio settings.dpc settings.opc) == 0) ≡ true =
    λ order settings m. grind arith in
    -- where a message goes that is moved, or whose stream runs there, it isn't acknowledged
    let target_open : (to : Option ℕ) → was_acked (fate_on to) ≡ false = λ to. grind arith in
    let fate_open : (p : Place) (s : State) → was_acked (fate_at p s) ≡ false = λ p s. grind arith in
    let kept_on = λ (n : ℕ) (rows new : List Row) (g : ChangesOn n rows new). g.kept in
    let kept_back = λ (from : Fate) (rows new : List Row) (g : TakenBack from rows new). g.kept in
    let same = λ (rows : List Row). (acknowledged 0 0 rows).kept in
    step_walks s (Grows (is_offer event ≡ false)) (Grows (is_offer event ≡ false) s) event
    (search (
      kept_on,
      kept_back,
      grows_then,
      grows_kept,
      grows_appended,
      grows_put,
      moved_kept,
      same,
      target_open,
      order_managed,
      fate_open,
      none_offered,
    ))

pub keeps_messages : (s : State) (event : Event) → IsNumbered (given s) s.rows → KeepsMessages s (step s event).state
keeps_messages s event numbered = (step_grows s event).keeps numbered

-- What a step brings: each accepted message stands in one place more, and what is acknowledged stays so.
-- only an offer is answered by a message
abbrev pub AcceptsNone : Event → Answer → Type 0
AcceptsNone event answer = (messages_in answer ≡ 0) × (octets_of event answer ≡ 0)

pub accepts_none : (s : State) (event : Event) → is_offer event ≡ false → AcceptsNone event (step s event).answer
unfolding step
accepts_none s (Redeclare n) e = go (slice_get s.links n)
  where
    go : (o : Option LinkState) → AcceptsNone (Redeclare n) (with_known o s (λ link. redeclares n s)).answer
    go None = (refl, refl)
    go (Some link) = cond_both (some_overdue (code_for n 0) 16 s) (record { answer = Done; state = redeclared_from (code_for n 0) 16 s }) (refused s Nothing)
        (λ (o : Outcome). AcceptsNone (Redeclare n) o.answer) (λ is. (refl, refl)) (λ is. (refl, refl))
accepts_none s event e = grind arith

pub step_gains : (s : State) (event : Event) → IsManaged s.settings → Gains s event (step s event).answer (step s event).state
unfolding step
step_gains s (Offer body) m = grind (arith, total_is, filter-append, length-append)
step_gains s event m = let grown = step_grows s event in let none = accepts_none s event refl in grind arith

-- THE WHOLE NUMBERS OF THE LINKS stay in range: an event sends at most one message, and accepts at most one body.
-- no more come than turn
few_turned : (test other : Fate → Bool) (fate : Fate) (n : ℕ) (rows : List Row)
    → length (standing other (turned test fate n rows)) ≤ length (standing other rows) + n
few_turned test other fate zero rows = omega arith
few_turned test other fate (suc n) [] = omega arith
few_turned test other fate (suc n) (x ∷ rows) = grind (arith, few_turned test other fate n rows, few_turned test other fate (suc n) rows)

pub not_sent : (m : ℕ) (to : Option ℕ) → is_unacked m (fate_on to) ≡ false
not_sent m to = grind arith

pub offered_out : (m : ℕ) (place : Place) (s : State) → is_unacked m (fate_at place s) ≡ false
offered_out m place s = grind arith

-- A processed unit acknowledges no more than there are.
pub acked_few : (n : ℕ) (link : LinkState) (rows : List Row) (head : Header) (msu : Bool)
    → (part_of link.control (window_of n link rows) head msu).acked ≤ length (unack n rows)
acked_few n link rows head msu = grind (arith, length-map)

-- THE NUMBERS OF EACH LINK grow by at most so many.
pub record GrowBy (more : ℕ) (s t : State) : Type 0 where
  pub each : (n : ℕ) (new : LinkState) → slice_get t.links n ≡ Some new → (old : LinkState)
      × (slice_get s.links n ≡ Some old)
      × (new.acked + length (unack n t.rows) ≤ old.acked + length (unack n s.rows) + more)
      × (new.accepted ≤ old.accepted + more)

module _ (more : ℕ) (s : State) (rows : List Row) (routing : Routing) (inbox : List (List ℕ))
    (few : (m : ℕ) → length (unack m rows) ≤ length (unack m s.rows) + more) where
  grow_rows : GrowBy more s (record s { rows = rows; routing = routing; inbox = inbox })
  grow_rows = record { each = λ n new at. (new, at, omega (arith, few n), omega arith) }

  -- a link that changes, and the others
  grow_set : (n : ℕ) (link link' : LinkState) (phase : Phase) → IsAt n link phase s
      → link'.acked + length (unack n rows) ≤ link.acked + length (unack n s.rows) + more
      → link'.accepted ≤ link.accepted + more
      → GrowBy more s (record s { links = slice_set s.links n link'; rows = rows; routing = routing })
  grow_set n link link' phase at sent accepted =
      record {
        each = each_set (λ m new. (old : LinkState) × (slice_get s.links m ≡ Some old)
            × (new.acked + length (unack m rows) ≤ old.acked + length (unack m s.rows) + more)
            × (new.accepted ≤ old.accepted + more)) s.links n link' (link, at.there, sent, accepted)
            (λ m other d there. (other, there, omega (arith, few m), omega arith));
      }

step_counts : (s : State) (event : Event) → GrowBy 1 s (step s event).state
step_counts s event =
    let grow_then : (more : ℕ) (s t u : State) → GrowBy more s t → GrowBy 0 t u
    → GrowBy more s u = λ more s t u p q.
    record {
      each = λ n new at. let y = q.each n new at in let x =
          p.each n y.0 y.1 in (x.0, x.1, omega (arith, x.2, y.2), omega (arith, x.3, y.3));
    } in
    let grow_first : (more : ℕ) (s t u : State) → GrowBy 0 s t → GrowBy more t u
    → GrowBy more s u = λ more s t u p q.
    record {
      each = λ n new at. let y = q.each n new at in let x =
          p.each n y.0 y.1 in (x.0, x.1, omega (arith, x.2, y.2), omega (arith, x.3, y.3));
    } in
    let few_sent : (choice : Choice) (m n : ℕ) (rows : List Row)
    → length (unack m (rows_sent choice n rows)) ≤ length (unack m rows) + 1 =
    λ choice m n rows. grind (arith, few_turned (is_waiting n) (is_unacked m) (Unacked n) 1 rows) in
    -- a move makes no unacknowledged ones, and what is acknowledged was sent
    let few_moved : (test : Fate → Bool) (fate : Row → Fate) (m : ℕ) (rows : List Row)
    → ((row : Row) → is_unacked m (fate row) ≡ false)
    → length (unack m (moved test fate rows)) ≤ length (unack m rows) =
    λ test fate m rows none. grind (arith, filter-append, fated_none, append-nil, filter_comm, fewer_filter) in
    let acked_at_most : (more c n count : ℕ) (rows : List Row) → count ≤ length (unack n rows)
    → c + count + length (unack n (turned (is_unacked n) (Acked n) count rows)) ≤ c + length (unack n rows) + more =
    λ more c n count rows fits. grind (arith, turned_left, length-drop) in
    let at_most : (a b more : ℕ) → a ≤ b → a ≤ b + more = λ a b more few. omega arith in
    let sum_at_most : (d c a b more : ℕ) → d ≤ c → a ≤ b + more → d + a ≤ c + b + more = λ d c a b more e few. omega arith in
    let one_low : (a more : ℕ) (b : Bool) → 1 ≤ more → a + one_if b ≤ a + more = λ a more b some. grind arith in
    let fewer = λ (m count : ℕ) (test : Fate → Bool) (fate : Fate) (rows : List Row). (turned_there test fate count rows).fewer (is_unacked m) in
    let fewer_picked = λ (m : ℕ) (picks : Row → Bool) (test : Fate → Bool) (fate : Fate) (rows : List Row). (picked_there picks test fate rows).fewer (is_unacked m) in
    step_walks s (GrowBy 0) (GrowBy 1 s) event
    (search (
      le_refl,
      zero-le,
      grow_then,
      grow_first,
      grow_rows,
      grow_set,
      acked_at_most,
      few_moved,
      appended_out,
      put_apart,
      not_sent,
      offered_out,
      few_sent,
      acked_few,
      arith,
      at_most,
      sum_at_most,
      one_low,
    ))

pub step_at_most : (s : State) (event : Event) (k : ℕ → WholeNumbers) → AreAtMost k s → AreAtMost (λ n. one_more (k n)) (step s event).state
step_at_most s event k few n link there = let g = (step_counts s event).each n link there in let f = few n g.0 g.1 in grind (arith, f, g)
