-- WHAT IS KEPT STANDS FOR THE STATE, before and after each small change: `appended_for`, `ahead_for`, `sent_for`, `acked_for`,
-- `given_up_for`, `withdrawn_for`, `settled_for`, `risen_for`, `released_for`, and `link_for` where no message moves.
-- Queues that change as the places of the rows do stand for the rows (`shifts_stand`, from RowsAt.antt and set_queues's
-- Standing.antt), and the FSN last acknowledged on a link is its count, modulo the FSNs. As many messages reached the
-- far end by the queues as by the rows (`reaches`). No induction is left here. Used by Turns.antt, and by the functions
-- of src/settling.rt, src/changeback.rt and src/parts.rt, of set_traffic and set_step.
use Rattle.std.proofs.Common.{refl, arith, ◌≡◌, ◌∙◌, ap, sym, ◌<◌, ◌≤◌, [], ◌∷◌, length, ℕ, ◌==◌, Bool, true, false, List, ◌++◌, Option, Some, take, drop, cond, ◌≢◌, ◌+◌, ◌%◌, None, slice_get, slice_set, option_map, not, filter, map-id, nat_le}
use Rattle.std.proofs.lemmas.Bool.{cases_eq, cases_lt, ne_eqb, eq-eqb}
use Rattle.std.proofs.lemmas.List.{length-append, map-append, length-map, take_all, drop_all}
use Rattle.std.proofs.lemmas.List.Folds.{find-append}
use Rattle.std.proofs.lemmas.Bool.Decides.{nat_tests}
use Rattle.l2_window.specs.Window.{fsn_before_first, fsn_count}
use Rattle.l2_window.proofs.Numbers.{acked_is, from_zero}
use Rattle.set_queues.specs.Buffers.{profile_at, Lists, is_standing, same_fate, queue_at, with_queue, IsKnown, LinkLists, last_at, with_last}
use Rattle.set_queues.specs.Messages.{restood, fate_at, is_order, is_order_at}
use Rattle.set_queues.specs.Slots.{slot_at}
use Rattle.set_queues.specs.declared.message.Kind.TheVariants.{Order}
use Rattle.set_queues.specs.Sending.{acknowledged as acked_lists, reach}
use Rattle.set_queues.specs.Queues.{occurs, passed, passed_first, without, orders_in, others_in, behind_orders}
use Rattle.set_queues.specs.Settling.{on as on_lists, settled}
use Rattle.set_queues.proofs.Standing.{slot_push, restood_at, length-updated, updated_same, updated_other, updated_there, same_is, same_self, length-restood, fate_stays, fate_moves, queue_set, links_stay}
use Rattle.set_queues.proofs.Soundness.{both_replaced, passed_replaces, profile_last, profile_queue, queue_last, last_links, IsAside, settling}
use Rattle.set_model.specs.Rows.{Fate, Waiting, Unacked, Acked, Held, Parked, Back, Discarded, DiscardCause, Emergency, Unreasonable, NoAnswer, Row, standing, is_waiting, is_unacked, is_on, is_parked, is_back, on, numbers, users, is_users, Each, turned, changed, orders_changed, one_changed, moved, all_with, appended, put_ahead, row_of, place, IsNumbered, IsInOrder, IsHeldLast, AreBefore}
use Rattle.set_model.specs.Changeover.{fate_on, reached_by, is_reasonable, judged, judged_link}
use Rattle.set_model.specs.Laws.{SameMessages}
use Rattle.set_model.proofs.Ahead.{numbered_put, put_length}
use Rattle.set_model.proofs.Rows.{at_most_one, each_so, fewer_filter, place_moved, new_row, numbered_appended}
use Rattle.set_model.proofs.Order.{on_in_order}
use Rattle.set_model.proofs.Staying.{messages_stay}
use Rattle.set_changeover.specs.Agreement.{Message, Stands, is_there, rows_at, label_in, label_of, kind_by, Kept, StandsFor}
use Rattle.set_changeover.proofs.RowsAt.{given_all, labels_same, none_at, row_ahead, Shifts, appended_at, ahead_at, AreTold, parted, parted_at, turned_shifts, moved_shifts, orders, picked_shift, one_there, numbers_without, all_found}
use Rattle.set_route.specs.Routing.{Routing}
use Rattle.set_model.specs.State.{LinkState, State, given}
use Rattle.set_model.proofs.Lists.{at_set, length_set, within, present, get_set_same}
use Rattle.set_changeover.specs.Parts.{Reached, Upto, Unknown, Unanswered, Unasked}
use Rattle.set_model.proofs.Events.{acknowledged as acked_rows, given_up, orders_given_up}

-- THE QUEUES STAND FOR THE ROWS, which are the same messages,
pub record Moves (q : Lists) (ms : List (Option Message)) (rows new : List Row) : Type 0 where
  pub stands : Stands q ms new
  pub same : SameMessages (length ms) rows new

-- where the queues change as the places of the rows do
pub shifts_stand : {q q' : Lists} {ms : List (Option Message)} {rows new : List Row} {test : Fate → Bool} {to : Fate} {ns xs left : List ℕ} → Stands q ms rows → Shifts (length ms) test to ns left rows new
    → ((f : Fate) → is_standing f ≡ true → queue_at f q' ≡ cond (test f) left (cond (same_fate to f) (queue_at f q ++ ns) (queue_at f q))) → xs ≡ ns → Moves q' (restood xs to ms) rows new
shifts_stand {q} {q'} {ms} {rows} {new} {test} {to} {ns} s shifts queues e =
    let given = given_all ns to ms rows new s.labels shifts.messages shifts.goes in
    let labels = labels_same rows new shifts.messages in
    let fates : (n : ℕ) → fate_at n (restood ns to ms) ≡ place n new = λ n. let goes = shifts.goes n in grind (arith, cases_lt 0 (occurs n ns), given n, goes.stays, goes.goes, fate_stays n ns to ms, fate_moves n ns to ms, s.fates n) in
    rw e (grind (arith, s, shifts, queues, restood_at, length-restood, fates, labels))

-- A NEW MESSAGE
-- its number is the first that no row had
pub row_push : (given n : ℕ) (rows : List Row) (body : List ℕ) (fate : Fate) → IsNumbered given rows → row_of n (appended given rows body fate) ≡ cond (given == n) (Some (new_row given body fate)) (row_of n rows)
row_push given n rows body fate numbered = let none = none_at given n rows numbered in find-append (λ (r : Row). r.number == n) rows (new_row given body fate ∷ []) ∙ grind (arith, nat_tests, none)

-- THE FSN LAST ACKNOWLEDGED on each link.
pub last_stays : (f : Fate) (xs : List ℕ) (q : Lists) (n : ℕ) → last_at n (with_queue f xs q) ≡ last_at n q
last_stays f xs q n = grind (arith, nat_tests, cases_eq, updated_same, updated_other)

last_set : (l fsn : ℕ) (q : Lists) (n : ℕ) → l < length q.links → last_at n (with_last l fsn q) ≡ cond (l == n) fsn (last_at n q)
last_set l fsn q n h = let x = present q.links l h in grind (arith, nat_tests, cases_eq, updated_there (λ (z : LinkLists). record z { last = fsn }) q.links l x.0 x.1, updated_other)

-- A NEW MESSAGE.
pub appended_for : (k : Kept) (s : State) (body : List ℕ) (fate : Fate) → StandsFor k s → is_standing fate ≡ true → IsKnown fate k.lists
    → StandsFor (record k { lists = with_queue fate (queue_at fate k.lists ++ length k.messages ∷ []) k.lists; messages = k.messages ++ Some (record { fate = fate; kind = kind_by body; octets = length body }) ∷ []; bodies = k.bodies ++ Some body ∷ [] }) (record s { rows = appended (given s) s.rows body fate })
appended_for k s body fate f standing known =
    let pushed = λ (n : ℕ). row_push (length k.messages) n s.rows body fate f.stands.numbered in
    let more = numbered_appended (length k.messages) s.rows body fate f.stands.numbered in
    let out = f.given_out in
    grind (arith, nat_tests, length-append, same_is, queue_set, appended_at, slot_push, pushed, more, out, links_stay, last_stays, profile_queue)

-- AN ORDER is known by its label.
label_is : (slot : Option Message) (row : Row) → option_map label_in slot ≡ Some (label_of row) → is_order slot ≡ not (is_users row)
label_is None row e = absurd cc
label_is (Some m) row e = grind arith

order_is : (k : Kept) (s : State) → StandsFor k s → (row : Row) → row_of row.number s.rows ≡ Some row → is_order_at k.messages row.number ≡ not (is_users row)
order_is k s f row found = label_is (slot_at row.number k.messages) row (f.stands.labels row.number ∙ ap (option_map label_of) found)

told_at : (k : Kept) (s : State) (from : Fate) → StandsFor k s → AreTold k.messages (rows_at from s.rows)
told_at k s from f = each_so _ _ (order_is k s f) (rows_at from s.rows) (all_found (is_there from) (length k.messages) s.rows f.stands.numbered)

-- A NEW MESSAGE ahead of the first user's in its place.
pub ahead_for : (k : Kept) (s : State) (body : List ℕ) (fate : Fate) → StandsFor k s → is_standing fate ≡ true → IsKnown fate k.lists
    → StandsFor (record k { lists = with_queue fate (behind_orders k.messages (length k.messages) (queue_at fate k.lists)) k.lists; messages = k.messages ++ Some (record { fate = fate; kind = Order; octets = length body }) ∷ []; bodies = k.bodies ++ Some body ∷ [] }) (record s { rows = put_ahead (given s) s.rows body fate })
ahead_for k s body fate f standing known =
    let pushed = λ (n : ℕ). row_ahead k.messages (length k.messages) body fate standing n s.rows (none_at (length k.messages) (length k.messages) s.rows f.stands.numbered (omega arith)) in
    let more = numbered_put (length k.messages) s.rows body fate f.stands.numbered in
    let there = λ (g : Fate) (t : is_standing g ≡ true). ahead_at k.messages (length k.messages) body fate standing s.rows g t (told_at k s fate f) in
    let many = put_length (length k.messages) s.rows body fate in
    let out = f.given_out in
    grind (arith, nat_tests, length-append, same_is, queue_set, there, slot_push, pushed, more, many, out, links_stay, last_stays, profile_queue)

-- MESSAGES COME TO STAND ELSEWHERE, and links and routing may change.
module _ (k : Kept) (s : State) (f : StandsFor k s) (lists : Lists) (messages : List (Option Message)) (new : List Row) (moves : Moves lists messages s.rows new) (many : length messages ≡ length k.messages) (as_many : length lists.links ≡ length k.lists.links) (routing routing' : Routing) (way : routing ≡ routing') where
  -- no link changes
  pub queues_for : ((n : ℕ) → last_at n lists ≡ last_at n k.lists) → ((n : ℕ) → profile_at n lists ≡ profile_at n k.lists) → StandsFor (record k { lists = lists; messages = messages; routing = routing }) (record s { rows = new; routing = routing' })
  queues_for last profiles = grind (arith, last, profiles, f.fsns, f.profiles)

  -- one does
  link_and_queues_for : (n : ℕ) (link' : LinkState) → ((m : ℕ) → n ≢ m → last_at m lists ≡ last_at m k.lists) → last_at n lists ≡ (link'.acked + fsn_before_first link'.profile) % fsn_count link'.profile → ((m : ℕ) → profile_at m lists ≡ profile_at m k.lists) → profile_at n k.lists ≡ link'.profile
      → StandsFor (record k { lists = lists; messages = messages; links = slice_set s.links n link'; routing = routing }) (record s { rows = new; links = slice_set s.links n link'; routing = routing' })
  link_and_queues_for n link' others own profiles keeps = grind (arith, nat_tests, length_set, at_set, others, own, f.fsns, profiles, keeps, f.profiles)

-- ROWS THAT STAND LAST FROM NOW ON: what is kept tells nothing of it.
pub parted_for : (k : Kept) (s : State) (test : Fate → Bool) → StandsFor k s → StandsFor k (record s { rows = parted test s.rows })
parted_for k s test f =
    let own : moved test (λ row. row.fate) s.rows ≡ parted test s.rows = ap (λ (xs : List Row). standing (λ g. not (test g)) s.rows ++ xs) (map-id (standing test s.rows)) in
    let stay = rw own at (messages_stay test Parked (λ row. row.fate) (length k.messages) s.rows f.stands.numbered).moved_stay in
    let places = λ (n : ℕ). rw own at (place_moved test (λ row. row.fate) (length k.messages) n s.rows f.stands.numbered) in
    queues_for k s f k.lists k.messages (parted test s.rows) (record {
      stands = record {
        queues = λ g t. f.stands.queues g t ∙ ap numbers (sym (parted_at test g s.rows t (test g) refl));
        fates = λ n. f.stands.fates n ∙ grind (arith, places n);
        labels = λ n. f.stands.labels n ∙ sym (labels_same s.rows (parted test s.rows) stay n);
        numbered = stay.numbered;
      };
      same = stay;
    }) refl refl _ _ f.routing (λ m. refl) (λ m. refl)

-- A LINK CHANGES, but for what was acknowledged on it.
pub link_for : (k : Kept) (s : State) (n : ℕ) (link link' : LinkState) (routing : Routing) → StandsFor k s → slice_get s.links n ≡ Some link → link'.acked ≡ link.acked → link'.profile ≡ link.profile
    → StandsFor (record k { links = slice_set s.links n link'; routing = routing }) (record s { links = slice_set s.links n link'; routing = routing })
link_for k s n link link' routing f there e p =
    grind (arith, nat_tests, length_set, at_set)

-- THE FIRST OF A QUEUE stands last in another, where none of those stands behind one of it
pub first_for : (k : Kept) (s : State) (from to : Fate) → StandsFor k s → is_standing from ≡ true → is_standing to ≡ true → IsKnown from k.lists → IsKnown to k.lists → is_there from to ≡ false → AreBefore (is_there to) (is_there from) s.rows
    → StandsFor (record k { lists = passed_first 1 from to k.lists; messages = restood (take 1 (queue_at from k.lists)) to k.messages }) (record s { rows = turned (is_there from) to 1 s.rows })
first_for k s from to f stood own known other off order =
    queues_for k s f _ _ _ (shifts_stand f.stands (turned_shifts (length k.messages) from to stood off 1 s.rows f.stands.numbered (λ e. order))
    (λ g t. both_replaced k.lists from to (drop 1 (queue_at from k.lists)) (queue_at to k.lists ++ take 1 (queue_at from k.lists)) known other g t ∙ grind (arith, nat_tests, same_is, f.stands.queues from stood)) (ap (take 1) (f.stands.queues from stood))) (length-restood (take 1 (queue_at from k.lists)) to k.messages) (simp links_stay) _ _ f.routing (λ m. search last_stays) (λ m. search profile_queue)

-- A FIRST SENDING: the first that waits stands last among the unacknowledged.
pub sent_for : (k : Kept) (s : State) (n : ℕ) → StandsFor k s → IsInOrder n s.rows → n < length k.lists.links
    → StandsFor (record k { lists = passed_first 1 (Waiting n) (Unacked n) k.lists; messages = restood (take 1 (queue_at (Waiting n) k.lists)) (Unacked n) k.messages }) (record s { rows = turned (is_waiting n) (Unacked n) 1 s.rows })
sent_for k s n f order known = first_for k s (Waiting n) (Unacked n) f refl refl known known refl order

-- AN ACKNOWLEDGEMENT, under a link that counts it.
pub acked_for : (k : Kept) (s : State) (n fsn : ℕ) (link link' : LinkState) → StandsFor k s → slice_get s.links n ≡ Some link → fsn < fsn_count (profile_at n k.lists) → link'.acked ≡ link.acked + reach n fsn k.lists → link'.profile ≡ link.profile
    → StandsFor (record k { lists = acked_lists n fsn k.lists; messages = restood (take (reach n fsn k.lists) (queue_at (Unacked n) k.lists)) (Acked n) k.messages; links = slice_set s.links n link' })
    (record s { rows = turned (is_unacked n) (Acked n) (reach n fsn k.lists) s.rows; links = slice_set s.links n link' })
acked_for k s n fsn link link' f there h e p =
    let count : ℕ = reach n fsn k.lists in
    let left : List ℕ = drop count (queue_at (Unacked n) k.lists) in
    let mid : Lists = with_queue (Unacked n) left k.lists in
    let known : n < length k.lists.links = grind (arith, within s.links n link there, f.as_many) in
    let inner : n < length mid.links = omega (arith, known, links_stay (Unacked n) left k.lists) in
    let of : profile_at n k.lists ≡ link'.profile = f.profiles n link there ∙ sym p in
    let last : last_at n k.lists ≡ (link.acked + fsn_before_first (profile_at n k.lists)) % fsn_count (profile_at n k.lists) = rw (f.profiles n link there) (f.fsns n link there) in
    let counted : (link'.acked + fsn_before_first link'.profile) % fsn_count link'.profile ≡ fsn = rw (← of, e) (acked_is (profile_at n k.lists) link.acked (last_at n k.lists) fsn last h) in
    link_and_queues_for k s f _ _ _ (shifts_stand f.stands (turned_shifts (length k.messages) (Unacked n) (Acked n) refl refl count s.rows f.stands.numbered (λ e. absurd cc))
    (λ g t. queue_last g n fsn mid ∙ queue_set (Unacked n) g left k.lists refl known ∙ grind (arith, nat_tests, f.stands)) (ap (take count) (f.stands.queues (Unacked n) refl))) (length-restood (take count (queue_at (Unacked n) k.lists)) (Acked n) k.messages) (simp length-updated) _ _ f.routing n link'
    (λ m ne. last_set n fsn mid m inner ∙ rw (ne_eqb n m ne) (last_stays (Unacked n) left k.lists m)) (last_set n fsn mid n inner ∙ rw (eq-eqb n n refl) (sym counted))
    (λ m. profile_last n fsn m mid ∙ profile_queue (Unacked n) left m k.lists) of

-- ALL OF A QUEUE are given up.
pub given_up_for : (k : Kept) (s : State) (from : Fate) (cause : DiscardCause) → StandsFor k s → is_standing from ≡ true → IsKnown from k.lists
    → StandsFor (record k { lists = with_queue from [] k.lists; messages = restood (queue_at from k.lists) (Discarded cause) k.messages }) (record s { rows = changed (is_there from) (Discarded cause) s.rows })
given_up_for k s from cause f stood known =
    let long : length (numbers (rows_at from s.rows)) ≤ length s.rows = omega (arith, length-map (rows_at from s.rows) (λ (row : Row). row.number), fewer_filter (λ (row : Row). is_there from row.fate) s.rows) in
    let all : queue_at from k.lists ≡ take (length s.rows) (numbers (rows_at from s.rows)) = f.stands.queues from stood ∙ sym (take_all (length s.rows) (numbers (rows_at from s.rows)) long) in
    queues_for k s f _ _ _ (shifts_stand f.stands (turned_shifts (length k.messages) from (Discarded cause) stood (grind arith) (length s.rows) s.rows f.stands.numbered (λ e. absurd cc))
    (λ g t. queue_set from g [] k.lists stood known ∙ grind (arith, nat_tests, same_is, drop_all, long)) all) (length-restood (queue_at from k.lists) (Discarded cause) k.messages) (links_stay from [] k.lists) _ _ f.routing (λ m. last_stays from [] k.lists m) (λ m. profile_queue from [] m k.lists)

-- THE ORDERS of a queue are given up.
not_twice : (b : Bool) → b ≡ not (not b)
not_twice true = refl
not_twice false = refl

-- each of these rows is found under its number
abbrev AreFound : List Row → List Row → Type 0
AreFound rows all = Each (λ row. row_of row.number all ≡ Some row) rows

orders_numbered : (k : Kept) (s : State) → StandsFor k s → (rows : List Row) → AreFound rows s.rows
    → (orders_in k.messages (numbers rows) ≡ numbers (orders rows)) × (others_in k.messages (numbers rows) ≡ numbers (users rows))
orders_numbered k s f [] there = (refl, refl)
orders_numbered k s f (x ∷ rows) there =
    let own = order_is k s f x there.0 in
    let more = orders_numbered k s f rows there.1 in
    grind (arith, own, more)

pub orders_given_up_for : (k : Kept) (s : State) (from : Fate) (cause : DiscardCause) → StandsFor k s → is_standing from ≡ true → IsKnown from k.lists
    → StandsFor (record k { lists = with_queue from (others_in k.messages (queue_at from k.lists)) k.lists; messages = restood (orders_in k.messages (queue_at from k.lists)) (Discarded cause) k.messages }) (record s { rows = orders_changed (is_there from) (Discarded cause) s.rows })
orders_given_up_for k s from cause f stood known =
    let ns = f.stands.queues from stood in
    let are = orders_numbered k s f (rows_at from s.rows) (all_found (is_there from) (length k.messages) s.rows f.stands.numbered) in
    let gone : orders_in k.messages (queue_at from k.lists) ≡ numbers (orders (rows_at from s.rows)) = ap (orders_in k.messages) ns ∙ are.0 in
    let left : others_in k.messages (queue_at from k.lists) ≡ numbers (users (rows_at from s.rows)) = ap (others_in k.messages) ns ∙ are.1 in
    queues_for k s f _ _ _ (shifts_stand f.stands (picked_shift (λ row. not (is_users row)) is_users (λ x. not_twice (is_users x)) (length k.messages) from (Discarded cause) stood refl (grind arith) s.rows f.stands.numbered)
    (λ g t. queue_set from g _ k.lists stood known ∙ grind (arith, nat_tests, same_is, left)) gone) (length-restood (orders_in k.messages (queue_at from k.lists)) (Discarded cause) k.messages) (links_stay from (others_in k.messages (queue_at from k.lists)) k.lists) _ _ f.routing (λ m. last_stays from (others_in k.messages (queue_at from k.lists)) k.lists m) (λ m. profile_queue from (others_in k.messages (queue_at from k.lists)) m k.lists)

-- ONE MESSAGE of a queue is given up.
pub one_given_up_for : (k : Kept) (s : State) (number : ℕ) (from : Fate) (cause : DiscardCause) → StandsFor k s → is_standing from ≡ true → IsKnown from k.lists → place number s.rows ≡ Some from
    → StandsFor (record k { lists = with_queue from (without number (queue_at from k.lists)) k.lists; messages = restood (number ∷ []) (Discarded cause) k.messages }) (record s { rows = one_changed number (is_there from) (Discarded cause) s.rows })
one_given_up_for k s number from cause f stood known at =
    let ns = f.stands.queues from stood in
    let left : without number (queue_at from k.lists) ≡ numbers (filter (λ row. not (row.number == number)) (rows_at from s.rows)) = ap (without number) ns ∙ numbers_without number (rows_at from s.rows) in
    let gone : number ∷ [] ≡ numbers (filter (λ row. row.number == number) (rows_at from s.rows)) =
    sym (one_there number (is_there from) from s.rows (at_most_one (length k.messages) number s.rows f.stands.numbered) at (same_self from stood)) in
    queues_for k s f _ _ _ (shifts_stand f.stands (picked_shift (λ row. row.number == number) (λ row. not (row.number == number)) (λ x. refl) (length k.messages) from (Discarded cause) stood refl (grind arith) s.rows f.stands.numbered)
    (λ g t. queue_set from g _ k.lists stood known ∙ grind (arith, nat_tests, same_is, left)) gone) (length-restood (number ∷ []) (Discarded cause) k.messages) (links_stay from (without number (queue_at from k.lists)) k.lists) _ _ f.routing (λ m. last_stays from (without number (queue_at from k.lists)) k.lists m) (λ m. profile_queue from (without number (queue_at from k.lists)) m k.lists)

-- THE FIRST that waits is given up.
pub withdrawn_for : (k : Kept) (s : State) (n : ℕ) (cause : DiscardCause) → StandsFor k s → n < length k.lists.links
    → StandsFor (record k { lists = with_queue (Waiting n) (drop 1 (queue_at (Waiting n) k.lists)) k.lists; messages = restood (take 1 (queue_at (Waiting n) k.lists)) (Discarded cause) k.messages }) (record s { rows = turned (is_waiting n) (Discarded cause) 1 s.rows })
withdrawn_for k s n cause f known =
    let left = drop 1 (queue_at (Waiting n) k.lists) in
    let waits = f.stands.queues (Waiting n) refl in
    queues_for k s f _ _ _ (shifts_stand f.stands (turned_shifts (length k.messages) (Waiting n) (Discarded cause) refl refl 1 s.rows f.stands.numbered (λ e. absurd cc))
    (λ g t. queue_set (Waiting n) g left k.lists refl known ∙ grind (arith, nat_tests, same_is, waits)) (ap (take 1) waits)) (length-restood (take 1 (queue_at (Waiting n) k.lists)) (Discarded cause) k.messages) (links_stay (Waiting n) left k.lists) _ _ f.routing (λ m. last_stays (Waiting n) left k.lists m) (λ m. profile_queue (Waiting n) left m k.lists)

-- A LINK SETTLES: what stands on it goes to another place.
pub settled_for : (k : Kept) (s : State) (n : ℕ) (target : Option ℕ) (link link' : LinkState) (routing : Routing) → StandsFor k s → IsInOrder n s.rows → IsHeldLast n s.rows → slice_get s.links n ≡ Some link → link'.acked ≡ link.acked → link'.profile ≡ link.profile
    → IsAside n (fate_on target) k.lists → StandsFor (record k { lists = settled n (fate_on target) k.lists; messages = restood (on_lists n k.lists) (fate_on target) k.messages; links = slice_set s.links n link'; routing = routing })
    (record s { rows = moved (is_on n) (all_with (fate_on target)) s.rows; links = slice_set s.links n link'; routing = routing })
settled_for k s n target link link' routing f order last there e p aside =
    let to = fate_on target in
    let off : is_on n to ≡ false = grind (arith, aside.unsent) in
    let stood : is_standing to ≡ true = grind arith in
    let ns : on_lists n k.lists ≡ numbers (on n s.rows) = grind (arith, on_in_order n s.rows order last, map-append, f.stands.queues (Unacked n) refl, f.stands.queues (Waiting n) refl, f.stands.queues (Held n) refl) in
    link_and_queues_for k s f _ _ _ (shifts_stand f.stands (moved_shifts (length k.messages) (is_on n) to s.rows f.stands.numbered off stood) (λ g t. let at = settling n to k.lists aside in let e = at.elsewhere g t in grind (arith, nat_tests, same_is, at, e, ns)) ns) (length-restood (on_lists n k.lists) to k.messages) (simp (length-updated, links_stay)) routing routing refl n link'
    (λ m ne. search last_stays) (search last_stays ∙ f.fsns n link there ∙ rw (e, p) refl) (λ m. search profile_queue) (f.profiles n link there ∙ sym p)

-- ALL OF A PLACE WAIT FOR A LINK: what was parked, or stood back by a code.
passed_moves : (from to : Fate) (q : Lists) (ms : List (Option Message)) (rows : List Row) → Stands q ms rows → is_standing from ≡ true → IsKnown from q → IsKnown to q → is_standing to ≡ true → is_there from to ≡ false → Moves (passed from to q) (restood (queue_at from q) to ms) rows (moved (is_there from) (all_with to) rows)
passed_moves from to q ms rows s stood known other there off =
    shifts_stand s (moved_shifts (length ms) (is_there from) to rows s.numbered off there) (λ g t. passed_replaces q from to stood known other g t ∙ grind (arith, nat_tests, same_is, s.queues from stood)) (s.queues from stood)

-- a link comes up, and what was parked waits for it
pub risen_for : (k : Kept) (s : State) (n : ℕ) (link link' : LinkState) (routing : Routing) → StandsFor k s → slice_get s.links n ≡ Some link → link'.acked ≡ 0 → link'.profile ≡ link.profile
    → StandsFor (record k { lists = passed Parked (Waiting n) (with_last n (fsn_before_first (profile_at n k.lists)) k.lists); messages = restood (queue_at Parked k.lists) (Waiting n) k.messages; links = slice_set s.links n link'; routing = routing })
    (record s { rows = moved is_parked (all_with (Waiting n)) s.rows; links = slice_set s.links n link'; routing = routing })
risen_for k s n link link' routing f there e p =
    let first : ℕ = fsn_before_first (profile_at n k.lists) in
    let of : profile_at n k.lists ≡ link'.profile = f.profiles n link there ∙ sym p in
    let reset : Lists = with_last n first k.lists in
    let known : n < length k.lists.links = grind (arith, within s.links n link there, f.as_many) in
    let inner : n < length reset.links = omega (arith, known, last_links n first k.lists) in
    let stands : Stands reset k.messages s.rows = record { queues = λ g t. queue_last g n first k.lists ∙ f.stands.queues g t; fates = f.stands.fates; labels = f.stands.labels; numbered = f.stands.numbered } in
    link_and_queues_for k s f _ _ _ (passed_moves Parked (Waiting n) reset k.messages s.rows stands refl tt inner refl refl) (length-restood (queue_at Parked k.lists) (Waiting n) k.messages) (simp length-updated) routing routing refl n link'
    (λ m ne. search last_stays ∙ last_set n first k.lists m known ∙ rw (ne_eqb n m ne) refl) (search last_stays ∙ last_set n first k.lists n known ∙ rw (eq-eqb n n refl, e, of) (from_zero link'.profile))
    (λ m. search profile_queue ∙ profile_last n first m k.lists) of

-- what stood back by a code waits for its home
pub released_for : (k : Kept) (s : State) (c l : ℕ) (routing : Routing) → StandsFor k s → c < length k.lists.back → l < length k.lists.links
    → StandsFor (record k { lists = passed (Back c) (Waiting l) k.lists; messages = restood (queue_at (Back c) k.lists) (Waiting l) k.messages; routing = routing }) (record s { rows = moved (is_back c) (all_with (Waiting l)) s.rows; routing = routing })
released_for k s c l routing f code known =
    queues_for k s f _ _ _ (passed_moves (Back c) (Waiting l) k.lists k.messages s.rows f.stands refl code known refl refl) (length-restood (queue_at (Back c) k.lists) (Waiting l) k.messages) (simp length-updated) routing routing refl (λ m. search last_stays) (λ m. search profile_queue)

-- What is kept after a call stands for what became of the state.
pub becomes : {k new : Kept} {s : State} → StandsFor k s → new ≡ k → StandsFor new s
becomes f e = rw e f

-- WHAT REACHED THE FAR END, as the queues and as the rows tell it
pub reaches : (k : Kept) (s : State) (n fsn : ℕ) (link : LinkState) → StandsFor k s → slice_get s.links n ≡ Some link
    → (reach n fsn k.lists ≡ reached_by fsn n link s.rows) × (nat_le (reach n fsn k.lists) (length (queue_at (Unacked n) k.lists)) ≡ is_reasonable fsn n link s.rows)
reaches k s n fsn link f there = grind (arith, f.fsns n link there, f.profiles n link there, f.stands.queues (Unacked n) refl, length-map)

abbrev pub IsOrdered : ℕ → List Row → Type 0
IsOrdered n rows = IsInOrder n rows × IsHeldLast n rows

-- A LINK THAT SETTLES, once it's judged how far the far end got: its rows stand in their order still, and it's there
module _ (n : ℕ) (link : LinkState) (s : State) (there : slice_get s.links n ≡ Some link) (o : IsOrdered n s.rows) where
  sent_up : (cause : DiscardCause) → IsOrdered n (changed (is_unacked n) (Discarded cause) s.rows)
  sent_up cause = let g = given_up n true cause s.rows in (g.order_kept o.0, g.last_kept o.1)

  both_up : (cause : DiscardCause) → IsOrdered n (changed (is_waiting n) (Discarded cause) (changed (is_unacked n) (Discarded cause) s.rows))
  both_up cause = let g = given_up n false cause (changed (is_unacked n) (Discarded cause) s.rows) in (g.order_kept (sent_up cause).0, g.last_kept (sent_up cause).1)

  orders_up : (cause : DiscardCause) → IsOrdered n (orders_changed (is_waiting n) (Discarded cause) (changed (is_unacked n) (Discarded cause) s.rows))
  orders_up cause = let g = orders_given_up n cause (changed (is_unacked n) (Discarded cause) s.rows) in (g.order_kept (sent_up cause).0, g.last_kept (sent_up cause).1)

  pub is_judged : (reached : Reached) → IsOrdered n (judged reached n link s).rows × (slice_get (judged reached n link s).links n ≡ Some (judged_link reached n link s.rows))
  is_judged Unknown = (sent_up Emergency, there)
  is_judged Unanswered = (orders_up NoAnswer, there)
  is_judged Unasked = (sent_up NoAnswer, there)
  is_judged (Upto fsn) = let g = acked_rows n (reached_by fsn n link s.rows) s.rows in let given_up = both_up Unreasonable in grind (arith, get_set_same, within, g.order_kept o.0, g.last_kept o.1)
