-- WHAT EACH CHANGE DOES TO EACH LINK: the lemmas that a set's step is argued by. `sent`, `acknowledged`, `given_up` and
-- `withdrawn_rows` are of rows that change in their places, `moved_to`, `moved_aside` and `left` of a link that its
-- messages leave, `unparked` of one that comes up, `appended_in` and `appended_out` of a new message. Each tells the
-- queues of its link, that others see nothing (`Untouched`), and what every change keeps of numbers, octets and counts
-- (`Kept`). They follow from what filters see of rows (Rows.antt, Order.antt), where the inductions are. Walk.antt,
-- SoundLink.antt, Framing.antt and Settling.antt build on them, and so does pair_changeover's Table.antt.
use Rattle.l2_units.specs.declared.profile.Profile.{Profile}
use Rattle.std.proofs.Common.{inl, inr, refl, arith, ◌≡◌, ◌∙◌, ap, ◌≤◌, [], ◌∷◌, length, ℕ, Bool, true, false, ◌==◌, ◌||◌, List, ◌++◌, map, take, drop, not, cond}
use Rattle.std.proofs.lemmas.Bool.Decides.{nat_tests}
use Rattle.std.proofs.lemmas.List.{append-nil, map-append}
use Rattle.std.proofs.lemmas.List.Elements.{filter-append}
use Rattle.set_model.specs.Rows.{DiscardCause, NoAnswer, Fate, Acked, Discarded, Parked, Unacked, Waiting, AreFit, AreMarked, IsHeldLast, IsInOrder, IsNumbered, Row, all_with, appended, back, body_at, owner_at, changed, counts_of, fated, held, is_held, is_on, is_parked, is_unacked, is_waiting, moved, numbers, on, one_changed, orders_changed, parked, same_fate, waits, is_users, users, standing, stands_back, total_of, turned, unack, wait, was_acked, with_fate}
use Rattle.set_model.specs.Control.{Choice, first}
use Rattle.set_model.specs.Laws.{IsEmptyLink}
use Rattle.set_model.specs.Sound.{is_unfinished}
use Rattle.set_model.specs.Step.{rows_sent}
use Rattle.set_model.proofs.Places.{itself, apart_back, on_other, not_on_waiting, not_on_unacked, not_on_held}
use Rattle.set_model.proofs.Rows.{InPlace, turned_there, picked_there, turned_same, turned_left, moved_length, moved_fit, moved_marked, moved_numbered, moved_gone, moved_same, moved_joined, filter_moved, filter_comm, filter_within, none_within, body_moved, owner_moved, total_is, new_row, same_numbers}
use Rattle.set_model.proofs.Order.{before_filter, before_none, before_within, first_sent, on_in_order}

-- Rows that got their fates have the same numbers and octets.
pub numbers_fated : (fate : Row → Fate) (xs : List Row) → numbers (map (fated fate) xs) ≡ numbers xs
numbers_fated fate [] = refl
numbers_fated fate (x ∷ xs) = ap (λ (ns : List ℕ). x.number ∷ ns) (numbers_fated fate xs)

pub numbers_joined : (fate : Row → Fate) (xs ys : List Row) → numbers (xs ++ map (fated fate) ys) ≡ numbers xs ++ numbers ys
numbers_joined fate xs ys = map-append (λ (row : Row). row.number) xs (map (fated fate) ys) ∙ ap (λ (ns : List ℕ). numbers xs ++ ns) (numbers_fated fate ys)

-- What every change but a new message keeps.
pub record Kept (rows new : List Row) : Type 0 where
  pub fit : (p : Profile) → AreFit p rows → AreFit p new
  pub marked : AreMarked rows → AreMarked new
  pub numbered : (given : ℕ) → IsNumbered given rows → IsNumbered given new
  pub count : length new ≡ length rows
  pub bodies : (given : ℕ) → IsNumbered given rows → (number : ℕ) → body_at number new ≡ body_at number rows
  pub owners : (given : ℕ) → IsNumbered given rows → (number : ℕ) → owner_at number new ≡ owner_at number rows
  pub total : total_of (counts_of new) ≡ total_of (counts_of rows)
  pub acked : (counts_of rows).acked ≤ (counts_of new).acked

pub moved_kept : (test : Fate → Bool) (fate : Row → Fate) (rows : List Row)
    → ((row : Row) → was_acked (fate row) ≡ false) → ((l : ℕ) → test (Acked l) ≡ false)
    → Kept rows (moved test fate rows)
moved_kept test fate rows o w =
    let none : (f : Fate) → test f ≡ true → was_acked f ≡ false = λ f e. grind arith in
    let numbered = λ (given : ℕ) (n : IsNumbered given rows). moved_numbered test fate given rows n in
    let bodies = λ (given : ℕ) (n : IsNumbered given rows) (number : ℕ). body_moved test fate given number rows n in
    let owners = λ (given : ℕ) (n : IsNumbered given rows) (number : ℕ). owner_moved test fate given number rows n in
    grind (arith, moved_fit, moved_marked, numbered, moved_length, bodies, owners, total_is, filter_moved, filter_comm, moved_same)

-- Nothing that link n sees changed.
pub record Untouched (n : ℕ) (rows new : List Row) : Type 0 where
  pub unack_same : unack n new ≡ unack n rows
  pub wait_same : wait n new ≡ wait n rows
  pub held_same : held n new ≡ held n rows
  pub on_same : on n new ≡ on n rows
  pub order_kept : IsInOrder n rows → IsInOrder n new
  pub last_kept : IsHeldLast n rows → IsHeldLast n new

-- where what is on it is the same
pub untouched : (n : ℕ) (rows new : List Row) → on n new ≡ on n rows → Untouched n rows new
untouched n rows new same =
    let order = before_within (is_unacked n) (is_waiting n) (is_on n) (λ f e. grind arith) (λ f e. grind arith) new in
    let last = before_within (λ f. is_unacked n f || is_waiting n f) (is_held n) (is_on n) (λ f e. grind arith) (λ f e. grind arith) new in
    grind (arith, filter_within, order, last, before_filter)

-- A NEW MESSAGE.
-- a place where it stands, and one where it doesn't
pub appended_in : (number : ℕ) (rows : List Row) (body : List ℕ) (fate : Fate) (test : Fate → Bool) → test fate ≡ true
    → standing test (appended number rows body fate) ≡ standing test rows ++ new_row number body fate ∷ []
appended_in number rows body fate test h = filter-append (λ (row : Row). test row.fate) rows (new_row number body fate ∷ []) ∙ rw h refl

pub appended_out : (number : ℕ) (rows : List Row) (body : List ℕ) (fate : Fate) (test : Fate → Bool) → test fate ≡ false
    → standing test (appended number rows body fate) ≡ standing test rows
appended_out number rows body fate test h =
    filter-append (λ (row : Row). test row.fate) rows (new_row number body fate ∷ [])
    ∙ ap (λ (xs : List Row). standing test rows ++ xs) (rw h refl) ∙ append-nil (standing test rows)

-- ROWS OF A LINK THAT CHANGE IN THEIR PLACES: none of them is held, and what stands elsewhere doesn't change.
pub record ChangesOn (l : ℕ) (rows new : List Row) : Type 0 where
  pub kept : Kept rows new
  pub held_same : held l new ≡ held l rows
  pub parked_same : parked new ≡ parked rows
  pub back_same : back new ≡ back rows
  pub no_users : users (on l rows) ≡ [] → users (on l new) ≡ []
  pub order_kept : IsInOrder l rows → IsInOrder l new
  pub last_kept : IsHeldLast l rows → IsHeldLast l new
  pub others : (n : ℕ) → (l == n) ≡ false → Untouched n rows new

-- those that were sent on it, or wait for it, stay sent on it or are done with
module _ (l : ℕ) (test : Fate → Bool) (to : Fate) (rows new : List Row) (i : InPlace test to rows new)
    (goes : (f : Fate) → test f ≡ true → (is_unacked l f || is_waiting l f) ≡ true) where
  changes_on : (is_unacked l to || not (is_unfinished to)) ≡ true → (IsInOrder l rows → IsInOrder l new) → ChangesOn l rows new
  changes_on comes order =
      let unacked : (k : ℕ) → test (Acked k) ≡ false = λ k. grind (arith, goes (Acked k)) in
      let last = i.before (λ f. is_unacked l f || is_waiting l f) (is_held l) (λ f e u. goes f e) (λ f e h. grind arith) in
      let none : (other : Fate → Bool) → other to ≡ false
      → ((f : Fate) → (is_unacked l f || is_waiting l f) ≡ true → other f ≡ false)
      → standing other new ≡ standing other rows = λ other o w. i.same other o (λ f e. w f (goes f e)) in
      record {
        kept = grind (arith, total_is, same_numbers);
        held_same = none (is_held l) (grind arith) (λ f e. grind arith);
        parked_same = none is_parked (grind arith) (λ f e. grind arith);
        back_same = none stands_back (grind arith) (λ f e. grind arith);
        no_users = i.no_users (is_on l) (λ f e p. grind (arith, goes f e));
        order_kept = order;
        last_kept = last;
        others = λ n d. untouched n rows new (none (is_on n) (grind arith) (λ f e. grind arith));
      }

  ends_on : is_unfinished to ≡ false → ChangesOn l rows new
  ends_on done = changes_on (grind arith) (i.before (is_unacked l) (is_waiting l) (λ f e u. grind arith) (λ f e w. grind arith))

-- A FIRST SENDING.
pub record Sent (l : ℕ) (rows new : List Row) : Type 0 where
  pub in_place : ChangesOn l rows new
  pub open in_place use *
  pub wait_is : wait l new ≡ drop 1 (wait l rows)
  -- needs the order, by which nothing that was sent stands behind it
  pub unack_is : IsInOrder l rows → unack l new ≡ unack l rows ++ map (with_fate (Unacked l)) (take 1 (wait l rows))

pub sent : (l : ℕ) (rows : List Row) → Sent l rows (turned (is_waiting l) (Unacked l) 1 rows)
sent l rows =
    let first = first_sent l rows (itself l) in
    let changed = changes_on l (is_waiting l) (Unacked l) rows _ (turned_there (is_waiting l) (Unacked l) 1 rows)
    (λ f e. grind arith) (grind arith) (λ o. (first o).0) in
    record { in_place = changed; wait_is = turned_left (is_waiting l) (Unacked l) refl 1 rows; unack_is = λ o. (first o).1 }

-- AN ACKNOWLEDGEMENT.
pub record Acknowledged (l count : ℕ) (rows new : List Row) : Type 0 where
  pub in_place : ChangesOn l rows new
  pub open in_place use *
  pub unack_is : unack l new ≡ drop count (unack l rows)
  pub wait_same : wait l new ≡ wait l rows
  pub on_is : IsInOrder l rows → IsHeldLast l rows → on l new ≡ drop count (unack l rows) ++ wait l rows ++ held l rows

pub acknowledged : (l count : ℕ) (rows : List Row) → Acknowledged l count rows (turned (is_unacked l) (Acked l) count rows)
acknowledged l count rows =
    let changed = ends_on l (is_unacked l) (Acked l) rows _ (turned_there (is_unacked l) (Acked l) count rows) (λ f e. grind arith) refl in
    let not_waiting : (f : Fate) → is_unacked l f ≡ true → is_waiting l f ≡ false = λ f e. grind arith in
    search (changed, turned_left, turned_same, on_in_order, changed.order_kept, changed.last_kept, changed.held_same)

-- what the rows keep where nothing is sent for the first time too
pub sent_by : (choice : Choice) (n : ℕ) (rows : List Row) → ChangesOn n rows (rows_sent choice n rows)
sent_by first n rows = (sent n rows).in_place
sent_by _ n rows = (acknowledged n 0 rows).in_place

-- MESSAGES THAT ARE GIVEN UP.
pub given_up : (l : ℕ) (sent : Bool) (cause : DiscardCause) (rows : List Row)
    → ChangesOn l rows (changed (cond sent (is_unacked l) (is_waiting l)) (Discarded cause) rows)
given_up l true cause rows = ends_on l (is_unacked l) (Discarded cause) rows _ (turned_there (is_unacked l) (Discarded cause) _ rows) (λ f e. grind arith) refl
given_up l false cause rows = ends_on l (is_waiting l) (Discarded cause) rows _ (turned_there (is_waiting l) (Discarded cause) _ rows) (λ f e. grind arith) refl

pub orders_given_up : (l : ℕ) (cause : DiscardCause) (rows : List Row)
    → ChangesOn l rows (orders_changed (is_waiting l) (Discarded cause) rows)
orders_given_up l cause rows = ends_on l (is_waiting l) (Discarded cause) rows _ (picked_there (λ row. not (is_users row)) (is_waiting l) (Discarded cause) rows) (λ f e. grind arith) refl

pub orders_given_up_unack : (l : ℕ) (cause : DiscardCause) (rows : List Row)
    → unack l (orders_changed (is_waiting l) (Discarded cause) rows) ≡ unack l rows
orders_given_up_unack l cause rows = (picked_there (λ row. not (is_users row)) (is_waiting l) (Discarded cause) rows).same (is_unacked l) refl (λ f e. grind arith)

-- Foremost ones that are given up, as many as wait, before they are sent.
pub withdrawn_rows : (count l : ℕ) (rows : List Row) → ChangesOn l rows (turned (is_waiting l) (Discarded NoAnswer) count rows)
withdrawn_rows count l rows = ends_on l (is_waiting l) (Discarded NoAnswer) rows _
    (turned_there (is_waiting l) (Discarded NoAnswer) count rows) (λ f e. grind arith) refl

pub withdrawn_unack : (count l : ℕ) (rows : List Row) → unack l (turned (is_waiting l) (Discarded NoAnswer) count rows) ≡ unack l rows
withdrawn_unack count l rows = turned_same (is_waiting l) (is_unacked l) (Discarded NoAnswer) refl (λ f e. grind arith) count rows

pub withdrawn_wait : (count l : ℕ) (rows : List Row) → wait l (turned (is_waiting l) (Discarded NoAnswer) count rows) ≡ drop count (wait l rows)
withdrawn_wait count l rows = turned_left (is_waiting l) (Discarded NoAnswer) refl count rows

-- ONE MESSAGE THAT IS TAKEN BACK, from where it waits for a link, or is parked.
pub record TakenBack (from : Fate) (rows new : List Row) : Type 0 where
  pub kept : Kept rows new
  pub unack_same : (n : ℕ) → unack n new ≡ unack n rows
  pub held_same : (n : ℕ) → held n new ≡ held n rows
  pub back_same : back new ≡ back rows
  pub none_parked : parked rows ≡ [] → parked new ≡ []
  pub none_on : (n : ℕ) → on n rows ≡ [] → on n new ≡ []
  pub no_users : (n : ℕ) → users (on n rows) ≡ [] → users (on n new) ≡ []
  pub order_kept : (n : ℕ) → IsInOrder n rows → IsInOrder n new
  pub last_kept : (n : ℕ) → IsHeldLast n rows → IsHeldLast n new
  pub others : (n : ℕ) → is_waiting n from ≡ false → Untouched n rows new

pub taken_back_rows : (number : ℕ) (from : Fate) (rows : List Row) → (waits from || is_parked from) ≡ true
    → TakenBack from rows (one_changed number (λ f. same_fate f from) (Discarded NoAnswer) rows)
taken_back_rows number from rows unsent =
    let test : Fate → Bool = λ f. same_fate f from in
    let new = one_changed number test (Discarded NoAnswer) rows in
    let i = picked_there (λ row. row.number == number) test (Discarded NoAnswer) rows in
    let goes : (f : Fate) → test f ≡ true → f ≡ from = λ f e. grind (arith, nat_tests) in
    let acked : (k : ℕ) → test (Acked k) ≡ false = λ k. grind arith in
    record {
      kept = grind (arith, total_is, same_numbers, i, acked);
      unack_same = λ n. i.same (is_unacked n) refl (λ f e. rw (goes f e) (grind arith));
      held_same = λ n. i.same (is_held n) refl (λ f e. rw (goes f e) (grind arith));
      back_same = i.same stands_back refl (λ f e. rw (goes f e) (grind arith));
      none_parked = i.none is_parked (λ f e p. absurd cc);
      none_on = λ n. i.none (is_on n) (λ f e p. absurd cc);
      no_users = λ n. i.no_users (is_on n) (λ f e p. absurd cc);
      order_kept = λ n. i.before (is_unacked n) (is_waiting n) (λ f e p. absurd cc) (λ f e p. absurd cc);
      last_kept = λ n. i.before (λ f. is_unacked n f || is_waiting n f) (is_held n) (λ f e p. absurd cc) (λ f e p. absurd cc);
      others = λ n off. untouched n rows new (i.same (is_on n) refl (λ f e. rw (goes f e) (grind arith)));
    }

-- A LINK THAT IS LEFT BY ITS MESSAGES.
-- none of the three kinds is on it where nothing is
pub empty_link : (l : ℕ) (rows : List Row) → on l rows ≡ [] → IsEmptyLink l rows
empty_link l rows none = let kind =
    λ (test : Fate → Bool) (w : (f : Fate) → test f ≡ true → is_on l f ≡ true). none_within test (is_on l) w rows none
    in record {
      unack_none = kind (is_unacked l) (λ f e. grind arith);
      wait_none = kind (is_waiting l) (λ f e. grind arith);
      held_none = kind (is_held l) (λ f e. grind arith);
    }

pub record Left (l : ℕ) (to : Fate) (rows new : List Row) : Type 0 where
  pub kept : Kept rows new
  pub none_is : IsEmptyLink l new
  pub open none_is use *
  pub on_none : on l new ≡ []
  pub in_order : IsInOrder l new
  pub held_last : IsHeldLast l new
  pub others : (n : ℕ) → (l == n) ≡ false → is_on n to ≡ false → Untouched n rows new

pub left : (l : ℕ) (to : Fate) (rows : List Row) → is_on l to ≡ false → was_acked to ≡ false → Left l to rows (moved (is_on l) (all_with to) rows)
left l to rows o a =
    let none = moved_gone (is_on l) (is_on l) (all_with to) rows (λ x. o) (λ f e. e) in
    let empty = empty_link l (moved (is_on l) (all_with to) rows) none in
    search (moved_kept, before_none, inl, inr, untouched, moved_same, on_other, apart_back)

-- to another link
pub record MovedTo (l t : ℕ) (rows new : List Row) : Type 0 where
  pub left_is : Left l (Waiting t) rows new
  pub unack_same : unack t new ≡ unack t rows
  pub wait_is : wait t new ≡ wait t rows ++ map (with_fate (Waiting t)) (on l rows)
  pub held_same : held t new ≡ held t rows
  pub parked_same : parked new ≡ parked rows

pub moved_to : (l t : ℕ) (rows : List Row) → (l == t) ≡ false → MovedTo l t rows (moved (is_on l) (all_with (Waiting t)) rows)
moved_to l t rows d =
    let not_parked : (f : Fate) → is_on l f ≡ true → is_parked f ≡ false = λ f e. grind arith in
    search (on_other, apart_back, moved_joined, itself, not_on_waiting, moved_same, not_on_held, left, not_on_unacked)

-- where no link is up
pub moved_aside : (l : ℕ) (rows : List Row) → parked (moved (is_on l) (all_with Parked) rows) ≡ parked rows ++ map (with_fate Parked) (on l rows)
moved_aside l rows = moved_joined (is_on l) is_parked (all_with Parked) rows (λ x. refl) (λ f e. grind arith)

-- PARKED MESSAGES THAT FIND A LINK.
pub record Unparked (l : ℕ) (rows new : List Row) : Type 0 where
  pub kept : Kept rows new
  pub parked_none : parked new ≡ []
  pub unack_same : unack l new ≡ unack l rows
  pub wait_is : wait l new ≡ wait l rows ++ map (with_fate (Waiting l)) (parked rows)
  pub held_same : held l new ≡ held l rows
  pub last_kept : held l rows ≡ [] → IsHeldLast l new
  pub others : (n : ℕ) → (l == n) ≡ false → Untouched n rows new

pub unparked : (l : ℕ) (rows : List Row) → Unparked l rows (moved is_parked (all_with (Waiting l)) rows)
unparked l rows =
    let parked_not_on : (n : ℕ) (f : Fate) → is_parked f ≡ true → is_on n f ≡ false = λ n f e. grind arith in
    search (parked_not_on, moved_joined, itself, not_on_waiting, moved_same, not_on_held, moved_kept, moved_gone, not_on_unacked, before_none, inr, untouched)
