-- THE TABLE: what each change of a set's rows does to what is pending on a link, and aside. A new message stands last
-- or elsewhere (`queue_waits`, `queue_apart`), and an order ahead of users' messages (`ahead_there`); sending and
-- acknowledging change nothing (`queue_sent`, `queue_acked`), as pending is counted from what the far end accepted;
-- what it accepts leaves first (`queue_accepted`); a link that settles leaves its queue behind the target's or aside
-- (`queue_settled`, `aside_settled`). Equations on lists, from set_model's Events.antt; only `drop_twice` and its like
-- are inductions. Used by Changes.antt, Turning.antt, Passing.antt, Obeying.antt, Hearing.antt and Keeping.antt.
use Rattle.std.proofs.Common.{cond, refl, arith, ◌≡◌, ◌∙◌, ap, sym, ℕ, zero, suc, ◌≤◌, ◌==◌, ◌+◌, ◌-◌, Bool, true, false, List, [], ◌∷◌, ◌++◌, length, map, take, drop, slice_get, Some, append_assoc}
use Rattle.std.proofs.lemmas.List.{append-nil, map-append, drop-append-le, take-append-drop}
use Rattle.set_events.specs.declared.answer.Fate.{Fate}
use Rattle.set_events.specs.declared.answer.Fate.TheVariants.{Waiting, Unacked, Acked, Parked}
use Rattle.set_model.specs.Rows.{Row, is_on, is_waiting, is_unacked, is_held, is_parked, all_with, unack, wait, held, parked, with_fate, turned, moved, appended, put_ahead, is_users, same_fate, standing, IsInOrder, IsHeldLast}
use Rattle.set_model.proofs.Events.{Untouched, acknowledged, sent, moved_to, moved_aside, unparked, appended_in, appended_out, untouched}
use Rattle.set_model.proofs.Rows.{new_row}
use Rattle.pair_model.specs.Run.{message_by, Message, messages}
use Rattle.pair_changeover.specs.Diverted.{ahead_of_users}
use Rattle.pair_changeover.proofs.Views.{queue}

pub joined : (xs ys : List Row) → messages (xs ++ ys) ≡ messages xs ++ messages ys
joined xs ys = map-append (λ (row : Row). record { number = row.number; body = row.body; users = row.users }) xs ys

pub same_messages : (fate : Fate) (rows : List Row) → messages (map (with_fate fate) rows) ≡ messages rows
same_messages fate [] = refl
same_messages fate (row ∷ rows) = ap (λ (ms : List Message). record { number = row.number; body = row.body; users = row.users } ∷ ms) (same_messages fate rows)

pub drop_none : {X : Type 0} (n : ℕ) → ◌≡◌ {A = List X} (drop n []) []
drop_none zero = refl
drop_none (suc n) = refl

pub drop_twice : {X : Type 0} (m n : ℕ) (xs : List X) → drop m (drop n xs) ≡ drop (n + m) xs
drop_twice m zero xs = let same : m ≡ 0 + m = omega arith in ap (λ (k : ℕ). drop k xs) same
drop_twice m (suc n) [] = drop_none m ∙ sym (drop_none (suc n + m))
drop_twice m (suc n) (x ∷ xs) = let same : suc (n + m) ≡ suc n + m = omega arith in drop_twice m n xs ∙ ap (λ (k : ℕ). drop k (x ∷ xs)) same

pub drop_at : {X : Type 0} (n : ℕ) (xs : List X) (x : X) → slice_get xs n ≡ Some x → drop n xs ≡ x ∷ drop (suc n) xs
drop_at n [] x e = absurd cc
drop_at {X = X} zero (y ∷ xs) x e = let same : y ≡ x = cc in ap (λ (z : X). z ∷ xs) same
drop_at (suc n) (y ∷ xs) x e = drop_at n xs x e

module _ (count link : ℕ) (rows new : List Row) where
  -- a link that sees nothing of it
  pub queue_untouched : Untouched link rows new → queue count link new ≡ queue count link rows
  queue_untouched u = rw (u.unack_same, u.wait_same, u.held_same) refl

-- A NEW MESSAGE stands last where it isn't sent
pub joins_waiting : (sent waiting more : List Row) → messages (sent ++ (waiting ++ more) ++ []) ≡ messages (sent ++ waiting ++ []) ++ messages more
joins_waiting sent waiting more =
    ap messages (append-nil (sent ++ (waiting ++ more)) ∙ sym (append_assoc sent waiting more)) ∙ joined (sent ++ waiting) more
    ∙ ap (λ (xs : List Row). messages xs ++ messages more) (sym (append-nil (sent ++ waiting)))

pub joins_held : (sent waiting kept more : List Row) → messages (sent ++ waiting ++ (kept ++ more)) ≡ messages (sent ++ waiting ++ kept) ++ messages more
joins_held sent waiting kept more = ap messages (sym (append_assoc (sent ++ waiting) kept more)) ∙ joined (sent ++ waiting ++ kept) more

abbrev pub new_message : ℕ → List ℕ → Message
new_message number body = message_by number body

-- and one of the management
abbrev pub new_order_message : ℕ → List ℕ → Message
new_order_message number body = record { number = number; body = body; users = false }

module _ (count link number : ℕ) (rows : List Row) (body : List ℕ) (fate : Fate) where
  pub queue_waits : is_waiting link fate ≡ true → is_unacked link fate ≡ false → is_held link fate ≡ false
      → held link rows ≡ [] → queue count link (appended number rows body fate) ≡ queue count link rows
      ++ new_message number body ∷ []
  queue_waits w u h none =
      rw (
        appended_out number rows body fate (is_unacked link) u,
        appended_in number rows body fate (is_waiting link) w,
        appended_out number rows body fate (is_held link) h,
        none,
      )
      (joins_waiting (drop count (unack link rows)) (wait link rows) (new_row number body fate ∷ []))

  pub queue_holds : is_waiting link fate ≡ false → is_unacked link fate ≡ false → is_held link fate ≡ true
      → queue count link (appended number rows body fate) ≡ queue count link rows ++ new_message number body ∷ []
  queue_holds w u h =
      rw (
        appended_out number rows body fate (is_unacked link) u,
        appended_out number rows body fate (is_waiting link) w,
        appended_in number rows body fate (is_held link) h,
      )
      (joins_held (drop count (unack link rows)) (wait link rows) (held link rows) (new_row number body fate ∷ []))

  pub queue_apart : is_on link fate ≡ false → queue count link (appended number rows body fate) ≡ queue count link rows
  queue_apart o = queue_untouched count link rows (appended number rows body fate)
      (untouched link rows (appended number rows body fate) (appended_out number rows body fate (is_on link) o))

  pub aside_joins : is_parked fate ≡ true → messages (parked (appended number rows body fate)) ≡ messages (parked rows) ++ new_message number body ∷ []
  aside_joins p = ap messages (appended_in number rows body fate is_parked p) ∙ joined (parked rows) (new_row number body fate ∷ [])

  pub aside_apart : is_parked fate ≡ false → messages (parked (appended number rows body fate)) ≡ messages (parked rows)
  aside_apart p = ap messages (appended_out number rows body fate is_parked p)

-- AN ORDER stands ahead of the users' messages that wait where it does
pub joins_at : (sent front rest kept : List Row) → messages (sent ++ (front ++ rest) ++ kept) ≡ messages (sent ++ front) ++ messages (rest ++ kept)
joins_at sent front rest kept =
    ap messages (ap (λ (xs : List Row). xs ++ kept) (sym (append_assoc sent front rest)) ∙ append_assoc (sent ++ front) rest kept)
    ∙ joined (sent ++ front) (rest ++ kept)

-- with no order nothing is ahead
pub ahead_none : (ms : List Message) → ahead_of_users [] ms ≡ ms
ahead_none [] = refl
ahead_none (m ∷ ms) = go m.users (ahead_none ms)
  where
    go : (b : Bool) → ahead_of_users [] ms ≡ ms → cond b (m ∷ ms) (m ∷ ahead_of_users [] ms) ≡ m ∷ ms
    go true later = refl
    go false later = ap (λ (xs : List Message). m ∷ xs) later

module _ (number : ℕ) (body : List ℕ) (fate : Fate) (own : same_fate fate fate ≡ true) where
  abbrev there : List Row → List Message
  there rows = messages (standing (λ f. same_fate f fate) rows)

  pub ahead_there : (rows : List Row) → there (put_ahead number rows body fate) ≡ ahead_of_users (new_order_message number body ∷ []) (there rows)
  ahead_there [] = rw own refl
  ahead_there (x ∷ rows) = go (same_fate x.fate fate) refl (is_users x) refl (ahead_there rows)
    where
      go : (b : Bool) → same_fate x.fate fate ≡ b → (u : Bool) → is_users x ≡ u
          → there (put_ahead number rows body fate) ≡ ahead_of_users (new_order_message number body ∷ []) (there rows)
          → there (put_ahead number (x ∷ rows) body fate) ≡ ahead_of_users (new_order_message number body ∷ []) (there (x ∷ rows))
      go true e true u later = rw (u, e, own, e) refl
      go true e false u later = rw (u, e) (ap (λ (xs : List Message). record { number = x.number; body = x.body; users = false } ∷ xs) later)
      go false e true u later = rw (u, e, e) later
      go false e false u later = rw (u, e) later

-- A FIRST SENDING: the first that waits is the last that was sent
sends_on : (count : ℕ) (sent waiting kept : List Row) (fate : Fate) → count ≤ length sent
    → messages (drop count (sent ++ map (with_fate fate) (take 1 waiting)) ++ drop 1 waiting ++ kept)
    ≡ messages (drop count sent ++ waiting ++ kept)
sends_on count sent waiting kept fate few =
    let more = map (with_fate fate) (take 1 waiting) in
    let left : messages (drop count (sent ++ more) ++ drop 1 waiting) ≡ messages (drop count sent ++ waiting) =
    ap (λ (xs : List Row). messages (xs ++ drop 1 waiting)) (drop-append-le count sent more few)
    ∙ joined (drop count sent ++ more) (drop 1 waiting)
    ∙ ap (λ (ms : List Message). ms ++ messages (drop 1 waiting))
    (joined (drop count sent) more
    ∙ ap (λ (ms : List Message). messages (drop count sent) ++ ms) (same_messages fate (take 1 waiting)))
    ∙ append_assoc (messages (drop count sent)) (messages (take 1 waiting)) (messages (drop 1 waiting))
    ∙ ap (λ (ms : List Message). messages (drop count sent) ++ ms) (sym (joined (take 1 waiting) (drop 1 waiting)) ∙ ap messages (take-append-drop 1 waiting))
    ∙ sym (joined (drop count sent) waiting) in
    joined (drop count (sent ++ more) ++ drop 1 waiting) kept ∙ ap (λ (ms : List Message). ms ++ messages kept) left
    ∙ sym (joined (drop count sent ++ waiting) kept)

pub queue_sent : (count link : ℕ) (rows : List Row) → IsInOrder link rows → count ≤ length (unack link rows)
    → queue count link (turned (is_waiting link) (Unacked link) 1 rows) ≡ queue count link rows
queue_sent count link rows order few =
    let s = sent link rows in
    rw (s.unack_is order, s.wait_is, s.held_same) (sends_on count (unack link rows) (wait link rows) (held link rows) (Unacked link) few)

-- ACKNOWLEDGED: the far end accepted them
pub queue_acked : (accepted acked count link : ℕ) (rows : List Row) → acked + count ≤ accepted
    → queue (accepted - (acked + count)) link (turned (is_unacked link) (Acked link) count rows)
    ≡ queue (accepted - acked) link rows
queue_acked accepted acked count link rows few =
    let a = acknowledged link count rows in
    let many : count + (accepted - (acked + count)) ≡ accepted - acked = omega (arith, few) in
    rw (a.unack_is, a.wait_same, a.held_same, drop_twice (accepted - (acked + count)) count (unack link rows), many) refl

-- ACCEPTED by the far end: the first leaves
pub queue_accepted : (count link : ℕ) (rows : List Row) (row : Row) → slice_get (unack link rows) count ≡ Some row
    → queue count link rows ≡ record { number = row.number; body = row.body; users = row.users } ∷ queue (suc count) link rows
queue_accepted count link rows row there = rw (drop_at count (unack link rows) row there) refl

-- A LINK SETTLES: its queue stands behind the target's, or aside
pub queue_settled : (count to_count link to : ℕ) (rows : List Row) → (link == to) ≡ false → IsInOrder link rows
    → IsHeldLast link rows → held to rows ≡ []
    → queue to_count to (moved (is_on link) (all_with (Waiting to)) (turned (is_unacked link) (Acked link) count rows))
    ≡ queue to_count to rows ++ queue count link rows
queue_settled count to_count link to rows other order last none =
    let a = acknowledged link count rows in
    let mid = turned (is_unacked link) (Acked link) count rows in
    let m = moved_to link to mid other in
    let u = a.others to other in
    rw (m.unack_same, m.wait_is, m.held_same, u.unack_same, u.wait_same, u.held_same, none, a.on_is order last)
    (joins_waiting (drop to_count (unack to rows)) (wait to rows)
    (map (with_fate (Waiting to)) (drop count (unack link rows) ++ wait link rows ++ held link rows))
    ∙ ap (λ (ms : List Message). messages (drop to_count (unack to rows) ++ wait to rows ++ []) ++ ms)
    (same_messages (Waiting to) (drop count (unack link rows) ++ wait link rows ++ held link rows)))

pub aside_settled : (count link : ℕ) (rows : List Row) → IsInOrder link rows → IsHeldLast link rows
    → messages (parked (moved (is_on link) (all_with Parked) (turned (is_unacked link) (Acked link) count rows)))
    ≡ messages (parked rows) ++ queue count link rows
aside_settled count link rows order last =
    let a = acknowledged link count rows in
    let mid = turned (is_unacked link) (Acked link) count rows in
    ap messages (moved_aside link mid ∙ rw (a.parked_same, a.on_is order last) refl)
    ∙ joined (parked rows) (map (with_fate Parked) (drop count (unack link rows) ++ wait link rows ++ held link rows))
    ∙ ap (λ (ms : List Message). messages (parked rows) ++ ms) (same_messages Parked (drop count (unack link rows) ++ wait link rows ++ held link rows))

-- A LINK COMES UP: what stood aside waits for it
pub queue_rises : (count link : ℕ) (rows : List Row) → held link rows ≡ []
    → queue count link (moved is_parked (all_with (Waiting link)) rows) ≡ queue count link rows
    ++ messages (parked rows)
queue_rises count link rows none =
    let u = unparked link rows in
    rw (u.unack_same, u.wait_is, u.held_same, none)
    (joins_waiting (drop count (unack link rows)) (wait link rows) (map (with_fate (Waiting link)) (parked rows))
    ∙ ap (λ (ms : List Message). messages (drop count (unack link rows) ++ wait link rows ++ []) ++ ms) (same_messages (Waiting link) (parked rows)))

-- and the messages that wait for the target are those that did, and then its queue
pub wait_settled : (count link to : ℕ) (rows : List Row) → (link == to) ≡ false → IsInOrder link rows
    → IsHeldLast link rows → messages
    (wait to (moved (is_on link) (all_with (Waiting to)) (turned (is_unacked link) (Acked link) count rows)))
    ≡ messages (wait to rows) ++ queue count link rows
wait_settled count link to rows other order last =
    let a = acknowledged link count rows in
    let mid = turned (is_unacked link) (Acked link) count rows in
    ap messages ((moved_to link to mid other).wait_is ∙ rw ((a.others to other).wait_same, a.on_is order last) refl)
    ∙ joined (wait to rows) (map (with_fate (Waiting to)) (drop count (unack link rows) ++ wait link rows ++ held link rows))
    ∙ ap (λ (ms : List Message). messages (wait to rows) ++ ms) (same_messages (Waiting to) (drop count (unack link rows) ++ wait link rows ++ held link rows))
