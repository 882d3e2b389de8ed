-- HOW MANY MESSAGES stand somewhere, by what is kept of them and by their rows: as many, whatever label and fate are
-- asked for (`counted`); so with the unsent messages of a stream (`unsent_is`) and the counts of users' messages
-- (`counts_are`). What is kept stands in the order of numbers, the rows in that of queueing. But each number stands in
-- one row, so the slots from a number on pass a test as often as the rows of that number or a later one (`as_many`, by
-- induction on the slots; `one_less`, on the rows). Used by the function offer of src/offering.rt, and by set_step's
-- Kept.antt and Forgotten.antt.
use Rattle.std.proofs.Common.{refl, arith, ◌≡◌, ◌∙◌, ap, sym, ◌≤◌, ◌+◌, [], ◌∷◌, List, ℕ, suc, length, ◌&&◌, Bool, false, nat_le, Option, None, Some, slice_get, filter, option_map}
use Rattle.std.proofs.Math.Nat.{zero-add}
use Rattle.std.proofs.lemmas.Bool.Decides.{nat_tests}
use Rattle.set_queues.specs.Buffers.{Lists}
use Rattle.std.specs.Option.{option_map_or}
use Rattle.set_queues.specs.Messages.{one_if, is_of, is_queued, is_there, is_users, slot_at, unsent_of, count_of, counts_of}
use Rattle.set_model.specs.Rows.{Fate, Row, row_of, unsent, is_unsent, IsNumbered, standing, users, counts_of as counts_in}
use Rattle.set_model.proofs.Rows.{with_number, row_is_first, at_most_one}
use Rattle.set_changeover.specs.Agreement.{Message, Label, Stands, kind_of, label_in, label_of}
use Rattle.std.proofs.lemmas.List.Elements.{filter_agree}

-- rows that pass a test, of this number or a later one
abbrev from : (Row → Bool) → ℕ → List Row → ℕ
from r n rows = length (filter (λ row. nat_le n row.number && r row) rows)

one_less : (r : Row → Bool) (n : ℕ) (rows : List Row) → from r n rows ≡ length (filter r (with_number n rows)) + from r (suc n) rows
one_less r n [] = refl
one_less r n (x ∷ rows) = grind (arith, nat_tests, one_less r n rows)

none_past : (r : Row → Bool) (n : ℕ) (rows : List Row) → ((m : ℕ) → n ≤ m → length (with_number m rows) ≡ 0) → from r n rows ≡ 0
none_past r n [] none = refl
none_past r n (x ∷ rows) none = grind (arith, nat_tests, none x.number, none_past r n rows (λ m past. grind (arith, nat_tests, none m past)))

-- a row passes the test, if there is one
abbrev picked : (Row → Bool) → Option Row → Bool
picked r row = option_map_or r row false

alone : (r : Row → Bool) (rows : List Row) → length rows ≤ 1 → length (filter r rows) ≡ one_if (picked r (slice_get rows 0))
alone r [] one = refl
alone r (x ∷ []) one = grind arith
alone r (x ∷ y ∷ rows) one = absurd (omega (arith, one))

-- THE SAME COUNT: what a slot is picked by, the row of its number is.
as_many : (p : Option Message → Bool) (r : Row → Bool) (ms : List (Option Message)) (k given : ℕ) (rows : List Row) → IsNumbered given rows → k + length ms ≡ given → ((i n : ℕ) → n ≡ k + i → p (slot_at i ms) ≡ picked r (row_of n rows)) → length (filter p ms) ≡ from r k rows
as_many p r [] k given rows numbered count same = sym (none_past r k rows (λ m past. let none = numbered m in grind (arith, nat_tests, none)))
as_many p r (m ∷ ms) k given rows numbered count same =
    let here = alone r (with_number k rows) (at_most_one given k rows numbered) in
    let is = same 0 k (omega arith) ∙ ap (picked r) (row_is_first k rows) in
    let rest = as_many p r ms (suc k) given rows numbered (omega (arith, count)) (λ i n e. same (suc i) n (omega (arith, e))) in
    grind (arith, one_less r k rows)

-- by label and fate, as a message has them and its row
module _ (f : Label → Fate → Bool) (p : Option Message → Bool) (none : p None ≡ false) (by : (m : Message) → p (Some m) ≡ f (label_in m) m.fate) where
  by_label : (o : Option Message) (d : Option Row) → option_map (λ (m : Message). m.fate) o ≡ option_map (λ (r : Row). r.fate) d → option_map label_in o ≡ option_map label_of d → p o ≡ picked (λ (r : Row). f (label_of r) r.fate) d
  by_label None None e g = none
  by_label None (Some r) e g = absurd (cc)
  by_label (Some m) None e g = absurd (cc)
  by_label (Some m) (Some r) e g = let is = by m in grind arith

  pub counted : (q : Lists) (ms : List (Option Message)) (rows : List Row) → Stands q ms rows → length (filter p ms) ≡ length (filter (λ (r : Row). f (label_of r) r.fate) rows)
  counted q ms rows s =
      as_many p (λ (r : Row). f (label_of r) r.fate) ms 0 (length ms) rows s.numbered (omega arith) (λ i n e. rw (e, zero-add) (by_label (slot_at i ms) (row_of i rows) (s.fates i) (s.labels i)))
      ∙ ap length (filter_agree _ _ (λ row. grind (arith, nat_tests)) rows)

-- THE UNSENT MESSAGES of a stream
pub unsent_is : (stream : ℕ) (q : Lists) (ms : List (Option Message)) (rows : List Row) → Stands q ms rows → unsent_of stream ms ≡ length (unsent stream rows)
unsent_is stream q ms rows s = counted (λ l fate. is_of stream l.kind && is_unsent fate) (is_queued stream) refl (λ m. refl) q ms rows s ∙ ap length (filter_agree _ _ (λ row. grind arith) rows)

-- THE USERS' MESSAGES of one place
pub users_there : (test : Fate → Bool) (rows : List Row) → length (filter (λ (r : Row). is_users (kind_of r) && test r.fate) rows) ≡ length (standing test (users rows))
users_there test [] = refl
users_there test (x ∷ rows) = grind (arith, users_there test rows)

pub counts_are : (q : Lists) (ms : List (Option Message)) (rows : List Row) → Stands q ms rows → counts_of ms ≡ counts_in rows
counts_are q ms rows s =
    let in_place : (test : Fate → Bool) → count_of test ms ≡ length (standing test (users rows)) = λ test. counted (λ l fate. is_users l.kind && test fate) (is_there test) refl (λ m. refl) q ms rows s ∙ users_there test rows in
    grind (arith, in_place)
