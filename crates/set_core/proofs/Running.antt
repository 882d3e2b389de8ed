-- Items one after another.
use Rattle.std.proofs.Common.{refl, arith, ◌≡◌, ◌∙◌, ap, sym, ◌↔◌, [], ◌∷◌, ◌++◌, ℕ, zero, suc, ◌+◌, Bool, List, append_assoc}
use Rattle.set_core.specs.declared.item.Item.{Item}
use Rattle.set_core.specs.declared.item.Item.TheVariants.{Entered, Checkpoint}
use Rattle.set_events.specs.declared.books.Books.{Books}
use Rattle.set_events.specs.declared.event.Actor.{Actor}
use Rattle.set_events.specs.declared.history.Entry.{Entry}
use Rattle.set_model.specs.State.{State}
use Rattle.set_model.specs.Checkpoint.{checkpointed, counts_in}
use Rattle.set_model.specs.History.{Base, IsLegal, after, added, based, books_of, calls_from, calls_of, is_terminal, is_user, messages_of, octets_in_all}
use Rattle.set_model.specs.Step.{step}
use Rattle.set_core.specs.Items.{left_by, after_items, AreLegal, entries_among, books_over, entered, piece, set_of, IsAsEntries, RunsOn}

-- One list behind another.

pub after_both : (s : State) (xs ys : List Item) → after_items s (xs ++ ys) ≡ after_items (after_items s xs) ys
after_both s [] ys = refl
after_both s (x ∷ xs) ys = after_both (left_by s x) xs ys

pub legal_both : (s : State) (xs ys : List Item) → AreLegal s (xs ++ ys) ↔ (AreLegal s xs × AreLegal (after_items s xs) ys)
legal_both s [] ys = (λ l. (tt, l), λ l. l.1)
legal_both s (x ∷ xs) ys =
    let rest = legal_both (left_by s x) xs ys in
    (λ l. ((l.0, (rest.0 l.1).0), (rest.0 l.1).1), λ l. (l.0.0, rest.1 (l.0.1, l.1)))

pub entries_both : (xs ys : List Item) → entries_among (xs ++ ys) ≡ entries_among xs ++ entries_among ys
entries_both [] ys = refl
entries_both (Entered entry ∷ xs) ys = ap (λ (es : List Entry). entry ∷ es) (entries_both xs ys)
entries_both (Checkpoint ∷ xs) ys = entries_both xs ys

-- Without a checkpoint.

pub entries_entered : (entries : List Entry) → entries_among (entered entries) ≡ entries
entries_entered [] = refl
entries_entered (entry ∷ entries) = ap (λ (es : List Entry). entry ∷ es) (entries_entered entries)

pub after_entered : (s : State) (entries : List Entry) → after_items s (entered entries) ≡ after s entries
after_entered s [] = refl
after_entered s (entry ∷ entries) = after_entered (step s entry.event).state entries

pub legal_entered : (s : State) (entries : List Entry) → AreLegal s (entered entries) ↔ IsLegal s entries
legal_entered s [] = (λ l. tt, λ l. tt)
legal_entered s (entry ∷ entries) =
    let rest = legal_entered (step s entry.event).state entries in
    (λ l. (l.0.0, l.0.1, rest.0 l.1), λ l. ((l.0, l.1), rest.1 l.2))

books_entered : (base : Base) (entries : List Entry) → books_over base (entered entries) ≡ books_of base entries
books_entered base entries = rw (entries_entered entries, after_entered base.state entries) refl

pub as_entries : (base : Base) (entries : List Entry) → IsAsEntries base entries
as_entries base entries = record {
  legal = legal_entered base.state entries;
  state = after_entered base.state entries;
  books = books_entered base entries;
}

-- A piece, and what stands behind it.

module _ (base : Base) (entries : List Entry) (items : List Item) where
  behind : piece entries ++ items ≡ entered entries ++ Checkpoint ∷ items
  behind = append_assoc (entered entries) (Checkpoint ∷ []) items

  state_on : after_items base.state (piece entries ++ items) ≡ after_items (checkpointed (after base.state entries)) items
  state_on =
      ap (after_items base.state) behind ∙ after_both base.state (entered entries) (Checkpoint ∷ items)
      ∙ ap (λ (s : State). after_items (checkpointed s) items) (after_entered base.state entries)

  legal_on : AreLegal base.state (piece entries ++ items) ↔ (IsLegal base.state entries × AreLegal (checkpointed (after base.state entries)) items)
  legal_on =
      let both = legal_both base.state (entered entries) (Checkpoint ∷ items) in
      let first = legal_entered base.state entries in
      rw (behind, sym (after_entered base.state entries)) (λ l. (first.0 (both.0 l).0, (both.0 l).1.1), λ l. both.1 (first.1 l.0, (tt, l.1)))

  entries_on : entries_among (piece entries ++ items) ≡ entries ++ entries_among items
  entries_on =
      ap entries_among behind ∙ entries_both (entered entries) (Checkpoint ∷ items)
      ∙ ap (λ (es : List Entry). es ++ entries_among items) (entries_entered entries)

-- The sums of both.

messages_both : (xs ys : List Entry) → messages_of (xs ++ ys) ≡ messages_of xs + messages_of ys
messages_both [] ys = omega arith
messages_both (x ∷ xs) ys = omega (arith, messages_both xs ys)

octets_both : (xs ys : List Entry) → octets_in_all (xs ++ ys) ≡ octets_in_all xs + octets_in_all ys
octets_both [] ys = omega arith
octets_both (x ∷ xs) ys = omega (arith, octets_both xs ys)

calls_both : (is_it : Actor → Bool) (xs ys : List Entry) → calls_of is_it (xs ++ ys) ≡ calls_of is_it xs + calls_of is_it ys
calls_both is_it [] ys = omega arith
calls_both is_it (x ∷ xs) ys = omega (arith, calls_both is_it xs ys)

all_calls_both : (is_it : ℕ → Actor → Bool) (k n : ℕ) (xs ys : List Entry) → calls_from is_it k n (xs ++ ys) ≡ added (calls_from is_it k n xs) (calls_from is_it k n ys)
unfolding calls_from
all_calls_both is_it k zero xs ys = refl
all_calls_both is_it k (suc n) xs ys = rw (calls_both (is_it k) xs ys, all_calls_both is_it (suc k) n xs ys) refl

added_twice : (xs ys zs : List ℕ) → added xs (added ys zs) ≡ added (added xs ys) zs
added_twice [] ys zs = refl
added_twice (x ∷ xs) [] zs = refl
added_twice (x ∷ xs) (y ∷ ys) [] = refl
added_twice (x ∷ xs) (y ∷ ys) (z ∷ zs) = rw (added_twice xs ys zs) (ap (λ (n : ℕ). n ∷ added (added xs ys) zs) (omega arith))

calls_on : (before : List ℕ) (is_it : ℕ → Actor → Bool) (n : ℕ) (xs ys : List Entry) → added before (calls_from is_it 0 n (xs ++ ys)) ≡ added (added before (calls_from is_it 0 n xs)) (calls_from is_it 0 n ys)
calls_on before is_it n xs ys = ap (added before) (all_calls_both is_it 0 n xs ys) ∙ added_twice before (calls_from is_it 0 n xs) (calls_from is_it 0 n ys)

-- books by their parts
books_by : (users users' terminals terminals' : List ℕ) (messages messages' octets octets' acked acked' : ℕ) → users ≡ users' → terminals ≡ terminals' → messages ≡ messages' → octets ≡ octets' → acked ≡ acked'
    → ◌≡◌ {A = Books} (record { user_calls = users; term_calls = terminals; messages = messages; octets = octets; acknowledged = acked })
    (record { user_calls = users'; term_calls = terminals'; messages = messages'; octets = octets'; acknowledged = acked' })
books_by users users' terminals terminals' messages messages' octets octets' acked acked' u t m o a = rw (u, t, m, o, a) refl

books_on : (base : Base) (entries : List Entry) (items : List Item) → books_over base (piece entries ++ items) ≡ books_over (based (set_of base entries)).base items
books_on base entries items =
    let es = entries_among items in
    let all = entries_on base entries items in
    books_by _ _ _ _ _ _ _ _ _ _
    (ap (λ (x : List Entry). added base.books.user_calls (calls_from is_user 0 64 x)) all ∙ calls_on base.books.user_calls is_user 64 entries es)
    (ap (λ (x : List Entry). added base.books.term_calls (calls_from is_terminal 0 16 x)) all ∙ calls_on base.books.term_calls is_terminal 16 entries es)
    (ap (λ (x : List Entry). base.books.messages + messages_of x) all ∙ omega (arith, messages_both entries es))
    (ap (λ (x : List Entry). base.books.octets + octets_in_all x) all ∙ omega (arith, octets_both entries es))
    (ap (λ (s : State). (counts_in s).acked) (state_on base entries items))

pub runs_on : (base : Base) (entries : List Entry) (items : List Item) → RunsOn base entries items
runs_on base entries items = record {
  legal = legal_on base entries items;
  state = state_on base entries items;
  books = books_on base entries items;
}
