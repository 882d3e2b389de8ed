-- What is needed where a set comes to its end.
use Rattle.std.proofs.Common.{refl, arith, ◌≡◌, ◌∙◌, ap, sym, subst, ◌≤◌, ◌<◌, ◌⊎◌, inl, inr, ◌↔◌, IsTrue, ◌==◌, Bool, true, false, [], ◌∷◌, ◌++◌, length, ℕ, List, All, ◌+◌, sum_by}
use Rattle.std.proofs.lemmas.Bool.Decides.{nat_tests}
use Rattle.std.proofs.lemmas.List.{length-append}
use Rattle.std.proofs.lemmas.List.Elements.{All-append, All-cons, All-nil}
use Rattle.std.proofs.lemmas.List.Sums.{sum_by-append, sum_by-cons}
use Rattle.std.specs.Prelude.{if◌then◌else◌}
use Rattle.set_events.specs.declared.answer.Counts.{Counts}
use Rattle.set_events.specs.declared.books.Books.{Books}
use Rattle.set_events.specs.declared.event.Actor.TheVariants.{User, Terminal}
use Rattle.set_events.specs.declared.history.Entry.{Entry}
use Rattle.set_model.specs.Checkpoint.{counts_in}
use Rattle.set_core.specs.Gaining.{AreBounded}
use Rattle.set_model.specs.History.{LinkSet, IsLegal, after, books_of, entries_in, longest_history}
use Rattle.set_model.specs.Rows.{total_of}
use Rattle.set_ledger.specs.Seats.{SeatState, Returns, ReturnsFull}
use Rattle.set_ledger.specs.Ending.{are_seats, is_complete, AreFaithful, IsClosed, IsMerged, IsMergedFull, IsTrulyFull}
use Rattle.set_ledger.specs.Totals.{AreTotals, TellsFull, totals_of}

-- a complete set of seats has as many as there are users and links
as_many : (b rest : Bool) → (if b then rest else false) ≡ true → b ≡ true
as_many true rest e = refl
as_many false rest e = absurd cc

then_all : (b rest : Bool) → (if b then rest else false) ≡ true → rest ≡ true
then_all true rest e = e
then_all false rest e = absurd cc

pub complete_lengths : (users links : ℕ) (us ts : List SeatState) → is_complete users links us ts ≡ true → (length us ≡ users) × (length ts ≡ links)
complete_lengths users links us ts e =
    let user_seats : are_seats (λ seat. seat) User users us ≡ true = as_many _ (are_seats (λ seat. seat) Terminal links ts) e in
    let term_seats : are_seats (λ seat. seat) Terminal links ts ≡ true = then_all (are_seats (λ seat. seat) User users us) _ e in
    let some : (length us == users) ≡ true = as_many _ _ user_seats in
    let more : (length ts == links) ≡ true = as_many _ _ term_seats in
    (grind (arith, nat_tests, some), grind (arith, nat_tests, more))

-- what the tests of the end said of the seats, of which they were lent slices
pub complete_as : (users links : ℕ) (us us' ts ts' : List SeatState) (told is : Bool) → told ≡ is_complete users links us' ts' → us' ≡ us → ts' ≡ ts → told ≡ is → is_complete users links us ts ≡ is
complete_as users links us us' ts ts' told is e same_users same_terms answer = ap (is_complete users links us) (sym same_terms) ∙ ap (λ (seats : List SeatState). is_complete users links seats ts') (sym same_users) ∙ sym e ∙ answer

pub faithful_as : (before : Books) (history : List Entry) (us us' ts ts' : List SeatState) (told : Bool) → (IsTrue told ↔ AreFaithful before history us' ts') → us' ≡ us → ts' ≡ ts → (IsTrue told ↔ AreFaithful before history us ts)
faithful_as before history us us' ts ts' told way same_users same_terms = subst (λ (seats : List SeatState). IsTrue told ↔ AreFaithful before history us seats) same_terms (subst (λ (seats : List SeatState). IsTrue told ↔ AreFaithful before history seats ts') same_users way)

-- one seat more gave back its part
pub merged_more : (number : SeatState → ℕ) (seats : List SeatState) (seat : SeatState) (parts amount parts' amount' parts'' amount'' : ℕ) → IsMerged number seats parts amount parts' amount' → Returns parts' amount' (number seat) parts'' amount'' → IsMerged number (seats ++ seat ∷ []) parts amount parts'' amount''
merged_more number seats seat parts amount parts' amount' parts'' amount'' merged returns =
    let parts_were = merged.parts_are in
    let amount_was = merged.amount_is in
    let parts_are = returns.parts_are in
    let amount_is = returns.amount_is in
    record {
      parts_are = omega (arith, parts_were, parts_are, length-append seats (seat ∷ []));
      amount_is = omega (arith, amount_was, amount_is, sum_by-append number seats (seat ∷ []), sum_by-cons number seat []);
    }

-- and its part of the ledger of a full history
all_on : {X : Type 0} (P Q : X → Type 0) → ((x : X) → P x → Q x) → (xs : List X) → All P xs → All Q xs
all_on P Q onward xs all = λ k d lt. onward _ (all k d lt)

all_more : {X : Type 0} (P Q : X → Type 0) → ((x : X) → P x → Q x) → (xs : List X) (y : X) → All P xs → Q y → All Q (xs ++ y ∷ [])
all_more P Q onward xs y all is = All-append Q xs (y ∷ []) (all_on P Q onward xs all) (All-cons Q y [] is (All-nil Q))

pub merged_full : (seats : List SeatState) (seat : SeatState) (parts amount parts' amount' parts'' amount'' : ℕ) → IsMergedFull seats parts amount parts' amount' → ReturnsFull parts' amount' seat.full parts'' amount'' → IsMergedFull (seats ++ seat ∷ []) parts amount parts'' amount''
merged_full seats seat parts amount parts' amount' parts'' amount'' merged returns =
    let parts_were = merged.parts_are in
    let amount_was = merged.amount_stays in
    let parts_are = returns.parts_are in
    let amount_is = returns.amount_stays in
    record {
      parts_are = omega (arith, parts_were, parts_are, length-append seats (seat ∷ []));
      amount_stays = omega (arith, amount_was, amount_is);
      some = all_more (λ (s : SeatState). s.full ≡ true → 0 < amount') (λ (s : SeatState). s.full ≡ true → 0 < amount'')
          (λ s some told. let was = some told in omega (arith, was, amount_is)) seats seat merged.some returns.some;
    }

-- WHO WAS TOLD of a full history was told the truth
pub told_truly : (set : LinkSet) (seats : List SeatState) (total parts amount parts' amount' last : ℕ) → TellsFull total set → entries_in set ≤ longest_history → IsMergedFull seats parts amount parts' amount' → amount' ≤ last → last ≤ total
    → All (IsTrulyFull set.base set.history) seats
told_truly set seats total parts amount parts' amount' last full short merged before all =
    all_on (λ (seat : SeatState). seat.full ≡ true → 0 < amount') (IsTrulyFull set.base set.history)
    (λ seat some told.
    let is = some told in
    let were = full (omega (arith, is, before, all)) in
    omega (arith, were, short)) seats merged.some

-- The seats have all parts of a ledger, so what their shares tell is its total.
pub whole_sum : (number : SeatState → ℕ) (seats : List SeatState) (parts amount parts' amount' all total : ℕ) → parts ≡ 0 → amount ≡ 0 → IsMerged number seats parts amount parts' amount' → length seats ≡ all → (parts' ≡ all → amount' ≡ total)
    → total ≡ sum_by number seats
whole_sum number seats parts amount parts' amount' all total none nothing merged many whole =
    let parts_are = merged.parts_are in
    let amount_is = merged.amount_is in
    let is : amount' ≡ total = whole (omega (arith, none, parts_are, many)) in
    omega (arith, is, amount_is, nothing)

-- likewise where two kinds of seats have them
pub whole_sums : (number : SeatState → ℕ) (us ts : List SeatState) (parts amount parts' amount' parts'' amount'' all total : ℕ) → parts ≡ 0 → amount ≡ 0 → IsMerged number us parts amount parts' amount' → IsMerged number ts parts' amount' parts'' amount''
    → length us + length ts ≡ all → (parts'' ≡ all → amount'' ≡ total)
    → total ≡ sum_by number us + sum_by number ts
whole_sums number us ts parts amount parts' amount' parts'' amount'' all total none nothing one other many whole =
    let parts_first = one.parts_are in
    let amount_first = one.amount_is in
    let parts_then = other.parts_are in
    let amount_then = other.amount_is in
    let is : amount'' ≡ total = whole (omega (arith, none, parts_first, parts_then, many)) in
    omega (arith, is, amount_first, amount_then, nothing)

pub closes : (us ts : List SeatState) (set : LinkSet) (books : Books) (counts : Counts) (calls messages octets acknowledged : ℕ) → IsLegal set.base.state set.history → set.state ≡ after set.base.state set.history → books ≡ books_of set.base set.history → counts ≡ counts_in set.state → AreFaithful set.base.books set.history us ts
    → total_of counts ≡ (books_of set.base set.history).messages → AreBounded books → AreTotals (totals_of calls messages octets acknowledged) set
    → calls ≡ sum_by (λ (seat : SeatState). seat.share.calls) us + sum_by (λ (seat : SeatState). seat.share.calls) ts → messages ≡ sum_by (λ (seat : SeatState). seat.share.messages) us → octets ≡ sum_by (λ (seat : SeatState). seat.share.octets) us → acknowledged ≡ sum_by (λ (seat : SeatState). seat.share.acknowledged) ts
    → All (IsTrulyFull set.base set.history) us → All (IsTrulyFull set.base set.history) ts
    → IsClosed us ts set.base set.history books counts
closes us ts set books counts calls messages octets acknowledged legal replays books_are counts_are faithful placed bounded totals c m o a us_full ts_full = record {
  legal = legal;
  books_are = books_are;
  counts_are = counts_are ∙ ap counts_in replays;
  placed = placed ∙ sym (ap (λ (b : Books). b.messages) books_are);
  few = bounded.messages;
  users_faithful = faithful.0;
  terminals_faithful = faithful.1;
  calls = sym totals.calls_is ∙ c;
  messages = ap (λ (b : Books). b.messages) books_are ∙ sym totals.messages_is ∙ m;
  octets = ap (λ (b : Books). b.octets) books_are ∙ sym totals.octets_is ∙ o;
  acknowledged = ap (λ (b : Books). b.acknowledged) books_are ∙ sym totals.acknowledged_is ∙ a;
  users_full = us_full;
  terminals_full = ts_full;
}

-- a number of users that was tested is in range
pub in_range : (users : ℕ) → (users ≡ 0 → ⊥) → users ≤ 64 → (users ≡ 0) ⊎ (64 < users) → ⊥
in_range users some few (inl none) = some none
in_range users some few (inr more) = absurd (omega (arith, few, more))

pub few_users : (users : ℕ) → (users ≡ 0 → ⊥) → users ≤ 64 → (0 < users) × (users ≤ 64)
few_users users some few = (omega (arith, some), few)
