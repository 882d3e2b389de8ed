-- HOW FAR THE FAR END GOT on a link, and which message it accepts next: the first that is pending, which stands nowhere
-- else. `reaches` reads it off what pair_model promises of a link (`IsKeptOn`): what is acknowledged was accepted, and
-- no more was accepted than was sent. `due` finds the row of the body that is accepted: so far among the unacknowledged
-- as was accepted beyond what is acknowledged. `not_queued` and `not_aside` say that no other pending or parked message
-- has its number, as two rows would (`two_there`, `at_most_one`). The inductions are on lists of rows. Used by
-- Hearing.antt, Ordered.antt, Counted.antt, Whole.antt and Arriving.antt.
use Rattle.std.proofs.Common.{cond, not, refl, arith, ◌≡◌, ◌≢◌, ◌∙◌, ap, sym, subst, ℕ, zero, suc, ◌≤◌, ◌<◌, ◌==◌, ◌+◌, ◌-◌, Bool, true, false, List, [], ◌∷◌, ◌++◌, length, filter, take, drop, slice_get, Option, Some, None, ◌⊎◌, inl, inr}
use Rattle.std.proofs.lemmas.Bool.{eq-eqb, eqb-true}
use Rattle.std.proofs.lemmas.List.{length-map}
use Rattle.std.proofs.lemmas.Option.{same_Some}
use Rattle.set_events.specs.declared.answer.Fate.{Fate}
use Rattle.set_events.specs.declared.answer.Fate.TheVariants.{Waiting, Unacked, Acked, Held, Parked, Back, Discarded}
use Rattle.set_model.specs.Rows.{Row, AreMarked, is_users, is_managements, is_unacked, is_waiting, is_held, is_parked, standing, unack, wait, held, parked, row_of, IsNumbered}
use Rattle.set_model.specs.State.{LinkState, State, has_phase_settled}
use Rattle.set_model.proofs.Rows.{with_number, at_most_one, row_in_filter}
use Rattle.set_model.proofs.Lists.{at_map, map_at}
use Rattle.pair_model.specs.Promises.{IsKeptOn}
use Rattle.pair_model.specs.Run.{Message, Past, messages, bodies}
use Rattle.pair_changeover.proofs.Table.{joined}
use Rattle.pair_changeover.proofs.Views.{queue, accepted_of, accepted_on, Among, among_joined}

-- of a link that isn't settled: the far end has what counts as acknowledged, and no more than was sent
pub record Reaches (l : ℕ) (link : LinkState) (s f : State) (sent : List Message) : Type 0 where
  pub due : link.acked ≤ accepted_on l f
  pub within : accepted_on l f ≤ link.acked + length (unack l s.rows)
  pub unacked : messages (unack l s.rows) ≡ drop link.acked sent

dropped : {X : Type 0} (n : ℕ) (xs : List X) → length xs ≤ n + length (drop n xs)
dropped zero xs = omega arith
dropped (suc n) [] = omega arith
dropped (suc n) (x ∷ xs) = omega (arith, dropped n xs)

taken_few : {X : Type 0} (n : ℕ) (xs : List X) → length (take n xs) ≤ length xs
taken_few zero xs = omega arith
taken_few (suc n) [] = omega arith
taken_few (suc n) (x ∷ xs) = omega (arith, taken_few n xs)

pub reaches : (l : ℕ) (near far : Past) (s f : State) → IsKeptOn l near far s f → (link : LinkState)
    → slice_get s.links l ≡ Some link → has_phase_settled link.phase ≡ false → (other : LinkState)
    → slice_get f.links l ≡ Some other → Reaches l link s f (near.sent l)
reaches l near far s f k link there unsettled other far_there =
    let g = k.going link there unsettled in
    let counted : accepted_on l f ≡ length (far.taken l) = ap accepted_of far_there ∙ k.accepted other far_there in
    let few = few_of (length (far.taken l)) (bodies (near.sent l)) (far.taken l) k.prefix in
    let as_many = length-map (near.sent l) (λ (m : Message). m.body) in
    let more = dropped link.acked (near.sent l) in
    let left : length (drop link.acked (near.sent l)) ≡ length (unack l s.rows) = ap length (sym g.unacked)
    ∙ length-map (unack l s.rows) (λ (row : Row). record { number = row.number; body = row.body; users = row.users }) in
    record {
      due = omega (arith, counted, g.acked);
      within = omega (arith, counted, few, as_many, more, left);
      unacked = g.unacked;
    }
  where
    few_of : {X : Type 0} (n : ℕ) (ys xs : List X) → xs ≡ take n ys → length xs ≤ length ys
    few_of n ys xs e = let few = taken_few n ys in let same = ap length e in omega (arith, few, same)

-- THE NEXT ONE: what was accepted is one body more of those that were sent
prefix_next : {X : Type 0} (xs ys : List X) (x : X) → xs ++ x ∷ [] ≡ take (length (xs ++ x ∷ [])) ys → slice_get ys (length xs) ≡ Some x
prefix_next [] [] x e = absurd cc
prefix_next [] (y ∷ ys) x e = let same : x ≡ y = cc in ap Some (sym same)
prefix_next (z ∷ xs) [] x e = absurd cc
prefix_next (z ∷ xs) (y ∷ ys) x e = let rest : xs ++ x ∷ [] ≡ take (length (xs ++ x ∷ [])) ys = cc in prefix_next xs ys x rest

get_drop : {X : Type 0} (a n : ℕ) (xs : List X) → a ≤ n → slice_get (drop a xs) (n - a) ≡ slice_get xs n
get_drop zero n xs few = let same : n - 0 ≡ n = omega arith in ap (slice_get xs) same
get_drop (suc a) zero xs few = absurd (omega (arith, few))
get_drop (suc a) (suc n) [] few = none (suc n - suc a)
  where
    none : {X : Type 0} (i : ℕ) → ◌≡◌ {A = Option X} (slice_get [] i) None
    none i = refl
get_drop (suc a) (suc n) (x ∷ xs) few = let same : suc n - suc a ≡ n - a =
    omega (arith, few) in ap (slice_get (drop a xs)) same ∙ get_drop a n xs (omega (arith, few))

-- the row of the message that is accepted
-- a row of a filter has its mark
pub marked_at : (p : Row → Bool) (rows : List Row) (i : ℕ) (row : Row) → AreMarked rows → slice_get (filter p rows) i ≡ Some row
    → is_users row ≡ not (is_managements row.body)
marked_at p [] i row marked there = absurd cc
marked_at p (x ∷ rows) i row marked there = go (p x) there (λ n e. marked_at p rows n row marked.1 e)
  where
    Later : Type 0
    Later = (n : ℕ) → slice_get (filter p rows) n ≡ Some row → is_users row ≡ not (is_managements row.body)

    front : (n : ℕ) → slice_get (x ∷ filter p rows) n ≡ Some row → Later → is_users row ≡ not (is_managements row.body)
    front zero e later = subst (λ (r : Row). is_users r ≡ not (is_managements r.body)) (same_Some x row e) marked.0
    front (suc n) e later = later n e

    go : (b : Bool) → slice_get (cond b (x ∷ filter p rows) (filter p rows)) i ≡ Some row → Later → is_users row ≡ not (is_managements row.body)
    go true found later = front i found later
    go false found later = later i found

pub record Due (l count : ℕ) (body : List ℕ) (rows : List Row) : Type 0 where
  pub row : Row
  pub there : slice_get (unack l rows) count ≡ Some row
  pub body_is : row.body ≡ body

pub due_message : (l acked : ℕ) (rows : List Row) (sent : List Message) (count : ℕ) (row : Row)
    → messages (unack l rows) ≡ drop acked sent → acked ≤ count → slice_get (unack l rows) (count - acked) ≡ Some row
    → slice_get sent count ≡ Some (record { number = row.number; body = row.body; users = row.users })
due_message l acked rows sent count row unacked few there =
    sym (get_drop acked count sent few) ∙ ap (λ (ms : List Message). slice_get ms (count - acked)) (sym unacked)
    ∙ map_at (λ (r : Row). record { number = r.number; body = r.body; users = r.users }) (unack l rows) (count - acked) row there

pub due : (l acked : ℕ) (rows : List Row) (sent : List Message) (taken : List (List ℕ)) (body : List ℕ)
    → messages (unack l rows) ≡ drop acked sent → acked ≤ length taken
    → taken ++ body ∷ [] ≡ take (length (taken ++ body ∷ [])) (bodies sent) → Due l (length taken - acked) body rows
due l acked rows sent taken body unacked few prefix =
    let message = at_map (λ (m : Message). m.body) sent (length taken) body (prefix_next taken (bodies sent) body prefix) in
    let there : slice_get (messages (unack l rows)) (length taken - acked) ≡ Some message.0 =
    ap (λ (ms : List Message). slice_get ms (length taken - acked)) unacked ∙ get_drop acked (length taken) sent few ∙ message.1 in
    let row = at_map (λ (r : Row). record { number = r.number; body = r.body; users = r.users }) (unack l rows) (length taken - acked) message.0 there in
    record { row = row.0; there = row.1; body_is = ap (λ (m : Message). m.body) row.2 ∙ message.2 }

-- IT STANDS NOWHERE ELSE
some_there : (p : Row → Bool) (number : ℕ) (rows : List Row) (i : ℕ) (x : Row) → slice_get (filter p rows) i ≡ Some x
    → x.number ≡ number → 1 ≤ length (with_number number rows)
some_there p number [] i x e n = absurd cc
some_there p number (r ∷ rows) i x e n = go (p r) (r.number == number) refl refl i e (λ j f. some_there p number rows j x f n)
  where
    go : (b c : Bool) → p r ≡ b → (r.number == number) ≡ c → (i : ℕ) → slice_get (filter p (r ∷ rows)) i ≡ Some x
        → ((j : ℕ) → slice_get (filter p rows) j ≡ Some x → 1 ≤ length (with_number number rows))
        → 1 ≤ length (with_number number (r ∷ rows))
    go b true h k i e later = rw k (omega arith)
    go false false h k i e later = rw k (later i (rw h at e))
    go true false h k zero e later =
        let same : Some r ≡ Some x = rw h at e in
        let is : r ≡ x = cc in
        let no : true ≡ false = sym (eq-eqb r.number number (ap (λ (y : Row). y.number) is ∙ n)) ∙ k in
        absurd cc
    go true false h k (suc i) e later = rw k (later i (rw h at e))

two_there : (p : Row → Bool) (number : ℕ) (rows : List Row) (i j : ℕ) (x y : Row) → i < j
    → slice_get (filter p rows) i ≡ Some x → slice_get (filter p rows) j ≡ Some y → x.number ≡ number
    → y.number ≡ number → 2 ≤ length (with_number number rows)
two_there p number [] i j x y few e f n m = absurd cc
two_there p number (r ∷ rows) i j x y few e f n m = go (p r) (r.number == number) refl refl i j few e f (λ a b w c d. two_there p number rows a b x y w c d n m)
  where
    go : (b c : Bool) → p r ≡ b → (r.number == number) ≡ c → (i j : ℕ) → i < j
        → slice_get (filter p (r ∷ rows)) i ≡ Some x → slice_get (filter p (r ∷ rows)) j ≡ Some y
        → ((a b : ℕ) → a < b → slice_get (filter p rows) a ≡ Some x → slice_get (filter p rows) b ≡ Some y
        → 2 ≤ length (with_number number rows)) → 2 ≤ length (with_number number (r ∷ rows))
    go false true h k i j few e f later = let two = later i j few (rw h at e) (rw h at f) in rw k (omega (arith, two))
    go false false h k i j few e f later = rw k (later i j few (rw h at e) (rw h at f))
    go true true h k i zero few e f later = absurd (omega (arith, few))
    go true true h k i (suc j) few e f later = let one = some_there p number rows j y (rw h at f) m in rw k (omega (arith, one))
    go true false h k i zero few e f later = absurd (omega (arith, few))
    go true false h k zero (suc j) few e f later =
        let same : Some r ≡ Some x = rw h at e in
        let is : r ≡ x = cc in
        let no : true ≡ false = sym (eq-eqb r.number number (ap (λ (z : Row). z.number) is ∙ n)) ∙ k in
        absurd cc
    go true false h k (suc i) (suc j) few e f later = rw k (later i j (omega (arith, few)) (rw h at e) (rw h at f))

pub filtered : (p : Row → Bool) (rows : List Row) (i : ℕ) (x : Row) → slice_get (filter p rows) i ≡ Some x → p x ≡ true
filtered p [] i x e = absurd cc
filtered p (r ∷ rows) i x e = go (p r) refl i e (λ j f. filtered p rows j x f)
  where
    go : (b : Bool) → p r ≡ b → (i : ℕ) → slice_get (filter p (r ∷ rows)) i ≡ Some x
        → ((j : ℕ) → slice_get (filter p rows) j ≡ Some x → p x ≡ true) → p x ≡ true
    go false h i e later = later i (rw h at e)
    go true h zero e later = let same : Some r ≡ Some x = rw h at e in let is : r ≡ x = cc in subst (λ (y : Row). p y ≡ true) is h
    go true h (suc i) e later = later i (rw h at e)

-- a message among rows stands in one of them
pub record RowOf (m : Message) (rows : List Row) : Type 0 where
  pub place : ℕ
  pub row : Row
  pub there : slice_get rows place ≡ Some row
  pub number_is : m.number ≡ row.number

pub row_among : (m : Message) (rows : List Row) → Among m (messages rows) → RowOf m rows
row_among m [] a = absurd a
row_among m (r ∷ rows) (inl e) = record { place = 0; row = r; there = refl; number_is = ap (λ (x : Message). x.number) e }
row_among m (r ∷ rows) (inr a) = let w = row_among m rows a in record { place = suc w.place; row = w.row; there = w.there; number_is = w.number_is }

pub get_rest : {X : Type 0} (n i : ℕ) (xs : List X) → slice_get (drop n xs) i ≡ slice_get xs (n + i)
get_rest zero i xs = let same : i ≡ 0 + i = omega arith in ap (slice_get xs) same
get_rest (suc n) i [] = refl
get_rest (suc n) i (x ∷ xs) = let same : suc (n + i) ≡ suc n + i = omega arith in get_rest n i xs ∙ ap (slice_get (x ∷ xs)) same

module _ (given k count : ℕ) (rows : List Row) (numbered : IsNumbered given rows) (row : Row) (there : slice_get (unack k rows) count ≡ Some row) where
  is_row : row_of row.number rows ≡ Some row
  is_row = row_in_filter given (λ (r : Row). is_unacked k r.fate) rows count row.number row numbered there refl

  -- a row with its number that stands where a test tells is the row
  same_row : (test : Fate → Bool) (i : ℕ) (other : Row) → slice_get (standing test rows) i ≡ Some other → other.number ≡ row.number → test row.fate ≡ true
  same_row test i other e n =
      let is : Some row ≡ Some other = sym is_row ∙ row_in_filter given (λ (r : Row). test r.fate) rows i row.number other numbered e n in
      let one : other ≡ row = cc in
      subst (λ (r : Row). test r.fate ≡ true) one (filtered (λ (r : Row). test r.fate) rows i other e)

  unacked_is : is_unacked k row.fate ≡ true
  unacked_is = filtered (λ (r : Row). is_unacked k r.fate) rows count row there

  not_waiting : (l : ℕ) (fate : Fate) → is_unacked k fate ≡ true → is_waiting l fate ≡ true → ⊥
  not_waiting l (Unacked m) e f = absurd cc
  not_waiting l (Waiting m) e f = absurd cc
  not_waiting l (Acked m) e f = absurd cc
  not_waiting l (Held m) e f = absurd cc
  not_waiting l Parked e f = absurd cc
  not_waiting l (Back c) e f = absurd cc
  not_waiting l (Discarded c) e f = absurd cc

  not_held : (l : ℕ) (fate : Fate) → is_unacked k fate ≡ true → is_held l fate ≡ true → ⊥
  not_held l (Unacked m) e f = absurd cc
  not_held l (Waiting m) e f = absurd cc
  not_held l (Acked m) e f = absurd cc
  not_held l (Held m) e f = absurd cc
  not_held l Parked e f = absurd cc
  not_held l (Back c) e f = absurd cc
  not_held l (Discarded c) e f = absurd cc

  not_parked : (fate : Fate) → is_unacked k fate ≡ true → is_parked fate ≡ true → ⊥
  not_parked (Unacked m) e f = absurd cc
  not_parked (Waiting m) e f = absurd cc
  not_parked (Acked m) e f = absurd cc
  not_parked (Held m) e f = absurd cc
  not_parked Parked e f = absurd cc
  not_parked (Back c) e f = absurd cc
  not_parked (Discarded c) e f = absurd cc

  pub not_aside : (m : Message) → Among m (messages (parked rows)) → m.number ≢ row.number
  not_aside m a e =
      let w = row_among m (parked rows) a in
      not_parked row.fate unacked_is (same_row is_parked w.place w.row w.there (sym w.number_is ∙ e))

  -- not behind it, nor on another link
  pub not_queued : (from l : ℕ) → ((k == l) ≡ true → count < from) → (m : Message) → Among m (queue from l rows) → m.number ≢ row.number
  not_queued from l behind m a e = go (among_in (drop from (unack l rows)) (wait l rows) (held l rows) m a)
    where
      among_in : (xs ys zs : List Row) (m : Message) → Among m (messages (xs ++ ys ++ zs)) → RowOf m xs ⊎ (RowOf m ys ⊎ RowOf m zs)
      among_in xs ys zs m a = last (among_joined m (messages (xs ++ ys)) (messages zs) (subst (λ (q : List Message). Among m q) (joined (xs ++ ys) zs) a))
        where
          first : Among m (messages xs) ⊎ Among m (messages ys) → RowOf m xs ⊎ (RowOf m ys ⊎ RowOf m zs)
          first (inl b) = inl (row_among m xs b)
          first (inr b) = inr (inl (row_among m ys b))

          last : Among m (messages (xs ++ ys)) ⊎ Among m (messages zs) → RowOf m xs ⊎ (RowOf m ys ⊎ RowOf m zs)
          last (inl b) = first (among_joined m (messages xs) (messages ys) (subst (λ (q : List Message). Among m q) (joined xs ys) b))
          last (inr b) = inr (inr (row_among m zs b))

      sent_there : (w : RowOf m (drop from (unack l rows))) → slice_get (unack l rows) (from + w.place) ≡ Some w.row
      sent_there w = sym (get_rest from w.place (unack l rows)) ∙ w.there

      same_link : (fate : Fate) → is_unacked k fate ≡ true → is_unacked l fate ≡ true → (k == l) ≡ true
      same_link (Unacked n) e f = let a : n ≡ k = eqb-true n k e in let b : n ≡ l = eqb-true n l f in eq-eqb k l (sym a ∙ b)
      same_link (Waiting n) e f = absurd cc
      same_link (Acked n) e f = absurd cc
      same_link (Held n) e f = absurd cc
      same_link Parked e f = absurd cc
      same_link (Back c) e f = absurd cc
      same_link (Discarded c) e f = absurd cc

      twice : (w : RowOf m (drop from (unack l rows))) → (k == l) ≡ true → ⊥
      twice w same =
          let one = at_most_one given row.number rows numbered in
          let there_too : slice_get (unack k rows) (from + w.place) ≡ Some w.row =
          subst (λ (n : ℕ). slice_get (unack n rows) (from + w.place) ≡ Some w.row) (sym (eqb-true k l same))
          (sent_there w) in
          let two = two_there (λ (r : Row). is_unacked k r.fate) row.number rows count (from + w.place) row w.row
          (let more = behind same in omega (arith, more)) there there_too refl (sym w.number_is ∙ e) in
          absurd (omega (arith, one, two))

      go : RowOf m (drop from (unack l rows)) ⊎ (RowOf m (wait l rows) ⊎ RowOf m (held l rows)) → ⊥
      go (inl w) = twice w (same_link row.fate unacked_is (same_row (is_unacked l) (from + w.place) w.row (sent_there w) (sym w.number_is ∙ e)))
      go (inr (inl w)) = not_waiting l row.fate unacked_is (same_row (is_waiting l) w.place w.row w.there (sym w.number_is ∙ e))
      go (inr (inr w)) = not_held l row.fate unacked_is (same_row (is_held l) w.place w.row w.there (sym w.number_is ∙ e))
