-- THOSE OF A STREAM, in lists that are joined, shortened or filtered: equations about `those_of`, which picks a
-- stream's messages of users. `those_joined` is of two lists, `none_dropped` of the rest of one, `turned_filter` of
-- rows that turn, which are a filter of those that stood; `picked` says that two tests which tell the same of a
-- stream's rows pick the same. Most are inductions on the list, case by case on what the tests tell of its first.
-- Flowing.antt, Moving.antt, Settled.antt, Turned.antt, Returned.antt, Given.antt and Runs.antt argue with them, stream
-- by stream.
use Rattle.std.proofs.Common.{refl, ◌≡◌, ◌∙◌, ap, sym, ℕ, zero, suc, ◌==◌, Bool, true, false, ◌&&◌, List, [], ◌∷◌, ◌++◌, map, filter, drop, cond, ◌⊎◌, inl, inr}
use Rattle.std.proofs.lemmas.Bool.{eqb-true}
use Rattle.std.proofs.lemmas.List.{append-nil}
use Rattle.std.proofs.lemmas.List.Elements.{filter-append}
use Rattle.set_events.specs.declared.answer.Fate.{Fate}
use Rattle.set_model.specs.Rows.{Row, stream_of, standing, fated, unack, wait, held, Each}
use Rattle.pair_model.specs.Run.{Message, messages}
use Rattle.pair_changeover.specs.Pending.{queue}
use Rattle.pair_changeover.proofs.Table.{joined}
use Rattle.pair_changeover.proofs.Views.{Among}
use Rattle.pair_streams.specs.Streams.{is_of, those_of}

pub those_joined : (stream : ℕ) (xs ys : List Message) → those_of stream (xs ++ ys) ≡ those_of stream xs ++ those_of stream ys
those_joined stream xs ys = filter-append (is_of stream) xs ys

-- where none of it joins
pub joins_none : (stream : ℕ) (xs ys : List Message) → those_of stream ys ≡ [] → those_of stream (xs ++ ys) ≡ those_of stream xs
joins_none stream xs ys e = those_joined stream xs ys ∙ ap (λ (q : List Message). those_of stream xs ++ q) e ∙ append-nil (those_of stream xs)

pub none_joins : (stream : ℕ) (xs ys : List Message) → those_of stream xs ≡ [] → those_of stream (xs ++ ys) ≡ those_of stream ys
none_joins stream xs ys e = those_joined stream xs ys ∙ ap (λ (q : List Message). q ++ those_of stream ys) e

pub none_both : (stream : ℕ) (xs ys : List Message) → those_of stream xs ≡ [] → those_of stream ys ≡ [] → those_of stream (xs ++ ys) ≡ []
none_both stream xs ys a b = none_joins stream xs ys a ∙ b

pub one_none : (stream : ℕ) (z : Message) → is_of stream z ≡ false → those_of stream (z ∷ []) ≡ []
one_none stream z e = rw e refl

pub none_dropped : (stream count : ℕ) (rows : List Row) → those_of stream (messages rows) ≡ [] → those_of stream (messages (drop count rows)) ≡ []
none_dropped stream zero rows e = e
none_dropped stream (suc n) [] e = refl
none_dropped stream (suc n) (row ∷ rows) e = none_dropped stream n rows (go (is_of stream (record { number = row.number; body = row.body; users = row.users })) refl)
  where
    go : (b : Bool) → is_of stream (record { number = row.number; body = row.body; users = row.users }) ≡ b → those_of stream (messages rows) ≡ []
    go true h = let no : record { number = row.number; body = row.body; users = row.users } ∷ those_of stream (messages rows) ≡ [] = rw h at e in absurd cc
    go false h = rw h at e

-- ROWS THAT TURN, as a filter of those that were there
pub turned_filter : (test other : Fate → Bool) (fate : Row → Fate) (rows : List Row)
    → messages (standing other (map (fated fate) (standing test rows)))
    ≡ messages (filter (λ row. test row.fate && other (fate row)) rows)
turned_filter test other fate [] = refl
turned_filter test other fate (row ∷ rows) = go (test row.fate) (other (fate row)) refl refl (turned_filter test other fate rows)
  where
    go : (b c : Bool) → test row.fate ≡ b → other (fate row) ≡ c
        → messages (standing other (map (fated fate) (standing test rows)))
        ≡ messages (filter (λ r. test r.fate && other (fate r)) rows)
        → messages (standing other (map (fated fate) (standing test (row ∷ rows)))) ≡ messages (filter (λ r. test r.fate && other (fate r)) (row ∷ rows))
    go true true e g rest = rw (e, g) (ap (λ (q : List Message). record { number = row.number; body = row.body; users = row.users } ∷ q) rest)
    go true false e g rest = rw (e, g) rest
    go false c e g rest = rw e rest

-- TWO TESTS that tell the same of a stream's rows
pub picked : (stream : ℕ) (P Q : Row → Bool) (rows : List Row)
    → Each (λ row. is_of stream (record { number = row.number; body = row.body; users = row.users }) ≡ true → P row ≡ Q row) rows
    → those_of stream (messages (filter P rows)) ≡ those_of stream (messages (filter Q rows))
picked stream P Q [] same = refl
picked stream P Q (row ∷ rows) same =
    go (is_of stream (record { number = row.number; body = row.body; users = row.users })) refl (P row) (Q row) refl refl
    (picked stream P Q rows same.1)
  where
    go : (own : Bool) → is_of stream (record { number = row.number; body = row.body; users = row.users }) ≡ own → (b c : Bool) → P row ≡ b
        → Q row ≡ c → those_of stream (messages (filter P rows)) ≡ those_of stream (messages (filter Q rows))
        → those_of stream (messages (filter P (row ∷ rows))) ≡ those_of stream (messages (filter Q (row ∷ rows)))
    go own o true true e g rest = rw (e, g) (agrees own o)
      where
        agrees : (own : Bool) → is_of stream (record { number = row.number; body = row.body; users = row.users }) ≡ own
            → cond (is_of stream (record { number = row.number; body = row.body; users = row.users }))
            (record { number = row.number; body = row.body; users = row.users } ∷ those_of stream (messages (filter P rows)))
            (those_of stream (messages (filter P rows)))
            ≡ cond (is_of stream (record { number = row.number; body = row.body; users = row.users }))
            (record { number = row.number; body = row.body; users = row.users } ∷ those_of stream (messages (filter Q rows)))
            (those_of stream (messages (filter Q rows)))
        agrees own o = rw rest refl
    go own o false false e g rest = rw (e, g) rest
    go true o true false e g rest = absurd (let no : true ≡ false = sym e ∙ same.0 o ∙ g in cc)
    go true o false true e g rest = absurd (let no : false ≡ true = sym e ∙ same.0 o ∙ g in cc)
    go false o true false e g rest = rw (e, g, o) rest
    go false o false true e g rest = rw (e, g, o) rest

pub never_picked : (rows : List Row) → messages (filter (λ row. false) rows) ≡ []
never_picked [] = refl
never_picked (row ∷ rows) = never_picked rows

-- the parts of a queue
pub none_queued : (stream count l : ℕ) (rows : List Row) → those_of stream (messages (unack l rows)) ≡ []
    → those_of stream (messages (wait l rows)) ≡ [] → those_of stream (messages (held l rows)) ≡ []
    → those_of stream (queue count l rows) ≡ []
none_queued stream count l rows a b c =
    ap (those_of stream) (joined (drop count (unack l rows) ++ wait l rows) (held l rows)
    ∙ ap (λ (q : List Message). q ++ messages (held l rows)) (joined (drop count (unack l rows)) (wait l rows)))
    ∙ none_both stream (messages (drop count (unack l rows)) ++ messages (wait l rows)) (messages (held l rows))
    (none_both stream (messages (drop count (unack l rows))) (messages (wait l rows))
    (none_dropped stream count (unack l rows) a) b) c

pub each_so : (P Q : Row → Type 0) → ((row : Row) → P row → Q row) → (rows : List Row) → Each P rows → Each Q rows
each_so P Q so [] each = tt
each_so P Q so (row ∷ rows) each = (so row each.0, each_so P Q so rows each.1)

pub both_true : (a b : Bool) → (a && b) ≡ true → (a ≡ true) × (b ≡ true)
both_true true true e = (refl, refl)
both_true true false e = absurd cc
both_true false b e = absurd cc

pub of_stream : (stream : ℕ) (m : Message) → is_of stream m ≡ true → stream_of m.body ≡ stream
of_stream stream m own = eqb-true (stream_of m.body) stream (both_true m.users (stream_of m.body == stream) own).1

-- a test, and all of it or none
pub and_so : (stream : ℕ) (test : Fate → Bool) (b : Bool) (rows : List Row)
    → those_of stream (messages (filter (λ row. test row.fate && b) rows))
    ≡ cond b (those_of stream (messages (standing test rows))) []
and_so stream test true rows = picked stream (λ row. test row.fate && true) (λ row. test row.fate) rows (always rows)
  where
    and_true : (c : Bool) → (c && true) ≡ c
    and_true true = refl
    and_true false = refl

    always : (rows : List Row) → Each
        (λ row. is_of stream (record { number = row.number; body = row.body; users = row.users }) ≡ true
        → (test row.fate && true) ≡ test row.fate) rows
    always [] = tt
    always (row ∷ rows) = ((λ own. and_true (test row.fate)), always rows)
and_so stream test false rows = picked stream (λ row. test row.fate && false) (λ row. false) rows (always rows) ∙ ap (those_of stream) (never_picked rows)
  where
    and_false : (c : Bool) → (c && false) ≡ false
    and_false true = refl
    and_false false = refl

    always : (rows : List Row) → Each (λ row. is_of stream (record { number = row.number; body = row.body; users = row.users }) ≡ true → (test row.fate && false) ≡ false) rows
    always [] = tt
    always (row ∷ rows) = ((λ own. and_false (test row.fate)), always rows)

-- fewer of a list of which nothing is of the stream
pub none_within : (stream : ℕ) (some all : Fate → Bool) → ((fate : Fate) → some fate ≡ true → all fate ≡ true)
    → (rows : List Row) → those_of stream (messages (standing all rows)) ≡ []
    → those_of stream (messages (standing some rows)) ≡ []
none_within stream some all within [] e = refl
none_within stream some all within (row ∷ rows) e =
    go (some row.fate) (all row.fate) (is_of stream (record { number = row.number; body = row.body; users = row.users })) refl refl refl
    (λ f. none_within stream some all within rows f)
  where
    go : (b c d : Bool) → some row.fate ≡ b → all row.fate ≡ c
        → is_of stream (record { number = row.number; body = row.body; users = row.users }) ≡ d
        → (those_of stream (messages (standing all rows)) ≡ [] → those_of stream (messages (standing some rows)) ≡ [])
        → those_of stream (messages (standing some (row ∷ rows))) ≡ []
    go b true true g h k later = let never : record { number = row.number; body = row.body; users = row.users } ∷ those_of stream
        (messages (standing all rows)) ≡ [] = rw (h, k) at e in absurd cc
    go true true false g h k later = rw (g, k) (later (rw (h, k) at e))
    go false true false g h k later = rw g (later (rw (h, k) at e))
    go false false d g h k later = rw g (later (rw h at e))
    go true false d g h k later = absurd (let never : true ≡ false = sym (within row.fate g) ∙ h in cc)

-- those of a stream are among all
pub among_all : (stream : ℕ) (m : Message) (xs : List Message) → Among m (those_of stream xs) → Among m xs
among_all stream m [] a = absurd a
among_all stream m (x ∷ xs) a = go (is_of stream x) refl a (λ b. among_all stream m xs b)
  where
    go : (b : Bool) → is_of stream x ≡ b → Among m (those_of stream (x ∷ xs)) → (Among m (those_of stream xs) → Among m xs) → Among m (x ∷ xs)
    go true e a later = cases (rw e at a)
      where
        cases : (m ≡ x) ⊎ Among m (those_of stream xs) → (m ≡ x) ⊎ Among m xs
        cases (inl same) = inl same
        cases (inr b) = inr (later b)
    go false e a later = inr (later (rw e at a))
