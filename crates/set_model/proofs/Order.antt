-- FACTS OF EACH ROW, and what changes of rows do to them. Numbers ascend in every filter (`ascends_filter`), also with
-- a new message (`ascends_appended`). Rows of one kind stand before those of another where more come or some leave
-- (`before_append`, `before_filter`); so the first message that waits is the last that was sent once it's sent
-- (`first_sent`), and a link has first what was sent, then what waits, then what is held (`on_in_order`). A stream on
-- its way back goes to the home of its code (`coded_at`). Most are inductions on the rows. Used by Events.antt,
-- SoundLink.antt, SoundBack.antt, Soundness.antt and Checkpointing.antt.
use Rattle.std.proofs.Common.{inl, ◌⊎◌, arith, refl, ◌≡◌, ◌<◌, ℕ, suc, Bool, true, false, not, ◌||◌, List, [], ◌∷◌, ◌++◌, map, slice_get, Some, filter, subst, ◌==◌, take}
use Rattle.std.proofs.lemmas.List.{append-nil, map-append}
use Rattle.std.proofs.lemmas.List.Elements.{filter-append}
use Rattle.set_model.specs.Rows.{Fate, AreBefore, Each, IsNumbered, Row, appended, fated, numbers, standing, Back, back, Unacked, IsHeldLast, IsInOrder, held, is_waiting, on, turned, unack, wait, with_fate}
use Rattle.set_model.specs.Sound.{AreAbove, IsAscending, AreBack, IsBackOf}
use Rattle.set_model.proofs.Rows.{each_append, found_by_number, filter_comm, filter_within, none_within}
use Rattle.set_route.specs.Routing.{IsCoded, IsRouting, Routing, code_of, home_of, place_of, via_of}
use Rattle.set_model.specs.State.{Changing}
use Rattle.set_route.proofs.Quiet.{at_place}

-- ROWS THAT MOVE: none that goes comes to stand there.
pub gone_none : (test : Fate → Bool) (fate : Row → Fate) (P : Row → Type 0) (other : Fate → Bool)
    → ((x : Row) → test x.fate ≡ true → P x → other (fate x) ≡ false) → (rows : List Row) → Each P rows
    → standing other (map (fated fate) (standing test rows)) ≡ []
gone_none test fate P other so [] e = refl
gone_none test fate P other so (x ∷ rows) e = grind (arith, gone_none test fate P other so rows e.1)

-- none stands there, since what does is so
pub none_standing : (P : Row → Type 0) (test : Fate → Bool) → ((x : Row) → test x.fate ≡ true → P x → ⊥)
    → (rows : List Row) → Each P rows → standing test rows ≡ []
none_standing P test never [] e = refl
none_standing P test never (x ∷ rows) e = grind (arith, none_standing P test never rows e.1)

-- NUMBERS IN ORDER.
above_filter : (k : ℕ) (p : Row → Bool) (rows : List Row) → AreAbove k (numbers rows) → AreAbove k (numbers (filter p rows))
above_filter k p [] a = tt
above_filter k p (x ∷ rows) a = grind (arith, above_filter k p rows a.1)

pub ascends_filter : (p : Row → Bool) (rows : List Row) → IsAscending (numbers rows) → IsAscending (numbers (filter p rows))
ascends_filter p [] a = tt
ascends_filter p (x ∷ rows) a = grind (arith, above_filter x.number p rows a.0, ascends_filter p rows a.1)

-- a number above all others stands last
ascends_end : (k : ℕ) (ns : List ℕ) → ((i m : ℕ) → slice_get ns i ≡ Some m → m < k) → IsAscending ns → IsAscending (ns ++ k ∷ [])
ascends_end k [] below a = (tt, tt)
ascends_end k (n ∷ ns) below a = (each_append (λ m. n < m) ns (k ∷ []) a.0 (below 0 n refl, tt), ascends_end k ns (λ i m e. below (suc i) m e) a.1)

-- as that of a new message does
pub ascends_appended : (given : ℕ) (p : Row → Bool) (rows : List Row) (body : List ℕ) (fate : Fate)
    → IsNumbered given rows → IsAscending (numbers (filter p rows))
    → IsAscending (numbers (filter p (appended given rows body fate)))
ascends_appended given p rows body fate numbered a =
    let last = ascends_end given (numbers (filter p rows)) (λ i m e. (found_by_number given p rows i m numbered e).below) a in
    grind (arith, filter-append, map-append, append-nil, last)

-- WHAT STANDS BACK, as streams move.
-- a stream on its way back goes to the home of its code, which is open, and comes from the link of that code
pub coded_at : (r : Routing) (stream : ℕ) → IsRouting r → (to code via : ℕ) → place_of stream r ≡ Changing to code via
    → (home_of code ≡ to) × (via_of (code_of code r) ≡ Some via)
coded_at r stream sound to code via e = subst (IsCoded r) e (at_place (IsCoded r) tt r.streams stream sound.coded)

-- where a stream on its way back by a code of which nothing moves stays on it
pub stood : (test : Fate → Bool) (old new : Routing)
    → ((k : ℕ) → k < 16 → (code via : ℕ) → test (Back code) ≡ false → place_of k old ≡ Changing (home_of code) code via
    → (via' : ℕ) × (place_of k new ≡ Changing (home_of code) code via')) → (x : Row) (f : Fate) → not (test f) ≡ true
    → IsBackOf old x f → IsBackOf new x f
stood test old new stays x f out b = grind arith

-- of the rows it asks only those that stand back
pub backs_of : (r : Routing) (rows : List Row) → AreBack r (back rows) → AreBack r rows
backs_of r [] b = tt
backs_of r (x ∷ rows) b = grind (arith, backs_of r rows)

-- ROWS THAT STAND BEFORE OTHERS: on a link what was sent stands before what waits, and that before what is held.
pub neither : (p q : Fate → Bool) (rows : List Row) → standing p rows ≡ [] → standing q rows ≡ [] → standing (λ f. p f || q f) rows ≡ []
neither p q [] e f = refl
neither p q (x ∷ rows) e f = grind (arith, neither p q rows)

module _ (p q : Fate → Bool) where
  -- where there are none, or no others
  pub before_none : (rows : List Row) → (standing p rows ≡ []) ⊎ (standing q rows ≡ []) → AreBefore p q rows
  before_none [] e = tt
  before_none (x ∷ rows) e = grind (arith, before_none rows)

  pub before_append : (xs ys : List Row) → AreBefore p q xs → standing p ys ≡ [] → AreBefore p q (xs ++ ys)
  before_append [] ys o e = before_none ys (inl e)
  before_append (x ∷ xs) ys o e = grind (arith, filter-append, before_append xs ys o.1 e)

  -- where some rows leave
  pub before_filter : (keep : Row → Bool) (rows : List Row) → AreBefore p q rows → AreBefore p q (filter keep rows)
  before_filter keep [] o = tt
  before_filter keep (x ∷ rows) o = grind (arith, filter_comm, before_filter keep rows o.1)

  -- rows of both kinds tell it alone
  pub before_within : (r : Fate → Bool) → ((f : Fate) → p f ≡ true → r f ≡ true)
      → ((f : Fate) → q f ≡ true → r f ≡ true) → (rows : List Row) → AreBefore p q (standing r rows)
      → AreBefore p q rows
  before_within r a b [] o = tt
  before_within r a b (x ∷ rows) o = grind (arith, filter_within, a, b, before_within r a b rows)

-- THE FIRST MESSAGE THAT WAITS IS SENT: it is then the last one that was.
pub first_sent : (l : ℕ) (rows : List Row) → (l == l) ≡ true → IsInOrder l rows
    → IsInOrder l (turned (is_waiting l) (Unacked l) 1 rows)
    × (unack l (turned (is_waiting l) (Unacked l) 1 rows) ≡ unack l rows
    ++ map (with_fate (Unacked l)) (take 1 (wait l rows)))
first_sent l [] s o = (tt, refl)
first_sent l (x ∷ rows) s o = grind (arith, first_sent l rows s o.1)

-- WHAT IS ON A LINK, IN ORDER: first what was sent, then what waits, then what is held.
pub on_in_order : (l : ℕ) (rows : List Row) → IsInOrder l rows → IsHeldLast l rows → on l rows ≡ unack l rows ++ wait l rows ++ held l rows
on_in_order l [] o h = refl
on_in_order l (x ∷ rows) o h = grind (arith, none_within, on_in_order l rows o.1 h.1)
