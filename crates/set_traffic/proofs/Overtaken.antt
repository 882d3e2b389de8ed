-- WHAT WAS OVERTAKEN leaves its queue, one by one, while the model discards at once as many of the first that wait
-- (`cleared`). `ClearsOn` is the loop's invariant: what is kept stands for a state from which the same is cleared.
-- `clears_first` is its step, `cleared_all` its end, and it ends since the queue gets shorter (`one_less`). That one
-- and then so many are one more is an induction on the rows (`turned_on`). `first_is` and `none_first` say whether the
-- first that waits was overtaken. Used by the functions clear and is_first_overtaken of src/clearing.rt, and by
-- send_next of src/sending.rt (`cleared_order`).
use Rattle.std.proofs.lemmas.Bool.{eq-eqb}
use Rattle.std.proofs.lemmas.Option.{same_Some}
use Rattle.std.proofs.Common.{refl, arith, ◌≡◌, ◌≢◌, ◌∙◌, ap, sym, subst, ℕ, zero, suc, ◌<◌, Bool, true, false, List, [], ◌∷◌, length, drop, slice_get, Option, Some, None, option_map}
use Rattle.l3_orders.specs.Grammar.{order_of}
use Rattle.set_queues.specs.Buffers.{Lists, queue_at}
use Rattle.set_queues.specs.Queues.{passed_first}
use Rattle.set_queues.specs.Slots.{slot_at}
use Rattle.set_queues.proofs.Standing.{links_stay, queue_set}
use Rattle.set_model.specs.Changeover.{cleared, is_overtaken, leading, overtakes, withdrawn}
use Rattle.set_model.specs.Rows.{Fate, Waiting, Discarded, NoAnswer, Row, IsInOrder, is_waiting, numbers, turned, wait}
use Rattle.set_model.specs.declared.phase.Phase.{Phase}
use Rattle.set_model.specs.declared.phase.Phase.TheVariants.{Up, Down, Settled}
use Rattle.set_model.specs.State.{LinkState, State, has_phase_up, link_is_up}
use Rattle.set_model.specs.Sound.{IsSound}
use Rattle.set_model.proofs.Events.{withdrawn_rows, withdrawn_wait}
use Rattle.set_model.proofs.SoundLink.{withdraws}
use Rattle.set_model.proofs.Walk.{IsAt}
use Rattle.set_changeover.specs.Agreement.{Kept, StandsFor}
use Rattle.set_traffic.specs.Traffic.{holds_first}
use Rattle.set_traffic.proofs.Traffic.{body_is}

-- so many and one more turn as one turns and then so many
turned_on : (test : Fate → Bool) (fate : Fate) → test fate ≡ false → (n : ℕ) (rows : List Row) → turned test fate (suc n) rows ≡ turned test fate n (turned test fate 1 rows)
turned_on test fate o zero [] = refl
turned_on test fate o (suc n) [] = refl
turned_on test fate o zero (x ∷ rows) = refl
turned_on test fate o (suc n) (x ∷ rows) = grind (arith, turned_on test fate o (suc n) rows)

-- one that was overtaken leaves it to the others
cleared_more : (n : ℕ) (s : State) (row : Row) (rest : List Row) → wait n s.rows ≡ row ∷ rest → is_overtaken s row ≡ true → cleared n (withdrawn 1 n s) ≡ cleared n s
cleared_more n s row rest e up =
    let waits : wait n (withdrawn 1 n s).rows ≡ rest = withdrawn_wait 1 n s.rows ∙ ap (λ (xs : List Row). drop 1 xs) e in
    let count = leading (is_overtaken s) rest in
    let first : leading (is_overtaken s) (wait n s.rows) ≡ suc count = rw (e, up) refl in
    rw (waits, first) (ap (λ (rows : List Row). record s { rows = rows }) (sym (turned_on (is_waiting n) (Discarded NoAnswer) refl count s.rows)))

-- which links are up
pub phase_up : (o : Option LinkState) (phase : Option Phase) → phase ≡ option_map (λ (link : LinkState). link.phase) o → ((phase ≡ Some Up) → link_is_up o ≡ true) × ((phase ≡ Some Up → ⊥) → link_is_up o ≡ false)
phase_up None phase e = (λ up. absurd (let no : None ≡ Some Up = sym e ∙ up in cc), λ none. refl)
phase_up (Some link) phase e = go link.phase refl
  where
    go : (p : Phase) → link.phase ≡ p → ((phase ≡ Some Up) → has_phase_up link.phase ≡ true) × ((phase ≡ Some Up → ⊥) → has_phase_up link.phase ≡ false)
    go Up is = (λ up. ap has_phase_up is, λ none. absurd (none (e ∙ ap Some is)))
    go Down is = (λ up. absurd (let no : Some Down ≡ Some Up = sym (ap Some is) ∙ sym e ∙ up in cc), λ none. ap has_phase_up is)
    go Settled is = (λ up. absurd (let no : Some Settled ≡ Some Up = sym (ap Some is) ∙ sym e ∙ up in cc), λ none. ap has_phase_up is)

-- what is kept stands for a state from which the same is cleared
pub record ClearsOn (n : ℕ) (s : State) (k : Kept) : Type 0 where
  pub now : State
  pub stands : StandsFor k now
  pub same : cleared n now ≡ cleared n s

pub clears_first : (n : ℕ) (s : State) (k new : Kept) (c : ClearsOn n s k) → holds_first (is_overtaken c.now) (wait n c.now.rows) ≡ true → StandsFor new (withdrawn 1 n c.now) → ClearsOn n s new
clears_first n s k new c e stands = go (wait n c.now.rows) refl
  where
    go : (waiting : List Row) → wait n c.now.rows ≡ waiting → ClearsOn n s new
    go [] none = absurd (let no : false ≡ true = rw none at e in cc)
    go (row ∷ rest) some = record { now = withdrawn 1 n c.now; stands = stands; same = cleared_more n c.now row rest some (rw some at e) ∙ c.same }

pub cleared_all : (n : ℕ) (s : State) (k : Kept) (c : ClearsOn n s k) → holds_first (is_overtaken c.now) (wait n c.now.rows) ≡ false → StandsFor k (cleared n s)
cleared_all n s k c e = go (wait n c.now.rows) refl
  where
    done : leading (is_overtaken c.now) (wait n c.now.rows) ≡ 0 → StandsFor k (cleared n s)
    done none = let clear : cleared n c.now ≡ c.now = rw none refl in subst (λ (t : State). StandsFor k t) (sym clear ∙ c.same) c.stands

    go : (waiting : List Row) → wait n c.now.rows ≡ waiting → StandsFor k (cleared n s)
    go [] none = done (rw none refl)
    go (row ∷ rest) some = let off : is_overtaken c.now row ≡ false = rw some at e in done (rw (some, off) refl)

-- where one waits its queue has a number
pub some_waits : (n : ℕ) (s : State) (k : Kept) → StandsFor k s → holds_first (is_overtaken s) (wait n s.rows) ≡ true → queue_at (Waiting n) k.lists ≢ []
some_waits n s k f e none = go (wait n s.rows) refl
  where
    go : (waiting : List Row) → wait n s.rows ≡ waiting → ⊥
    go [] w = let no : false ≡ true = rw w at e in cc
    go (row ∷ rest) w = let no : numbers (row ∷ rest) ≡ [] = ap numbers (sym w) ∙ sym (f.stands.queues (Waiting n) refl) ∙ none in cc

-- THE FIRST THAT WAITS, by its number and body
pub none_first : (n : ℕ) (s : State) (k : Kept) → StandsFor k s → slice_get (queue_at (Waiting n) k.lists) 0 ≡ None → false ≡ holds_first (is_overtaken s) (wait n s.rows)
none_first n s k f e = go (wait n s.rows) refl
  where
    go : (waiting : List Row) → wait n s.rows ≡ waiting → false ≡ holds_first (is_overtaken s) waiting
    go [] w = refl
    go (row ∷ rest) w = let no : None ≡ Some row.number = sym e ∙ ap (λ (ns : List ℕ). slice_get ns 0) (f.stands.queues (Waiting n) refl ∙ ap numbers w) in absurd cc

pub first_is : (n message : ℕ) (s : State) (k : Kept) (body : List ℕ) → StandsFor k s → slice_get (queue_at (Waiting n) k.lists) 0 ≡ Some message → slot_at message k.bodies ≡ Some body → holds_first (is_overtaken s) (wait n s.rows) ≡ overtakes s (order_of s.settings.profile body)
first_is n message s k body f e found = go (wait n s.rows) refl
  where
    there : option_map (λ (row : Row). row.body) (slice_get (wait n s.rows) 0) ≡ Some body
    there = body_is k s f (Waiting n) 0 message refl e ∙ found

    go : (waiting : List Row) → wait n s.rows ≡ waiting → holds_first (is_overtaken s) waiting ≡ overtakes s (order_of s.settings.profile body)
    go [] w = let no : None ≡ Some body = rw w at there in absurd cc
    go (row ∷ rest) w = let same : row.body ≡ body = same_Some row.body body (rw w at there) in rw same refl

-- its queue has one less then
pub one_less : (n : ℕ) (q new : Lists) → n < length q.links → new ≡ passed_first 1 (Waiting n) (Discarded NoAnswer) q → queue_at (Waiting n) q ≢ [] → length (queue_at (Waiting n) new) < length (queue_at (Waiting n) q)
one_less n q new known is some = go (queue_at (Waiting n) q) refl
  where
    left : queue_at (Waiting n) new ≡ drop 1 (queue_at (Waiting n) q)
    left = rw is (queue_set (Waiting n) (Waiting n) (drop 1 (queue_at (Waiting n) q)) q refl known ∙ rw (eq-eqb n n refl) refl)

    go : (ns : List ℕ) → queue_at (Waiting n) q ≡ ns → length (queue_at (Waiting n) new) < length (queue_at (Waiting n) q)
    go [] none = absurd (some none)
    go (m ∷ ns) there = rw (left, there) (omega arith)

pub links_left : (n : ℕ) (q new : Lists) → new ≡ passed_first 1 (Waiting n) (Discarded NoAnswer) q → length new.links ≡ length q.links
links_left n q new is = rw is (links_stay (Waiting n) (drop 1 (queue_at (Waiting n) q)) q)

pub cleared_sound : (n : ℕ) (link : LinkState) (s : State) → IsAt n link Up s → IsSound s → IsSound (cleared n s)
cleared_sound n link s at sound = let count = leading (is_overtaken s) (wait n s.rows) in withdraws count n link s at (withdrawn_rows count n s.rows) sound

pub cleared_order : (n : ℕ) (s : State) → IsInOrder n s.rows → IsInOrder n (cleared n s).rows
cleared_order n s order = (withdrawn_rows (leading (is_overtaken s) (wait n s.rows)) n s.rows).order_kept order
