-- A CHECKPOINT: each message that is finished leaves the rows for one count. `checkpoints` answers
-- a_checkpoint_keeps_what_is_unfinished (src/laws.rt): as many numbers are given out, the counts are the same, and the
-- state is sound. A place of which nothing is finished keeps its rows (`stand_still`), and each row that leaves is in
-- one count (`all_ended`): inductions on the rows; soundness follows clause by clause, since what is filtered keeps its
-- order. `rows_are` says that rows are what their numbers, fates and octets tell. Used by set_step's Forgotten.antt,
-- set_core's Keeping.antt and set_changeover's Shown.antt.
use Rattle.l2_units.specs.Profile.{longest_body}
use Rattle.std.proofs.Common.{refl, arith, ◌≡◌, ◌≤◌, ℕ, ◌+◌, ◌==◌, ◌&&◌, ◌||◌, not, Bool, true, false, List, [], ◌∷◌, length, filter, None, Some, slice_get, suc, ◌∙◌, ap, subst, sym}
use Rattle.set_model.specs.Checkpoint.{Checkpoints, checkpointed, counts_in, rebuilt, stays, unfinished, was_discarded_by}
use Rattle.set_model.specs.Rows.{Emergency, NoAnswer, Unreasonable, Fate, IsNumbered, Row, is_users, is_managements, row_of, standing, users, was_acked, was_discarded}
use Rattle.set_model.specs.Sound.{IsBackOf, IsSound, IsSoundCode, is_unfinished}
use Rattle.set_model.specs.State.{State, given}
use Rattle.set_route.specs.Routing.{code_of}
use Rattle.set_model.proofs.Order.{before_filter}
use Rattle.set_model.proofs.Rows.{at_most_one, each_filter, fewer_filter, filter_comm, filter_within, no_rows, row_in_filter, with_number}
use Rattle.set_model.specs.Rows.{place, body_at, owner_at, stands_back, numbers, waits, was_sent, was_held, is_on, is_held, is_unacked, is_waiting, is_parked}

-- each that leaves is in one count
all_ended : (rows : List Row) → length rows
    ≡ length (unfinished rows) + length (standing was_acked (users rows)) + length
    (standing (was_discarded_by Emergency) (users rows)) + length
    (standing (was_discarded_by Unreasonable) (users rows)) + length (standing (was_discarded_by NoAnswer) (users rows))
    + length (filter (λ row. not (is_users row) && not (is_unfinished row.fate)) rows)
all_ended [] = refl
all_ended (x ∷ rows) = grind (arith, all_ended rows)

by_cause : (rows : List Row) → length (standing was_discarded (users rows))
    ≡ length (standing (was_discarded_by Emergency) (users rows)) + length
    (standing (was_discarded_by Unreasonable) (users rows)) + length (standing (was_discarded_by NoAnswer) (users rows))
by_cause [] = refl
by_cause (x ∷ rows) = grind (arith, by_cause rows)

pub given_stays : (s : State) → given (checkpointed s) ≡ given s
given_stays s = omega (arith, all_ended s.rows)

-- a place of which none is finished keeps its rows; one where all are has none
module _ (p : Fate → Bool) where
  pub stand_still : ((f : Fate) → p f ≡ true → is_unfinished f ≡ true) → (rows : List Row) → standing p (unfinished rows) ≡ standing p rows
  stand_still w rows = filter_within (λ row. p row.fate) (λ row. is_unfinished row.fate) (λ row e. w row.fate e) rows

  users_still : ((f : Fate) → p f ≡ true → is_unfinished f ≡ true) → (rows : List Row) → standing p (users (unfinished rows)) ≡ standing p (users rows)
  users_still w [] = refl
  users_still w (x ∷ rows) = grind (arith, w, users_still w rows)

  users_gone : ((f : Fate) → p f ≡ true → is_unfinished f ≡ false) → (rows : List Row) → standing p (users (unfinished rows)) ≡ []
  users_gone w [] = refl
  users_gone w (x ∷ rows) = grind (arith, w, users_gone w rows)

pub counts_stay : (s : State) → counts_in (checkpointed s) ≡ counts_in s
counts_stay s =
    let waiting = users_still waits (λ f e. grind arith) s.rows in
    let sent = users_still was_sent (λ f e. grind arith) s.rows in
    let held = users_still was_held (λ f e. grind arith) s.rows in
    let aside = users_still is_parked (λ f e. grind arith) s.rows in
    let backs = users_still stands_back (λ f e. grind arith) s.rows in
    let acked = users_gone was_acked (λ f e. grind arith) s.rows in
    let discarded = users_gone was_discarded (λ f e. grind arith) s.rows in
    grind (arith, waiting, sent, held, aside, backs, acked, discarded, by_cause)

none_left : (number : ℕ) (rows : List Row) → with_number number rows ≡ [] → row_of number (unfinished rows) ≡ None
none_left number [] e = refl
none_left number (x ∷ rows) e = grind (arith, none_left number rows)

stays_found : (number : ℕ) (rows : List Row) → length (with_number number rows) ≤ 1 → row_of number (unfinished rows) ≡ stays (row_of number rows)
stays_found number [] few = refl
stays_found number (x ∷ rows) few = grind (arith, stays_found number rows, none_left number rows, no_rows (with_number number rows))

numbered_still : (given : ℕ) (rows : List Row) → IsNumbered given rows → IsNumbered given (unfinished rows)
numbered_still given rows numbered number =
    let same = filter_comm (λ row. row.number == number) (λ row. is_unfinished row.fate) rows in
    omega (arith, numbered number, ap length same, fewer_filter (λ row. is_unfinished row.fate) (with_number number rows))

pub checkpoint_sound : (s : State) → IsSound s → IsSound (checkpointed s)
checkpoint_sound s t =
    let sent = λ (n : ℕ). stand_still (is_unacked n) (λ f e. grind arith) s.rows in
    let holds = λ (n : ℕ). stand_still (is_held n) (λ f e. grind arith) s.rows in
    let there = λ (n : ℕ). stand_still (is_on n) (λ f e. grind arith) s.rows in
    let aside = stand_still is_parked (λ f e. grind arith) s.rows in
    let backs = stand_still stands_back (λ f e. grind arith) s.rows in
    record {
      managed = t.managed;
      routing = t.routing;
      routed = t.routed;
      count = t.count;
      numbered = subst (λ (k : ℕ). IsNumbered k (unfinished s.rows)) (sym (given_stays s)) (numbered_still (given s) s.rows t.numbered);
      fit = each_filter _ (λ row. length row.body ≤ longest_body s.settings.profile) (λ row. is_unfinished row.fate) (λ x e f. f) s.rows t.fit;
      marked = each_filter _ (λ row. is_users row ≡ not (is_managements row.body)) (λ row. is_unfinished row.fate) (λ x e f. f) s.rows t.marked;
      links = λ n link at. let l = t.links n link at in record {
        profile = l.profile;
        window = omega (arith, l.window, ap length (sent n));
        counted = l.counted;
        method = l.method;
        in_order = before_filter (is_unacked n) (is_waiting n) (λ row. is_unfinished row.fate) s.rows l.in_order;
        held_last = before_filter (λ f. is_unacked n f || is_waiting n f) (is_held n) (λ row. is_unfinished row.fate) s.rows l.held_last;
        none_held = λ up. holds n ∙ l.none_held up;
        no_users = λ up shut. ap users (there n) ∙ l.no_users up shut;
        in_range = λ up. rw (sent n) (l.in_range up);
        settled = λ done. there n ∙ l.settled done;
      };
      placed = t.placed;
      none_aside = λ n link at o. aside ∙ t.none_aside n link at o;
      all_run = t.all_run;
      codes = λ code. subst (λ (n : ℕ). IsSoundCode s.links n code (code_of code s.routing)) (sym (given_stays s)) (t.codes code);
      backs = each_filter (λ row. IsBackOf s.routing row row.fate) (λ row. IsBackOf s.routing row row.fate)
          (λ row. is_unfinished row.fate) (λ x e b. b) s.rows t.backs;
      back_order = rw backs t.back_order;
    }

pub checkpoints : (s : State) → Checkpoints s
checkpoints s = record {
  given_same = given_stays s;
  counts_same = counts_stay s;
  sound = checkpoint_sound s;
  kept = λ number t. stays_found number s.rows (at_most_one (given s) number s.rows t.numbered);
}

-- WHAT THE ROWS ARE, by their numbers in order and what is found under each
rebuilt_on : (given : ℕ) (all rows : List Row) → IsNumbered given all
    → ((i : ℕ) (row : Row) → slice_get rows i ≡ Some row → row_of row.number all ≡ Some row)
    → rebuilt (λ n. owner_at n all) (λ n. body_at n all) (λ n. place n all) (numbers rows) ≡ rows
rebuilt_on given all [] numbered found = refl
rebuilt_on given all (x ∷ rows) numbered found =
    let here = found 0 x refl in
    let rest = rebuilt_on given all rows numbered (λ i row e. found (suc i) row e) in
    grind (arith, here, rest)

pub rows_are : (given : ℕ) (rows : List Row) → IsNumbered given rows → rebuilt (λ n. owner_at n rows) (λ n. body_at n rows) (λ n. place n rows) (numbers rows) ≡ rows
rows_are given rows numbered =
    rebuilt_on given rows rows numbered
    (λ i row e. row_in_filter given (λ row. true) rows i row.number row numbered
    (ap (λ (xs : List Row). slice_get xs i) (filter_all rows) ∙ e) refl)
  where
    filter_all : (rows : List Row) → filter (λ row. true) rows ≡ rows
    filter_all [] = refl
    filter_all (x ∷ rows) = ap (λ (xs : List Row). x ∷ xs) (filter_all rows)
