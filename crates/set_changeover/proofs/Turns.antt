-- WHAT STOOD BACK FOR A LINK turns back: the oldest, the first of the rows that do, and so all of it, one by one. The
-- model moves all these rows at once; the loop takes the lowest number among the codes of the home. `TurnsOn` is its
-- invariant: what is left stands behind all else, in the order of its numbers, and moved at once it makes the same of
-- the state; `starts`, `turned_first` and `all_turned` are its beginning, its step and its end. `Turning` adds the room
-- (`turns_one`). Inductions are on rows (`first_above`, `turned_one`) and codes (`back_less`). The function turn_back
-- (src/turning.rt) uses it, and leave (src/changeover.rt) `turning_of`.
use Rattle.std.proofs.Common.{length-take, nat_lt, inl, inr, refl, arith, ◌≡◌, ◌∙◌, ap, sym, subst, [], ◌∷◌, ◌++◌, length, ℕ, suc, Bool, true, false, List, Some, cond, take, drop, ◌+◌, ◌*◌, None, ◌≤◌, ◌<◌, zero, ◌⊎◌, Option, slice_get, filter, map, not, option_map}
use Rattle.std.proofs.lemmas.Bool.{eq-eqb, cases_eq, cases_lt, ne_eqb}
use Rattle.std.proofs.lemmas.Bool.Decides.{nat_tests}
use Rattle.std.proofs.lemmas.List.Elements.{filter-append}
use Rattle.std.proofs.lemmas.List.{append_assoc, length-append, get_or_past}
use Rattle.set_queues.specs.Backs.{IsOldest, back_from, NoneBack}
use Rattle.set_queues.specs.Buffers.{Lists, is_standing, same_fate, queue_at, HaveRoom, TakesRoom}
use Rattle.set_queues.specs.Messages.{restood, slot_at}
use Rattle.set_queues.proofs.Standing.{same_is}
use Rattle.set_route.specs.Routing.{home_of, place_of}
use Rattle.set_model.specs.Rows.{turned, with_fate, fated, AreBefore, Fate, Waiting, Held, Back, Unacked, Row, standing, is_back, is_back_to, numbers, stream_of, Each, stands_back, is_users, back}
use Rattle.set_model.specs.Sound.{IsSound, IsAscending, AreAbove, IsBackOf}
use Rattle.set_model.specs.State.{On, State, fate_at, LinkState}
use Rattle.set_model.specs.Changeover.{turned_back, out_of_service}
use Rattle.set_model.proofs.Rows.{each_so, filter_within, filter_apart, none_within, row_in_filter}
use Rattle.set_changeover.specs.Agreement.{Message, Kept, StandsFor, is_there, label_in, label_of}
use Rattle.set_changeover.specs.Turning.{IsTurning, IsTurningRow, HasWay, TakesTurns, CanTurn}
use Rattle.set_changeover.proofs.States.{becomes, first_for, parted_for}
use Rattle.set_changeover.specs.Parts.{Parts, Up, IsWhole, kept_of}
use Rattle.set_queues.specs.Queues.{QueuesState, passed_first}
use Rattle.set_queues.specs.Settling.{on as on_lists}
use Rattle.set_queues.proofs.Tallies.{back_none, back_more}
use Rattle.set_queues.proofs.Soundness.{on_length, both_replaced}
use Rattle.std.proofs.lemmas.Option.{same_Some}
use Rattle.set_queues.specs.declared.message.Kind.TheVariants.{User}
use Rattle.set_model.proofs.Order.{ascends_filter, none_standing, before_append, before_none}
use Rattle.set_model.proofs.Lists.{within}
use Rattle.set_model.proofs.Places.{home_back}
use Rattle.set_model.proofs.SoundBack.{goes}
use Rattle.set_model.proofs.Walk.{IsAt}

-- FATES

back_of : (home : ℕ) (f : Fate) → is_back_to home f ≡ true → (c : ℕ) × (f ≡ Back c) × (home_of c ≡ home)
back_of home f e = grind arith

-- ROWS

-- the first number of some that are above another
first_above : (m n : ℕ) (p : Row → Bool) (rows : List Row) → AreAbove m (numbers rows) → slice_get (numbers (filter p rows)) 0 ≡ Some n → m < n
first_above m n p [] above e = absurd cc
first_above m n p (x ∷ rows) above e = grind (arith, first_above m n p rows above.1)

-- the first that stands where the test tells is turned in its place
turned_one : (test : Fate → Bool) (to : Fate) (x : Row) (rest rows : List Row) → standing test rows ≡ [] → test x.fate ≡ true → turned test to 1 (rows ++ x ∷ rest) ≡ (rows ++ with_fate to x ∷ []) ++ rest
turned_one test to x rest [] none on = grind arith
turned_one test to x rest (y ∷ rows) none on = grind (arith, turned_one test to x rest rows)

-- it waits for a link, or is held for it
abbrev pub IsOnLink : ℕ → Fate → Type 0
IsOnLink links to = (via : ℕ) × (via < links) × ((to ≡ Waiting via) ⊎ (to ≡ Held via))

-- THE KIND that is kept of a user's message
users_label : (row : Row) (o : Option Message) → option_map label_in o ≡ Some (label_of row) → is_users row ≡ true → (m : Message) × (o ≡ Some m) × (m.kind ≡ User (stream_of row.body))
users_label row None e users = absurd cc
users_label row (Some m) e users = (m, refl, ap (λ l. l.kind) (same_Some (label_in m) (label_of row) e) ∙ rw users refl)

-- WHAT IS LEFT TO TURN stands behind all else, in the order of its numbers; moved all at once, it makes the same of the state
abbrev way_in : State → Row → Fate
way_in s row = fate_at (place_of (stream_of row.body) s.routing) s

abbrev pub IsLeft : ℕ → State → Row → Type 0
IsLeft home s row = (is_back_to home row.fate ≡ true) × IsTurningRow home s row

pub record TurnsOn (home : ℕ) (s : State) (k : Kept) : Type 0 where
  pub gone : List Row
  pub rest : List Row
  pub stands : StandsFor k (record s { rows = gone ++ rest })
  pub none : standing (is_back_to home) gone ≡ []
  pub left : Each (IsLeft home s) rest
  pub order : IsAscending (numbers rest)
  pub same : turned_back home s ≡ record s { rows = gone ++ map (fated (way_in s)) rest }

pub starts : (home : ℕ) (s : State) (k : Kept) → StandsFor k s → IsTurning home s → TurnsOn home s k
starts home s k f t = record {
  gone = standing (λ g. not (is_back_to home g)) s.rows;
  rest = standing (is_back_to home) s.rows;
  stands = parted_for k s (is_back_to home) f;
  none = filter_apart (λ (row : Row). is_back_to home row.fate) (λ (row : Row). not (is_back_to home row.fate)) (λ x e. ap not e) s.rows;
  left = all_left s.rows t.each;
  order = t.order;
  same = refl;
}
  where
    all_left : (rows : List Row) → Each (IsTurningRow home s) rows → Each (IsLeft home s) (standing (is_back_to home) rows)
    all_left [] each = tt
    all_left (x ∷ rows) each = grind (arith, all_left rows each.1)

-- the first of them: the oldest that stands back for the home
pub record IsFirst (code number : ℕ) (rest : List Row) : Type 0 where
  pub row : Row
  pub after : List Row
  pub rest_is : rest ≡ row ∷ after
  pub number_is : row.number ≡ number
  pub on : is_back code row.fate ≡ true

module _ (home : ℕ) (s : State) (k : Kept) (t : TurnsOn home s k) where
  none_gone : (c : ℕ) → home_of c ≡ home → standing (is_back c) t.gone ≡ []
  none_gone c of = none_within (is_back c) (is_back_to home) (λ f e. ap (is_back_to home) (same_is f (Back c) refl e) ∙ eq-eqb (home_of c) home of) t.gone t.none

  at_code : (c : ℕ) → home_of c ≡ home → queue_at (Back c) k.lists ≡ numbers (standing (is_back c) t.rest)
  at_code c of = t.stands.stands.queues (Back c) refl ∙ ap numbers (grind (arith, filter-append, none_gone c of))

  none_left : (xs : List Row) → t.rest ≡ xs → NoneBack home k.lists → xs ≡ []
  none_left [] e nothing = refl
  none_left (x ∷ xs) e nothing =
      let b = back_of home x.fate (subst (Each (IsLeft home s)) e t.left).0.0 in
      absurd (grind (arith, nat_tests, at_code b.0 b.2))

  -- none is left to turn
  pub all_turned : NoneBack home k.lists → StandsFor k (turned_back home s)
  all_turned nothing = let none = none_left t.rest refl nothing in rw (t.same, none) (rw none at t.stands)

  first_in : (code : ℕ) (o : IsOldest home code k.lists) (xs : List Row) → t.rest ≡ xs → IsFirst code o.number xs
  first_in code o [] e = let first = o.first in absurd (grind (arith, at_code code o.of_home))
  first_in code o (x ∷ xs) e =
      let first : slice_get (numbers (standing (is_back code) (x ∷ xs))) 0 ≡ Some o.number = let there = o.first in grind (arith, at_code code o.of_home) in
      let c = back_of home x.fate (subst (Each (IsLeft home s)) e t.left).0.0 in
      let above = (subst (λ (rows : List Row). IsAscending (numbers rows)) e t.order).0 in
      let least = o.least c.0 x.number c.2 (grind (arith, nat_tests, at_code c.0 c.2)) in
      let more = first_above x.number o.number (λ (row : Row). is_back code row.fate) xs above in
      let on : is_back code x.fate ≡ true = grind (arith, first, least, more) in
      record { row = x; after = xs; rest_is = refl; number_is = grind (arith, first, on); on = on }

  -- it has its way
  module _ (code : ℕ) (o : IsOldest home code k.lists) where
    abbrev it : IsFirst code o.number t.rest
    it = first_in code o t.rest refl

    it_turns : IsLeft home s it.row
    it_turns = (subst (Each (IsLeft home s)) it.rest_is t.left).0

    pub way : HasWay code k
    way =
        let turns = it_turns.1 it_turns.0 in
        let first = ap (λ (rows : List Row). slice_get (standing (is_back code) (t.gone ++ rows)) 0) it.rest_is ∙ grind (arith, filter-append, none_gone code o.of_home, it.on) in
        let found = row_in_filter (length k.messages) (λ (row : Row). is_back code row.fate) (t.gone ++ t.rest) 0 it.row.number it.row t.stands.stands.numbered first refl in
        let label = users_label it.row (slot_at it.row.number k.messages) (t.stands.stands.labels it.row.number ∙ ap (option_map label_of) found) turns.0 in
        record { number = it.row.number; first = o.first ∙ ap Some (sym it.number_is); message = label.0; message_is = label.1; stream = stream_of it.row.body; kind_is = label.2; few = turns.1; via = turns.2; place_is = ap (place_of (stream_of it.row.body)) t.stands.routing ∙ turns.3; known = subst (λ (n : ℕ). turns.2 < n) (ap length (sym t.stands.links)) turns.4 }

    -- and turns
    pub turned_first : (to : Fate) (new : Kept) → IsOnLink (length k.lists.links) to → to ≡ fate_at (On way.via) s → new ≡ record k { lists = passed_first 1 (Back code) to k.lists; messages = restood (take 1 (queue_at (Back code) k.lists)) to k.messages } → TurnsOn home s new
    unfolding way
    turned_first to new on is b =
        let off : is_back_to home to ≡ false = grind arith in
        let way_is : to ≡ way_in s it.row = is ∙ ap (λ place. fate_at place s) (sym (it_turns.1 it_turns.0).3) in
        let rows_are : turned (is_back code) to 1 (t.gone ++ t.rest) ≡ (t.gone ++ with_fate to it.row ∷ []) ++ it.after = ap (λ (rows : List Row). turned (is_back code) to 1 (t.gone ++ rows)) it.rest_is ∙ turned_one (is_back code) to it.row it.after t.gone (none_gone code o.of_home) it.on in
        let unlike = none_standing (IsLeft home s) (is_there to) (λ x e l. absurd (let here = l.0 in grind (arith, same_is, off))) t.rest t.left in
        let order : AreBefore (is_there to) (is_back code) (t.gone ++ t.rest) = before_append (is_there to) (is_back code) t.gone t.rest (before_none (is_there to) (is_back code) t.gone (inr (none_gone code o.of_home))) unlike in
        let known : code < length k.lists.back = let first = o.first in grind (arith, nat_tests, cases_lt, get_or_past) in
        let stands = first_for k (record s { rows = t.gone ++ t.rest }) (Back code) to t.stands refl (grind arith) known (let low = on.1 in grind arith) (grind arith) order in
        record {
          gone = t.gone ++ with_fate to it.row ∷ [];
          rest = it.after;
          stands = becomes (rw rows_are at stands) b;
          none = grind (arith, filter-append, t.none, off);
          left = (subst (Each (IsLeft home s)) it.rest_is t.left).1;
          order = (subst (λ (rows : List Row). IsAscending (numbers rows)) it.rest_is t.order).1;
          same = t.same ∙ ap (λ (rows : List Row). record s { rows = rows }) (ap (λ (rows : List Row). t.gone ++ map (fated (way_in s)) rows) it.rest_is ∙ ap (λ (f : Fate). t.gone ++ with_fate f it.row ∷ map (fated (way_in s)) it.after) (sym way_is) ∙ sym (append_assoc t.gone (with_fate to it.row ∷ []) (map (fated (way_in s)) it.after)));
        }

module _ (code : ℕ) (q q' : Lists) (others : (c : ℕ) → (code ≡ c → ⊥) → queue_at (Back c) q' ≡ queue_at (Back c) q) where
  pub back_less : (gone : ℕ) → length (queue_at (Back code) q') + gone ≡ length (queue_at (Back code) q) → (from n : ℕ) → from ≤ code → back_from from n q' + cond (nat_lt code (from + n)) gone 0 ≡ back_from from n q
  back_less gone less from zero low = grind (arith, nat_tests, back_none)
  back_less gone less from (suc n) low = grind (arith, nat_tests, less, cases_eq code (from + n), back_more from n q, back_more from n q', back_less gone less from n low, others (from + n))

-- THE FIRST OF A CODE'S GOES TO A LINK: it waits for it, or is held for it
module _ (home code : ℕ) (to : Fate) (q : Lists) (o : IsOldest home code q) (on : IsOnLink (length q.links) to) where
  abbrev gone : Lists
  gone = passed_first 1 (Back code) to q

  pub queue_then : (f : Fate) → is_standing f ≡ true → queue_at f gone ≡ cond (same_fate (Back code) f) (drop 1 (queue_at (Back code) q)) (cond (same_fate to f) (queue_at to q ++ take 1 (queue_at (Back code) q)) (queue_at f q))
  queue_then f s =
      let first = o.first in
      let known : code < length q.back = grind (arith, nat_tests, cases_lt, get_or_past) in
      both_replaced q (Back code) to _ _ known (grind arith) f s

  -- one less waits for the codes of the home
  pub fewer_back : back_from (16 * home) 16 gone + 1 ≡ back_from (16 * home) 16 q
  fewer_back =
      let of = o.of_home in
      let first = o.first in
      let less : length (queue_at (Back code) gone) + 1 ≡ length (queue_at (Back code) q) = grind (arith, nat_tests, queue_then (Back code) refl) in
      grind (arith, nat_tests, back_less code q gone (λ c ne. let to_link = on.2 in let apart : same_fate to (Back c) ≡ false = grind arith in queue_then (Back c) refl ∙ rw (ne_eqb code c ne, apart) refl) 1 less (16 * home) 16 (omega (arith, of)))

  -- and at most one more stands on a link
  grown : (f : Fate) → is_standing f ≡ true → same_fate (Back code) f ≡ false → length (queue_at f gone) ≤ length (queue_at f q) + cond (same_fate to f) 1 0
  grown f standing off = grind (arith, nat_tests, queue_then f standing, same_is to f standing, length-append)

  on_then : (m : ℕ) → length (on_lists m gone) ≤ length (on_lists m q) + 1
  on_then m = let to_link = on.2 in grind (arith, nat_tests, on_length m q, on_length m gone, grown (Unacked m) refl refl, grown (Waiting m) refl refl, grown (Held m) refl refl)

-- ROOM
pub turns_one : (home code : ℕ) (to : Fate) (old new : QueuesState) → IsOldest home code old.lists → IsOnLink (length old.lists.links) to → new.lists ≡ passed_first 1 (Back code) to old.lists → TakesRoom to (length (take 1 (queue_at (Back code) old.lists))) old.rooms new.rooms → new.room ≡ old.room → TakesTurns 1 old new
turns_one home code to old new o on e rooms room = record {
  room = room;
  rooms = λ f. let taken = rooms f in grind (arith, length-take);
  on_link = λ n low. rw e (on_then home code to old.lists o on n);
}

-- the loop: so many turned back
pub record Turning {A : Type 0} (home : ℕ) (old now : Parts A) : Type 0 where
  pub whole : IsWhole now
  pub links : now.links ≡ old.links
  pub bodies : now.bodies ≡ old.bodies
  pub so_far : (s : State) → StandsFor (kept_of old) s → IsTurning home s → TurnsOn home s (kept_of now)
  pub turned : ℕ
  pub turns : TakesTurns turned old.queues now.queues
  pub fewer : back_from (16 * home) 16 now.queues.lists + turned ≡ back_from (16 * home) 16 old.queues.lists

module _ {A : Type 0} (home : ℕ) (old now : Parts A) (g : Turning home old now) (code : ℕ) (o : IsOldest home code now.queues.lists) where
  pub room_for_one : HaveRoom (length old.links.items) (back_from (16 * home) 16 old.queues.lists) old.queues.rooms → HaveRoom (length now.links.items) 1 now.queues.rooms
  room_for_one room link low =
      let enough = room link (omega (arith, low, ap (λ links. length links.items) g.links)) in
      let here : link < length now.queues.lists.links = rw g.whole.as_many low in
      omega (arith, enough, g.turns.rooms (Waiting link), g.turns.rooms (Held link), fewer_back home code (Waiting link) now.queues.lists o (link, here, inl refl), g.fewer)

  pub its_way : CanTurn home (kept_of old) → HasWay code (kept_of now)
  its_way turning = way home turning.0 (kept_of now) (g.so_far turning.0 turning.1 turning.2) code o

  -- where it goes
  pub goes_on_link : (turning : CanTurn home (kept_of old)) (to : Fate) → ((w : HasWay code (kept_of now)) (s : State) → StandsFor (kept_of now) s → to ≡ fate_at (On w.via) s) → IsOnLink (length now.queues.lists.links) to
  goes_on_link turning to is =
      let so = g.so_far turning.0 turning.1 turning.2 in
      let w = its_way turning in
      (w.via, subst (λ (n : ℕ). w.via < n) (ap length so.stands.links ∙ sym so.stands.as_many) w.known, let place = is w _ so.stands in grind arith)

-- A LINK THAT IS LEFT: what stood back for it can turn.
pub turning_of : (blind : Bool) (n : ℕ) (link : LinkState) (s : State) → IsAt n link Up s → IsSound s → IsTurning n (out_of_service blind n link s)
turning_of blind n link s at sound = record {
  each = each_so (λ row. IsBackOf s.routing row row.fate) (IsTurningRow n (out_of_service blind n link s)) (λ x b e.
      let g = goes blind n link s at sound x e b in
      let users : (is_users x ≡ true) × (stream_of x.body < 16) = grind arith in
      (users.0, users.1, g.0, g.1, within (out_of_service blind n link s).links g.0 g.2.0 g.2.1)) s.rows sound.backs;
  order = subst (λ (xs : List Row). IsAscending (numbers xs)) (filter_within (λ (row : Row). is_back_to n row.fate) (λ (row : Row). stands_back row.fate) (λ x e. home_back n x.fate e) s.rows) (ascends_filter (λ (row : Row). is_back_to n row.fate) (back s.rows) sound.back_order);
}
