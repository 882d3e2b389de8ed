-- WHAT STOOD BACK TURNS, and each stream: to the link that it came from where its home is left (`leaves_flow`). Such a
-- stream runs there again, and what waited for the acknowledgement stands behind what is pending there (`adds_all`,
-- `turned_kept`); of any other stream nothing turns (`adds_none`). For a row that stands back is of a stream that comes
-- back by its code, and so the rows that turn are picked by stream (Filtered.antt). The code is spent then and not
-- free, since its declaration may be under way. No induction; the queues are told by pair_changeover's Leaving.antt.
-- Used by Acting.antt and Hearing.antt; Returned.antt uses `added_order` and `added_clear`.
use Rattle.std.proofs.Common.{refl, arith, ◌≡◌, ◌∙◌, ap, ap₂, Some, None, sym, subst, ℕ, ◌<◌, ◌==◌, ◌&&◌, Bool, true, false, List, [], ◌++◌, cond, ◌⊎◌, inl, inr}
use Rattle.std.proofs.lemmas.List.{append-nil}
use Rattle.l3_orders.specs.declared.order.Order.{Order}
use Rattle.l3_orders.specs.declared.order.Order.TheVariants.{Cbd}
use Rattle.l3_orders.specs.Grammar.{order_any}
use Rattle.set_events.specs.declared.answer.Fate.{Fate}
use Rattle.set_events.specs.declared.answer.Fate.TheVariants.{Waiting, Unacked, Acked, Held, Parked, Back, Discarded}
use Rattle.std.proofs.lemmas.Bool.{cond_both}
use Rattle.set_route.specs.declared.place.Place.{Place}
use Rattle.set_route.specs.declared.place.Place.TheVariants.{On, Changing, Nowhere}
use Rattle.set_route.specs.declared.place.Code.{Code}
use Rattle.set_route.specs.declared.place.Code.TheVariants.{Free, Asked, Spent}
use Rattle.set_route.specs.Routing.{place_of, place_left, code_of, code_left, home_of, owed_under}
use Rattle.set_route.proofs.Codes.{codes_at}
use Rattle.set_route.proofs.Alone as route
use Rattle.set_model.specs.declared.phase.Phase.TheVariants.{Up}
use Rattle.set_model.specs.Rows.{Row, standing, is_waiting, is_held, is_back, is_back_to, is_parked, wait, held, parked}
use Rattle.set_model.specs.Sound.{IsSound, IsBackOf}
use Rattle.set_model.specs.State.{LinkState, State, is_open, fate_at}
use Rattle.set_model.specs.Changeover.{out_of_service, left_by}
use Rattle.set_model.proofs.Order.{coded_at}
use Rattle.set_model.proofs.Rows.{moved_more}
use Rattle.set_model.proofs.Places.{apart, home_back, false_true, itself}
use Rattle.set_model.proofs.Walk.{IsAt}
use Rattle.pair_model.specs.Run.{Message, messages}
use Rattle.pair_changeover.specs.Pending.{pending, aside}
use Rattle.pair_changeover.proofs.Leaving.{goes_to, unsent, turns_to, leaves_queues, leaves_aside}
use Rattle.pair_changeover.proofs.Table.{joined}
use Rattle.pair_changeover.proofs.Turning.{turned_rows, turned_users, gained_users}
use Rattle.pair_changeover.proofs.Views.{view, Among, among_joined, In, stands_on, stands_aside}
use Rattle.pair_streams.specs.Streams.{is_of, those_of}
use Rattle.pair_streams.proofs.Codes.{Clear, Flows, Kept, NewAcknowledges, OwesNoLess, carried}
use Rattle.pair_streams.proofs.Declared.{Declares, ClearBehind, clear_joined, clear_none, users_declare}
use Rattle.pair_streams.proofs.Filtered.{those_joined, joins_none, and_so, turned_filter, picked, never_picked, each_so, of_stream}
use Rattle.pair_streams.proofs.Flowing.{back_by, queue_at, Stands}

-- whether the stream comes back to the link
abbrev turns : Place → ℕ → Bool
turns (On l) k = false
turns (Changing to code via) k = to == k
turns Nowhere k = false

-- users' messages that join queues declare nothing
module _ (s t f : State) (adds : ℕ → List Message) (adds_aside : List Message)
    (queues : (l : ℕ) → pending l t f ≡ pending l s f ++ adds l) (aside_is : aside t ≡ aside s ++ adds_aside)
    (users : (l : ℕ) (m : Message) → Among m (adds l) → order_any m.body ≡ None)
    (users_aside : (m : Message) → Among m adds_aside → order_any m.body ≡ None) where
  pub added_order : (order : Order) (m : Message) → In m (view t f) → order_any m.body ≡ Some order → In m (view s f)
  added_order order m (stands_on l a) is = go (among_joined m (pending l s f) (adds l) (subst (Among m) (queues l) a))
    where
      go : Among m (pending l s f) ⊎ Among m (adds l) → In m (view s f)
      go (inl x) = stands_on l x
      go (inr x) = absurd (let never : None ≡ Some order = sym (users l m x) ∙ is in cc)
  added_order order m (stands_aside a) is = go (among_joined m (aside s) adds_aside (subst (Among m) aside_is a))
    where
      go : Among m (aside s) ⊎ Among m adds_aside → In m (view s f)
      go (inl x) = stands_aside x
      go (inr x) = absurd (let never : None ≡ Some order = sym (users_aside m x) ∙ is in cc)

  pub added_clear : (stream code via : ℕ) → those_of stream (adds via) ≡ [] → Clear stream code via (view s f) → Clear stream code via (view t f)
  added_clear stream code via none old = record {
    only = λ l e m a d. on_case l e m d (among_joined m (pending l s f) (adds l) (subst (Among m) (queues l) a));
    none_aside = λ m a d. aside_case m d (among_joined m (aside s) adds_aside (subst (Among m) aside_is a));
    behind = subst (ClearBehind stream code) (sym (queues via))
        (clear_joined stream code (pending via s f) (adds via) old.behind none
        (clear_none stream code (adds via) (λ m a d. users_declare code m (users via m a) d)));
  }
    where
      on_case : (l : ℕ) → (via == l) ≡ false → (m : Message) → Declares code m → Among m (pending l s f) ⊎ Among m (adds l) → ⊥
      on_case l e m d (inl x) = old.only l e m x d
      on_case l e m d (inr x) = users_declare code m (users l m x) d

      aside_case : (m : Message) → Declares code m → Among m (aside s) ⊎ Among m adds_aside → ⊥
      aside_case m d (inl x) = old.none_aside m x d
      aside_case m d (inr x) = users_declare code m (users_aside m x) d

-- A LINK IS LEFT
module _ (blind : Bool) (k : ℕ) (link : LinkState) (s f : State) (sound : IsSound s) (at : IsAt k link Up s) where
  abbrev left : State
  left = left_by blind k link s

  abbrev out : State
  out = out_of_service blind k link s

  abbrev goes : Row → Fate
  goes = goes_to blind k link s f sound at

  abbrev rows_turned : List Row
  rows_turned = turned_rows (is_back_to k) goes (home_back k) s.rows (unsent blind k link s f sound at)

  abbrev adds : ℕ → List Message
  adds = turns_to blind k link s f sound at

  module _ (stream : ℕ) (low : stream < 16) where
    abbrev place : Place
    place = place_of stream s.routing

    place_then : place_of stream left.routing ≡ place_left k place
    place_then = (route.alone s.routing stream sound.routing low).left_place k

    -- a row of the stream that stands back is one of its code
    own_row : (row : Row) (c : ℕ) → is_of stream (record { number = row.number; body = row.body; users = row.users }) ≡ true
        → (b : IsBackOf s.routing row (Back c)) → place ≡ Changing (home_of c) c b.2
    own_row row c own b = ap (λ (n : ℕ). place_of n s.routing) (sym (of_stream stream (record { number = row.number; body = row.body; users = row.users }) own)) ∙ b.3

    goes_place : (row : Row) → is_of stream (record { number = row.number; body = row.body; users = row.users }) ≡ true → goes row ≡ fate_at (place_left k place) out
    goes_place row own =
        ap (λ (n : ℕ). fate_at (place_of n out.routing) out) (of_stream stream (record { number = row.number; body = row.body; users = row.users }) own)
        ∙ ap (λ (p : Place). fate_at p out) place_then

    module _ (other : Fate → Bool) where
      abbrev P : Row → Bool
      P row = is_back_to k row.fate && other (goes row)

      off_row : turns place k ≡ false → (row : Row) (fate : Fate) → IsBackOf s.routing row fate
          → is_of stream (record { number = row.number; body = row.body; users = row.users }) ≡ true
          → (is_back_to k fate && other (goes row)) ≡ false
      off_row off row (Back c) b own =
          let home_off : (home_of c == k) ≡ false = ap (λ (p : Place). turns p k) (sym (own_row row c own b)) ∙ off in
          rw home_off refl
      off_row off row (Waiting l) b own = refl
      off_row off row (Unacked l) b own = refl
      off_row off row (Acked l) b own = refl
      off_row off row (Held l) b own = refl
      off_row off row Parked b own = refl
      off_row off row (Discarded cause) b own = refl

      -- none of another stream
      pub none_turned : turns place k ≡ false → those_of stream (messages (standing other rows_turned)) ≡ []
      none_turned off =
          ap (those_of stream) (turned_filter (is_back_to k) other goes s.rows)
          ∙ picked stream P (λ row. false) s.rows
          (each_so (λ row. IsBackOf s.routing row row.fate)
          (λ row. is_of stream (record { number = row.number; body = row.body; users = row.users }) ≡ true → P row ≡ false)
          (λ row b own. off_row off row row.fate b own) s.rows sound.backs)
          ∙ ap (those_of stream) (never_picked s.rows)

      -- all of this one, where the test tells so
      module _ (to code via : ℕ) (is : place ≡ Changing to code via) (on : (to == k) ≡ true) where
        left_place : place_left k place ≡ On via
        left_place = ap (place_left k) is ∙ rw on refl

        on_row : (b : Bool) → other (fate_at (On via) out) ≡ b → (row : Row) (fate : Fate) → IsBackOf s.routing row fate
            → is_of stream (record { number = row.number; body = row.body; users = row.users }) ≡ true
            → (is_back_to k fate && other (goes row)) ≡ (is_back code fate && b)
        on_row b e row (Back c) back own =
            let same : Changing (home_of c) c back.2 ≡ Changing to code via = sym (own_row row c own back) ∙ is in
            let code_is : c ≡ code = cc in
            let to_is : home_of c ≡ to = cc in
            let home_on : (home_of c == k) ≡ true = ap (λ (n : ℕ). n == k) to_is ∙ on in
            let code_on : (c == code) ≡ true = ap (λ (n : ℕ). n == code) code_is ∙ itself code in
            let fate_is : other (goes row) ≡ b = ap other (goes_place row own ∙ ap (λ (p : Place). fate_at p out) left_place) ∙ e in
            rw (home_on, code_on, fate_is) refl
        on_row b e row (Waiting l) back own = refl
        on_row b e row (Unacked l) back own = refl
        on_row b e row (Acked l) back own = refl
        on_row b e row (Held l) back own = refl
        on_row b e row Parked back own = refl
        on_row b e row (Discarded cause) back own = refl

        pub all_turned : (b : Bool) → other (fate_at (On via) out) ≡ b
            → those_of stream (messages (standing other rows_turned)) ≡ cond b (those_of stream (back_by code s)) []
        all_turned b e =
            ap (those_of stream) (turned_filter (is_back_to k) other goes s.rows)
            ∙ picked stream P (λ row. is_back code row.fate && b) s.rows
            (each_so (λ row. IsBackOf s.routing row row.fate)
            (λ row. is_of stream (record { number = row.number; body = row.body; users = row.users }) ≡ true
            → P row ≡ (is_back code row.fate && b)) (λ row back own. on_row b e row row.fate back own) s.rows
            sound.backs)
            ∙ and_so stream (is_back code) b s.rows

    -- a link gains all that stood back of a stream that came from it, and nothing of others
    two_parts : (l : ℕ) → those_of stream (adds l) ≡ those_of stream (messages (wait l rows_turned)) ++ those_of stream (messages (held l rows_turned))
    two_parts l = ap (those_of stream) (joined (wait l rows_turned) (held l rows_turned))
        ∙ those_joined stream (messages (wait l rows_turned)) (messages (held l rows_turned))

    pub adds_none : turns place k ≡ false → (l : ℕ) → those_of stream (adds l) ≡ []
    adds_none off l = two_parts l ∙ ap₂ (λ (x y : List Message). x ++ y) (none_turned (is_waiting l) off) (none_turned (is_held l) off)

    module _ (to code via : ℕ) (is : place ≡ Changing to code via) (on : (to == k) ≡ true) where
      waits_at : (l : ℕ) (b : Bool) → is_open via out ≡ b → those_of stream (adds l) ≡ cond (via == l) (those_of stream (back_by code s)) []
      waits_at l true up =
          two_parts l
          ∙ ap₂ (λ (x y : List Message). x ++ y)
          (all_turned (is_waiting l) to code via is on (via == l) (ap (λ (c : Bool). is_waiting l (cond c (Waiting via) (Held via))) up))
          (all_turned (is_held l) to code via is on false (ap (λ (c : Bool). is_held l (cond c (Waiting via) (Held via))) up))
          ∙ append-nil (cond (via == l) (those_of stream (back_by code s)) [])
      waits_at l false down =
          two_parts l
          ∙ ap₂ (λ (x y : List Message). x ++ y)
          (all_turned (is_waiting l) to code via is on false (ap (λ (c : Bool). is_waiting l (cond c (Waiting via) (Held via))) down))
          (all_turned (is_held l) to code via is on (via == l) (ap (λ (c : Bool). is_held l (cond c (Waiting via) (Held via))) down))

      pub adds_all : (l : ℕ) → those_of stream (adds l) ≡ cond (via == l) (those_of stream (back_by code s)) []
      adds_all l = waits_at l (is_open via out) refl

      none_parked : (b : Bool) → is_open via out ≡ b → is_parked (fate_at (On via) out) ≡ false
      none_parked true e = rw e refl
      none_parked false e = rw e refl

      pub parks_none : those_of stream (messages (parked rows_turned)) ≡ []
      parks_none = all_turned is_parked to code via is on false (none_parked (is_open via out) refl)

  -- nothing is parked by it
  module _ (stream : ℕ) (low : stream < 16) where
    parks_nothing : (p : Place) → place_of stream s.routing ≡ p → (b : Bool) → turns p k ≡ b → those_of stream (messages (parked rows_turned)) ≡ []
    parks_nothing p e false off = none_turned stream low is_parked (ap (λ (q : Place). turns q k) e ∙ off)
    parks_nothing (Changing to code via) e true on = parks_none stream low to code via e on
    parks_nothing (On l) e true on = absurd cc
    parks_nothing Nowhere e true on = absurd cc

    aside_same : those_of stream (aside left) ≡ those_of stream (aside s)
    aside_same = ap (those_of stream) (leaves_aside blind k link s f sound at)
        ∙ joins_none stream (aside s) (messages (parked rows_turned))
        (parks_nothing (place_of stream s.routing) refl (turns (place_of stream s.routing) k) refl)

    queue_same : (l : ℕ) → those_of stream (adds l) ≡ [] → those_of stream (pending l left f) ≡ those_of stream (pending l s f)
    queue_same l none = ap (those_of stream) (leaves_queues blind k link s f sound at l) ∙ joins_none stream (pending l s f) (adds l) none

    -- what stands back by another home's code does then too
    back_stays : (to code via : ℕ) → place_of stream s.routing ≡ Changing to code via → (to == k) ≡ false
        → those_of stream (back_by code left) ≡ those_of stream (back_by code s)
    back_stays to code via is off =
        let coded = coded_at s.routing stream sound.routing to code via is in
        ap (λ (rows : List Row). those_of stream (messages rows)) (moved_more (is_back_to k) (is_back code) goes s.rows (λ fate e. not_both fate e coded.0))
        ∙ ap (those_of stream) (joined (standing (is_back code) s.rows) (standing (is_back code) rows_turned))
        ∙ joins_none stream (back_by code s) (messages (standing (is_back code) rows_turned))
        (none_turned stream low (is_back code) (ap (λ (p : Place). turns p k) is ∙ off))
      where
        not_both : (fate : Fate) → is_back_to k fate ≡ true → home_of code ≡ to → is_back code fate ≡ false
        not_both (Back c) e h = apart c code (λ same. false_true (to == k) off (ap (λ (n : ℕ). n == k) (sym h ∙ ap home_of (sym same)) ∙ e))
        not_both (Waiting l) e h = refl
        not_both (Unacked l) e h = refl
        not_both (Acked l) e h = refl
        not_both (Held l) e h = refl
        not_both Parked e h = refl
        not_both (Discarded cause) e h = refl

  users_added : (l : ℕ) (m : Message) → Among m (adds l) → order_any m.body ≡ None
  users_added l m a = gained_users (is_back_to k) goes (home_back k) s.rows (unsent blind k link s f sound at) s.routing sound.marked sound.backs l m a

  users_parked : (m : Message) → Among m (messages (parked rows_turned)) → order_any m.body ≡ None
  users_parked m a = turned_users (is_back_to k) goes (home_back k) s.routing is_parked s.rows sound.marked sound.backs m a

  -- no order comes to stand there
  pub left_orders : (order : Order) (m : Message) → In m (view left f) → order_any m.body ≡ Some order → In m (view s f)
  left_orders = added_order s left f adds (messages (parked rows_turned)) (leaves_queues blind k link s f sound at)
      (leaves_aside blind k link s f sound at) users_added users_parked

  module _ (offered got lost : ℕ → List Message) (w : Flows s f offered got lost) where
    module _ (stream : ℕ) (low : stream < 16) where
      -- one that stays where it is
      module _ (p : Place) (is : place_of stream s.routing ≡ p) (off : turns p k ≡ false) (stays : place_left k p ≡ p)
          (queue_is : those_of stream (queue_at p left f) ≡ those_of stream (queue_at p s f)) where
        then_is : place_of stream left.routing ≡ p
        then_is = place_then stream low ∙ ap (place_left k) is ∙ stays

        none : (l : ℕ) → those_of stream (adds l) ≡ []
        none = adds_none stream low (ap (λ (q : Place). turns q k) is ∙ off)

        stays_kept : Kept stream s left f f
        stays_kept = record {
          here_is = ap (λ (q : Place). those_of stream (queue_at q left f)) then_is ∙ queue_is ∙ ap (λ (q : Place). those_of stream (queue_at q s f)) (sym is);
          stands = subst (λ (q : Place). Stands stream q left f) (sym then_is)
              (let old = subst (λ (q : Place). Stands stream q s f) is (w.stands stream low) in record {
                alone = λ l e. queue_same stream low l (none l) ∙ old.alone l e;
                none_aside = λ e. aside_same stream low ∙ old.none_aside e;
              });
          used = (route.alone s.routing stream sound.routing low).left_messages k;
          clear = λ to code via e. added_clear s left f adds (messages (parked rows_turned))
              (leaves_queues blind k link s f sound at) (leaves_aside blind k link s f sound at) users_added
              users_parked stream code via (none via) (w.backing.clear stream low to code via (is ∙ sym then_is ∙ e));
          answered = λ to code via e n i a. queue_same stream low via (none via) ∙ w.backing.answered stream low to code via (is ∙ sym then_is ∙ e) n i a;
        }

      -- one that came back to the link runs where it came from again
      module _ (to code via : ℕ) (is : place_of stream s.routing ≡ Changing to code via) (on : (to == k) ≡ true) where
        on_via : place_of stream left.routing ≡ On via
        on_via = place_then stream low ∙ ap (place_left k) is ∙ rw on refl

        at_via : those_of stream (pending via left f) ≡ those_of stream (pending via s f ++ back_by code s)
        at_via =
            ap (those_of stream) (leaves_queues blind k link s f sound at via)
            ∙ those_joined stream (pending via s f) (adds via)
            ∙ ap (λ (x : List Message). those_of stream (pending via s f) ++ x)
            (adds_all stream low to code via is on via
            ∙ ap (λ (b : Bool). cond b (those_of stream (back_by code s)) []) (itself via))
            ∙ sym (those_joined stream (pending via s f) (back_by code s))

        turned_kept : Kept stream s left f f
        turned_kept = record {
          here_is = ap (λ (q : Place). those_of stream (queue_at q left f)) on_via ∙ at_via ∙ ap (λ (q : Place). those_of stream (queue_at q s f)) (sym is);
          stands = subst (λ (q : Place). Stands stream q left f) (sym on_via)
              (let old = subst (λ (q : Place). Stands stream q s f) is (w.stands stream low) in record {
                alone = λ l e. queue_same stream low l
                    (adds_all stream low to code via is on l
                    ∙ ap (λ (b : Bool). cond b (those_of stream (back_by code s)) []) e) ∙ old.alone l e;
                none_aside = λ e. aside_same stream low ∙ old.none_aside refl;
              });
          used = (route.alone s.routing stream sound.routing low).left_messages k;
          clear = λ t c v e. absurd (let no : On via ≡ Changing t c v = sym on_via ∙ e in cc);
          answered = λ t c v e n i a. absurd (let no : On via ≡ Changing t c v = sym on_via ∙ e in cc);
        }

      left_kept : Kept stream s left f f
      left_kept = go (place_of stream s.routing) refl
        where
          back_case : (to code via : ℕ) → place_of stream s.routing ≡ Changing to code via → (b : Bool) → (to == k) ≡ b → Kept stream s left f f
          back_case to code via is true on = turned_kept to code via is on
          back_case to code via is false off = stays_kept (Changing to code via) is off (rw off refl)
              (those_joined stream (pending via left f) (back_by code left)
              ∙ ap₂ (λ (x y : List Message). x ++ y)
              (queue_same stream low via (adds_none stream low (ap (λ (q : Place). turns q k) is ∙ off) via))
              (back_stays stream low to code via is off)
              ∙ sym (those_joined stream (pending via s f) (back_by code s)))

          go : (p : Place) → place_of stream s.routing ≡ p → Kept stream s left f f
          go (On l) is = stays_kept (On l) is refl refl (queue_same stream low l (adds_none stream low (ap (λ (q : Place). turns q k) is) l))
          go Nowhere is = stays_kept Nowhere is refl refl (aside_same stream low)
          go (Changing to code via) is = back_case to code via is (to == k) refl

    -- as much is owed under each code
    left_owes : OwesNoLess s left
    left_owes c =
        let then_code = ap owed_under (codes_at k 0 c c s.routing.codes (omega arith)) ∙ owed_left (code_of c s.routing) in
        omega (arith, then_code)
      where
        owed_left : (was : Code) → owed_under (code_left k c was) ≡ owed_under was
        owed_left Free = refl
        owed_left (Asked via declaration owed) = cond_both (home_of c == k) (Spent owed) (Asked via declaration owed) (λ (x : Code). owed_under x ≡ owed) (λ e. refl) (λ e. refl)
        owed_left (Spent owed) = refl

    pub leaves_flow : NewAcknowledges (view f left) (view f s) → Flows left f offered got lost
    leaves_flow acknowledges = carried s left f f offered got lost w left_kept left_owes
        (λ c m i d. left_orders (Cbd d.link c) m i d.is) acknowledges
