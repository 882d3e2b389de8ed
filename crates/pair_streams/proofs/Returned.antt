-- A CHANGEBACK IS ACKNOWLEDGED, and each stream: what stood back by its code waits at home, and its streams run there
-- (`releases_flow`). They stay in order since nothing of them is pending any more where they came from: Hearing.antt
-- knows it from the acknowledgement that it heard. Of other streams nothing stands back by that code (`none_back_by`),
-- and where its home isn't up nothing does. Case by case on the stream's place, no induction; the queues are told by
-- pair_changeover's Leaving.antt. `gone_orders` says that no order comes to stand there. Only Hearing.antt uses it.
use Rattle.std.proofs.Common.{refl, arith, ◌≡◌, ◌∙◌, ap, ap₂, sym, subst, ℕ, zero, suc, ◌<◌, ◌==◌, ◌-◌, ◌&&◌, Bool, true, false, List, [], ◌++◌, filter, Some, None, cond}
use Rattle.std.proofs.lemmas.Bool.{eqb-true}
use Rattle.std.proofs.lemmas.List.{append-nil}
use Rattle.l3_orders.specs.declared.order.Order.{Order}
use Rattle.l3_orders.specs.declared.order.Order.TheVariants.{Cbd}
use Rattle.l3_orders.specs.Grammar.{order_any}
use Rattle.set_events.specs.declared.answer.Fate.{Fate}
use Rattle.set_events.specs.declared.answer.Fate.TheVariants.{Waiting, Unacked, Acked, Held, Parked, Back, Discarded}
use Rattle.set_route.specs.declared.place.Place.{Place}
use Rattle.set_route.specs.declared.place.Place.TheVariants.{On, Changing, Nowhere}
use Rattle.set_route.specs.Routing.{place_of, place_back, code_answered, code_of, home_of, has_messages, owed_under, still_owed}
use Rattle.set_route.proofs.Places.{answered_at}
use Rattle.set_route.proofs.Alone as route
use Rattle.set_model.specs.Rows.{Row, standing, is_waiting, is_held, is_back, is_parked, wait, held, parked, all_with}
use Rattle.set_model.specs.Sound.{IsSound}
use Rattle.set_model.specs.State.{State, is_open}
use Rattle.set_model.specs.Changeover.{acknowledged_code}
use Rattle.set_model.proofs.Order.{coded_at}
use Rattle.set_model.proofs.Rows.{moved_same}
use Rattle.set_model.proofs.Places.{apart_back, code_back, false_true, itself}
use Rattle.set_model.proofs.SoundBack.{none_back}
use Rattle.pair_model.specs.Run.{Message, messages}
use Rattle.pair_changeover.specs.Pending.{pending, aside}
use Rattle.pair_changeover.proofs.Leaving.{unsent_home, comes_home, releases_queues, releases_aside}
use Rattle.pair_changeover.proofs.Table.{joined}
use Rattle.pair_changeover.proofs.Turning.{turned_rows, turned_users, gained_users}
use Rattle.pair_changeover.proofs.Views.{view, Among, In}
use Rattle.pair_streams.specs.Streams.{those_of}
use Rattle.pair_streams.proofs.Codes.{Flows, IsNumber, Kept, Owes, kept_flow, left_of, one_left, still_number}
use Rattle.pair_streams.proofs.Declared.{Acknowledges}
use Rattle.pair_streams.proofs.Filtered.{those_joined, joins_none, none_joins, turned_filter, and_so}
use Rattle.pair_streams.proofs.Flowing.{back_by, queue_at, waits_by, Stands, none_back_by}
use Rattle.pair_streams.proofs.Moving.{same_in, clear_same}
use Rattle.pair_streams.proofs.Turned.{added_order, added_clear}

module _ (code : ℕ) (s f : State) (sound : IsSound s) where
  abbrev pub gone : State
  gone = acknowledged_code code s

  abbrev to_home : ℕ
  to_home = home_of code

  abbrev rows_turned : List Row
  rows_turned = turned_rows (is_back code) (all_with (Waiting to_home)) (code_back code) s.rows (unsent_home code s f sound)

  place_then : (stream : ℕ) → stream < 16 → place_of stream gone.routing ≡ place_back code (place_of stream s.routing)
  place_then stream low = (route.alone s.routing stream sound.routing low).answered_place code

  used_then : (stream : ℕ) → stream < 16 → has_messages stream gone.routing ≡ has_messages stream s.routing
  used_then stream low = (route.alone s.routing stream sound.routing low).answered_messages code

  -- what stands back by another code does then too
  back_stays : (c : ℕ) → (c == code) ≡ false → back_by c gone ≡ back_by c s
  back_stays c d = ap messages (moved_same (is_back code) (is_back c) (all_with (Waiting to_home)) s.rows (λ row. refl) (λ fate e. other fate e))
    where
      other : (fate : Fate) → is_back code fate ≡ true → is_back c fate ≡ false
      other (Back b) e = ap (λ (n : ℕ). n == c) (eqb-true b code e) ∙ apart_back c code d
      other (Waiting l) e = refl
      other (Unacked l) e = refl
      other (Acked l) e = refl
      other (Held l) e = refl
      other Parked e = refl
      other (Discarded cause) e = refl

  -- a stream that comes back by the code goes home; its home is up
  home_open : (stream : ℕ) (to c via : ℕ) → place_of stream s.routing ≡ Changing to c via → (c == code) ≡ true → (to_home ≡ to) × (is_open to_home s ≡ true)
  home_open stream to c via is e =
      let coded = coded_at s.routing stream sound.routing to c via is in
      let same : c ≡ code = eqb-true c code e in
      (ap home_of (sym same) ∙ coded.0, ap (λ (n : ℕ). is_open (home_of n) s) (sym same) ∙ (sound.codes c).home_open via coded.1)

  -- WHERE ITS HOME IS UP
  module _ (up : is_open to_home s ≡ true) where
    abbrev adds : ℕ → List Message
    adds = comes_home code s f sound

    queues : (l : ℕ) → pending l gone f ≡ pending l s f ++ adds l
    queues = releases_queues code s f sound up

    users_added : (l : ℕ) (m : Message) → Among m (adds l) → order_any m.body ≡ None
    users_added l m a = gained_users (is_back code) (all_with (Waiting to_home)) (code_back code) s.rows
        (unsent_home code s f sound) s.routing sound.marked sound.backs l m a

    users_parked : (m : Message) → Among m (messages (parked rows_turned)) → order_any m.body ≡ None
    users_parked m a = turned_users (is_back code) (all_with (Waiting to_home)) (code_back code) s.routing is_parked s.rows sound.marked sound.backs m a

  -- where it isn't, nothing changes
  rows_same : is_open to_home s ≡ false → gone.rows ≡ s.rows
  rows_same down = none_back code s sound down

  queues_same : is_open to_home s ≡ false → (l : ℕ) → pending l gone f ≡ pending l s f
  queues_same down l = rw (rows_same down) refl

  aside_stays : is_open to_home s ≡ false → aside gone ≡ aside s
  aside_stays down = rw (rows_same down) refl

  -- no order comes to stand there
  pub gone_orders : (order : Order) (m : Message) → In m (view gone f) → order_any m.body ≡ Some order → In m (view s f)
  gone_orders order m i is = go (is_open to_home s) refl
    where
      go : (b : Bool) → is_open to_home s ≡ b → In m (view s f)
      go true up = added_order s gone f (adds up) (messages (parked rows_turned)) (queues up)
          (releases_aside code s f sound) (users_added up) (users_parked up) order m i is
      go false down = same_in s gone f (queues_same down) (aside_stays down) m i

  module _ (offered got lost : ℕ → List Message) (w : Flows s f offered got lost) where
    module _ (up : is_open to_home s ≡ true) where
      parts : (other : Fate → Bool) (b : Bool) (stream : ℕ) → other (Waiting to_home) ≡ b
          → those_of stream (messages (standing other rows_turned)) ≡ cond b (those_of stream (back_by code s)) []
      parts other b stream e =
          ap (those_of stream) (turned_filter (is_back code) other (all_with (Waiting to_home)) s.rows)
          ∙ ap (λ (c : Bool). those_of stream (messages (filter (λ row. is_back code row.fate && c) s.rows))) e
          ∙ and_so stream (is_back code) b s.rows

      adds_so : (stream l : ℕ) → those_of stream (adds up l) ≡ cond (to_home == l) (those_of stream (back_by code s)) []
      adds_so stream l =
          ap (those_of stream) (joined (wait l rows_turned) (held l rows_turned))
          ∙ those_joined stream (messages (wait l rows_turned)) (messages (held l rows_turned))
          ∙ ap₂ (λ (x y : List Message). x ++ y) (parts (is_waiting l) (to_home == l) stream refl) (parts (is_held l) false stream refl)
          ∙ append-nil (cond (to_home == l) (those_of stream (back_by code s)) [])

      aside_same : (stream : ℕ) → those_of stream (aside gone) ≡ those_of stream (aside s)
      aside_same stream = ap (those_of stream) (releases_aside code s f sound)
          ∙ joins_none stream (aside s) (messages (parked rows_turned)) (parts is_parked false stream refl)

      -- one that doesn't come back by it
      module _ (stream : ℕ) (low : stream < 16) (p : Place) (is : place_of stream s.routing ≡ p) (other : waits_by p code ≡ false) where
        none_of_it : those_of stream (back_by code s) ≡ []
        none_of_it = none_back_by stream code s sound (ap (λ (q : Place). waits_by q code) is ∙ other)

        if_none : (b : Bool) → cond b (those_of stream (back_by code s)) [] ≡ []
        if_none true = none_of_it
        if_none false = refl

        adds_none : (l : ℕ) → those_of stream (adds up l) ≡ []
        adds_none l = adds_so stream l ∙ if_none (to_home == l)

        queue_same : (l : ℕ) → those_of stream (pending l gone f) ≡ those_of stream (pending l s f)
        queue_same l = ap (those_of stream) (queues up l) ∙ joins_none stream (pending l s f) (adds up l) (adds_none l)

        module _ (stays : place_back code p ≡ p) (queue_is : those_of stream (queue_at p gone f) ≡ those_of stream (queue_at p s f)) where
          then_is : place_of stream gone.routing ≡ p
          then_is = place_then stream low ∙ ap (place_back code) is ∙ stays

          stays_kept : Kept stream s gone f f
          stays_kept = record {
            here_is = ap (λ (q : Place). those_of stream (queue_at q gone f)) then_is ∙ queue_is
                ∙ ap (λ (q : Place). those_of stream (queue_at q s f)) (sym is);
            stands = subst (λ (q : Place). Stands stream q gone f) (sym then_is)
                (let old = subst (λ (q : Place). Stands stream q s f) is (w.stands stream low) in record {
                  alone = λ l e. queue_same l ∙ old.alone l e;
                  none_aside = λ e. aside_same stream ∙ old.none_aside e;
                });
            used = used_then stream low;
            clear = λ to c via e. added_clear s gone f (adds up) (messages (parked rows_turned)) (queues up)
                (releases_aside code s f sound) (users_added up) (users_parked up) stream c via (adds_none via)
                (w.backing.clear stream low to c via (is ∙ sym then_is ∙ e));
            answered = λ to c via e n i a. queue_same via ∙ w.backing.answered stream low to c via (is ∙ sym then_is ∙ e) n i a;
          }

      -- one that does: nothing of it is pending where it came from
      module _ (stream : ℕ) (low : stream < 16) (to c via : ℕ) (is : place_of stream s.routing ≡ Changing to c via)
          (own : (c == code) ≡ true) (empty : those_of stream (pending via s f) ≡ []) where
        on_home : place_of stream gone.routing ≡ On to
        on_home = place_then stream low ∙ ap (place_back code) is ∙ rw own refl

        home_is : to_home ≡ to
        home_is = (home_open stream to c via is own).0

        old : Stands stream (Changing to c via) s f
        old = subst (λ (q : Place). Stands stream q s f) is (w.stands stream low)

        none_before : (l : ℕ) → those_of stream (pending l s f) ≡ []
        none_before l = go (via == l) refl
          where
            go : (b : Bool) → (via == l) ≡ b → those_of stream (pending l s f) ≡ []
            go true e = subst (λ (n : ℕ). those_of stream (pending n s f) ≡ []) (eqb-true via l e) empty
            go false e = old.alone l e

        then_on : (l : ℕ) → those_of stream (pending l gone f) ≡ cond (to_home == l) (those_of stream (back_by code s)) []
        then_on l = ap (those_of stream) (queues up l) ∙ none_joins stream (pending l s f) (adds up l) (none_before l) ∙ adds_so stream l

        home_on : (to_home == to) ≡ true
        home_on = ap (λ (n : ℕ). n == to) home_is ∙ itself to

        goes_kept : Kept stream s gone f f
        goes_kept = record {
          here_is =
              ap (λ (q : Place). those_of stream (queue_at q gone f)) on_home
              ∙ then_on to ∙ ap (λ (b : Bool). cond b (those_of stream (back_by code s)) []) home_on
              ∙ ap (λ (n : ℕ). those_of stream (back_by n s)) (sym (eqb-true c code own))
              ∙ sym (none_joins stream (pending via s f) (back_by c s) empty)
              ∙ ap (λ (q : Place). those_of stream (queue_at q s f)) (sym is);
          stands = subst (λ (q : Place). Stands stream q gone f) (sym on_home) (record {
            alone = λ l e. then_on l ∙ ap (λ (b : Bool). cond b (those_of stream (back_by code s)) []) (ap (λ (n : ℕ). n == l) home_is ∙ e);
            none_aside = λ e. aside_same stream ∙ old.none_aside refl;
          });
          used = used_then stream low;
          clear = λ t d v e. absurd (let never : On to ≡ Changing t d v = sym on_home ∙ e in cc);
          answered = λ t d v e n i a. absurd (let never : On to ≡ Changing t d v = sym on_home ∙ e in cc);
        }

    -- WHERE IT ISN'T, no stream comes back by the code
    module _ (down : is_open to_home s ≡ false) where
      queue_stays : (p : Place) → queue_at p gone f ≡ queue_at p s f
      queue_stays (On l) = queues_same down l
      queue_stays (Changing to c via) = ap₂ (λ (x y : List Message). x ++ y) (queues_same down via) (rw (rows_same down) refl)
      queue_stays Nowhere = aside_stays down

      down_kept : (stream : ℕ) → stream < 16 → (p : Place) → place_of stream s.routing ≡ p → place_back code p ≡ p → Kept stream s gone f f
      down_kept stream low p is stays =
          let same : place_of stream gone.routing ≡ place_of stream s.routing = place_then stream low ∙ ap (place_back code) is ∙ stays ∙ sym is in
          record {
            here_is = ap (λ (q : Place). those_of stream (queue_at q gone f)) same ∙ ap (those_of stream) (queue_stays (place_of stream s.routing));
            stands = subst (λ (q : Place). Stands stream q gone f) (sym same) (let old = w.stands stream low in record {
              alone = λ l e. ap (those_of stream) (queues_same down l) ∙ old.alone l e;
              none_aside = λ e. ap (those_of stream) (aside_stays down) ∙ old.none_aside e;
            });
            used = used_then stream low;
            clear = λ to c via e. clear_same s gone f (queues_same down) (aside_stays down) stream c via (w.backing.clear stream low to c via (sym same ∙ e));
            answered = λ to c via e n i a. ap (those_of stream) (queues_same down via) ∙ w.backing.answered stream low to c via (sym same ∙ e) n i a;
          }

    -- EITHER WAY
    module _ (o : Owes code (owed_under (code_of code s.routing)) (view s f) (view f s)) (number : ℕ) (heard : IsNumber number o.acks)
        (apart : (m : Message) → In m (view f s) → Acknowledges code m → m.number ≡ number → ⊥)
        (empty : (stream : ℕ) → stream < 16 → (to via : ℕ) → place_of stream s.routing ≡ Changing to code via
        → those_of stream (pending via s f) ≡ []) where
      each_kept : (b : Bool) → is_open to_home s ≡ b → (stream : ℕ) → stream < 16 → Kept stream s gone f f
      each_kept b u stream low = go b u (place_of stream s.routing) refl
        where
          back_case : (b : Bool) → is_open to_home s ≡ b → (to c via : ℕ) → place_of stream s.routing ≡ Changing to c via
              → (own : Bool) → (c == code) ≡ own → Kept stream s gone f f
          back_case true up to c via is true own =
              let same : c ≡ code = eqb-true c code own in
              goes_kept up stream low to c via is own (empty stream low to via (is ∙ ap (λ (n : ℕ). Changing to n via) same))
          back_case true up to c via is false other = stays_kept up stream low (Changing to c via) is other (rw other refl)
              (those_joined stream (pending via gone f) (back_by c gone)
              ∙ ap₂ (λ (x y : List Message). x ++ y) (queue_same up stream low (Changing to c via) is other via) (ap (those_of stream) (back_stays c other))
              ∙ sym (those_joined stream (pending via s f) (back_by c s)))
          back_case false down to c via is true own = absurd (false_true (is_open to_home s) down (home_open stream to c via is own).1)
          back_case false down to c via is false other = down_kept down stream low (Changing to c via) is (rw other refl)

          go : (b : Bool) → is_open to_home s ≡ b → (p : Place) → place_of stream s.routing ≡ p → Kept stream s gone f f
          go true up (On l) is = stays_kept up stream low (On l) is refl refl (queue_same up stream low (On l) is refl l)
          go true up Nowhere is = stays_kept up stream low Nowhere is refl refl (aside_same up stream)
          go false down (On l) is = down_kept down stream low (On l) is refl
          go false down Nowhere is = down_kept down stream low Nowhere is refl
          go b u (Changing to c via) is = back_case b u to c via is (c == code) refl

      -- one acknowledgement less is under way, and owed
      owed_then : (c : ℕ) (b : Bool) → (c == code) ≡ b
          → owed_under (code_of c gone.routing) ≡ cond b (owed_under (code_of c s.routing) - 1) (owed_under (code_of c s.routing))
      owed_then c b e = ap owed_under (answered_at s.routing.codes c code ∙ ap (λ (d : Bool). cond d (code_answered (code_of c s.routing)) (code_of c s.routing)) e)
          ∙ go b
        where
          still : (n : ℕ) → owed_under (still_owed n) ≡ n
          still zero = refl
          still (suc n) = refl

          go : (b : Bool) → owed_under (cond b (code_answered (code_of c s.routing)) (code_of c s.routing))
              ≡ cond b (owed_under (code_of c s.routing) - 1) (owed_under (code_of c s.routing))
          go true = still (owed_under (code_of c s.routing) - 1)
          go false = refl

      own_owes : Owes code (owed_under (code_of code s.routing) - 1) (view gone f) (view f gone)
      own_owes = record {
        declarations = o.declarations;
        acks = left_of number o.acks;
        within = omega (arith, o.within, one_left number o.acks heard);
        declared = λ m i d. o.declared m (gone_orders (Cbd d.link code) m i d.is) d;
        acked = λ m i a. still_number number m.number o.acks (o.acked m i a) (apart m i a);
      }

      other_owes : (c : ℕ) → Owes c (owed_under (code_of c s.routing)) (view gone f) (view f gone)
      other_owes c = let o = w.backing.owes c in record {
        declarations = o.declarations;
        acks = o.acks;
        within = o.within;
        declared = λ m i d. o.declared m (gone_orders (Cbd d.link c) m i d.is) d;
        acked = o.acked;
      }

      each_owes : (c : ℕ) → Owes c (owed_under (code_of c gone.routing)) (view gone f) (view f gone)
      each_owes c = go (c == code) refl
        where
          go : (b : Bool) → (c == code) ≡ b → Owes c (owed_under (code_of c gone.routing)) (view gone f) (view f gone)
          go true e = subst (λ (n : ℕ). Owes c n (view gone f) (view f gone)) (sym (owed_then c true e))
              (subst (λ (k : ℕ). Owes k (owed_under (code_of k s.routing) - 1) (view gone f) (view f gone)) (sym (eqb-true c code e)) own_owes)
          go false e = subst (λ (n : ℕ). Owes c n (view gone f) (view f gone)) (sym (owed_then c false e)) (other_owes c)

      pub releases_flow : Flows gone f offered got lost
      releases_flow =
          let kept = each_kept (is_open to_home s) refl in
          kept_flow s gone f f offered got lost w kept (record {
            few_declared = λ c m i d. w.backing.few_declared c m (gone_orders (Cbd d.link c) m i d.is) d;
            few_acked = w.backing.few_acked;
            owes = each_owes;
            clear = λ stream low. (kept stream low).clear;
            answered = λ stream low. (kept stream low).answered;
          })
