-- WHAT A CHANGE OF AN END DOES TO EACH STREAM, where queues stay, or a message comes. Where all queues and the routing
-- stay, `same_flow` keeps all that holds. A message joins the one queue of its fate (`Comes`): a new one last
-- (`comes_last`), an order ahead of users' (`comes_ahead`). A stream that it isn't of keeps what Codes.antt asks, unless
-- it declares the stream's code (`apart_kept`), and its own has it last (`those_in`). It follows case by case from where
-- the message joined (`grows` and `places`, pair_changeover's Changes.antt). Used by Acting.antt, Hearing.antt, Flows.antt,
-- Declaring.antt and Returned.antt.
use Rattle.std.proofs.Common.{refl, ◌≡◌, ◌∙◌, ap, ap₂, sym, subst, ℕ, ◌<◌, ◌==◌, ◌-◌, Bool, true, false, List, [], ◌∷◌, ◌++◌, ◌⊎◌, inl, inr, Option, Some, None}
use Rattle.set_events.specs.declared.answer.Fate.{Fate}
use Rattle.set_route.specs.declared.place.Place.{Place}
use Rattle.set_route.specs.declared.place.Place.TheVariants.{On, Changing, Nowhere}
use Rattle.set_route.specs.Routing.{place_of, has_messages}
use Rattle.l3_orders.specs.declared.order.Order.{Order}
use Rattle.l3_orders.specs.Grammar.{text}
use Rattle.set_events.specs.declared.answer.Fate.TheVariants.{Waiting, Parked}
use Rattle.set_model.specs.Changeover.{fate_on, queued}
use Rattle.set_model.specs.Rows.{is_on, is_back, is_parked, standing, parked, appended, put_ahead}
use Rattle.set_model.specs.State.{given, State, target}
use Rattle.set_model.proofs.Ahead.{put_apart}
use Rattle.set_model.proofs.Events.{appended_in, appended_out}
use Rattle.pair_model.specs.Run.{Message, messages}
use Rattle.pair_changeover.specs.Pending.{pending, aside, acked_on, accepted_on}
use Rattle.pair_changeover.proofs.Changes.{Grows, grown, ungrown, IsNew, grows, Placed, joined_in, left_out, placed_among, placed_last, places, places_aside}
use Rattle.pair_changeover.proofs.Table.{joined, new_message, new_order_message, aside_joins, aside_apart}
use Rattle.pair_changeover.proofs.Views.{view, Among, In, stands_on, stands_aside}
use Rattle.pair_streams.specs.Streams.{is_of, those_of}
use Rattle.pair_streams.proofs.Codes.{Clear, Flows, NewAcknowledges, Kept, carried, owes_same}
use Rattle.pair_streams.proofs.Declared.{Declares, NoneDeclares, ClearBehind}
use Rattle.pair_streams.proofs.Filtered.{those_joined}
use Rattle.pair_streams.proofs.Flowing.{back_by, queue_at, Stands}

-- THE SAME QUEUES
module _ (s t f : State) (queues : (l : ℕ) → pending l t f ≡ pending l s f) (aside_same : aside t ≡ aside s) where
  pub same_in : (m : Message) → In m (view t f) → In m (view s f)
  same_in m (stands_on l a) = stands_on l (subst (Among m) (queues l) a)
  same_in m (stands_aside a) = stands_aside (subst (Among m) aside_same a)

  pub clear_same : (stream code via : ℕ) → Clear stream code via (view s f) → Clear stream code via (view t f)
  clear_same stream code via old = record {
    only = λ l d. subst (NoneDeclares code) (sym (queues l)) (old.only l d);
    none_aside = subst (NoneDeclares code) (sym aside_same) old.none_aside;
    behind = subst (ClearBehind stream code) (sym (queues via)) old.behind;
  }

  pub stands_same : (stream : ℕ) (place : Place) → Stands stream place s f → Stands stream place t f
  stands_same stream place old = record {
    alone = λ l e. ap (those_of stream) (queues l) ∙ old.alone l e;
    none_aside = λ e. ap (those_of stream) aside_same ∙ old.none_aside e;
  }

  module _ (backs : (c : ℕ) → back_by c t ≡ back_by c s) where
    pub queue_same : (place : Place) → queue_at place t f ≡ queue_at place s f
    queue_same (On l) = queues l
    queue_same (Changing to code via) = ap₂ (λ (x y : List Message). x ++ y) (queues via) (backs code)
    queue_same Nowhere = aside_same

    module _ (routing : t.routing ≡ s.routing) (offered got lost : ℕ → List Message) (w : Flows s f offered got lost) where
      same_kept : (stream : ℕ) → stream < 16 → Kept stream s t f f
      same_kept stream low =
          let same : place_of stream t.routing ≡ place_of stream s.routing = ap (place_of stream) routing in
          record {
            here_is = ap (λ (p : Place). those_of stream (queue_at p t f)) same ∙ ap (those_of stream) (queue_same (place_of stream s.routing));
            stands = subst (λ (p : Place). Stands stream p t f) (sym same) (stands_same stream (place_of stream s.routing) (w.stands stream low));
            used = ap (has_messages stream) routing;
            clear = λ to code via e. clear_same stream code via (w.backing.clear stream low to code via (sym same ∙ e));
            answered = λ to code via e n i a. ap (those_of stream) (queues via) ∙ w.backing.answered stream low to code via (sym same ∙ e) n i a;
          }

      pub same_flow : NewAcknowledges (view f t) (view f s) → Flows t f offered got lost
      same_flow acknowledges = carried s t f f offered got lost w same_kept
          (owes_same s t routing) (λ c m i d. same_in m i) acknowledges

-- A MESSAGE COMES TO STAND in a queue, last or elsewhere
module _ (z : Message) (stream : ℕ) (other : is_of stream z ≡ false) where
  those_put : (front rest : List Message) → those_of stream (front ++ z ∷ rest) ≡ those_of stream (front ++ rest)
  those_put front rest =
      those_joined stream front (z ∷ rest) ∙ ap (λ (q : List Message). those_of stream front ++ q) (rw other refl)
      ∙ sym (those_joined stream front rest)

  pub those_stay : (b : Bool) (old new : List Message) → Placed z b old new → those_of stream new ≡ those_of stream old
  those_stay b old new (left_out e q) = ap (those_of stream) q
  those_stay b old new (joined_in e front rest was is) = ap (those_of stream) is ∙ those_put front rest ∙ sym (ap (those_of stream) was)

  clear_put : (code : ℕ) → (Declares code z → ⊥) → (front rest : List Message) → ClearBehind stream code (front ++ rest)
      → ClearBehind stream code (front ++ z ∷ rest)
  clear_put code none [] rest c = ((λ d. absurd (none d)), c)
  clear_put code none (x ∷ front) rest c = ((λ d. those_put front rest ∙ c.0 d), clear_put code none front rest c.1)

  clear_stays : (code : ℕ) → (Declares code z → ⊥) → (b : Bool) (old new : List Message) → Placed z b old new
      → ClearBehind stream code old → ClearBehind stream code new
  clear_stays code none b old new (left_out e q) c = subst (ClearBehind stream code) (sym q) c
  clear_stays code none b old new (joined_in e front rest was is) c =
      subst (ClearBehind stream code) (sym is) (clear_put code none front rest (subst (ClearBehind stream code) was c))

-- last
module _ (z : Message) (stream : ℕ) where
  pub those_out : (b : Bool) → b ≡ false → (old new : List Message) → Grows z b old new → those_of stream new ≡ those_of stream old
  those_out b h old new (ungrown e q) = ap (those_of stream) q
  those_out b h old new (grown e q) = absurd (let no : true ≡ false = sym e ∙ h in cc)

  pub those_in : is_of stream z ≡ true → (b : Bool) → b ≡ true → (old new : List Message) → Grows z b old new
      → those_of stream new ≡ those_of stream old ++ z ∷ []
  those_in own b h old new (ungrown e q) = absurd (let no : true ≡ false = sym h ∙ e in cc)
  those_in own b h old new (grown e q) = ap (those_of stream) q ∙ those_joined stream old (z ∷ []) ∙ rw own refl

-- IT JOINS THE ONE QUEUE OF ITS FATE: a new message, last,
pub record Comes (z : Message) (fate : Fate) (s t f : State) : Type 0 where
  pub on_link : (l : ℕ) → Placed z (is_on l fate) (pending l s f) (pending l t f)
  pub beside : Placed z (is_parked fate) (aside s) (aside t)
  pub on_back : (c : ℕ) → Placed z (is_back c fate) (back_by c s) (back_by c t)

module _ (s t f : State) (body : List ℕ) (fate : Fate) (rows : t.rows ≡ appended (given s) s.rows body fate)
    (links : t.links ≡ s.links) (new : (l : ℕ) → IsNew (accepted_on l f - acked_on l s) l (given s) s.rows body fate)
  where
    abbrev new_z : Message
    new_z = new_message (given s) body

    pub grows_on : (l : ℕ) → Grows new_z (is_on l fate) (pending l s f) (pending l t f)
    grows_on l = subst (λ (q : List Message). Grows new_z (is_on l fate) (pending l s f) q) (rw (rows, links) refl)
        (grows (accepted_on l f - acked_on l s) l (given s) s.rows body fate (new l))

    pub grows_aside : Grows new_z (is_parked fate) (aside s) (aside t)
    grows_aside = subst (λ (q : List Message). Grows new_z (is_parked fate) (aside s) q) (rw rows refl) (go (is_parked fate) refl)
      where
        go : (b : Bool) → is_parked fate ≡ b → Grows new_z (is_parked fate) (aside s) (messages (parked (appended (given s) s.rows body fate)))
        go true e = grown e (aside_joins 0 0 (given s) s.rows body fate e)
        go false e = ungrown e (aside_apart 0 0 (given s) s.rows body fate e)

    pub grows_back : (c : ℕ) → Grows new_z (is_back c fate) (back_by c s) (back_by c t)
    grows_back c = subst (λ (q : List Message). Grows new_z (is_back c fate) (back_by c s) q) (rw rows refl) (go (is_back c fate) refl)
      where
        go : (b : Bool) → is_back c fate ≡ b → Grows new_z (is_back c fate) (back_by c s) (messages (standing (is_back c) (appended (given s) s.rows body fate)))
        go true e = grown e (ap messages (appended_in (given s) s.rows body fate (is_back c) e) ∙ joined (standing (is_back c) s.rows) _)
        go false e = ungrown e (ap messages (appended_out (given s) s.rows body fate (is_back c) e))

    pub comes_last : Comes (new_message (given s) body) fate s t f
    comes_last = record {
      on_link = λ l. placed_last new_z (is_on l fate) (pending l s f) (pending l t f) (grows_on l);
      beside = placed_last new_z (is_parked fate) (aside s) (aside t) grows_aside;
      on_back = λ c. placed_last new_z (is_back c fate) (back_by c s) (back_by c t) (grows_back c);
    }

-- or an order, ahead of users' messages
pub comes_ahead : (order : Order) (s f : State)
    → Comes (new_order_message (given s) (text s.settings.profile order s.settings.sio s.settings.dpc s.settings.opc))
    (fate_on (target s.links)) s (queued order s) f
comes_ahead order s f =
    let body = text s.settings.profile order s.settings.sio s.settings.dpc s.settings.opc in
    record {
      on_link = λ l. places (given s) s.rows body (accepted_on l f - acked_on l s) l (target s.links);
      beside = places_aside (given s) s.rows body (target s.links);
      on_back = λ c. never_back c (target s.links);
    }
  where
    never_back : (c : ℕ) (to : Option ℕ)
        → Placed (new_order_message (given s) (text s.settings.profile order s.settings.sio s.settings.dpc s.settings.opc)) (is_back c (fate_on to))
        (back_by c s) (messages (standing (is_back c) (put_ahead (given s) s.rows
        (text s.settings.profile order s.settings.sio s.settings.dpc s.settings.opc) (fate_on to))))
    never_back c None = left_out refl (ap messages (put_apart (given s) s.rows _ Parked (is_back c) refl))
    never_back c (Some to) = left_out refl (ap messages (put_apart (given s) s.rows _ (Waiting to) (is_back c) refl))

module _ (s t f : State) (z : Message) (fate : Fate) (comes : Comes z fate s t f) where
  pub in_new : (m : Message) → In m (view t f) → In m (view s f) ⊎ (m ≡ z)
  in_new m (stands_on l a) = go (placed_among z (is_on l fate) (pending l s f) (pending l t f) (comes.on_link l) m a)
    where
      go : Among m (pending l s f) ⊎ ((m ≡ z) × (is_on l fate ≡ true)) → In m (view s f) ⊎ (m ≡ z)
      go (inl x) = inl (stands_on l x)
      go (inr p) = inr p.0
  in_new m (stands_aside a) = go (placed_among z (is_parked fate) (aside s) (aside t) comes.beside m a)
    where
      go : Among m (aside s) ⊎ ((m ≡ z) × (is_parked fate ≡ true)) → In m (view s f) ⊎ (m ≡ z)
      go (inl x) = inl (stands_aside x)
      go (inr p) = inr p.0

  -- one that isn't of the stream, nor declares its code
  module _ (stream : ℕ) (other : is_of stream z ≡ false) where
    pub queue_stays : (place : Place) → those_of stream (queue_at place t f) ≡ those_of stream (queue_at place s f)
    queue_stays (On l) = those_stay z stream other (is_on l fate) (pending l s f) (pending l t f) (comes.on_link l)
    queue_stays (Changing to code via) =
        those_joined stream (pending via t f) (back_by code t)
        ∙ ap₂ (λ (x y : List Message). x ++ y)
        (those_stay z stream other (is_on via fate) (pending via s f) (pending via t f) (comes.on_link via))
        (those_stay z stream other (is_back code fate) (back_by code s) (back_by code t) (comes.on_back code))
        ∙ sym (those_joined stream (pending via s f) (back_by code s))
    queue_stays Nowhere = those_stay z stream other (is_parked fate) (aside s) (aside t) comes.beside

    pub stands_stays : (place : Place) → Stands stream place s f → Stands stream place t f
    stands_stays place old = record {
      alone = λ l e. those_stay z stream other (is_on l fate) (pending l s f) (pending l t f) (comes.on_link l) ∙ old.alone l e;
      none_aside = λ e. those_stay z stream other (is_parked fate) (aside s) (aside t) comes.beside ∙ old.none_aside e;
    }

    pub clear_grows : (code via : ℕ) → (Declares code z → ⊥) → Clear stream code via (view s f) → Clear stream code via (view t f)
    clear_grows code via none old = record {
      only = λ l d m a. only_case l d m (placed_among z (is_on l fate) (pending l s f) (pending l t f) (comes.on_link l) m a);
      none_aside = λ m a. aside_case m (placed_among z (is_parked fate) (aside s) (aside t) comes.beside m a);
      behind = clear_stays z stream other code none (is_on via fate) (pending via s f) (pending via t f) (comes.on_link via) old.behind;
    }
      where
        only_case : (l : ℕ) → (via == l) ≡ false → (m : Message) → Among m (pending l s f) ⊎ ((m ≡ z) × (is_on l fate ≡ true)) → Declares code m → ⊥
        only_case l d m (inl x) = old.only l d m x
        only_case l d m (inr p) = λ e. none (subst (Declares code) p.0 e)

        aside_case : (m : Message) → Among m (aside s) ⊎ ((m ≡ z) × (is_parked fate ≡ true)) → Declares code m → ⊥
        aside_case m (inl x) = old.none_aside m x
        aside_case m (inr p) = λ e. none (subst (Declares code) p.0 e)

    module _ (offered got lost : ℕ → List Message) (w : Flows s f offered got lost) (low : stream < 16)
        (same : place_of stream t.routing ≡ place_of stream s.routing)
        (used : has_messages stream t.routing ≡ has_messages stream s.routing)
        (none : (to code via : ℕ) → place_of stream s.routing ≡ Changing to code via → Declares code z → ⊥) where
      pub apart_kept : Kept stream s t f f
      apart_kept = record {
        here_is = ap (λ (p : Place). those_of stream (queue_at p t f)) same ∙ queue_stays (place_of stream s.routing);
        stands = subst (λ (p : Place). Stands stream p t f) (sym same) (stands_stays (place_of stream s.routing) (w.stands stream low));
        used = used;
        clear = λ to code via e. clear_grows code via (none to code via (sym same ∙ e)) (w.backing.clear stream low to code via (sym same ∙ e));
        answered = λ to code via e n i a. those_stay z stream other (is_on via fate) (pending via s f) (pending via t f)
            (comes.on_link via) ∙ w.backing.answered stream low to code via (sym same ∙ e) n i a;
      }
