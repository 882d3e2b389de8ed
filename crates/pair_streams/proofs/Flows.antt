-- A MESSAGE COMES at an end, and each stream: one that is offered, last (`offers_flow`), or an order that declares
-- nothing (`queues_flow`); `offers_acks` and `queues_acks` say that no acknowledgement comes to stand there. An order
-- is of no stream (`no_stream`), so each has what it had. What is offered stands last where its stream runs, whether on
-- a link, on its way back or nowhere (`grows_there`), as it's last of what was offered. It stands behind no
-- declaration, since on the way back it waits by the code. Case by case on the place; Moving.antt has the other
-- streams. Used by Acting.antt and Hearing.antt; declarations are Declaring.antt's.
use Rattle.std.proofs.Common.{refl, arith, ◌≡◌, ◌∙◌, ap, ap₂, sym, subst, ℕ, ◌<◌, ◌==◌, ◌-◌, ◌%◌, Bool, true, false, List, [], ◌∷◌, ◌++◌, None, append_assoc, cond, ◌⊎◌, inl, inr}
use Rattle.std.proofs.lemmas.Bool.{eqb-true, eq-eqb}
use Rattle.l3_orders.specs.declared.order.Order.{Order}
use Rattle.l3_orders.specs.Grammar.{text, label, link_of, heading_of, content_with}
use Rattle.set_events.specs.declared.answer.Fate.{Fate}
use Rattle.set_events.specs.declared.answer.Fate.TheVariants.{Waiting, Held}
use Rattle.set_route.specs.declared.place.Place.{Place}
use Rattle.set_route.specs.declared.place.Place.TheVariants.{On, Changing, Nowhere}
use Rattle.set_route.specs.Routing.{place_of, has_messages}
use Rattle.set_route.proofs.Alone as route
use Rattle.set_model.specs.Changeover.{fate_on, queued}
use Rattle.set_model.specs.Rows.{stream_of, service_indicator, is_on, is_back, is_parked}
use Rattle.set_model.specs.Sound.{IsSound}
use Rattle.set_model.specs.State.{given, State, is_open, fate_at, target}
use Rattle.set_model.specs.Step.{offered as offered_step}
use Rattle.set_model.proofs.Places.{itself, apart_back}
use Rattle.pair_model.specs.Run.{message_by, Message, added_at}
use Rattle.pair_changeover.specs.Pending.{pending, aside, acked_on, accepted_on}
use Rattle.pair_changeover.proofs.Changes.{Grows, grown, ungrown, IsNew, to_wait, to_hold, to_park, to_back, held_open}
use Rattle.pair_changeover.proofs.Table.{new_message, new_order_message}
use Rattle.pair_changeover.proofs.Texts.{plain_body}
use Rattle.pair_changeover.proofs.Views.{view, In}
use Rattle.pair_streams.specs.Streams.{is_of, those_of}
use Rattle.pair_streams.proofs.Codes.{Clear, Flows, NewAcknowledges, Kept, carried, backed}
use Rattle.pair_streams.proofs.Declared.{Declares, Acknowledges, NoneDeclares, ClearBehind, users_declare, users_acknowledge}
use Rattle.pair_streams.proofs.Mixed.{Mixed, mixed_last}
use Rattle.pair_streams.proofs.Filtered.{those_joined}
use Rattle.pair_streams.proofs.Flowing.{back_by, queue_at, here, runs_by, runs_nowhere, Stands}
use Rattle.pair_streams.proofs.Moving.{those_out, those_in, grows_on, grows_aside, grows_back, comes_last, comes_ahead, in_new, apart_kept}

-- an order is of no stream
pub no_stream : (stream : ℕ) (sio number : ℕ) (rest : List ℕ) → sio % 16 ≡ 0 → is_of stream (record { number = number; body = sio ∷ rest; users = false }) ≡ false
no_stream stream sio number rest e = refl

pub no_stream_by : (stream : ℕ) (sio number : ℕ) (rest : List ℕ) → sio % 16 ≡ 0 → is_of stream (message_by number (sio ∷ rest)) ≡ false
no_stream_by stream sio number rest e = rw (eq-eqb (sio % 16) 0 e) refl

-- AN ORDER IS QUEUED that declares nothing
module _ (order : Order) (s f : State) (sound : IsSound s) where
  abbrev body : List ℕ
  body = text s.settings.profile order s.settings.sio s.settings.dpc s.settings.opc

  abbrev pub order_z : Message
  order_z = new_order_message (given s) body

  pub order_in : (m : Message) → In m (view (queued order s) f) → In m (view s f) ⊎ (m ≡ order_z)
  order_in = in_new s (queued order s) f order_z (fate_on (target s.links)) (comes_ahead order s f)

  of_none : (stream : ℕ) → is_of stream order_z ≡ false
  of_none stream = no_stream stream s.settings.sio (given s)
      (label s.settings.dpc s.settings.opc (link_of order)
      ++ heading_of order ∷ content_with s.settings.profile 0 order) sound.managed

  pub queues_flow : ((c : ℕ) → Declares c order_z → ⊥) → (offered got lost : ℕ → List Message)
      → Flows s f offered got lost → Flows (queued order s) f offered got lost
  queues_flow none offered got lost w = carried s (queued order s) f f offered got lost w
      (λ stream low. apart_kept s (queued order s) f order_z (fate_on (target s.links)) (comes_ahead order s f) stream
      (of_none stream) offered got lost w low refl refl (λ to code via e. none code))
      (λ c. omega arith) (λ c m i d. go c m d (order_in m i)) (λ c m i a. i)
    where
      go : (c : ℕ) (m : Message) → Declares c m → In m (view s f) ⊎ (m ≡ order_z) → In m (view s f)
      go c m d (inl i) = i
      go c m d (inr same) = absurd (none c (subst (Declares c) same d))

  pub queues_acks : ((c : ℕ) → Acknowledges c order_z → ⊥) → NewAcknowledges (view (queued order s) f) (view s f)
  queues_acks none c m i a = go (order_in m i)
    where
      go : In m (view s f) ⊎ (m ≡ order_z) → In m (view s f)
      go (inl j) = j
      go (inr same) = absurd (none c (subst (Acknowledges c) same a))

-- OFFER
module _ (s f : State) (sound : IsSound s) (body : List ℕ) (low : stream_of body < 16) (users : (service_indicator body == 0) ≡ false) where
  abbrev place : Place
  place = place_of (stream_of body) s.routing

  abbrev fate : Fate
  fate = fate_at place s

  abbrev then_s : State
  then_s = (offered_step None s body).state

  abbrev z : Message
  z = new_message (given s) body

  new_for : (l : ℕ) → IsNew (accepted_on l f - acked_on l s) l (given s) s.rows body fate
  new_for l = go place
    where
      on_link : (k : ℕ) (b : Bool) → is_open k s ≡ b → IsNew (accepted_on l f - acked_on l s) l (given s) s.rows body (cond b (Waiting k) (Held k))
      on_link k true e = to_wait k (λ same. held_open s l sound (subst (λ (n : ℕ). is_open n s ≡ true) (eqb-true k l same) e))
      on_link k false e = to_hold k

      go : (p : Place) → IsNew (accepted_on l f - acked_on l s) l (given s) s.rows body (fate_at p s)
      go Nowhere = to_park
      go (Changing to code via) = to_back code
      go (On k) = on_link k (is_open k s) refl

  on_parked : (k : ℕ) → is_parked (fate_at (On k) s) ≡ false
  on_parked k = go (is_open k s)
    where
      go : (b : Bool) → is_parked (cond b (Waiting k) (Held k)) ≡ false
      go true = refl
      go false = refl

  on_on : (k l : ℕ) → is_on l (fate_at (On k) s) ≡ (k == l)
  on_on k l = go (is_open k s)
    where
      go : (b : Bool) → is_on l (cond b (Waiting k) (Held k)) ≡ (k == l)
      go true = refl
      go false = refl

  -- it stands where its stream runs, and last
  stands_so : (p : Place) (l : ℕ) → runs_by p l ≡ false → is_on l (fate_at p s) ≡ false
  stands_so (On k) l e = on_on k l ∙ e
  stands_so (Changing to code via) l e = refl
  stands_so Nowhere l e = refl

  aside_so : (p : Place) → runs_nowhere p ≡ false → is_parked (fate_at p s) ≡ false
  aside_so (On k) e = on_parked k
  aside_so (Changing to code via) e = refl
  aside_so Nowhere e = absurd cc

  same_place : (stream : ℕ) → stream < 16 → place_of stream then_s.routing ≡ place_of stream s.routing
  same_place stream few = (route.alone s.routing stream sound.routing few).accepted_place (stream_of body)

  no_declaration : (c : ℕ) → Declares c z → ⊥
  no_declaration c d = users_declare c z (plain_body body users) d

  on_grows : (l : ℕ) → Grows z (is_on l fate) (pending l s f) (pending l then_s f)
  on_grows = grows_on s then_s f body fate refl refl new_for

  back_grows : (c : ℕ) → Grows z (is_back c fate) (back_by c s) (back_by c then_s)
  back_grows = grows_back s then_s f body fate refl refl new_for

  aside_grows : Grows z (is_parked fate) (aside s) (aside then_s)
  aside_grows = grows_aside s then_s f body fate refl refl new_for

  -- its own stream
  own_is : is_of (stream_of body) z ≡ true
  own_is = rw (users, itself (stream_of body)) refl

  grows_there : (p : Place) → place ≡ p → those_of (stream_of body) (queue_at p then_s f) ≡ those_of (stream_of body) (queue_at p s f) ++ z ∷ []
  grows_there (On k) is = those_in z (stream_of body) own_is (is_on k fate)
      (ap (λ (q : Place). is_on k (fate_at q s)) is ∙ on_on k k ∙ itself k) (pending k s f) (pending k then_s f)
      (on_grows k)
  grows_there (Changing to code via) is =
      those_joined (stream_of body) (pending via then_s f) (back_by code then_s)
      ∙ ap₂ (λ (x y : List Message). x ++ y)
      (those_out z (stream_of body) (is_on via fate) (ap (λ (q : Place). is_on via (fate_at q s)) is) (pending via s f) (pending via then_s f) (on_grows via))
      (those_in z (stream_of body) own_is (is_back code fate)
      (ap (λ (q : Place). is_back code (fate_at q s)) is ∙ itself code) (back_by code s) (back_by code then_s)
      (back_grows code))
      ∙ sym (append_assoc (those_of (stream_of body) (pending via s f)) (those_of (stream_of body) (back_by code s)) (z ∷ []))
      ∙ ap (λ (x : List Message). x ++ z ∷ []) (sym (those_joined (stream_of body) (pending via s f) (back_by code s)))
  grows_there Nowhere is = those_in z (stream_of body) own_is (is_parked fate)
      (ap (λ (q : Place). is_parked (fate_at q s)) is) (aside s) (aside then_s) aside_grows

  module _ (offered got lost : ℕ → List Message) (w : Flows s f offered got lost) where
    apart_so : (stream : ℕ) → stream < 16 → (stream == stream_of body) ≡ false → Kept stream s then_s f f
    apart_so stream few e =
        apart_kept s then_s f z fate (comes_last s then_s f body fate refl refl new_for) stream (rw (users, apart_back stream (stream_of body) e) refl)
        offered got lost w few (same_place stream few)
        ((route.alone s.routing stream sound.routing few).accepted_messages (stream_of body) ∙ rw e refl) (λ to code via g. no_declaration code)

    -- its own stream stands alone too
    own_stands : Stands (stream_of body) place then_s f
    own_stands = let was = w.stands (stream_of body) low in record {
      alone = λ l e. those_out z (stream_of body) (is_on l fate) (stands_so place l e) (pending l s f) (pending l then_s f) (on_grows l) ∙ was.alone l e;
      none_aside = λ e. those_out z (stream_of body) (is_parked fate) (aside_so place e) (aside s) (aside then_s) aside_grows ∙ was.none_aside e;
    }

    same_queue : (l : ℕ) → (b : Bool) → is_on l fate ≡ b → b ≡ false → pending l then_s f ≡ pending l s f
    same_queue l b e off = go (on_grows l)
      where
        go : Grows z (is_on l fate) (pending l s f) (pending l then_s f) → pending l then_s f ≡ pending l s f
        go (ungrown g q) = q
        go (grown g q) = absurd (let never : true ≡ false = sym g ∙ e ∙ off in cc)

    back_fate : (to code via l : ℕ) → place ≡ Changing to code via → is_on l fate ≡ false
    back_fate to code via l is = ap (λ (q : Place). is_on l (fate_at q s)) is

    clear_own : (to code via : ℕ) → place ≡ Changing to code via → Clear (stream_of body) code via (view then_s f)
    clear_own to code via is =
        let was = w.backing.clear (stream_of body) low to code via is in
        record {
          only = λ l d. subst (NoneDeclares code) (sym (same_queue l (is_on l fate) refl (back_fate to code via l is))) (was.only l d);
          none_aside = subst (NoneDeclares code) (sym (same_aside to code via is)) was.none_aside;
          behind = subst (ClearBehind (stream_of body) code) (sym (same_queue via (is_on via fate) refl (back_fate to code via via is))) was.behind;
        }
      where
        same_aside : (to code via : ℕ) → place ≡ Changing to code via → aside then_s ≡ aside s
        same_aside to code via is = go aside_grows
          where
            go : Grows z (is_parked fate) (aside s) (aside then_s) → aside then_s ≡ aside s
            go (ungrown g q) = q
            go (grown g q) = absurd (let never : true ≡ false = sym g ∙ ap (λ (q : Place). is_parked (fate_at q s)) is in cc)

    -- either
    by_stream : (P : ℕ → Type 0) → P (stream_of body)
        → ((stream : ℕ) → stream < 16 → (stream == stream_of body) ≡ false → P stream) → (stream : ℕ) → stream < 16
        → P stream
    by_stream P own other stream few = go (stream == stream_of body) refl
      where
        go : (b : Bool) → (stream == stream_of body) ≡ b → P stream
        go true e = subst P (sym (eqb-true stream (stream_of body) e)) own
        go false e = other stream few e

    clear_then : (stream : ℕ) → stream < 16 → (to code via : ℕ) → place_of stream then_s.routing ≡ Changing to code via → Clear stream code via (view then_s f)
    clear_then = by_stream (λ stream. (to code via : ℕ) → place_of stream then_s.routing ≡ Changing to code via → Clear stream code via (view then_s f))
        (λ to code via e. clear_own to code via (sym (same_place (stream_of body) low) ∙ e)) (λ stream few d. (apart_so stream few d).clear)

    answered_then : (stream : ℕ) → stream < 16 → (to code via : ℕ)
        → place_of stream then_s.routing ≡ Changing to code via → (n : Message) → In n (view f s) → Acknowledges code n
        → those_of stream (pending via then_s f) ≡ []
    answered_then = by_stream (λ stream. (to code via : ℕ) → place_of stream then_s.routing ≡ Changing to code via
        → (n : Message) → In n (view f s) → Acknowledges code n → those_of stream (pending via then_s f) ≡ [])
        (λ to code via e n i a. let is = sym (same_place (stream_of body) low)
        ∙ e in ap (those_of (stream_of body))
        (same_queue via (is_on via fate) refl (back_fate to code via via is))
        ∙ w.backing.answered (stream_of body) low to code via is n i a)
        (λ stream few d. (apart_so stream few d).answered)

    was_there : (c : ℕ) (m : Message) → In m (view then_s f) → Declares c m → In m (view s f)
    was_there c m i d = go (in_new s then_s f z fate (comes_last s then_s f body fate refl refl new_for) m i)
      where
        go : In m (view s f) ⊎ (m ≡ z) → In m (view s f)
        go (inl j) = j
        go (inr same) = absurd (no_declaration c (subst (Declares c) same d))

    pub offers_flow : Flows then_s f (added_at (stream_of body) (z ∷ []) offered) got lost
    offers_flow = record {
      flow = λ stream few. go stream few (stream == stream_of body) refl;
      stands = by_stream (λ stream. Stands stream (place_of stream then_s.routing) then_s f)
          (subst (λ (q : Place). Stands (stream_of body) q then_s f) (sym (same_place (stream_of body) low)) own_stands)
          (λ stream few d. (apart_so stream few d).stands);
      unused = λ stream few e. unused_case stream few e (stream == stream_of body) refl;
      backing = backed s then_s f f w.backing clear_then answered_then (λ c. omega arith) was_there (λ c m i a. i);
    }
      where
        go : (stream : ℕ) → stream < 16 → (b : Bool) → (stream == stream_of body) ≡ b
            → Mixed (got stream ++ here stream then_s f) (lost stream)
            (cond b (offered stream ++ z ∷ []) (offered stream))
        go stream few true e =
            let same : stream ≡ stream_of body = eqb-true stream (stream_of body) e in
            let last : got (stream_of body) ++ here (stream_of body) then_s f ≡ got (stream_of body) ++ here (stream_of body) s f ++ z ∷ [] =
            ap (λ (x : List Message). got (stream_of body) ++ x)
            (ap (λ (q : Place). those_of (stream_of body) (queue_at q then_s f)) (same_place (stream_of body) low)
            ∙ grows_there place refl)
            ∙ sym (append_assoc (got (stream_of body)) (here (stream_of body) s f) (z ∷ [])) in
            subst (λ (n : ℕ). Mixed (got n ++ here n then_s f) (lost n) (offered n ++ z ∷ [])) (sym same)
            (subst (λ (x : List Message). Mixed x (lost (stream_of body)) (offered (stream_of body) ++ z ∷ [])) (sym last)
            (mixed_last (got (stream_of body) ++ here (stream_of body) s f) (lost (stream_of body)) (offered (stream_of body)) z (w.flow (stream_of body) low)))
        go stream few false e = subst (λ (x : List Message). Mixed (got stream ++ x) (lost stream) (offered stream))
            (sym (apart_so stream few e).here_is) (w.flow stream few)

        unused_case : (stream : ℕ) → stream < 16 → has_messages stream then_s.routing ≡ false → (b : Bool)
            → (stream == stream_of body) ≡ b → cond b (offered stream ++ z ∷ []) (offered stream) ≡ []
        unused_case stream few e true d =
            absurd (let never : true ≡ false =
            sym ((route.alone s.routing stream sound.routing few).accepted_messages (stream_of body) ∙ rw d refl)
            ∙ e in cc)
        unused_case stream few e false d = w.unused stream few (sym (apart_so stream few d).used ∙ e)

  pub offers_acks : NewAcknowledges (view then_s f) (view s f)
  offers_acks c m i a = go (in_new s then_s f z fate (comes_last s then_s f body fate refl refl new_for) m i)
    where
      go : In m (view s f) ⊎ (m ≡ z) → In m (view s f)
      go (inl j) = j
      go (inr same) = absurd (users_acknowledge c z (plain_body body users) (subst (Acknowledges c) same a))
