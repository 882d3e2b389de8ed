-- A LINK SETTLES, and each stream: what stands of it goes along (`settles_flow`). The link's whole queue goes behind
-- the target's, or aside (pair_changeover's Passing.antt), and the routing moves the streams that ran on the link or
-- came from it to the same place. A stream elsewhere has nothing there and stays (`stays_kept`); one that ran there has
-- all there and goes (`on_kept`); one that comes from there takes its declaration along, with nothing behind it
-- (`via_kept`). Case by case on the place, no induction. `was_in` says that nothing new is pending. Used by
-- Hearing.antt and Blindly.antt.
use Rattle.std.proofs.Common.{refl, arith, ◌≡◌, ◌∙◌, ap, ap₂, sym, subst, ℕ, ◌<◌, ◌==◌, ◌-◌, Bool, true, false, List, [], ◌++◌, slice_get, Option, Some, None, cond, ◌⊎◌, inl, inr}
use Rattle.std.proofs.lemmas.Bool.{eqb-true}
use Rattle.set_events.specs.declared.answer.Fate.{Fate}
use Rattle.set_events.specs.declared.answer.Fate.TheVariants.{Waiting, Unacked, Acked, Held, Parked, Back, Discarded}
use Rattle.set_route.specs.declared.place.Place.{Place}
use Rattle.set_route.specs.declared.place.Place.TheVariants.{On, Changing, Nowhere}
use Rattle.set_route.specs.declared.place.Code.{Code}
use Rattle.set_route.specs.declared.place.Code.TheVariants.{Free, Asked, Spent}
use Rattle.set_route.proofs.Places.{settled_at}
use Rattle.set_route.specs.Routing.{Routing, place_of, place_settled, via_settled, code_of, code_settled, owed_under, home_of, has_messages, settled as streams_settled}
use Rattle.set_route.specs.Target.{target_of}
use Rattle.set_route.proofs.Alone as route
use Rattle.set_model.specs.declared.phase.Phase.TheVariants.{Down}
use Rattle.set_model.specs.declared.reached.Reached.TheVariants.{Upto}
use Rattle.set_model.specs.Changeover.{fate_on, acknowledged_by, is_reasonable, reached_by, settled}
use Rattle.set_model.specs.Rows.{Row, standing, is_on, is_unacked, is_back, is_parked, turned, all_with}
use Rattle.set_model.specs.Sound.{IsSound}
use Rattle.set_model.specs.State.{open_link, is_open, link_is_open, LinkState, State, has_phase_up, is_up, link_is_up, target}
use Rattle.set_model.proofs.Order.{coded_at}
use Rattle.set_model.proofs.Rows.{turned_same, moved_same}
use Rattle.set_model.proofs.Lists.{map_set_same, none_open}
use Rattle.set_model.proofs.Settling.{no_target}
use Rattle.set_model.proofs.Places.{apart, false_true, itself}
use Rattle.set_model.proofs.Walk.{IsAt}
use Rattle.pair_model.specs.Run.{Message, messages}
use Rattle.pair_changeover.specs.Pending.{pending, aside, acked_on, accepted_on}
use Rattle.pair_changeover.proofs.Passing.{IsReached, gone, rows_then, settles_to, settles_apart, settles_aside, settles_none_aside}
use Rattle.pair_changeover.proofs.Views.{view, Among, among_joined, In, stands_on, stands_aside}
use Rattle.pair_streams.specs.Streams.{those_of}
use Rattle.pair_streams.proofs.Codes.{Clear, Flows, NewAcknowledges, Kept, OwesNoLess, carried}
use Rattle.pair_streams.proofs.Declared.{Declares, Acknowledges, ClearBehind, clear_joined, clear_after, clear_none}
use Rattle.pair_streams.proofs.Filtered.{those_joined, joins_none, none_joins}
use Rattle.pair_streams.proofs.Flowing.{back_by, queue_at, runs_by, runs_nowhere, Stands}

sent_not_back : (n c : ℕ) (fate : Fate) → is_unacked n fate ≡ true → is_back c fate ≡ false
sent_not_back n c (Unacked l) e = refl
sent_not_back n c (Waiting l) e = refl
sent_not_back n c (Acked l) e = refl
sent_not_back n c (Held l) e = refl
sent_not_back n c Parked e = refl
sent_not_back n c (Back d) e = absurd cc
sent_not_back n c (Discarded cause) e = refl

on_not_back : (n c : ℕ) (fate : Fate) → is_on n fate ≡ true → is_back c fate ≡ false
on_not_back n c (Unacked l) e = refl
on_not_back n c (Waiting l) e = refl
on_not_back n c (Acked l) e = refl
on_not_back n c (Held l) e = refl
on_not_back n c Parked e = refl
on_not_back n c (Back d) e = absurd cc
on_not_back n c (Discarded cause) e = refl

target_not_back : (c : ℕ) (to : Option ℕ) → is_back c (fate_on to) ≡ false
target_not_back c None = refl
target_not_back c (Some to) = refl

-- A LINK SETTLES
module _ (fsn n : ℕ) (link : LinkState) (s f : State) (sound : IsSound s) (at : IsAt n link Down s) (r : IsReached fsn n link s f) where
  abbrev after : State
  after = settled (Upto fsn) n link s

  reasonable : is_reasonable fsn n link s.rows ≡ true
  reasonable = r.reasonable

  same_target : target (acknowledged_by (reached_by fsn n link s.rows) n link s).links ≡ target s.links
  same_target = ap target_of (map_set_same (λ (l : LinkState). open_link l) s.links n link _ at.there refl)

  routing_then : after.routing ≡ streams_settled n (target s.links) s.routing
  routing_then = rw (reasonable, same_target) refl

  not_own : (to : ℕ) → target s.links ≡ Some to → (n == to) ≡ false
  not_own to e = apart n to (no_target fsn n link s at.there reasonable at.phase_is to e)

  -- its queue joins the target's, or what is aside
  abbrev queue_then : Bool → Bool → ℕ → List Message
  queue_then own joins l = cond own [] (cond joins (pending l s f ++ pending n s f) (pending l s f))

  abbrev aside_then : Option ℕ → List Message
  aside_then None = aside s ++ pending n s f
  aside_then (Some to) = aside s

  queues : (l : ℕ) → pending l after f ≡ queue_then (n == l) (is_on l (fate_on (target s.links))) l
  queues l = go (n == l) refl
    where
      joins : (to : Option ℕ) → target s.links ≡ to → (n == l) ≡ false → (b : Bool) → is_on l (fate_on to) ≡ b
          → pending l after f ≡ cond b (pending l s f ++ pending n s f) (pending l s f)
      joins to e d false g = settles_apart fsn n link s f sound at r l d (ap (λ (t : Option ℕ). is_on l (fate_on t)) e ∙ g)
      joins None e d true g = absurd cc
      joins (Some to) e d true g = settles_to fsn n link s f sound at r l (e ∙ ap (λ (k : ℕ). Some k) (eqb-true to l g))

      go : (b : Bool) → (n == l) ≡ b
          → pending l after f ≡ cond b []
          (cond (is_on l (fate_on (target s.links))) (pending l s f ++ pending n s f) (pending l s f))
      go true e = subst (λ (k : ℕ). pending k after f ≡ []) (eqb-true n l e) (gone fsn n link s f sound at r (accepted_on n f - acked_on n after))
      go false e = joins (target s.links) refl e (is_on l (fate_on (target s.links))) refl

  aside_is : (to : Option ℕ) → target s.links ≡ to → aside after ≡ aside_then to
  aside_is None e = settles_aside fsn n link s f sound at r e
  aside_is (Some to) e = settles_none_aside fsn n link s f sound at r to e

  -- so nothing new is pending
  pub was_in : (m : Message) → In m (view after f) → In m (view s f)
  was_in m (stands_on l a) = go (n == l) (is_on l (fate_on (target s.links))) (subst (Among m) (queues l) a)
    where
      both : Among m (pending l s f) ⊎ Among m (pending n s f) → In m (view s f)
      both (inl x) = stands_on l x
      both (inr x) = stands_on n x

      go : (own joins : Bool) → Among m (queue_then own joins l) → In m (view s f)
      go true joins x = absurd x
      go false true x = both (among_joined m (pending l s f) (pending n s f) x)
      go false false x = stands_on l x
  was_in m (stands_aside a) = go (target s.links) (subst (Among m) (aside_is (target s.links) refl) a)
    where
      both : Among m (aside s) ⊎ Among m (pending n s f) → In m (view s f)
      both (inl x) = stands_aside x
      both (inr x) = stands_on n x

      go : (to : Option ℕ) → Among m (aside_then to) → In m (view s f)
      go None x = both (among_joined m (aside s) (pending n s f) x)
      go (Some to) x = stands_aside x

  backs : (c : ℕ) → back_by c after ≡ back_by c s
  backs c =
      ap (λ (rows : List Row). messages (standing (is_back c) rows)) (rows_then fsn n link s f sound at r)
      ∙ ap messages (moved_same (is_on n) (is_back c) (all_with (fate_on (target s.links)))
      (turned (is_unacked n) (Acked n) (reached_by fsn n link s.rows) s.rows)
      (λ row. target_not_back c (target s.links)) (λ fate e. on_not_back n c fate e))
      ∙ ap messages (turned_same (is_unacked n) (is_back c) (Acked n) refl (λ fate e. sent_not_back n c fate e) (reached_by fsn n link s.rows) s.rows)

  module _ (stream : ℕ) (low : stream < 16) where
    place_then : place_of stream after.routing ≡ place_settled n (target s.links) (place_of stream s.routing)
    place_then = ap (place_of stream) routing_then ∙ (route.alone s.routing stream sound.routing low).settled_place n (target s.links)

    used_then : has_messages stream after.routing ≡ has_messages stream s.routing
    used_then = ap (has_messages stream) routing_then ∙ (route.alone s.routing stream sound.routing low).settled_messages n (target s.links)

    -- of a stream that has nothing on the link nothing moves
    module _ (none : those_of stream (pending n s f) ≡ []) where
      stays_on : (l : ℕ) → those_of stream (pending l after f) ≡ those_of stream (pending l s f)
      stays_on l = ap (those_of stream) (queues l) ∙ go (n == l) refl (is_on l (fate_on (target s.links)))
        where
          go : (own : Bool) → (n == l) ≡ own → (joins : Bool) → those_of stream (queue_then own joins l) ≡ those_of stream (pending l s f)
          go true e joins = sym (subst (λ (k : ℕ). those_of stream (pending k s f) ≡ []) (eqb-true n l e) none)
          go false e true = joins_none stream (pending l s f) (pending n s f) none
          go false e false = refl

      stays_aside : those_of stream (aside after) ≡ those_of stream (aside s)
      stays_aside = ap (those_of stream) (aside_is (target s.links) refl) ∙ go (target s.links)
        where
          go : (to : Option ℕ) → those_of stream (aside_then to) ≡ those_of stream (aside s)
          go None = joins_none stream (aside s) (pending n s f) none
          go (Some to) = refl

    -- of one that has all there all moves
    module _ (all : (l : ℕ) → (n == l) ≡ false → those_of stream (pending l s f) ≡ []) (none_aside : those_of stream (aside s) ≡ []) where
      moves_on : (to : Option ℕ) → target s.links ≡ to → (l : ℕ)
          → those_of stream (pending l after f) ≡ cond (is_on l (fate_on to)) (those_of stream (pending n s f)) []
      moves_on to e l = ap (those_of stream)
          (queues l ∙ ap (λ (t : Option ℕ). queue_then (n == l) (is_on l (fate_on t)) l) e)
          ∙ go to e (n == l) refl (is_on l (fate_on to)) refl
        where
          own_not : (to : Option ℕ) → target s.links ≡ to → (n == l) ≡ true → is_on l (fate_on to) ≡ true → ⊥
          own_not None e d g = absurd cc
          own_not (Some t) e d g = false_true (n == t) (not_own t e) (ap (λ (k : ℕ). n == k) (eqb-true t l g) ∙ d)

          go : (to : Option ℕ) → target s.links ≡ to → (own : Bool) → (n == l) ≡ own → (joins : Bool)
              → is_on l (fate_on to) ≡ joins
              → those_of stream (queue_then own joins l) ≡ cond joins (those_of stream (pending n s f)) []
          go to e true d true g = absurd (own_not to e d g)
          go to e true d false g = refl
          go to e false d true g = none_joins stream (pending l s f) (pending n s f) (all l d)
          go to e false d false g = all l d

      moves_aside : (to : Option ℕ) → target s.links ≡ to → those_of stream (aside after) ≡ those_of stream (cond (is_parked (fate_on to)) (pending n s f) [])
      moves_aside None e = ap (those_of stream) (aside_is None e) ∙ none_joins stream (aside s) (pending n s f) none_aside
      moves_aside (Some to) e = ap (those_of stream) (aside_is (Some to) e) ∙ none_aside

    module _ (offered got lost : ℕ → List Message) (w : Flows s f offered got lost) where
      -- IT STAYS
      module _ (p : Place) (is : place_of stream s.routing ≡ p) (apart_from : runs_by p n ≡ false) (stays : place_settled n (target s.links) p ≡ p) where
        old : Stands stream p s f
        old = subst (λ (q : Place). Stands stream q s f) is (w.stands stream low)

        none_there : those_of stream (pending n s f) ≡ []
        none_there = old.alone n apart_from

        then_is : place_of stream after.routing ≡ p
        then_is = place_then ∙ ap (place_settled n (target s.links)) is ∙ stays

        queue_stays : (q : Place) → those_of stream (queue_at q after f) ≡ those_of stream (queue_at q s f)
        queue_stays (On l) = stays_on none_there l
        queue_stays (Changing to code via) =
            those_joined stream (pending via after f) (back_by code after)
            ∙ ap₂ (λ (x y : List Message). x ++ y) (stays_on none_there via) (ap (those_of stream) (backs code))
            ∙ sym (those_joined stream (pending via s f) (back_by code s))
        queue_stays Nowhere = stays_aside none_there

        -- its declaration stays too
        clear_stays : (to code via : ℕ) → p ≡ Changing to code via → Clear stream code via (view after f)
        clear_stays to code via e =
            let was = w.backing.clear stream low to code via (is ∙ e) in
            let via_apart : (via == n) ≡ false = ap (λ (q : Place). runs_by q n) (sym e) ∙ apart_from in
            record {
              only = λ l d m a. on_case was via_apart l d m (n == l) (is_on l (fate_on (target s.links))) (subst (Among m) (queues l) a);
              none_aside = λ m a. aside_case was via_apart m (target s.links) (subst (Among m) (aside_is (target s.links) refl) a);
              behind = subst (ClearBehind stream code) (sym (queues via)) (behind_case was via_apart (n == via) (is_on via (fate_on (target s.links))));
            }
          where
            on_case : Clear stream code via (view s f) → (via == n) ≡ false → (l : ℕ) → (via == l) ≡ false
                → (m : Message) → (own joins : Bool) → Among m (queue_then own joins l) → Declares code m → ⊥
            on_case was away l d m true joins a x = a
            on_case was away l d m false false a x = was.only l d m a x
            on_case was away l d m false true a x = go (among_joined m (pending l s f) (pending n s f) a)
              where
                go : Among m (pending l s f) ⊎ Among m (pending n s f) → ⊥
                go (inl b) = was.only l d m b x
                go (inr b) = was.only n away m b x

            aside_case : Clear stream code via (view s f) → (via == n) ≡ false → (m : Message) (t : Option ℕ) → Among m (aside_then t) → Declares code m → ⊥
            aside_case was away m (Some t) a x = was.none_aside m a x
            aside_case was away m None a x = go (among_joined m (aside s) (pending n s f) a)
              where
                go : Among m (aside s) ⊎ Among m (pending n s f) → ⊥
                go (inl b) = was.none_aside m b x
                go (inr b) = was.only n away m b x

            behind_case : Clear stream code via (view s f) → (via == n) ≡ false → (own joins : Bool) → ClearBehind stream code (queue_then own joins via)
            behind_case was away true joins = tt
            behind_case was away false false = was.behind
            behind_case was away false true =
                clear_joined stream code (pending via s f) (pending n s f) was.behind none_there
                (clear_none stream code (pending n s f) (was.only n away))

        stays_kept : Kept stream s after f f
        stays_kept = record {
          here_is = ap (λ (q : Place). those_of stream (queue_at q after f)) then_is ∙ queue_stays p
              ∙ ap (λ (q : Place). those_of stream (queue_at q s f)) (sym is);
          stands = subst (λ (q : Place). Stands stream q after f) (sym then_is) (record {
            alone = λ l e. stays_on none_there l ∙ old.alone l e;
            none_aside = λ e. stays_aside none_there ∙ old.none_aside e;
          });
          used = used_then;
          clear = λ to code via e. clear_stays to code via (sym then_is ∙ e);
          answered = λ to code via e m i a. stays_on none_there via ∙ w.backing.answered stream low to code via (is ∙ sym then_is ∙ e) m i a;
        }

      -- IT MOVES from the link
      module _ (p : Place) (is : place_of stream s.routing ≡ p) (on_it : runs_by p n ≡ true)
          (never_nowhere : runs_nowhere p ≡ false) (where_else : (l : ℕ) → (n == l) ≡ false → runs_by p l ≡ false) where
        was : Stands stream p s f
        was = subst (λ (q : Place). Stands stream q s f) is (w.stands stream low)

        all_there : (l : ℕ) → (n == l) ≡ false → those_of stream (pending l s f) ≡ []
        all_there l d = was.alone l (where_else l d)

        goes_on : (to : Option ℕ) → target s.links ≡ to → (l : ℕ)
            → those_of stream (pending l after f) ≡ cond (is_on l (fate_on to)) (those_of stream (pending n s f)) []
        goes_on = moves_on all_there (was.none_aside never_nowhere)

        goes_aside : (to : Option ℕ) → target s.links ≡ to → those_of stream (aside after) ≡ those_of stream (cond (is_parked (fate_on to)) (pending n s f) [])
        goes_aside = moves_aside all_there (was.none_aside never_nowhere)

        stands_then : (to : ℕ) → target s.links ≡ Some to → (q : Place) → runs_nowhere q ≡ false → ((l : ℕ) → runs_by q l ≡ (to == l)) → Stands stream q after f
        stands_then to e q nowhere by = record {
          alone = λ l d. goes_on (Some to) e l ∙ ap (λ (b : Bool). cond b (those_of stream (pending n s f)) []) (sym (by l) ∙ d);
          none_aside = λ d. goes_aside (Some to) e;
        }

        at_target : (to : ℕ) → target s.links ≡ Some to → those_of stream (pending to after f) ≡ those_of stream (pending n s f)
        at_target to e = goes_on (Some to) e to ∙ ap (λ (b : Bool). cond b (those_of stream (pending n s f)) []) (itself to)

      -- one that runs on it
      on_kept : place_of stream s.routing ≡ On n → (to : Option ℕ) → target s.links ≡ to → Kept stream s after f f
      on_kept is None e =
          let then_is : place_of stream after.routing ≡ Nowhere = place_then
          ∙ ap₂ (λ (t : Option ℕ) (q : Place). place_settled n t q) e is ∙ rw (itself n) refl in
          record {
            here_is = ap (λ (q : Place). those_of stream (queue_at q after f)) then_is
                ∙ goes_aside (On n) is (itself n) refl (λ l d. d) None e
                ∙ ap (λ (q : Place). those_of stream (queue_at q s f)) (sym is);
            stands = subst (λ (q : Place). Stands stream q after f) (sym then_is)
                (record {
                  alone = λ l d. goes_on (On n) is (itself n) refl (λ l d. d) None e l;
                  none_aside = λ d. absurd cc;
                });
            used = used_then;
            clear = λ t c v g. absurd (let never : Nowhere ≡ Changing t c v = sym then_is ∙ g in cc);
            answered = λ t c v g m i a. absurd (let never : Nowhere ≡ Changing t c v = sym then_is ∙ g in cc);
          }
      on_kept is (Some to) e =
          let then_is : place_of stream after.routing ≡ On to = place_then
          ∙ ap₂ (λ (t : Option ℕ) (q : Place). place_settled n t q) e is ∙ rw (itself n) refl in
          record {
            here_is = ap (λ (q : Place). those_of stream (queue_at q after f)) then_is
                ∙ at_target (On n) is (itself n) refl (λ l d. d) to e
                ∙ ap (λ (q : Place). those_of stream (queue_at q s f)) (sym is);
            stands = subst (λ (q : Place). Stands stream q after f) (sym then_is)
                (stands_then (On n) is (itself n) refl (λ l d. d) to e (On to) refl (λ l. refl));
            used = used_then;
            clear = λ t c v g. absurd (let never : On to ≡ Changing t c v = sym then_is ∙ g in cc);
            answered = λ t c v g m i a. absurd (let never : On to ≡ Changing t c v = sym then_is ∙ g in cc);
          }

      -- one that comes from it: its home is up, so there is a target
      has_target : (to code via : ℕ) → place_of stream s.routing ≡ Changing to code via → target s.links ≡ None → ⊥
      has_target to code via is e =
          let coded = coded_at s.routing stream sound.routing to code via is in
          go (slice_get s.links (home_of code)) refl ((sound.codes code).home_open via coded.1)
        where
          go : (o : Option LinkState) → slice_get s.links (home_of code) ≡ o → is_open (home_of code) s ≡ true → ⊥
          go None g is = absurd (let never : false ≡ true = ap link_is_open (sym g) ∙ is in cc)
          go (Some other) g is = false_true (open_link other) (none_open s.links (home_of code) other e g) (ap link_is_open (sym g) ∙ is)

      via_kept : (to code : ℕ) → place_of stream s.routing ≡ Changing to code n → (there : Option ℕ) → target s.links ≡ there → Kept stream s after f f
      via_kept to code is None e = absurd (has_target to code n is e)
      via_kept to code is (Some t) e =
          let then_is : place_of stream after.routing ≡ Changing to code t = place_then
          ∙ ap₂ (λ (o : Option ℕ) (q : Place). place_settled n o q) e is ∙ rw (itself n) refl in
          let before = w.backing.clear stream low to code n is in
          let moves = at_target (Changing to code n) is (itself n) refl (λ l d. d) t e in
          record {
            here_is =
                ap (λ (q : Place). those_of stream (queue_at q after f)) then_is
                ∙ those_joined stream (pending t after f) (back_by code after)
                ∙ ap₂ (λ (x y : List Message). x ++ y) moves (ap (those_of stream) (backs code))
                ∙ sym (those_joined stream (pending n s f) (back_by code s))
                ∙ ap (λ (q : Place). those_of stream (queue_at q s f)) (sym is);
            stands = subst (λ (q : Place). Stands stream q after f) (sym then_is)
                (stands_then (Changing to code n) is (itself n) refl (λ l d. d) t e (Changing to code t) refl
                (λ l. refl));
            used = used_then;
            clear = λ a c v g.
                let same : Changing to code t ≡ Changing a c v = sym then_is ∙ g in
                let code_is : code ≡ c = cc in
                let via_is : t ≡ v = cc in
                subst (λ (k : ℕ). Clear stream k v (view after f)) code_is (subst (λ (k : ℕ). Clear stream code k (view after f)) via_is (moved_clear before));
            answered = λ a c v g m i x.
                let same : Changing to code t ≡ Changing a c v = sym then_is ∙ g in
                let code_is : code ≡ c = cc in
                let via_is : t ≡ v = cc in
                subst (λ (k : ℕ). those_of stream (pending k after f) ≡ []) via_is
                (moves ∙ w.backing.answered stream low to code n is m i
                (subst (λ (k : ℕ). Acknowledges k m) (sym code_is) x));
          }
        where
          moved_clear : Clear stream code n (view s f) → Clear stream code t (view after f)
          moved_clear before = record {
            only = λ l d m a. on_case l m (n == l) refl (is_on l (fate_on (target s.links)))
                (ap (λ (o : Option ℕ). is_on l (fate_on o)) e ∙ d) (subst (Among m) (queues l) a);
            none_aside = λ m a. before.none_aside m (subst (Among m) (aside_is (Some t) e) a);
            behind = subst (ClearBehind stream code) (sym (settles_to fsn n link s f sound at r t e))
                (clear_after stream code (pending t s f) (pending n s f) (before.only t (not_own t e)) before.behind);
          }
            where
              on_case : (l : ℕ) (m : Message) (own : Bool) → (n == l) ≡ own → (joins : Bool)
                  → is_on l (fate_on (target s.links)) ≡ false
                  → Among m (queue_then own (is_on l (fate_on (target s.links))) l) → Declares code m → ⊥
              on_case l m true d joins off a x = a
              on_case l m false d joins off a x = before.only l d m (subst (λ (b : Bool). Among m (queue_then false b l)) off a) x

      -- EACH
      settled_kept : Kept stream s after f f
      settled_kept = go (place_of stream s.routing) refl
        where
          on_case : (m : ℕ) → place_of stream s.routing ≡ On m → (b : Bool) → (m == n) ≡ b → Kept stream s after f f
          on_case m is true e = on_kept (is ∙ ap On (eqb-true m n e)) (target s.links) refl
          on_case m is false e = stays_kept (On m) is e (rw e refl)

          via_stays : (to code via : ℕ) (o : Option ℕ) → (via == n) ≡ false → Changing to code (via_settled n o via) ≡ Changing to code via
          via_stays to code via None e = refl
          via_stays to code via (Some t) e = rw e refl

          back_case : (to code via : ℕ) → place_of stream s.routing ≡ Changing to code via → (b : Bool) → (via == n) ≡ b → Kept stream s after f f
          back_case to code via is true e = via_kept to code (is ∙ ap (λ (k : ℕ). Changing to code k) (eqb-true via n e)) (target s.links) refl
          back_case to code via is false e = stays_kept (Changing to code via) is e (via_stays to code via (target s.links) e)

          go : (p : Place) → place_of stream s.routing ≡ p → Kept stream s after f f
          go (On m) is = on_case m is (m == n) refl
          go (Changing to code via) is = back_case to code via is (via == n) refl
          go Nowhere is = stays_kept Nowhere is refl refl

  -- as much is owed under each code
  owes_same_then : OwesNoLess s after
  owes_same_then c =
      let then_code = ap (λ (r : Routing). owed_under (code_of c r)) routing_then ∙ ap owed_under (settled_at n (target s.links) s.routing.codes c)
      ∙ owed_settled (code_of c s.routing) in
      omega (arith, then_code)
    where
      owed_settled : (was : Code) → owed_under (code_settled n (target s.links) was) ≡ owed_under was
      owed_settled Free = refl
      owed_settled (Asked via declaration owed) = refl
      owed_settled (Spent owed) = refl

  pub settles_flow : (offered got lost : ℕ → List Message) → Flows s f offered got lost
      → NewAcknowledges (view f after) (view f s) → Flows after f offered got lost
  settles_flow offered got lost w acknowledges =
      carried s after f f offered got lost w (λ stream low. settled_kept stream low offered got lost w)
      owes_same_then (λ c m i d. was_in m i) acknowledges
