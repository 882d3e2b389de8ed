-- A LINK COMES UP AT ONE END, and each stream of that end: what was parked waits for it (`up_flow`). That's the argument
-- of pair_streams' Risen.antt for an end by itself: the link was settled in a state `u` that has the rows and the
-- routing of the one (`s`) in which the streams are told. For the first of the two that's the same state; for the second
-- `s` is `u` under its veil. At the other end nothing moves (`still_flow`).
use Rattle.set_model.proofs.Lists.{carried_unsettled}
use Rattle.std.proofs.Common.{arith, refl, ◌≡◌, ◌∙◌, ap, ap₂, sym, subst, ℕ, ◌<◌, ◌==◌, ◌-◌, ◌%◌, Bool, true, false, List, [], ◌++◌, slice_get, Some}
use Rattle.std.proofs.lemmas.Bool.{eqb-true}
use Rattle.set_route.specs.declared.place.Place.{Place}
use Rattle.set_route.specs.declared.place.Place.TheVariants.{On, Changing, Nowhere}
use Rattle.set_route.specs.Routing.{place_of, place_raised, code_of, Routing, IsRouting, has_messages, raised, owed_under}
use Rattle.set_route.proofs.Alone as route
use Rattle.set_model.specs.Sound.{IsSound, IsPlaced}
use Rattle.set_model.specs.Rows.{Row, parked, standing, is_back}
use Rattle.set_model.specs.State.{carries, LinkState, State, has_phase_settled, is_settled, link_is_settled}
use Rattle.pair_model.specs.Run.{Message, messages}
use Rattle.pair_changeover.specs.Pending.{queue, pending, aside, acked_of, acked_on, accepted_of, accepted_on}
use Rattle.pair_changeover.proofs.Passing.{Rises}
use Rattle.pair_changeover.proofs.Table.{queue_untouched}
use Rattle.pair_changeover.proofs.Views.{view, Among, In, stands_on, stands_aside}
use Rattle.pair_streams.specs.Streams.{those_of}
use Rattle.pair_streams.proofs.Codes.{Clear, Flows, NewAcknowledges, Kept, carried, owes_same}
use Rattle.pair_streams.proofs.Declared.{NoneDeclares, ClearBehind}
use Rattle.pair_streams.proofs.Mixed.{Mixed}
use Rattle.pair_streams.proofs.Flowing.{back_by, queue_at, here, runs_by, runs_nowhere, Stands}
use Rattle.pair_streams.proofs.Risen.{rest_none}

module _ (k : ℕ) (u s t f g : State) (sound : IsSound u) (a : Rises k u t) (same_rows : s.rows ≡ u.rows)
    (same_routing : s.routing ≡ u.routing) (near_links : (l : ℕ) → (k == l) ≡ false → slice_get s.links l ≡ slice_get u.links l)
    (far_links : (l : ℕ) → (k == l) ≡ false → slice_get g.links l ≡ slice_get f.links l)
    (routing : t.routing ≡ raised k u.routing) (backs : (c : ℕ) → back_by c t ≡ back_by c u) where
  same_at : (l : ℕ) → (k == l) ≡ false → pending l t g ≡ pending l s f
  same_at l d =
      ap (λ (i : ℕ). queue (i - acked_on l t) l t.rows) (ap accepted_of (far_links l d))
      ∙ ap (λ (i : ℕ). queue (accepted_on l f - i) l t.rows) (ap acked_of (a.links l d ∙ sym (near_links l d)))
      ∙ queue_untouched (accepted_on l f - acked_on l s) l u.rows t.rows (a.others l d)
      ∙ ap (λ (rows : List Row). queue (accepted_on l f - acked_on l s) l rows) (sym same_rows)

  same_aside : aside u ≡ aside s
  same_aside = ap (λ (rows : List Row). messages (parked rows)) (sym same_rows)

  own_is : pending k t g ≡ aside s
  own_is = a.own (accepted_on k g - acked_on k t) ∙ same_aside

  same_backs : (c : ℕ) → back_by c t ≡ back_by c s
  same_backs c = backs c ∙ ap (λ (rows : List Row). messages (standing (is_back c) rows)) (sym same_rows)

  routing_then : t.routing ≡ raised k s.routing
  routing_then = routing ∙ ap (raised k) (sym same_routing)

  sound_routing : IsRouting s.routing
  sound_routing = subst IsRouting (sym same_routing) sound.routing

  placed_so : (stream : ℕ) → stream < 16 → IsPlaced u.links (place_of stream s.routing)
  placed_so stream low = subst (λ (r : Routing). IsPlaced u.links (place_of stream r)) (sym same_routing) (sound.placed stream low)

  aside_none : aside t ≡ []
  aside_none = ap messages a.none_aside

  pub up_in : (m : Message) → In m (view t g) → In m (view s f)
  up_in m (stands_on l x) = go (k == l) refl
    where
      go : (c : Bool) → (k == l) ≡ c → In m (view s f)
      go true e = stands_aside (subst (Among m) (ap (λ (n : ℕ). pending n t g) (sym (eqb-true k l e)) ∙ own_is) x)
      go false e = stands_on l (subst (Among m) (same_at l e) x)
  up_in m (stands_aside x) = absurd (subst (Among m) aside_none x)

  module _ (offered got lost : ℕ → List Message) (w : Flows s f offered got lost) (stream : ℕ) (low : stream < 16) where
    place_then : place_of stream t.routing ≡ place_raised k (stream % s.routing.links) (has_messages stream s.routing) (place_of stream s.routing)
    place_then = ap (place_of stream) routing_then ∙ (route.alone s.routing stream sound_routing low).raised_place k

    used_then : has_messages stream t.routing ≡ has_messages stream s.routing
    used_then = ap (has_messages stream) routing_then ∙ (route.alone s.routing stream sound_routing low).raised_messages k

    -- it neither ran on the link nor came from it, which was settled
    not_settled : (l : ℕ) → (link : LinkState) × (slice_get u.links l ≡ Some link) × (carries link ≡ true) → (k == l) ≡ false
    not_settled l there = go (k == l) refl
      where
        go : (c : Bool) → (k == l) ≡ c → (k == l) ≡ false
        go false e = e
        go true e =
            let here : is_settled l u ≡ true = subst (λ (n : ℕ). is_settled n u ≡ true) (eqb-true k l e) a.settled_was in
            let never : true ≡ false = sym here ∙ ap link_is_settled there.1 ∙ carried_unsettled there.0.tested there.0.phase there.2 in
            absurd cc

    -- where it was aside
    from_aside : those_of stream (pending k t g) ≡ those_of stream (aside s)
    from_aside = ap (those_of stream) own_is

    -- on the link, where nothing of it is on another
    module _ (then_is : place_of stream t.routing ≡ On k) (here_is : those_of stream (pending k t g) ≡ here stream s f)
        (none : (l : ℕ) → (k == l) ≡ false → those_of stream (pending l s f) ≡ []) where
      on_kept : Kept stream s t f g
      on_kept = record {
        here_is = ap (λ (q : Place). those_of stream (queue_at q t g)) then_is ∙ here_is;
        stands = subst (λ (q : Place). Stands stream q t g) (sym then_is) (record {
          alone = λ l e. ap (those_of stream) (same_at l e) ∙ none l e;
          none_aside = λ e. ap (those_of stream) aside_none;
        });
        used = used_then;
        clear = λ to c v e. absurd (let never : On k ≡ Changing to c v = sym then_is ∙ e in cc);
        answered = λ to c v e n i x. absurd (let never : On k ≡ Changing to c v = sym then_is ∙ e in cc);
      }

    -- it stays where it is, on another link or from one
    module _ (p : Place) (l : ℕ) (is : place_of stream s.routing ≡ p) (then_is : place_of stream t.routing ≡ p)
        (other : (k == l) ≡ false) (by : (m : ℕ) → runs_by p m ≡ (l == m)) (somewhere : runs_nowhere p ≡ false)
        (queue_is : those_of stream (queue_at p t g) ≡ those_of stream (queue_at p s f)) where
      old : Stands stream p s f
      old = subst (λ (q : Place). Stands stream q s f) is (w.stands stream low)

      none_on : (m : ℕ) → runs_by p m ≡ false → those_of stream (pending m t g) ≡ []
      none_on m e = go (k == m) refl
        where
          go : (c : Bool) → (k == m) ≡ c → those_of stream (pending m t g) ≡ []
          go true d = ap (λ (n : ℕ). those_of stream (pending n t g)) (sym (eqb-true k m d)) ∙ from_aside ∙ old.none_aside somewhere
          go false d = ap (those_of stream) (same_at m d) ∙ old.alone m e

      stays_kept : ((to c v : ℕ) → p ≡ Changing to c v → l ≡ v) → Kept stream s t f g
      stays_kept via_is = record {
        here_is = ap (λ (q : Place). those_of stream (queue_at q t g)) then_is ∙ queue_is ∙ ap (λ (q : Place). those_of stream (queue_at q s f)) (sym is);
        stands = subst (λ (q : Place). Stands stream q t g) (sym then_is) (record { alone = none_on; none_aside = λ e. ap (those_of stream) aside_none });
        used = used_then;
        clear = λ to c v e. clear_case to c v (sym then_is ∙ e);
        answered = λ to c v e n i x. ap (those_of stream)
            (same_at v (ap (λ (m : ℕ). k == m) (sym (via_is to c v (sym then_is ∙ e))) ∙ other))
            ∙ w.backing.answered stream low to c v (is ∙ sym then_is ∙ e) n i x;
      }
        where
          clear_case : (to c v : ℕ) → p ≡ Changing to c v → Clear stream c v (view t g)
          clear_case to c v e =
              let was = w.backing.clear stream low to c v (is ∙ e) in
              let apart_from : (k == v) ≡ false = ap (λ (m : ℕ). k == m) (sym (via_is to c v e)) ∙ other in
              record {
                only = λ m d. only_case was m d (k == m) refl;
                none_aside = λ m x. absurd (subst (Among m) aside_none x);
                behind = subst (ClearBehind stream c) (sym (same_at v apart_from)) was.behind;
              }
            where
              only_case : Clear stream c v (view s f) → (m : ℕ) → (v == m) ≡ false → (own : Bool) → (k == m) ≡ own → NoneDeclares c (pending m t g)
              only_case was m d true o = subst (NoneDeclares c) (sym (ap (λ (n : ℕ). pending n t g) (sym (eqb-true k m o)) ∙ own_is)) was.none_aside
              only_case was m d false o = subst (NoneDeclares c) (sym (same_at m o)) (was.only m d)

    risen_kept : Kept stream s t f g
    risen_kept = go (place_of stream s.routing) refl
      where
        -- one that never had a message has none anywhere
        none_here : has_messages stream s.routing ≡ false → here stream s f ≡ []
        none_here e = rest_none (got stream) (here stream s f)
            (subst (λ (x : List Message). Mixed (got stream ++ here stream s f) (lost stream) x) (w.unused stream low e)
            (w.flow stream low)).0

        on_case : (m : ℕ) → place_of stream s.routing ≡ On m → (home used : Bool)
            → (stream % s.routing.links == k) ≡ home → has_messages stream s.routing ≡ used → Kept stream s t f g
        on_case m is true false h z =
            let before : those_of stream (pending m s f) ≡ [] = ap (λ (q : Place). those_of stream (queue_at q s f)) (sym is) ∙ none_here z in
            let stood = subst (λ (q : Place). Stands stream q s f) is (w.stands stream low) in
            on_kept (place_then ∙ ap (λ (q : Place). place_raised k (stream % s.routing.links) (has_messages stream s.routing) q) is ∙ rw (h, z) refl)
            (from_aside ∙ stood.none_aside refl ∙ sym (none_here z))
            (λ l d. none_at m before stood l (m == l) refl)
          where
            none_at : (m : ℕ) → those_of stream (pending m s f) ≡ [] → Stands stream (On m) s f → (l : ℕ) (c : Bool)
                → (m == l) ≡ c → those_of stream (pending l s f) ≡ []
            none_at m before stood l true e = ap (λ (n : ℕ). those_of stream (pending n s f)) (sym (eqb-true m l e)) ∙ before
            none_at m before stood l false e = stood.alone l e
        on_case m is true true h z = stays_on m is (rw (h, z) refl)
          where
            stays_on : (m : ℕ) → place_of stream s.routing ≡ On m
                → place_raised k (stream % s.routing.links) (has_messages stream s.routing) (On m) ≡ On m
                → Kept stream s t f g
            stays_on m is stays =
                let other = not_settled m (subst (IsPlaced u.links) is (placed_so stream low)) in
                stays_kept (On m) m is (place_then
                ∙ ap (λ (q : Place). place_raised k (stream % s.routing.links) (has_messages stream s.routing) q)
                is ∙ stays) other (λ l. refl) refl (ap (those_of stream) (same_at m other)) (λ to c v e. absurd cc)
        on_case m is false used h z =
            let other = not_settled m (subst (IsPlaced u.links) is (placed_so stream low)) in
            stays_kept (On m) m is (place_then
            ∙ ap (λ (q : Place). place_raised k (stream % s.routing.links) (has_messages stream s.routing) q) is
            ∙ rw h refl) other (λ l. refl) refl (ap (those_of stream) (same_at m other)) (λ to c v e. absurd cc)

        go : (p : Place) → place_of stream s.routing ≡ p → Kept stream s t f g
        go (On m) is = on_case m is (stream % s.routing.links == k) (has_messages stream s.routing) refl refl
        go (Changing to code via) is =
            let other = not_settled via (subst (IsPlaced u.links) is (placed_so stream low)) in
            stays_kept (Changing to code via) via is
            (place_then ∙ ap (λ (q : Place). place_raised k (stream % s.routing.links)
            (has_messages stream s.routing) q) is) other (λ l. refl) refl
            (ap₂ (λ (x y : List Message). those_of stream (x ++ y)) (same_at via other) (same_backs code)) (λ t c v e. cc)
        go Nowhere is =
            let stood = subst (λ (q : Place). Stands stream q s f) is (w.stands stream low) in
            on_kept (place_then ∙ ap (λ (q : Place). place_raised k (stream % s.routing.links) (has_messages stream s.routing) q) is)
            (from_aside ∙ ap (λ (q : Place). those_of stream (queue_at q s f)) (sym is))
            (λ l d. stood.alone l refl)

  pub up_flow : (offered got lost : ℕ → List Message) → Flows s f offered got lost → NewAcknowledges (view g t) (view f s) → Flows t g offered got lost
  up_flow offered got lost w acknowledges =
      carried s t f g offered got lost w (λ stream low. risen_kept offered got lost w stream low)
      (λ c. let same = ap (λ (r : Routing). owed_under (code_of c r)) routing_then in omega (arith, same)) (λ c m i d. up_in m i) acknowledges

-- THE OTHER END, where no queue changes as it stands
module _ (s t f g : State) (queues : (l : ℕ) → pending l t g ≡ pending l s f) (aside_same : aside t ≡ aside s)
    (backs : (c : ℕ) → back_by c t ≡ back_by c s) (routing : t.routing ≡ s.routing) where
  pub still_in : (m : Message) → In m (view t g) → In m (view s f)
  still_in m (stands_on l a) = stands_on l (subst (Among m) (queues l) a)
  still_in m (stands_aside a) = stands_aside (subst (Among m) aside_same a)

  still_queue : (place : Place) → queue_at place t g ≡ queue_at place s f
  still_queue (On l) = queues l
  still_queue (Changing to code via) = ap₂ (λ (x y : List Message). x ++ y) (queues via) (backs code)
  still_queue Nowhere = aside_same

  still_clear : (stream code via : ℕ) → Clear stream code via (view s f) → Clear stream code via (view t g)
  still_clear stream code via old = record {
    only = λ l d. subst (NoneDeclares code) (sym (queues l)) (old.only l d);
    none_aside = subst (NoneDeclares code) (sym aside_same) old.none_aside;
    behind = subst (ClearBehind stream code) (sym (queues via)) old.behind;
  }

  module _ (offered got lost : ℕ → List Message) (w : Flows s f offered got lost) where
    still_kept : (stream : ℕ) → stream < 16 → Kept stream s t f g
    still_kept stream low =
        let same : place_of stream t.routing ≡ place_of stream s.routing = ap (place_of stream) routing in
        let old = w.stands stream low in
        record {
          here_is = ap (λ (p : Place). those_of stream (queue_at p t g)) same ∙ ap (those_of stream) (still_queue (place_of stream s.routing));
          stands = subst (λ (p : Place). Stands stream p t g) (sym same) (record {
            alone = λ l e. ap (those_of stream) (queues l) ∙ old.alone l e;
            none_aside = λ e. ap (those_of stream) aside_same ∙ old.none_aside e;
          });
          used = ap (has_messages stream) routing;
          clear = λ to code via e. still_clear stream code via (w.backing.clear stream low to code via (sym same ∙ e));
          answered = λ to code via e n i a. ap (those_of stream) (queues via) ∙ w.backing.answered stream low to code via (sym same ∙ e) n i a;
        }

    pub still_flow : NewAcknowledges (view g t) (view f s) → Flows t g offered got lost
    still_flow acknowledges = carried s t f g offered got lost w still_kept
        (owes_same s t routing) (λ c m i d. still_in m i) acknowledges
