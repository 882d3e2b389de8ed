-- A LINK COMES UP at both ends, and each stream: what was parked waits for it (`rises_flow`). A stream that ran nowhere
-- runs there then, and what stood of it was parked; so does one that has its home there and never had a message, of
-- which nothing stands. Any other stays: it runs on a link or comes from one that isn't settled, so on another than
-- this one (`not_settled`). That's the whole argument, case by case on the place (`risen_kept`); the queues are those
-- of `Rises`, pair_changeover's Passing.antt. Acting.antt uses it.
use Rattle.set_model.proofs.Lists.{carried_unsettled}
use Rattle.std.proofs.Common.{arith, refl, ◌≡◌, ◌∙◌, ap, ap₂, sym, subst, ℕ, ◌<◌, ◌==◌, ◌-◌, ◌%◌, Bool, true, false, List, [], ◌∷◌, ◌++◌, slice_get, Some}
use Rattle.std.proofs.lemmas.Bool.{eqb-true}
use Rattle.set_route.specs.declared.place.Place.{Place}
use Rattle.set_route.specs.declared.place.Place.TheVariants.{On, Changing, Nowhere}
use Rattle.set_route.specs.Routing.{place_of, place_raised, code_of, has_messages, raised, Routing, owed_under}
use Rattle.set_route.proofs.Alone as route
use Rattle.set_model.specs.Sound.{IsSound, IsPlaced}
use Rattle.set_model.specs.State.{carries, LinkState, State, has_phase_settled, is_settled, link_is_settled}
use Rattle.pair_model.specs.Run.{Message, messages}
use Rattle.pair_changeover.specs.Pending.{queue, pending, aside, acked_of, acked_on, accepted_of, accepted_on}
use Rattle.pair_changeover.proofs.Passing.{Rises}
use Rattle.pair_changeover.proofs.Table.{queue_untouched}
use Rattle.pair_changeover.proofs.Views.{view, Among, In, stands_on, stands_aside}
use Rattle.pair_streams.specs.Streams.{those_of}
use Rattle.pair_streams.proofs.Codes.{Clear, Flows, NewAcknowledges, Kept, carried}
use Rattle.pair_streams.proofs.Declared.{NoneDeclares, ClearBehind}
use Rattle.pair_streams.proofs.Mixed.{Mixed}
use Rattle.pair_streams.proofs.Flowing.{back_by, queue_at, here, runs_by, runs_nowhere, Stands}

-- what is left of a list where nothing came before it
pub rest_none : (xs ys : List Message) → xs ++ ys ≡ [] → ys ≡ []
rest_none [] ys e = e
rest_none (x ∷ xs) ys e = absurd cc

module _ (k : ℕ) (s t f g : State) (sound : IsSound s) (a : Rises k s t) (b : Rises k f g)
    (routing : t.routing ≡ raised k s.routing) (backs : (c : ℕ) → back_by c t ≡ back_by c s) where
  same_at : (l : ℕ) → (k == l) ≡ false → pending l t g ≡ pending l s f
  same_at l d =
      ap (λ (i : ℕ). queue (i - acked_on l t) l t.rows) (ap accepted_of (b.links l d))
      ∙ ap (λ (i : ℕ). queue (accepted_on l f - i) l t.rows) (ap acked_of (a.links l d))
      ∙ queue_untouched (accepted_on l f - acked_on l s) l s.rows t.rows (a.others l d)

  own_is : pending k t g ≡ aside s
  own_is = a.own (accepted_on k g - acked_on k t)

  aside_none : aside t ≡ []
  aside_none = ap messages a.none_aside

  pub risen_in : (m : Message) → In m (view t g) → In m (view s f)
  risen_in m (stands_on l x) = go (k == l) refl
    where
      go : (c : Bool) → (k == l) ≡ c → In m (view s f)
      go true e = stands_aside (subst (Among m) (ap (λ (n : ℕ). pending n t g) (sym (eqb-true k l e)) ∙ own_is) x)
      go false e = stands_on l (subst (Among m) (same_at l e) x)
  risen_in m (stands_aside x) = absurd (subst (Among m) aside_none x)

  module _ (offered got lost : ℕ → List Message) (w : Flows s f offered got lost) (stream : ℕ) (low : stream < 16) where
    place_then : place_of stream t.routing ≡ place_raised k (stream % s.routing.links) (has_messages stream s.routing) (place_of stream s.routing)
    place_then = ap (place_of stream) routing ∙ (route.alone s.routing stream sound.routing low).raised_place k

    used_then : has_messages stream t.routing ≡ has_messages stream s.routing
    used_then = ap (has_messages stream) routing ∙ (route.alone s.routing stream sound.routing low).raised_messages k

    -- it neither ran on the link nor came from it, which was settled
    not_settled : (l : ℕ) → (link : LinkState) × (slice_get s.links l ≡ Some link) × (carries link ≡ true) → (k == l) ≡ false
    not_settled l there = go (k == l) refl
      where
        go : (c : Bool) → (k == l) ≡ c → (k == l) ≡ false
        go false e = e
        go true e =
            let here : is_settled l s ≡ true = subst (λ (n : ℕ). is_settled n s ≡ true) (eqb-true k l e) a.settled_was in
            let never : true ≡ false = sym here ∙ ap link_is_settled there.1 ∙ carried_unsettled there.0.tested there.0.phase there.2 in
            absurd cc

    -- where it was aside
    from_aside : those_of stream (pending k t g) ≡ those_of stream (aside s)
    from_aside = ap (those_of stream) own_is

    -- on the link, where nothing of it is on another
    module _ (then_is : place_of stream t.routing ≡ On k) (here_is : those_of stream (pending k t g) ≡ here stream s f)
        (none : (l : ℕ) → (k == l) ≡ false → those_of stream (pending l s f) ≡ []) where
      on_kept : Kept stream s t f g
      on_kept = record {
        here_is = ap (λ (q : Place). those_of stream (queue_at q t g)) then_is ∙ here_is;
        stands = subst (λ (q : Place). Stands stream q t g) (sym then_is) (record {
          alone = λ l e. ap (those_of stream) (same_at l e) ∙ none l e;
          none_aside = λ e. ap (those_of stream) aside_none;
        });
        used = used_then;
        clear = λ to c v e. absurd (let never : On k ≡ Changing to c v = sym then_is ∙ e in cc);
        answered = λ to c v e n i x. absurd (let never : On k ≡ Changing to c v = sym then_is ∙ e in cc);
      }

    -- it stays where it is, on another link or from one
    module _ (p : Place) (l : ℕ) (is : place_of stream s.routing ≡ p) (then_is : place_of stream t.routing ≡ p)
        (other : (k == l) ≡ false) (by : (m : ℕ) → runs_by p m ≡ (l == m)) (somewhere : runs_nowhere p ≡ false)
        (queue_is : those_of stream (queue_at p t g) ≡ those_of stream (queue_at p s f)) where
      old : Stands stream p s f
      old = subst (λ (q : Place). Stands stream q s f) is (w.stands stream low)

      none_on : (m : ℕ) → runs_by p m ≡ false → those_of stream (pending m t g) ≡ []
      none_on m e = go (k == m) refl
        where
          go : (c : Bool) → (k == m) ≡ c → those_of stream (pending m t g) ≡ []
          go true d = ap (λ (n : ℕ). those_of stream (pending n t g)) (sym (eqb-true k m d)) ∙ from_aside ∙ old.none_aside somewhere
          go false d = ap (those_of stream) (same_at m d) ∙ old.alone m e

      stays_kept : ((to c v : ℕ) → p ≡ Changing to c v → l ≡ v) → Kept stream s t f g
      stays_kept via_is = record {
        here_is = ap (λ (q : Place). those_of stream (queue_at q t g)) then_is ∙ queue_is ∙ ap (λ (q : Place). those_of stream (queue_at q s f)) (sym is);
        stands = subst (λ (q : Place). Stands stream q t g) (sym then_is) (record { alone = none_on; none_aside = λ e. ap (those_of stream) aside_none });
        used = used_then;
        clear = λ to c v e. clear_case to c v (sym then_is ∙ e);
        answered = λ to c v e n i x. ap (those_of stream)
            (same_at v (ap (λ (m : ℕ). k == m) (sym (via_is to c v (sym then_is ∙ e))) ∙ other))
            ∙ w.backing.answered stream low to c v (is ∙ sym then_is ∙ e) n i x;
      }
        where
          clear_case : (to c v : ℕ) → p ≡ Changing to c v → Clear stream c v (view t g)
          clear_case to c v e =
              let was = w.backing.clear stream low to c v (is ∙ e) in
              let apart_from : (k == v) ≡ false = ap (λ (m : ℕ). k == m) (sym (via_is to c v e)) ∙ other in
              record {
                only = λ m d. only_case was m d (k == m) refl;
                none_aside = λ m x. absurd (subst (Among m) aside_none x);
                behind = subst (ClearBehind stream c) (sym (same_at v apart_from)) was.behind;
              }
            where
              only_case : Clear stream c v (view s f) → (m : ℕ) → (v == m) ≡ false → (own : Bool) → (k == m) ≡ own → NoneDeclares c (pending m t g)
              only_case was m d true o = subst (NoneDeclares c) (sym (ap (λ (n : ℕ). pending n t g) (sym (eqb-true k m o)) ∙ own_is)) was.none_aside
              only_case was m d false o = subst (NoneDeclares c) (sym (same_at m o)) (was.only m d)

    risen_kept : Kept stream s t f g
    risen_kept = go (place_of stream s.routing) refl
      where
        -- one that never had a message has none anywhere
        none_here : has_messages stream s.routing ≡ false → here stream s f ≡ []
        none_here e = rest_none (got stream) (here stream s f)
            (subst (λ (x : List Message). Mixed (got stream ++ here stream s f) (lost stream) x) (w.unused stream low e)
            (w.flow stream low)).0

        on_case : (m : ℕ) → place_of stream s.routing ≡ On m → (home used : Bool)
            → (stream % s.routing.links == k) ≡ home → has_messages stream s.routing ≡ used → Kept stream s t f g
        on_case m is true false h u =
            let before : those_of stream (pending m s f) ≡ [] = ap (λ (q : Place). those_of stream (queue_at q s f)) (sym is) ∙ none_here u in
            let stood = subst (λ (q : Place). Stands stream q s f) is (w.stands stream low) in
            on_kept (place_then ∙ ap (λ (q : Place). place_raised k (stream % s.routing.links) (has_messages stream s.routing) q) is ∙ rw (h, u) refl)
            (from_aside ∙ stood.none_aside refl ∙ sym (none_here u))
            (λ l d. none_at m before stood l (m == l) refl)
          where
            none_at : (m : ℕ) → those_of stream (pending m s f) ≡ [] → Stands stream (On m) s f → (l : ℕ) (c : Bool)
                → (m == l) ≡ c → those_of stream (pending l s f) ≡ []
            none_at m before stood l true e = ap (λ (n : ℕ). those_of stream (pending n s f)) (sym (eqb-true m l e)) ∙ before
            none_at m before stood l false e = stood.alone l e
        on_case m is true true h u = stays_on m is (rw (h, u) refl)
          where
            stays_on : (m : ℕ) → place_of stream s.routing ≡ On m
                → place_raised k (stream % s.routing.links) (has_messages stream s.routing) (On m) ≡ On m
                → Kept stream s t f g
            stays_on m is stays =
                let other = not_settled m (subst (IsPlaced s.links) is (sound.placed stream low)) in
                stays_kept (On m) m is (place_then
                ∙ ap (λ (q : Place). place_raised k (stream % s.routing.links) (has_messages stream s.routing) q)
                is ∙ stays) other (λ l. refl) refl (ap (those_of stream) (same_at m other)) (λ to c v e. absurd cc)
        on_case m is false used h u =
            let other = not_settled m (subst (IsPlaced s.links) is (sound.placed stream low)) in
            stays_kept (On m) m is (place_then
            ∙ ap (λ (q : Place). place_raised k (stream % s.routing.links) (has_messages stream s.routing) q) is
            ∙ rw h refl) other (λ l. refl) refl (ap (those_of stream) (same_at m other)) (λ to c v e. absurd cc)

        go : (p : Place) → place_of stream s.routing ≡ p → Kept stream s t f g
        go (On m) is = on_case m is (stream % s.routing.links == k) (has_messages stream s.routing) refl refl
        go (Changing to code via) is =
            let other = not_settled via (subst (IsPlaced s.links) is (sound.placed stream low)) in
            stays_kept (Changing to code via) via is
            (place_then ∙ ap (λ (q : Place). place_raised k (stream % s.routing.links)
            (has_messages stream s.routing) q) is) other (λ l. refl) refl
            (ap₂ (λ (x y : List Message). those_of stream (x ++ y)) (same_at via other) (backs code)) (λ t c v e. cc)
        go Nowhere is =
            let stood = subst (λ (q : Place). Stands stream q s f) is (w.stands stream low) in
            on_kept (place_then ∙ ap (λ (q : Place). place_raised k (stream % s.routing.links) (has_messages stream s.routing) q) is)
            (from_aside ∙ ap (λ (q : Place). those_of stream (queue_at q s f)) (sym is))
            (λ l d. stood.alone l refl)

  pub rises_flow : (offered got lost : ℕ → List Message) → Flows s f offered got lost → NewAcknowledges (view g t) (view f s) → Flows t g offered got lost
  rises_flow offered got lost w acknowledges =
      carried s t f g offered got lost w (λ stream low. risen_kept offered got lost w stream low)
      (λ c. let same = ap (λ (r : Routing). owed_under (code_of c r)) routing in omega (arith, same)) (λ c m i d. risen_in m i) acknowledges
