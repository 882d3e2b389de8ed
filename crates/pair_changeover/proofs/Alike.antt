-- A LINK THAT IS LEFT after a unit was heard on another stands as if it had been left before: of a fate that isn't
-- standing back, of which the unit left the rows alone, the same rows stand there (`left_alike`), and what was sent and
-- acknowledged on it is as it was (`left_unack`, `left_acked`). For the unit acknowledged rows of its own link alone,
-- and changed neither the routing nor which links are up, so each row that turns by the leaving gets the same fate
-- (`row_alike`). Induction is on rows alone, in `fated_alike`. Arriving.antt uses it to tell what is diverted by the
-- state in which the unit came.
use Rattle.std.proofs.Common.{refl, ◌≡◌, ◌∙◌, ap, sym, subst, ℕ, ◌==◌, Bool, true, false, List, [], ◌∷◌, ◌++◌, map, slice_get, slice_set, Some, cond}
use Rattle.std.proofs.lemmas.Bool.{eqb-true}
use Rattle.set_events.specs.declared.answer.Fate.{Fate}
use Rattle.set_events.specs.declared.answer.Fate.TheVariants.{Waiting, Unacked, Acked, Held, Parked, Back, Discarded}
use Rattle.set_route.specs.declared.place.Place.{Place}
use Rattle.set_route.specs.declared.place.Place.TheVariants.{On, Changing, Nowhere}
use Rattle.set_route.specs.Routing.{place_of}
use Rattle.set_route.specs.Routing as routes
use Rattle.set_model.specs.Rows.{Row, stream_of, is_unacked, is_back_to, stands_back, standing, unack, turned, fated}
use Rattle.set_model.specs.State.{open_link, given, LinkState, State, is_open, link_is_open, has_phase_up, fate_at}
use Rattle.set_model.specs.Changeover.{out_of_service, left_by, left_link}
use Rattle.set_model.proofs.Rows.{turned_same, moved_more}
use Rattle.set_model.proofs.Lists.{get_set_same, within}
use Rattle.set_model.proofs.Places.{home_back}
use Rattle.set_model.proofs.Staying.{offered_out}
use Rattle.pair_changeover.specs.Diverted.{as_left}
use Rattle.pair_changeover.proofs.Changes.{own_then, other_then}
use Rattle.pair_changeover.proofs.Turning.{unack_same}
use Rattle.pair_changeover.proofs.Views.{acked_of, acked_on}

-- leaving changes nothing of what was sent
module _ (l : ℕ) (state : LinkState) (s : State) where
  pub left_unack : unack l (as_left l (Some state) s).rows ≡ unack l s.rows
  left_unack = go (has_phase_up state.phase) refl
    where
      go : (b : Bool) → has_phase_up state.phase ≡ b → unack l (as_left l (Some state) s).rows ≡ unack l s.rows
      go true e = rw e (unack_same (is_back_to l)
          (λ row. fate_at (place_of (stream_of row.body) (out_of_service false l state s).routing)
          (out_of_service false l state s)) (home_back l) s.rows
          (λ m row. offered_out m _ (out_of_service false l state s)) l)
      go false e = rw e refl

  pub left_acked : slice_get s.links l ≡ Some state → acked_on l (as_left l (Some state) s) ≡ state.acked
  left_acked there = go (has_phase_up state.phase) refl
    where
      go : (b : Bool) → has_phase_up state.phase ≡ b → acked_on l (as_left l (Some state) s) ≡ state.acked
      go true e = rw e (ap acked_of (get_set_same s.links l (left_link false (given s) state) (within s.links l state there)))
      go false e = rw e (ap acked_of there)

sent_not_back : (k l : ℕ) (f : Fate) → is_unacked k f ≡ true → is_back_to l f ≡ false
sent_not_back k l (Unacked n) e = refl
sent_not_back k l (Waiting n) e = refl
sent_not_back k l (Acked n) e = refl
sent_not_back k l (Held n) e = refl
sent_not_back k l Parked e = refl
sent_not_back k l (Back code) e = absurd cc
sent_not_back k l (Discarded cause) e = refl

fated_alike : (f g : Row → Fate) → ((row : Row) → f row ≡ g row) → (rows : List Row) → map (fated f) rows ≡ map (fated g) rows
fated_alike f g same [] = refl
fated_alike f g same (row ∷ rows) =
    ap (λ (fate : Fate). record { number = row.number; body = row.body; users = row.users; fate = fate } ∷ map (fated f) rows) (same row)
    ∙ ap (λ (xs : List Row). fated g row ∷ xs) (fated_alike f g same rows)

-- a unit was heard on link k, and link l is left
module _ (k l count : ℕ) (link link' state : LinkState) (s mid : State) (apart : (k == l) ≡ false)
    (there : slice_get s.links k ≡ Some link) (links : mid.links ≡ slice_set s.links k link')
    (same_open : open_link link' ≡ open_link link)
    (rows : mid.rows ≡ turned (is_unacked k) (Acked k) count s.rows) (routing : mid.routing ≡ s.routing)
    (state_there : slice_get s.links l ≡ Some state) where
  abbrev out : State
  out = out_of_service false l state s

  abbrev out_mid : State
  out_mid = out_of_service false l state mid

  mid_there : slice_get mid.links l ≡ Some state
  mid_there = other_then k link link' s mid there links l apart ∙ state_there

  mid_open : (n : ℕ) → is_open n mid ≡ is_open n s
  mid_open n = go (k == n) refl
    where
      go : (b : Bool) → (k == n) ≡ b → is_open n mid ≡ is_open n s
      go true e = subst (λ (m : ℕ). is_open m mid ≡ is_open m s) (eqb-true k n e)
          (ap link_is_open (own_then k link link' s mid there links) ∙ same_open ∙ ap link_is_open (sym there))
      go false e = ap link_is_open (other_then k link link' s mid there links n e)

  out_open : (n : ℕ) → is_open n out_mid ≡ is_open n out
  out_open n = go (l == n) refl
    where
      go : (b : Bool) → (l == n) ≡ b → is_open n out_mid ≡ is_open n out
      go true e = subst (λ (m : ℕ). is_open m out_mid ≡ is_open m out) (eqb-true l n e)
          (ap link_is_open (own_then l state (left_link false (given mid) state) mid out_mid mid_there refl)
          ∙ sym (ap link_is_open (own_then l state (left_link false (given s) state) s out state_there refl)))
      go false e =
          ap link_is_open (other_then l state (left_link false (given mid) state) mid out_mid mid_there refl n e) ∙ mid_open n
          ∙ sym (ap link_is_open (other_then l state (left_link false (given s) state) s out state_there refl n e))

  fate_alike : (place : Place) → fate_at place out_mid ≡ fate_at place out
  fate_alike Nowhere = refl
  fate_alike (Changing to code via) = refl
  fate_alike (On n) = ap (λ (b : Bool). cond b (Waiting n) (Held n)) (out_open n)

  row_alike : (row : Row) → fate_at (place_of (stream_of row.body) out_mid.routing) out_mid ≡ fate_at (place_of (stream_of row.body) out.routing) out
  row_alike row =
      fate_alike (place_of (stream_of row.body) out_mid.routing)
      ∙ ap (λ (r : routes.Routing). fate_at (place_of (stream_of row.body) (routes.left l r)) out) routing

  -- so each place in which nothing stands back holds the same
  module _ (other : Fate → Bool) (never_back : (f : Fate) → stands_back f ≡ true → other f ≡ false)
      (same : standing other mid.rows ≡ standing other s.rows) where
    turned_alike : standing other (left_by false l state mid).rows ≡ standing other (left_by false l state s).rows
    turned_alike =
        let back : standing (is_back_to l) mid.rows ≡ standing (is_back_to l) s.rows = ap (standing (is_back_to l)) rows
        ∙ turned_same (is_unacked k) (is_back_to l) (Acked k) refl (λ f e. sent_not_back k l f e) count s.rows in
        let f : Row → Fate = λ row. fate_at (place_of (stream_of row.body) out_mid.routing) out_mid in
        let g : Row → Fate = λ row. fate_at (place_of (stream_of row.body) out.routing) out in
        moved_more (is_back_to l) other f mid.rows (λ x e. never_back x (home_back l x e))
        ∙ ap (λ (xs : List Row). xs ++ standing other (map (fated f) (standing (is_back_to l) mid.rows))) same
        ∙ ap (λ (xs : List Row). standing other s.rows ++ standing other (map (fated f) xs)) back
        ∙ ap (λ (xs : List Row). standing other s.rows ++ standing other xs) (fated_alike f g row_alike (standing (is_back_to l) s.rows))
        ∙ sym (moved_more (is_back_to l) other g s.rows (λ x e. never_back x (home_back l x e)))

    pub left_alike : standing other (as_left l (Some state) mid).rows ≡ standing other (as_left l (Some state) s).rows
    left_alike = go (has_phase_up state.phase) refl
      where
        go : (b : Bool) → has_phase_up state.phase ≡ b → standing other (as_left l (Some state) mid).rows ≡ standing other (as_left l (Some state) s).rows
        go true e = rw e turned_alike
        go false e = rw e same
