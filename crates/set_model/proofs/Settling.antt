-- A LINK THAT SETTLES: what the far end has is acknowledged, and the rest of its messages move in order (Q.704 5.5).
-- `moves_the_rest` answers settling_moves_the_rest (src/laws.rt); `diverts_the_rest` says of a sound state that exactly
-- the others stand behind what waited for the target, or was parked; `settled_empty` that nothing is left on the link;
-- `no_target` that a link which was left isn't the target. Case by case on the target, from `acknowledged`, `moved_to`
-- and `moved_aside` of Events.antt, without induction; that rows stand in the order of sending is soundness. Used by
-- Soundness.antt and SoundBack.antt, and by pair_changeover's Passing.antt.
use Rattle.std.proofs.Common.{arith, refl, ◌≡◌, ◌≢◌, ap, sym, subst, ℕ, true, List, slice_get, Option, Some, None}
use Rattle.std.proofs.lemmas.List.{map-append}
use Rattle.set_route.specs.Target.{target_of}
use Rattle.set_model.specs.Changeover.{Upto, acknowledged as acknowledged_link, fate_on, is_reasonable, reached_by, settled}
use Rattle.set_model.specs.Laws.{DivertsTo, IsEmptyLink, MovesTheRest, arrived, rest_of}
use Rattle.set_model.specs.Rows.{IsHeldLast, IsInOrder, Row, all_with, is_on, moved}
use Rattle.set_model.specs.Sound.{IsSound}
use Rattle.set_model.specs.State.{Down, Settled, LinkState, State, has_phase_settled, open_link, target}
use Rattle.set_model.proofs.Events.{acknowledged, empty_link, moved_to, moved_aside, numbers_joined}
use Rattle.set_model.proofs.Lists.{map_set_same, target_open}
use Rattle.set_model.proofs.Places.{apart}

pub settled_empty : (s : State) (n : ℕ) (link : LinkState) → IsSound s → slice_get s.links n ≡ Some link → link.phase ≡ Settled → IsEmptyLink n s.rows
settled_empty s n link sound there settled = empty_link n s.rows ((sound.links n link there).settled (ap has_phase_settled settled))

-- what is acknowledged on the way changes no target
module _ (fsn n : ℕ) (link : LinkState) (s : State) (there : slice_get s.links n ≡ Some link) (reasonable : is_reasonable fsn n link s.rows ≡ true) where
  settled_rows : (settled (Upto fsn) n link s).rows ≡ moved (is_on n) (all_with (fate_on (target s.links))) (arrived (reached_by fsn n link s.rows) n s.rows)
  settled_rows = rw (
    reasonable,
    ap target_of (map_set_same (λ (l : LinkState). open_link l) s.links n link
        (acknowledged_link (reached_by fsn n link s.rows) link) there refl),
  ) refl

  pub moves_the_rest : MovesTheRest fsn n link s
  moves_the_rest = let acks = acknowledged n (reached_by fsn n link s.rows) s.rows in search settled_rows

  diverts_by : (d : ℕ) (rows : List Row) → IsInOrder n rows → IsHeldLast n rows → (to : Option ℕ)
      → ((t : ℕ) → to ≡ Some t → n ≢ t)
      → DivertsTo to (rest_of n d rows) rows (moved (is_on n) (all_with (fate_on to)) (arrived d n rows))
  diverts_by d rows order last (Some t) other =
      let off = apart n t (other t refl) in
      let a = acknowledged n d rows in
      grind (arith, moved_to n t (arrived d n rows) off, numbers_joined, a.others t off, a.on_is order last, map-append)
  diverts_by d rows order last None other =
      let a = acknowledged n d rows in
      grind (arith, moved_aside n (arrived d n rows), numbers_joined, a.parked_same, a.on_is order last, map-append)

  -- a link that was left is no target
  pub no_target : link.phase ≡ Down → (t : ℕ) → target s.links ≡ Some t → n ≢ t
  no_target down t e same = grind (arith, target_open)

  pub diverts_the_rest : IsSound s → link.phase ≡ Down
      → DivertsTo (target s.links) (rest_of n (reached_by fsn n link s.rows) s.rows) s.rows
      (settled (Upto fsn) n link s).rows
  diverts_the_rest sound down =
      let t = sound.links n link there in
      subst (DivertsTo (target s.links) (rest_of n (reached_by fsn n link s.rows) s.rows) s.rows) (sym settled_rows)
      (diverts_by (reached_by fsn n link s.rows) s.rows t.in_order t.held_last (target s.links) (no_target down))
