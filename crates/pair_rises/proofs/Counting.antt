-- WHAT A SETTLED LINK COUNTS as acknowledged was accepted (`Counts` of pair_changeover), of both ends as they're seen, with
-- emergencies or without: a life that begins keeps it (`begins_counts`), and so do the end that joins it (`joins_counts`) and a
-- link that is shown as another (`shows_counts`). A unit that is heard keeps it as pair_changeover has it.
use Rattle.std.proofs.Common.{refl, arith, ◌≡◌, ◌∙◌, ap, sym, ℕ, ◌≤◌, ◌==◌, true, false, slice_get, Some}
use Rattle.set_events.specs.declared.event.Event.TheVariants.{Up as UpEvent}
use Rattle.set_model.specs.Sound.{IsSound}
use Rattle.set_model.specs.State.{LinkState, State, is_settled, link_is_settled}
use Rattle.set_model.specs.Step.{step}
use Rattle.set_model.specs.declared.phase.Phase.TheVariants.{Settled}
use Rattle.set_model.proofs.Walk.{IsAt}
use Rattle.set_veiled.specs.Veil.{dormant, veil}
use Rattle.pair_model.proofs.Rising.{settled_at}
use Rattle.pair_changeover.specs.Pending.{acked_of, acked_on, accepted_of, accepted_on}
use Rattle.pair_changeover.proofs.Arriving.{rises_at}
use Rattle.pair_changeover.proofs.Counted.{Counts}
use Rattle.pair_rises.proofs.Covers.{each}
use Rattle.pair_rises.proofs.Alike.{IsLike}
use Rattle.pair_rises.proofs.Halves.{ft_settled, same_acked, same_accepted, was_settled}
use Rattle.pair_rises.proofs.Rising.{veils_at}

-- a link that isn't settled then, and the others as they were
less_then : (k : ℕ) (s t f g : State) → is_settled k t ≡ false → ((l : ℕ) → (k == l) ≡ false → slice_get t.links l ≡ slice_get s.links l)
    → ((l : ℕ) → (k == l) ≡ false → slice_get g.links l ≡ slice_get f.links l)
    → ((l : ℕ) → is_settled l s ≡ true → acked_on l s ≤ accepted_on l f) → (l : ℕ) → is_settled l t ≡ true → acked_on l t ≤ accepted_on l g
less_then k s t f g unsettled near far less = each k (λ l. is_settled l t ≡ true → acked_on l t ≤ accepted_on l g) (λ e. ft_settled k t unsettled e)
    (λ l d e.
    let few = less l (ap link_is_settled (sym (near l d)) ∙ e) in
    let acked : acked_on l t ≡ acked_on l s = ap acked_of (near l d) in
    let accepted : accepted_on l g ≡ accepted_on l f = ap accepted_of (far l d) in
    omega (arith, few, acked, accepted))

-- A LIFE BEGINS
pub begins_counts : (k : ℕ) (s f : State) → IsSound s → IsSound f → is_settled k s ≡ true → is_settled k f ≡ true → Counts s f
    → Counts (step s (UpEvent k)).state (veil (dormant f.settings) k f)
begins_counts k s f sound far_sound near_settled far_settled c =
    let near_at = settled_at k s near_settled in
    let far_at = settled_at k f far_settled in
    let a = rises_at k s sound near_at.0 near_at.1 in
    let b = veils_at k f far_sound far_at.0 far_at.1 in
    record {
      near = less_then k s (step s (UpEvent k)).state f (veil (dormant f.settings) k f) a.unsettled_then a.links b.links c.near;
      far = less_then k f (veil (dormant f.settings) k f) s (step s (UpEvent k)).state b.unsettled_then b.links a.links c.far;
    }

-- THE OTHER END JOINS IT
pub joins_counts : (k : ℕ) (s f : State) → IsSound s → (link : LinkState) → IsAt k link Settled s → Counts (veil (dormant s.settings) k s) f → Counts (step s (UpEvent k)).state f
joins_counts k s f sound link at c =
    let a = rises_at k s sound link at in
    let b = veils_at k s sound link at in
    record {
      near = less_then k (veil (dormant s.settings) k s) (step s (UpEvent k)).state f f a.unsettled_then (λ l d. a.links l d ∙ sym (b.links l d)) (λ l d. refl) c.near;
      far = each k (λ l. is_settled l f ≡ true → acked_on l f ≤ accepted_on l (step s (UpEvent k)).state)
          (λ e. let few = c.far k e in let none = b.accepted_then in let then = a.accepted_then in omega (arith, few, none, then))
          (λ l d e.
          let few = c.far l e in
          let same : accepted_on l (step s (UpEvent k)).state ≡ accepted_on l (veil (dormant s.settings) k s) = ap accepted_of (a.links l d ∙ sym (b.links l d)) in
          omega (arith, few, same));
    }

-- A LINK IS SHOWN AS ANOTHER
pub shows_counts : (k : ℕ) (s f : State) (link new : LinkState) → slice_get s.links k ≡ Some link → IsLike link new → Counts s f → Counts (veil new k s) f
shows_counts k s f link new there is c = record {
  near = λ l e.
      let few = c.near l (was_settled k s f link new there is l e) in
      let same = same_acked k s f link new there is l in
      omega (arith, few, same);
  far = λ l e.
      let few = c.far l e in
      let same = same_accepted k s f link new there is l in
      omega (arith, few, same);
}

-- where each settled link counts just what was accepted
pub halves_count : (s f : State) → ((l : ℕ) → is_settled l s ≡ true → acked_on l s ≡ accepted_on l f) → ((l : ℕ) → is_settled l f ≡ true → acked_on l f ≡ accepted_on l s)
    → Counts s f
halves_count s f near far = record {
  near = λ l e. let same = near l e in omega (arith, same);
  far = λ l e. let same = far l e in omega (arith, same);
}
