-- TOGETHER IS A RISE AT EACH END: when the first came up the link isn't settled there any more, so the other joins.
use Rattle.std.proofs.Common.{slice_get, List, refl, ◌≡◌, ◌∙◌, ap, subst, ℕ, Bool, true, false, ◌&&◌, ◌||◌, nat_lt, cond}
use Rattle.set_events.specs.declared.event.Event.TheVariants.{Up as UpEvent}
use Rattle.set_model.specs.declared.phase.Phase.TheVariants.{Settled}
use Rattle.set_model.specs.State.{LinkState, State, late_at, is_settled, link_is_settled}
use Rattle.set_model.specs.Step.{opened_link, step, risen_link}
use Rattle.set_model.proofs.Lists.{set_twice, get_set_same, within}
use Rattle.set_model.proofs.Walk.{link_count_stays, IsAt}
use Rattle.pair_steps.specs.declared.step.End.TheVariants.{A, B}
use Rattle.pair_steps.specs.declared.step.Shown.TheVariants.{Up}
use Rattle.pair_steps.specs.declared.step.Step.TheVariants.{Together}
use Rattle.pair_model.specs.World.{World, shows, impossible, exhausted, after, is_full, has_link, risen, with_end, carried_out}
use Rattle.pair_model.proofs.Rising.{settled_at}
use Rattle.pair_rises.specs.Rises.{Rising, moved, emptied, AreTwoRises, TogetherIsTwoRises}
use Rattle.pair_rises.specs.declared.moves.Move.TheVariants.{Rise}

unsettled_then : (k : ℕ) (s : State) (link : LinkState) → IsAt k link Settled s → is_settled k (step s (UpEvent k)).state ≡ false
unfolding step
unsettled_then k s link at = rw (at.there, at.phase_is)
    (ap (λ (ls : List LinkState). link_is_settled (slice_get ls k)) (set_twice s.links k (risen_link s.settings.profile s.settings.method (late_at k s)) (opened_link (risen_link s.settings.profile s.settings.method (late_at k s))))
    ∙ ap link_is_settled (get_set_same s.links k (opened_link (risen_link s.settings.profile s.settings.method (late_at k s))) (within s.links k link at.there)))

module _ (g : Rising) (k : ℕ) where
  abbrev w : World
  w = g.stage.world

  abbrev between : World
  between = emptied k (with_end w A (after w.a (UpEvent k)))

  module _ (known : has_link w k ≡ true) (near : is_settled k w.a.state ≡ true) (far : is_settled k w.b.state ≡ true)
      (free : is_full w.a ≡ false) (far_free : is_full w.b ≡ false) where
    first : moved w (Rise A k) ≡ shows Up between
    first = rw (known, near, free, far) refl

    known_then : has_link between k ≡ true
    known_then = ap (nat_lt k) (link_count_stays w.a.state (UpEvent k)) ∙ known

    joins : is_settled k (step w.a.state (UpEvent k)).state ≡ false
    joins = let at = settled_at k w.a.state near in unsettled_then k w.a.state at.0 at.1

    second : moved between (Rise B k) ≡ shows Up (risen w k)
    second = rw (known_then, far, far_free, joins) refl

    two : AreTwoRises g k (risen w k)
    two = record { between = between; first = first; second = second; stage = rw (far, joins) refl }

  parts : (known near far full far_full : Bool) → has_link w k ≡ known → is_settled k w.a.state ≡ near → is_settled k w.b.state ≡ far
      → is_full w.a ≡ full → is_full w.b ≡ far_full → (new : World)
      → cond known (cond (near && far) (cond (full || far_full) exhausted (shows Up (risen w k))) impossible) impossible ≡ shows Up new
      → AreTwoRises g k new
  parts true true true false false a b c d e new is = let same : risen w k ≡ new = cc in subst (AreTwoRises g k) same (two a b c d e)
  parts true true true true far_full a b c d e new is = absurd cc
  parts true true true false true a b c d e new is = absurd cc
  parts true true false full far_full a b c d e new is = absurd cc
  parts true false far full far_full a b c d e new is = absurd cc
  parts false near far full far_full a b c d e new is = absurd cc

  pub is_two : (new : World) → carried_out w (Together k) ≡ shows Up new → AreTwoRises g k new
  unfolding carried_out
  is_two new is = parts (has_link w k) (is_settled k w.a.state) (is_settled k w.b.state) (is_full w.a) (is_full w.b) refl refl refl refl refl new is

pub together_is_two : TogetherIsTwoRises
together_is_two g link new is = is_two g link new is
