-- WHAT ARRIVES at either end, case by case, once: on a link that is up it's heard, on any other it's lost (`arrives`).
use Rattle.std.proofs.Common.{refl, arith, ◌≡◌, ℕ, ◌<◌, Bool, true, false, List, [], ◌∷◌, length, cond}
use Rattle.std.proofs.lemmas.Bool.{ltb-true}
use Rattle.l2_units.specs.declared.unit.Unit.{Unit as SignalUnit}
use Rattle.pair_steps.specs.Lines.{units_on}
use Rattle.set_events.specs.declared.event.Event.TheVariants.{Heard as HeardEvent}
use Rattle.set_model.specs.declared.phase.Phase.TheVariants.{Up}
use Rattle.set_model.specs.State.{LinkState, is_up, link_count}
use Rattle.set_model.proofs.Walk.{IsAt}
use Rattle.pair_steps.specs.declared.step.End.{End}
use Rattle.pair_steps.specs.declared.step.End.TheVariants.{A, B}
use Rattle.pair_steps.specs.declared.step.Shown.{Shown}
use Rattle.pair_steps.specs.declared.step.Shown.TheVariants.{Answered, Lost}
use Rattle.pair_steps.specs.declared.step.Step.TheVariants.{Arrive}
use Rattle.pair_model.specs.World.{World, Outcome, shows, impossible, exhausted, with_end, with_line, line_to, answer_to, after, has_link, is_full, front_arrives, carried_out}
use Rattle.pair_model.specs.Run.{with_past, past_arrived, OnShows}
use Rattle.pair_model.proofs.Runs.{is_at_up}
use Rattle.pair_rises.specs.Rises.{Rising, with_open, covers_heard, moved_on}
use Rattle.pair_rises.specs.declared.moves.Move.TheVariants.{Step as MoveStep}

module _ (g : Rising) where
  abbrev w : World
  w = g.stage.world

  -- the stage then
  abbrev pub heard_a : ℕ → List SignalUnit → Shown → World → Rising
  heard_a k line shown new = with_open A (covers_heard w.a.state.settings.profile line shown g.open_a)
      (record g { stage = with_past A (past_arrived k line (g.stage.b.sent k) shown g.stage.a) new g.stage })

  abbrev pub heard_b : ℕ → List SignalUnit → Shown → World → Rising
  heard_b k line shown new = with_open B (covers_heard w.b.state.settings.profile line shown g.open_b)
      (record g { stage = with_past B (past_arrived k line (g.stage.a.sent k) shown g.stage.b) new g.stage })

  module _ (P : End → ℕ → Shown → Rising → Type 0) where
    abbrev IsHeardA : ℕ → List SignalUnit → Outcome → Type 0
    IsHeardA k line outcome = OnShows outcome (λ shown new. P A k shown (heard_a k line shown new))

    abbrev IsHeardB : ℕ → List SignalUnit → Outcome → Type 0
    IsHeardB k line outcome = OnShows outcome (λ shown new. P B k shown (heard_b k line shown new))

    abbrev ShowsA : ℕ → SignalUnit → List SignalUnit → Outcome
    ShowsA k unit rest = shows (Answered (answer_to w.a (HeardEvent k unit))) (with_end (with_line w A k rest) A (after w.a (HeardEvent k unit)))

    abbrev ShowsB : ℕ → SignalUnit → List SignalUnit → Outcome
    ShowsB k unit rest = shows (Answered (answer_to w.b (HeardEvent k unit))) (with_end (with_line w B k rest) B (after w.b (HeardEvent k unit)))

    pub record Cases : Type 0 where
      pub hears_a : (k : ℕ) (unit : SignalUnit) (rest : List SignalUnit) → k < length w.a.state.links → units_on k w.to_a ≡ unit ∷ rest
          → (link : LinkState) → IsAt k link Up w.a.state → IsHeardA k (unit ∷ rest) (ShowsA k unit rest)
      pub loses_a : (k : ℕ) (unit : SignalUnit) (rest : List SignalUnit) → k < length w.a.state.links → units_on k w.to_a ≡ unit ∷ rest
          → P A k Lost (heard_a k (unit ∷ rest) Lost (with_line w A k rest))
      pub hears_b : (k : ℕ) (unit : SignalUnit) (rest : List SignalUnit) → k < length w.b.state.links → units_on k w.to_b ≡ unit ∷ rest
          → (link : LinkState) → IsAt k link Up w.b.state → IsHeardB k (unit ∷ rest) (ShowsB k unit rest)
      pub loses_b : (k : ℕ) (unit : SignalUnit) (rest : List SignalUnit) → k < length w.b.state.links → units_on k w.to_b ≡ unit ∷ rest
          → P B k Lost (heard_b k (unit ∷ rest) Lost (with_line w B k rest))

    module _ (same : length w.b.state.links ≡ length w.a.state.links) (cases : Cases) where
      front_a : (k : ℕ) → k < length w.a.state.links → (line : List SignalUnit) → units_on k w.to_a ≡ line → IsHeardA k line (front_arrives w A k line)
      front_a k few [] e = tt
      front_a k few (unit ∷ rest) front = go (is_up k w.a.state) refl (has_link w k) (is_full w.a)
        where
          go : (up : Bool) → is_up k w.a.state ≡ up → (known full : Bool)
              → IsHeardA k (unit ∷ rest) (cond up (cond known (cond full exhausted (ShowsA k unit rest)) impossible) (shows Lost (with_line w A k rest)))
          go true e true true = tt
          go true e true false = let at = is_at_up k w.a.state e in cases.hears_a k unit rest few front at.0 at.1
          go true e false full = tt
          go false e known full = cases.loses_a k unit rest few front

      front_b : (k : ℕ) → k < length w.b.state.links → (line : List SignalUnit) → units_on k w.to_b ≡ line → IsHeardB k line (front_arrives w B k line)
      front_b k few [] e = tt
      front_b k few (unit ∷ rest) front = go (is_up k w.b.state) refl (has_link w k) (is_full w.b)
        where
          go : (up : Bool) → is_up k w.b.state ≡ up → (known full : Bool)
              → IsHeardB k (unit ∷ rest) (cond up (cond known (cond full exhausted (ShowsB k unit rest)) impossible) (shows Lost (with_line w B k rest)))
          go true e true true = tt
          go true e true false = let at = is_at_up k w.b.state e in cases.hears_b k unit rest few front at.0 at.1
          go true e false full = tt
          go false e known full = cases.loses_b k unit rest few front

      abbrev Goes : End → ℕ → Outcome → Type 0
      Goes end k outcome = OnShows outcome (λ shown new. P end k shown (moved_on g (MoveStep (Arrive end k)) shown new))

      at_end : (end : End) (k : ℕ) → k < length w.a.state.links → Goes end k (front_arrives w end k (line_to w end k))
      at_end A k few = front_a k few (units_on k w.to_a) refl
      at_end B k few = front_b k (omega (arith, few, same)) (units_on k w.to_b) refl

      pub arrives : (end : End) (k : ℕ) → Goes end k (carried_out w (Arrive end k))
      unfolding carried_out
      arrives end k = go (has_link w k) refl
        where
          go : (known : Bool) → has_link w k ≡ known → Goes end k (cond known (front_arrives w end k (line_to w end k)) impossible)
          go true e = at_end end k (ltb-true k (link_count w.a.state) e)
          go false e = tt
