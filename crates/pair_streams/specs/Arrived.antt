-- WHEN ALL HAS ARRIVED: what an operator can read off a world.
use Rattle.std.specs.Prelude.{◌≡◌, ◌<◌, ℕ, List, [], ◌∷◌, ◌++◌, ◌⊎◌, Some}
use Rattle.set_events.specs.declared.answer.Counts.{Counts}
use Rattle.set_events.specs.declared.answer.DiscardCause.TheVariants.{Emergency}
use Rattle.set_events.specs.declared.answer.Fate.TheVariants.{Discarded}
use Rattle.set_events.specs.declared.config.SetConfig.{SetConfig}
use Rattle.set_model.specs.History.{LinkSet}
use Rattle.set_model.specs.Rows.{place}
use Rattle.set_model.specs.State.{State}
use Rattle.pair_steps.specs.declared.step.End.TheVariants.{A, B}
use Rattle.pair_steps.specs.declared.step.Step.{Step}
use Rattle.pair_model.specs.Promises.{AreSteps, IsSoundRun, IsQuietRun}
use Rattle.pair_model.specs.Run.{Message, Past, Stage, begun, bodies, passed, OnShows}
use Rattle.pair_model.specs.World.{World, counts_at, carried_out}
use Rattle.pair_streams.specs.Handed.{bodies_of, taken_of}
use Rattle.pair_streams.specs.Streams.{IsIn}

-- every message of an end's users is acknowledged, or was discarded
pub record AreDone (counts : Counts) : Type 0 where
  pub none_waiting : counts.waiting ≡ 0
  pub none_unacked : counts.unacked ≡ 0
  pub none_held : counts.held ≡ 0
  pub none_parked : counts.parked ≡ 0
  pub none_back : counts.back ≡ 0

pub record IsIdle (w : World) : Type 0 where
  pub at_a : AreDone (counts_at w A)
  pub at_b : AreDone (counts_at w B)

-- what holds where a run of steps ends, if each can be done
abbrev pub HoldsAtEnd : (Stage → Type 0) → Stage → List Step → Type 0
HoldsAtEnd P g [] = P g
HoldsAtEnd P g (step ∷ steps) =
    OnShows (carried_out g.world step) (λ shown new. HoldsAtEnd P (passed g step shown new) steps)

-- the users of each end got all that the other's users offered
abbrev pub AllGot : Stage → Type 0
AllGot g = (stream : ℕ) → stream < 16 → (g.b.got stream ≡ g.a.offered stream) × (g.a.got stream ≡ g.b.offered stream)

-- whichever sound run led to this world
abbrev pub AllArrived : World → Type 0
AllArrived w =
    (a b : SetConfig) (steps : List Step) → IsSoundRun a b steps
    → HoldsAtEnd (λ g. g.world ≡ w → AllGot g) (begun a b) steps

-- the bodies that the users of an end took of a stream, and then those that wait in its inbox for them, are all that the
-- other's users offered, in order: so once Take is refused for want of any, they took them all
abbrev pub HandsOutAll : ℕ → Past → LinkSet → Type 0
HandsOutAll stream far set = taken_of stream set ++ bodies_of stream set.state.inbox ≡ bodies (far.offered stream)

abbrev pub AllHanded : Stage → Type 0
AllHanded g = (stream : ℕ) → stream < 16 → HandsOutAll stream g.b g.world.a × HandsOutAll stream g.a g.world.b

-- whichever sound run led to this world
abbrev pub AllTaken : World → Type 0
AllTaken w =
    (a b : SetConfig) (steps : List Step) → IsSoundRun a b steps
    → HoldsAtEnd (λ g. g.world ≡ w → AllHanded g) (begun a b) steps

-- each message that was offered at an end was got at the other, or discarded in an emergency
abbrev pub IsToldOf : Past → Past → State → Type 0
IsToldOf near far s =
    (stream : ℕ) → stream < 16 → (message : Message) → IsIn message (near.offered stream)
    → IsIn message (far.got stream) ⊎ (place message.number s.rows ≡ Some (Discarded Emergency))

abbrev pub AllToldOf : Stage → Type 0
AllToldOf g = IsToldOf g.a g.b g.world.a.state × IsToldOf g.b g.a g.world.b.state

-- whichever quiet run led to this world
abbrev pub AllAccounted : World → Type 0
AllAccounted w =
    (a b : SetConfig) (steps : List Step) → IsQuietRun a b steps
    → HoldsAtEnd (λ g. g.world ≡ w → AllToldOf g) (begun a b) steps
