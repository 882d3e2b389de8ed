-- STEPS THAT ARE CARRIED OUT one after another. `IsUnderWay` is the invariant of the loop: what the steps that are left
-- lead to from here is what all of them lead to from the start. `stops` tells it of the step that fails; that a run whose
-- first step can be done begins well goes by induction over the steps behind it. `leads` and `fails` tell the same of two
-- configurations, from whose world the steps began, so that World::play answers for them. Used by World::carry_out_all
-- and World::play (src/world.rt).
use Rattle.std.proofs.Common.{arith, ◌≡◌, ◌∙◌, ◌<◌, ap, subst, sym, ℕ, suc, List, [], ◌∷◌, length, drop, drop-cons, get_or}
use Rattle.set_events.specs.declared.config.SetConfig.{SetConfig}
use Rattle.pair_steps.specs.declared.step.Step.{Step}
use Rattle.pair_model.specs.World.{World, Outcome, shows, impossible, exhausted, carried_out}
use Rattle.pair_model.specs.Run.{leads_to, goes_on, played_from}
use Rattle.pair_world.specs.declared.fault.PlayFault.{PlayFault}
use Rattle.pair_world.specs.declared.fault.PlayFault.TheVariants.{NoMemory, Impossible, Exhausted, Links, Profile}
use Rattle.pair_world.specs.Carried.{IsBegun, BeginsWell, CanBeDone, Fails, FailsAlong, fault_at, played, LeadsTo, FailsToPlay}

-- what is left of the steps completes the run
abbrev pub IsUnderWay : World → List Step → ℕ → World → Type 0
IsUnderWay start steps place world = played_from 0 start steps ≡ played_from place world (drop place steps)

-- behind the first step
later : (place : ℕ) (w : World) (steps : List Step) → BeginsWell (played_from (suc place) w steps)
later place w [] = tt
later place w (step ∷ steps) = by (carried_out w step) (λ new. later (suc place) new steps)
  where
    by : (outcome : Outcome) → ((new : World) → BeginsWell (played_from (suc (suc place)) new steps))
        → BeginsWell (goes_on (suc place) outcome (λ new. played_from (suc (suc place)) new steps))
    by (shows shown new) next = next new
    by impossible next = omega arith
    by exhausted next = omega arith

begins : (place : ℕ) (w : World) (step : Step) (steps : List Step) → CanBeDone (carried_out w step) → BeginsWell (played_from place w (step ∷ steps))
begins place w step steps = by (carried_out w step)
  where
    by : (outcome : Outcome) → CanBeDone outcome → BeginsWell (goes_on place outcome (λ new. played_from (suc place) new steps))
    by (shows shown new) can = later place new steps
    by impossible can = absurd can
    by exhausted can = absurd can

-- the step at this place fails
pub stops : (start : World) (steps : List Step) (place : ℕ) (w : World) (step : Step) (fault told : PlayFault)
    → IsUnderWay start steps place w → place < length steps → step ≡ get_or steps place step
    → told ≡ fault_at place fault → Fails fault (carried_out w step)
    → FailsAlong told (played_from 0 start steps)
stops start steps place w step fault told way within there told_is f =
    subst (λ (t : PlayFault). FailsAlong t (played_from 0 start steps)) (sym told_is) (by fault f)
  where
    left : List Step
    left = drop (suc place) steps

    same : played_from 0 start steps ≡ played_from place w (step ∷ drop (suc place) steps)
    same =
        way ∙ ap (played_from place w)
        (drop-cons steps place step within ∙ ap (λ (s : Step). s ∷ drop (suc place) steps) (sym there))

    by : (fault : PlayFault) → Fails fault (carried_out w step) → FailsAlong (fault_at place fault) (played_from 0 start steps)
    by NoMemory f = subst BeginsWell (sym same) (begins place w step left f)
    by (Impossible inner) f = same ∙ ap (λ (o : Outcome). goes_on place o (λ new. played_from (suc place) new left)) f.1
    by Exhausted f = (place, same ∙ ap (λ (o : Outcome). goes_on place o (λ new. played_from (suc place) new left)) f)
    by Links f = absurd f
    by Profile f = absurd f

-- from a world of two configurations
module _ (a b : SetConfig) (steps : List Step) (start : World) (is : IsBegun a b start) where
  same : played a b steps ≡ played_from 0 start steps
  same = ap (λ (w : World). played_from 0 w steps) (sym is.world_is)

  pub leads : (world : World) → played_from 0 start steps ≡ leads_to world → LeadsTo a b steps world
  leads world e = record { pair = is.pair; world_is = same ∙ e }

  pub fails : (fault : PlayFault) → FailsAlong fault (played_from 0 start steps) → FailsToPlay fault a b steps
  fails NoMemory f = is.pair
  fails (Impossible place) f = (is.pair, same ∙ f)
  fails Exhausted f = (is.pair, (f.0, same ∙ f.1))
  fails Links f = absurd f
  fails Profile f = absurd f
