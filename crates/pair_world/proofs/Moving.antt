-- MOVES THAT ARE CARRIED OUT one after another, as Playing.antt has it of steps: `IsUnderWay` is the invariant of the
-- loop, `stops` tells of the move that fails, and `leads` and `fails` tell the same of two configurations, from whose
-- world the moves began. Used by World::make_all and World::play_moves (src/rising.rt).
use Rattle.std.proofs.Common.{arith, ◌≡◌, ◌∙◌, ◌<◌, ap, subst, sym, ℕ, suc, List, [], ◌∷◌, length, drop, drop-cons, get_or}
use Rattle.set_events.specs.declared.config.SetConfig.{SetConfig}
use Rattle.pair_model.specs.World.{World, Outcome, shows, impossible, exhausted}
use Rattle.pair_model.specs.Run.{leads_to, goes_on}
use Rattle.pair_rises.specs.declared.moves.Move.{Move}
use Rattle.pair_rises.specs.Rises.{moved}
use Rattle.pair_world.specs.declared.fault.PlayFault.{PlayFault}
use Rattle.pair_world.specs.declared.fault.PlayFault.TheVariants.{NoMemory, Impossible, Exhausted, Links, Profile}
use Rattle.pair_world.specs.Carried.{IsBegun, BeginsWell, CanBeDone, Fails, FailsAlong, fault_at}
use Rattle.pair_world.specs.Moved.{moved_from, played_by, MovesLeadTo, MovesFail}

-- what is left of the moves completes the run
abbrev pub IsUnderWay : World → List Move → ℕ → World → Type 0
IsUnderWay start moves place world = moved_from 0 start moves ≡ moved_from place world (drop place moves)

-- behind the first move
later : (place : ℕ) (w : World) (moves : List Move) → BeginsWell (moved_from (suc place) w moves)
later place w [] = tt
later place w (move ∷ moves) = by (moved w move) (λ new. later (suc place) new moves)
  where
    by : (outcome : Outcome) → ((new : World) → BeginsWell (moved_from (suc (suc place)) new moves))
        → BeginsWell (goes_on (suc place) outcome (λ new. moved_from (suc (suc place)) new moves))
    by (shows shown new) next = next new
    by impossible next = omega arith
    by exhausted next = omega arith

begins : (place : ℕ) (w : World) (move : Move) (moves : List Move) → CanBeDone (moved w move) → BeginsWell (moved_from place w (move ∷ moves))
begins place w move moves = by (moved w move)
  where
    by : (outcome : Outcome) → CanBeDone outcome → BeginsWell (goes_on place outcome (λ new. moved_from (suc place) new moves))
    by (shows shown new) can = later place new moves
    by impossible can = absurd can
    by exhausted can = absurd can

-- the move at this place fails
pub stops : (start : World) (moves : List Move) (place : ℕ) (w : World) (move : Move) (fault told : PlayFault)
    → IsUnderWay start moves place w → place < length moves → move ≡ get_or moves place move
    → told ≡ fault_at place fault → Fails fault (moved w move)
    → FailsAlong told (moved_from 0 start moves)
stops start moves place w move fault told way within there told_is f =
    subst (λ (t : PlayFault). FailsAlong t (moved_from 0 start moves)) (sym told_is) (by fault f)
  where
    left : List Move
    left = drop (suc place) moves

    same : moved_from 0 start moves ≡ moved_from place w (move ∷ drop (suc place) moves)
    same =
        way ∙ ap (moved_from place w)
        (drop-cons moves place move within ∙ ap (λ (m : Move). m ∷ drop (suc place) moves) (sym there))

    by : (fault : PlayFault) → Fails fault (moved w move) → FailsAlong (fault_at place fault) (moved_from 0 start moves)
    by NoMemory f = subst BeginsWell (sym same) (begins place w move left f)
    by (Impossible inner) f = same ∙ ap (λ (o : Outcome). goes_on place o (λ new. moved_from (suc place) new left)) f.1
    by Exhausted f = (place, same ∙ ap (λ (o : Outcome). goes_on place o (λ new. moved_from (suc place) new left)) f)
    by Links f = absurd f
    by Profile f = absurd f

-- from a world of two configurations
module _ (a b : SetConfig) (moves : List Move) (start : World) (is : IsBegun a b start) where
  same : played_by a b moves ≡ moved_from 0 start moves
  same = ap (λ (w : World). moved_from 0 w moves) (sym is.world_is)

  pub leads : (world : World) → moved_from 0 start moves ≡ leads_to world → MovesLeadTo a b moves world
  leads world e = record { pair = is.pair; world_is = same ∙ e }

  pub fails : (fault : PlayFault) → FailsAlong fault (moved_from 0 start moves) → MovesFail fault a b moves
  fails NoMemory f = is.pair
  fails (Impossible place) f = (is.pair, same ∙ f)
  fails Exhausted f = (is.pair, (f.0, same ∙ f.1))
  fails Links f = absurd f
  fails Profile f = absurd f
