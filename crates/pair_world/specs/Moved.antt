-- MOVES THAT ARE CARRIED OUT one after another, where links may come up at one end alone.
use Rattle.std.specs.Prelude.{◌≡◌, ◌≢◌, ℕ, suc, List, [], ◌∷◌, Result, MatchResult}
use Rattle.set_events.specs.declared.config.SetConfig.{SetConfig}
use Rattle.pair_world.specs.declared.fault.PlayFault.{PlayFault}
use Rattle.pair_world.specs.declared.fault.PlayFault.TheVariants.{NoMemory, Impossible, Exhausted, Links, Profile}
use Rattle.pair_world.specs.Carried.{ArePair}
use Rattle.pair_model.specs.Run.{Played, leads_to, stops_at, is_full_at, goes_on, begun}
use Rattle.pair_model.specs.World.{World}
use Rattle.pair_rises.specs.declared.moves.Move.{Move}
use Rattle.pair_rises.specs.Rises.{moved}

-- what they lead to, from a world and with the place of the first
abbrev pub moved_from : ℕ → World → List Move → Played
moved_from place w [] = leads_to w
moved_from place w (move ∷ moves) = goes_on place (moved w move) (λ new. moved_from (suc place) new moves)

-- THE RUN from two configurations
abbrev pub played_by : SetConfig → SetConfig → List Move → Played
played_by a b moves = moved_from 0 (begun a b).world moves

pub record MovesLeadTo (a b : SetConfig) (moves : List Move) (world : World) : Type 0 where
  pub pair : ArePair a b
  pub world_is : played_by a b moves ≡ leads_to world

-- why it leads to no world: the links are tested first, then the profiles, then move by move
abbrev pub MovesFail : PlayFault → SetConfig → SetConfig → List Move → Type 0
MovesFail NoMemory a b moves = ArePair a b
MovesFail (Impossible place) a b moves = ArePair a b × (played_by a b moves ≡ stops_at place)
MovesFail Exhausted a b moves = ArePair a b × ((place : ℕ) × (played_by a b moves ≡ is_full_at place))
MovesFail Links a b moves = a.links ≢ b.links
MovesFail Profile a b moves = (a.links ≡ b.links) × (a.profile ≢ b.profile)

abbrev pub ArePlayed : Result World PlayFault → SetConfig → SetConfig → List Move → Type 0
ArePlayed result a b moves =
    MatchResult result (λ world. MovesLeadTo a b moves world) (λ fault. MovesFail fault a b moves)
