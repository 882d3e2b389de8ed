-- WHAT USERS TAKE in the runs in which links come up one after the other: that's told of the sets as they are, as users
-- see them.
use Rattle.std.specs.Prelude.{◌≡◌, List, [], ◌∷◌, true, false}
use Rattle.set_events.specs.declared.config.SetConfig.{SetConfig}
use Rattle.pair_model.specs.Run.{OnShows}
use Rattle.pair_model.specs.World.{World}
use Rattle.pair_streams.specs.Arrived.{IsIdle, AllGot, AllHanded, AllToldOf}
use Rattle.pair_streams.specs.Handed.{UsersTakeAll, UsersTakeFirst, UsersTakePart}
use Rattle.pair_rises.specs.declared.moves.Move.{Move}
use Rattle.pair_rises.specs.Kept.{IsHonestRunOfMoves}
use Rattle.pair_rises.specs.Rises.{Rising, opening, moved, moved_on, HoldsAllAlong, IsRun}

-- WHERE NOTHING IS LEFT at either end, by the counts of the users' messages

-- the users of each end got all that the other's users offered, and took it, or find it in the inbox
abbrev pub HandsOutWhereIdle : Rising → Type 0
HandsOutWhereIdle g = IsIdle g.stage.world → AllGot g.stage × AllHanded g.stage

-- in emergencies they got each message, or it was discarded in one
abbrev pub AccountsWhereIdle : Rising → Type 0
AccountsWhereIdle g = IsIdle g.stage.world → AllToldOf g.stage

-- what holds where a run ends, if each move can be made
abbrev pub HoldsAtLast : (Rising → Type 0) → Rising → List Move → Type 0
HoldsAtLast P g [] = P g
HoldsAtLast P g (move ∷ moves) = OnShows (moved g.stage.world move) (λ shown new. HoldsAtLast P (moved_on g move shown new) moves)

-- whichever run led to this world, without emergencies or with them
abbrev pub AllHandedByMoves : World → Type 0
AllHandedByMoves w =
    (a b : SetConfig) (moves : List Move) → IsRun false a b moves
    → HoldsAtLast (λ g. g.stage.world ≡ w → AllGot g.stage × AllHanded g.stage) (opening a b) moves

abbrev pub AllAccountedByMoves : World → Type 0
AllAccountedByMoves w =
    (a b : SetConfig) (moves : List Move) → IsRun true a b moves
    → HoldsAtLast (λ g. g.stage.world ≡ w → AllToldOf g.stage) (opening a b) moves

-- LAWS
abbrev pub EveryRisingRunHandsOutInOrder : Type 0
EveryRisingRunHandsOutInOrder =
    (a b : SetConfig) (moves : List Move) → IsRun false a b moves
    → HoldsAllAlong (λ g. UsersTakeFirst g.stage) (opening a b) moves

abbrev pub EveryRisingRunHandsOutAPart : Type 0
EveryRisingRunHandsOutAPart =
    (a b : SetConfig) (moves : List Move) → IsRun true a b moves
    → HoldsAllAlong (λ g. UsersTakePart g.stage) (opening a b) moves

abbrev pub EveryHonestRisingRunHandsOutAll : Type 0
EveryHonestRisingRunHandsOutAll =
    (a b : SetConfig) (moves : List Move) → IsHonestRunOfMoves a b moves
    → HoldsAllAlong (λ g. UsersTakeAll g.stage) (opening a b) moves

abbrev pub EveryIdleRisingRunHandsOutAll : Type 0
EveryIdleRisingRunHandsOutAll =
    (a b : SetConfig) (moves : List Move) → IsRun false a b moves
    → HoldsAllAlong HandsOutWhereIdle (opening a b) moves

abbrev pub EveryIdleRisingRunAccountsForAll : Type 0
EveryIdleRisingRunAccountsForAll =
    (a b : SetConfig) (moves : List Move) → IsRun true a b moves
    → HoldsAllAlong AccountsWhereIdle (opening a b) moves
