-- WHAT EACH LINK KEEPS in its present life, in the runs in which links come up one after the other. It's told of each link
-- as it's seen.
use Rattle.std.specs.Prelude.{◌≡◌, ℕ, Bool, true, false, List, []}
use Rattle.set_events.specs.declared.config.SetConfig.{SetConfig}
use Rattle.pair_steps.specs.declared.step.End.{End}
use Rattle.pair_steps.specs.declared.step.Step.TheVariants.{Together}
use Rattle.pair_model.specs.Promises.{IsOneMethod, IsHonestStep, LinksKeep, TellsNoFault}
use Rattle.pair_model.specs.Run.{past_at}
use Rattle.pair_rises.specs.declared.moves.Move.{Move}
use Rattle.pair_rises.specs.declared.moves.Move.TheVariants.{Step as MoveStep, Rise, Fill}
use Rattle.pair_rises.specs.Rises.{Rising, opening, is_first, is_covered, open_at, as_seen, AreMoves, HoldsAllAlong, HoldsAtEachMove, HoldsBefore}

-- HONEST RUNS: no unit is heard that wasn't sent; a changeover may be given up, and a changeback go home unacknowledged
abbrev pub IsHonestMove : Move → Type 0
IsHonestMove (MoveStep (Together link)) = ⊥
IsHonestMove (MoveStep step) = IsHonestStep step
IsHonestMove (Rise end link) = Unit {0}
IsHonestMove (Fill end link) = Unit {0}

-- A life that is on at the other end is joined where this end is outside of it: no link comes up at an end in a life that
-- it left. It may have missed it: what a link keeps doesn't ask whether the other end left that life.
abbrev pub MayComeUp : Bool → Rising → End → ℕ → Type 0
MayComeUp true g end link = Unit {0}
MayComeUp false g end link = is_covered (open_at g end link) ≡ true

abbrev pub MayGoOn : Rising → Move → Type 0
MayGoOn g (MoveStep step) = Unit {0}
MayGoOn g (Rise end link) = MayComeUp (is_first g.stage.world end link) g end link
MayGoOn g (Fill end link) = is_covered (open_at g end link) ≡ true

pub record IsHonestRunOfMoves (a b : SetConfig) (moves : List Move) : Type 0 where
  pub links : a.links ≡ b.links
  pub profiles : a.profile ≡ b.profile
  pub one_method : IsOneMethod a.method b.method
  pub moves_are : AreMoves IsHonestMove moves
  pub may : HoldsBefore MayGoOn (opening a b) moves

-- an end that isn't in a life, since it hasn't joined it yet or missed it, sent and accepted nothing in it
abbrev pub NothingOutside : Rising → Type 0
NothingOutside g =
    (end : End) (link : ℕ) → is_covered (open_at g end link) ≡ true
    → ((past_at g.stage end).sent link ≡ []) × ((past_at g.stage end).taken link ≡ [])

pub record LinksAreKept (g : Rising) (moves : List Move) : Type 0 where
  pub links : HoldsAllAlong (λ g. LinksKeep (as_seen g)) g moves
  pub outside : HoldsAllAlong NothingOutside g moves
  pub no_fault : HoldsAtEachMove (λ before move shown after. TellsNoFault shown) g moves

-- LAW
abbrev pub EveryHonestRisingRunKeepsLinks : Type 0
EveryHonestRisingRunKeepsLinks =
    (a b : SetConfig) (moves : List Move) → IsHonestRunOfMoves a b moves
    → LinksAreKept (opening a b) moves
