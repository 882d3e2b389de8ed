-- A LIFE THAT AN END MISSES IS COUNTED: by then its set heard one late order more about the link. So whoever is about to bring
-- the link up, and ends that where the count has changed since, doesn't bring it up in that life.
use Rattle.std.specs.Prelude.{◌≡◌, ℕ, Bool, List}
use Rattle.set_events.specs.declared.config.SetConfig.{SetConfig}
use Rattle.set_model.specs.Changeover.{one_later}
use Rattle.set_model.specs.State.{late_at}
use Rattle.pair_steps.specs.declared.step.End.{End}
use Rattle.pair_model.specs.World.{at_end}
use Rattle.pair_rises.specs.declared.moves.Move.{Move}
use Rattle.pair_rises.specs.Rises.{awaited, missed, Rising, opening, open_at, HoldsAtEachMove, IsRun}

abbrev pub IsCounted : Rising → Rising → Type 0
IsCounted g then =
    (end : End) (link : ℕ) → open_at g end link ≡ awaited → open_at then end link ≡ missed
    → late_at link (at_end then.stage.world end).state ≡ one_later (late_at link (at_end g.stage.world end).state)

-- LAW
abbrev pub EveryMissedLifeIsCounted : Type 0
EveryMissedLifeIsCounted =
    (emergencies : Bool) (a b : SetConfig) (moves : List Move) → IsRun emergencies a b moves
    → HoldsAtEachMove (λ before move shown after. IsCounted before after) (opening a b) moves
