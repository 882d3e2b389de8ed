-- WHICH LIVES OF A LINK AN END CAN MEET, in the runs in which links come up one after the other.
use Rattle.std.specs.Prelude.{◌≡◌, ℕ, Bool, true, false, List}
use Rattle.set_events.specs.declared.config.SetConfig.{SetConfig}
use Rattle.set_model.specs.State.{is_settled, is_up}
use Rattle.pair_steps.specs.declared.step.End.{End}
use Rattle.pair_model.specs.World.{at_end, other}
use Rattle.pair_rises.specs.declared.moves.Move.{Move}
use Rattle.pair_rises.specs.Rises.{awaited, Rising, opening, open_at, HoldsAllAlong, IsRun}

pub record StandsApart (g : Rising) : Type 0 where
  -- an end that has settled a link, and isn't awaited: the link isn't up at the other
  pub settled : (end : End) (link : ℕ) → is_settled link (at_end g.stage.world end).state ≡ true → (open_at g end link ≡ awaited → ⊥)
      → is_up link (at_end g.stage.world (other end)).state ≡ false
  -- one that is awaited has settled it, and the other hasn't
  pub waits : (end : End) (link : ℕ) → open_at g end link ≡ awaited → is_settled link (at_end g.stage.world end).state ≡ true
  pub awaits : (end : End) (link : ℕ) → open_at g end link ≡ awaited → is_settled link (at_end g.stage.world (other end)).state ≡ false

-- LAW
abbrev pub EachEndStandsApart : Type 0
EachEndStandsApart =
    (emergencies : Bool) (a b : SetConfig) (moves : List Move) → IsRun emergencies a b moves → HoldsAllAlong StandsApart (opening a b) moves
