-- What contracts see of a queue of messages.
use Rattle.std.specs.Prelude.{◌≡◌, ℕ, ◌≤◌, List}

pub record QueueState : Type 0 where
  -- oldest first
  pub messages : List ℕ
  -- how many pushes can't fail
  pub room : ℕ

-- new has the messages of old, and no less room
pub record SameQueue (old new : QueueState) : Type 0 where
  pub messages : new.messages ≡ old.messages
  pub room : old.room ≤ new.room
