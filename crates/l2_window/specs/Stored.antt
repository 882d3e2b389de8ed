-- Under which condition the fields of a window stand for its lists.
use Rattle.std.specs.Prelude.{◌≡◌, ◌<◌, ◌≤◌, length}
use Rattle.l2_window.specs.declared.window.Window.TheInside.{Inside}
use Rattle.l2_window.specs.Window.{fsn_count, most_unacked}

-- there is storage for all unacknowledged messages
pub record IsStored {A : Type 0} (fields : Inside A) : Type 0 where
  pub most_is : fields.most ≡ most_unacked fields.profile
  pub last_in_range : fields.last < fsn_count fields.profile
  pub few : length fields.unacked.items ≤ most_unacked fields.profile
  pub storage : fields.unacked.capacity ≡ most_unacked fields.profile
