-- Messages are acknowledged.
use Rattle.std.specs.Prelude.{ℕ, ◌+◌, ◌-◌, ◌%◌, drop}
use Rattle.set_queues.specs.Buffers.{Unacked, Lists, queue_at, with_queue, last_at, profile_at, with_last}
use Rattle.l2_window.specs.Window.{fsn_count}

-- how many numbers, cyclically, from the one last acknowledged on the link up to this one
abbrev pub reach : ℕ → ℕ → Lists → ℕ
reach link fsn q = (fsn + fsn_count (profile_at link q) - last_at link q) % fsn_count (profile_at link q)

-- those up to the FSN are no longer unacknowledged
abbrev pub acknowledged : ℕ → ℕ → Lists → Lists
acknowledged link fsn q = with_last link fsn (with_queue (Unacked link) (drop
    (reach link fsn q) (queue_at (Unacked link) q)) q)
