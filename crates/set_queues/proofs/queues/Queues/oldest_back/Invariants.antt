use Rattle.std.proofs.Common.{◌≡◌, ◌*◌, ◌+◌, ◌<◌, ◌≤◌, [], ℕ, Option, Some, None, slice_get}
use Rattle.set_queues.specs.Buffers.{Back, Lists, queue_at}
use Rattle.set_queues.proofs.queues.Queues.oldest_back.Given as goal

-- of what waits for so many codes, from this one on, the oldest: its code and its number, if anything does
abbrev IsLeast : ℕ → ℕ → Option (ℕ × ℕ) → Lists → Type 0
IsLeast from n None q = (code : ℕ) → from ≤ code → code < from + n → queue_at (Back code) q ≡ []
IsLeast from n (Some head) q = record {
  above : from ≤ head.0;
  below : head.0 < from + n;
  first : slice_get (queue_at (Back head.0) q) 0 ≡ Some head.1;
  least : (other m : ℕ) → from ≤ other → other < from + n → slice_get (queue_at (Back other) q) 0 ≡ Some m → head.1 ≤ m;
}

abbrev pub invariant-loop-place : goal.invariant-loop-place
invariant-loop-place o l = IsLeast (16 * l.home) l.place l.oldest l.self.lists
