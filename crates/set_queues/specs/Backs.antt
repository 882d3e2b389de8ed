-- What waits for the acknowledgement of a changeback (Q.704 6.3), by the home of its code: code / 16.
use Rattle.std.specs.Prelude.{◌≡◌, ℕ, zero, suc, ◌+◌, ◌*◌, ◌/◌, ◌<◌, ◌≤◌, [], length, slice_get, Option, Some, None}
use Rattle.set_queues.specs.Buffers.{Back, Lists, queue_at}

-- how many wait for so many codes, from this one on
unfoldable pub back_from : ℕ → ℕ → Lists → ℕ
back_from code zero q = 0
back_from code (suc n) q = back_from code n q + length (queue_at (Back (code + n)) q)

-- how many wait for a code of this home
abbrev pub back_count : ℕ → Lists → ℕ
back_count home q = back_from (16 * home) 16 q

-- of all that wait for a code of this home, the oldest stands first in the queue of this code
pub record IsOldest (home code : ℕ) (q : Lists) : Type 0 where
  pub of_home : code / 16 ≡ home
  pub below : code < 256
  pub number : ℕ
  pub first : slice_get (queue_at (Back code) q) 0 ≡ Some number
  pub least : (other m : ℕ) → other / 16 ≡ home → slice_get (queue_at (Back other) q) 0 ≡ Some m → number ≤ m

-- nothing waits for a code of this home
abbrev pub NoneBack : ℕ → Lists → Type 0
NoneBack home q = (code : ℕ) → code / 16 ≡ home → queue_at (Back code) q ≡ []

-- the code, if anything waits for one of this home
abbrev pub IsOldestOf : ℕ → Option ℕ → Lists → Type 0
IsOldestOf home (Some code) q = IsOldest home code q
IsOldestOf home None q = NoneBack home q
