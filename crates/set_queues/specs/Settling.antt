-- A link settles: what stands on it goes elsewhere (Q.704 5.5).
use Rattle.std.specs.Prelude.{◌≡◌, ℕ, ◌++◌, List, [], true, false}
pub use Rattle.set_events.specs.Places.{fate_on}
use Rattle.set_queues.specs.Buffers.{Fate, Waiting, Unacked, Held, Lists, IsKnown, IsQueued, is_standing, same_fate, queue_at}
use Rattle.set_queues.specs.Queues.{passed}

-- what stands on a link: first what was sent, then what waits, then what is held
abbrev pub on : ℕ → Lists → List ℕ
on link q = queue_at (Unacked link) q ++ queue_at (Waiting link) q ++ queue_at (Held link) q

-- in that order it goes there
abbrev pub settled : ℕ → Fate → Lists → Lists
settled link to q = passed (Held link) to (passed (Waiting link) to (passed (Unacked link) to q))

-- LAW: nothing stands on the link then; all that stood on it stands last where it went, in its order; and no other
-- queue is touched
pub record Settles (link : ℕ) (to : Fate) (q : Lists) : Type 0 where
  pub unacked : queue_at (Unacked link) (settled link to q) ≡ []
  pub unsent : queue_at (Waiting link) (settled link to q) ≡ []
  pub held : queue_at (Held link) (settled link to q) ≡ []
  pub there : queue_at to (settled link to q) ≡ queue_at to q ++ on link q
  pub elsewhere : (f : Fate) → is_standing f ≡ true → same_fate to f ≡ false → same_fate
      (Unacked link) f ≡ false → same_fate (Waiting link) f ≡ false → same_fate (Held link) f
      ≡ false → queue_at f (settled link to q) ≡ queue_at f q

abbrev pub SettlingMovesTheQueues : Type 0
SettlingMovesTheQueues = (link : ℕ) (to : Fate) (q : Lists) → IsKnown (Unacked link) q
    → IsKnown to q → IsQueued to → same_fate to (Waiting link) ≡ false → same_fate to
    (Held link) ≡ false → Settles link to q
