-- PENDING: what stands at an end and the far end hasn't accepted. Copies under way, losses and acknowledgements change
-- nothing of it.
use Rattle.std.specs.Prelude.{ℕ, ◌-◌, List, ◌++◌, drop, slice_get, Option, Some, None}
use Rattle.set_model.specs.Rows.{Row, unack, wait, held, parked, back}
use Rattle.set_model.specs.State.{LinkState, State, last_accepted}
use Rattle.pair_model.specs.Run.{Message, messages}

-- what an end counts on a link: its own messages that are acknowledged, and the far end's that it accepted
abbrev pub acked_of : Option LinkState → ℕ
acked_of None = 0
acked_of (Some link) = link.acked

abbrev pub acked_on : ℕ → State → ℕ
acked_on link s = acked_of (slice_get s.links link)

abbrev pub accepted_of : Option LinkState → ℕ
accepted_of None = 0
accepted_of (Some link) = link.accepted

abbrev pub accepted_on : ℕ → State → ℕ
accepted_on link s = accepted_of (slice_get s.links link)

-- the FSN that its end tells: that last accepted
abbrev pub last_of : Option LinkState → ℕ
last_of None = 0
last_of (Some link) = last_accepted link

abbrev pub last_on : ℕ → State → ℕ
last_on link s = last_of (slice_get s.links link)

-- PENDING: the messages of a link but the first so many of the unacknowledged, in the order of sending
abbrev pub queue : ℕ → ℕ → List Row → List Message
queue count link rows = messages (drop count (unack link rows) ++ wait link rows ++ held link rows)

-- those are the ones that the far end accepted
abbrev pub pending : ℕ → State → State → List Message
pending link near far = queue (accepted_on link far - acked_on link near) link near.rows

abbrev pub aside : State → List Message
aside s = messages (parked s.rows)

-- what waits here for an acknowledgement of a changeback
abbrev pub kept_back : State → List Message
kept_back s = messages (back s.rows)
