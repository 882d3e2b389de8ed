-- WHAT HOLDS OF EVERY SET'S STATE. Every event keeps it.
use Rattle.std.specs.Prelude.{◌≡◌, ◌≢◌, ℕ, Bool, true, false, not, ◌==◌, ◌&&◌, ◌||◌, ◌+◌, ◌%◌, ◌≤◌, ◌<◌, List, [], ◌∷◌, length, filter, slice_get, Some}
use Rattle.set_events.specs.declared.event.Event.{Event}
use Rattle.set_events.specs.declared.event.Event.TheVariants.{Restore}
use Rattle.set_route.specs.Routing.{Routing, IsRouting, home_of, code_of, via_of, owed_under, place_of, has_messages, most_links}
use Rattle.set_model.specs.Rows.{Fate, Back, Row, was_acked, was_discarded, is_on, is_back, is_parked, is_users, users, stream_of, unack, held, on, back, parked, numbers, Each, IsNumbered, AreFit, AreMarked, IsInOrder, IsHeldLast}
use Rattle.set_model.specs.Control.{Method, BasicMethod, CyclicMethod, Control, Basic, Cyclic, expected_of}
use Rattle.set_model.specs.State.{Place, On, Changing, Nowhere, Code, LinkState, State, Settings, given, link_is_open, open_link, carries, has_phase_up, has_phase_settled}
use Rattle.l2_window.specs.Window.{fsn_count, most_unacked}

-- A LINK.

-- the control is of the set's method
abbrev pub IsOf : Method → Control → Type 0
IsOf BasicMethod (Basic state) = Unit {0}
IsOf (CyclicMethod n1 n2) (Cyclic state) = (state.n1 ≡ n1) × (state.n2 ≡ n2)
IsOf _ _ = ⊥

-- with so many messages unacknowledged: the cursor isn't past the last one; the cycle is at one of them, or at its
-- beginning
abbrev pub IsInRange : Control → ℕ → Type 0
IsInRange (Basic state) unacked = state.cursor ≤ unacked
IsInRange (Cyclic state) unacked = state.place ≢ 0 → state.place < unacked

-- at most 127 of its messages are unacknowledged (Q.703 5.2.2), and its BSNs are those of the bodies that were
-- accepted; what was sent stands before what waits, and that before what is held; nothing is held for a link that is up, no
-- user's message stands on one that is up but isn't open, and none at all on one that settled
pub record IsSoundLink (settings : Settings) (number : ℕ) (link : LinkState) (rows : List Row) : Type 0 where
  pub profile : link.profile ≡ settings.profile
  pub window : length (unack number rows) ≤ most_unacked link.profile
  pub counted : expected_of link.control ≡ link.accepted % fsn_count link.profile
  pub method : IsOf settings.method link.control
  pub in_order : IsInOrder number rows
  pub held_last : IsHeldLast number rows
  pub none_held : has_phase_up link.phase ≡ true → held number rows ≡ []
  pub no_users : has_phase_up link.phase ≡ true → open_link link ≡ false → users (on number rows) ≡ []
  pub in_range : has_phase_up link.phase ≡ true → IsInRange link.control (length (unack number rows))
  pub settled : has_phase_settled link.phase ≡ true → on number rows ≡ []

-- A STREAM.

-- it can still be moved: it isn't acknowledged, nor given up
abbrev pub is_unfinished : Fate → Bool
is_unfinished fate = not (was_acked fate || was_discarded fate)

-- where messages stand whose stream runs there
abbrev pub stands_at : Place → Fate → Bool
stands_at (On link) fate = is_on link fate
stands_at (Changing to code via) fate = is_on via fate || is_back code fate
stands_at Nowhere fate = is_parked fate

-- an unfinished message of a user, of this stream
abbrev pub is_live : ℕ → Row → Bool
is_live stream row = is_users row && ((stream_of row.body == stream) && is_unfinished row.fate)

abbrev pub live : ℕ → List Row → List Row
live stream rows = filter (is_live stream) rows

-- that stands elsewhere than the stream runs
abbrev pub is_astray : ℕ → Place → Row → Bool
is_astray stream place row = is_live stream row && not (stands_at place row.fate)

abbrev pub astray : ℕ → Place → List Row → List Row
astray stream place rows = filter (is_astray stream place) rows

abbrev pub AreAbove : ℕ → List ℕ → Type 0
AreAbove n ms = Each (λ m. n < m) ms

abbrev pub IsAscending : List ℕ → Type 0
IsAscending [] = Unit {0}
IsAscending (n ∷ ns) = AreAbove n ns × IsAscending ns

-- on a link of the set that can carry it, or from one, or nowhere
abbrev pub IsPlaced : List LinkState → Place → Type 0
IsPlaced links (On number) =
    (link : LinkState) × (slice_get links number ≡ Some link) × (carries link ≡ true)
IsPlaced links (Changing to code via) =
    (link : LinkState) × (slice_get links via ≡ Some link) × (carries link ≡ true)
IsPlaced links Nowhere = Unit {0}

-- its unfinished messages stand in the order of their numbers, and all where it runs; one that never had a message
-- has none
pub record IsSoundStream (stream : ℕ) (place : Place) (used : Bool) (rows : List Row) : Type 0 where
  pub in_order : IsAscending (numbers (live stream rows))
  pub together : astray stream place rows ≡ []
  pub unused : used ≡ false → live stream rows ≡ []

-- A CHANGEBACK.

-- what waits for an acknowledgement is a user's, of a stream that waits for it
abbrev pub IsBackOf : Routing → Row → Fate → Type 0
IsBackOf routing row (Back code) =
    (is_users row ≡ true) × (stream_of row.body < 16)
    × (via : ℕ) × (place_of (stream_of row.body) routing ≡ Changing (home_of code) code via)
IsBackOf routing row _ = Unit {0}

abbrev pub AreBack : Routing → List Row → Type 0
AreBack routing rows = Each (λ row. IsBackOf routing row row.fate) rows

-- the home of an open code is open, and the link from which its streams come can carry them; each acknowledgement that is
-- owed is that of a message
pub record IsSoundCode (links : List LinkState) (given code : ℕ) (was : Code) : Type 0 where
  pub home_open : (via : ℕ) → via_of was ≡ Some via → link_is_open (slice_get links (home_of code)) ≡ true
  pub via_stands : (via : ℕ) → via_of was ≡ Some via → IsPlaced links (On via)
  pub few : owed_under was ≤ given

-- THE SET.

-- its orders are the management's (Q.704 14.2.1)
abbrev pub IsManaged : Settings → Type 0
IsManaged settings = settings.sio % 16 ≡ 0

-- what a set can be opened with
pub record IsSettings (settings : Settings) : Type 0 where
  pub some_link : 1 ≤ settings.links
  pub at_most_16 : settings.links ≤ most_links
  pub managed : IsManaged settings

pub record IsSound (s : State) : Type 0 where
  pub managed : IsManaged s.settings
  pub routing : IsRouting s.routing
  pub routed : s.routing.links ≡ s.settings.links
  pub count : length s.links ≡ s.settings.links
  -- each row has a number of its own, below how many were given out
  pub numbered : IsNumbered (given s) s.rows
  pub fit : AreFit s.settings.profile s.rows
  pub marked : AreMarked s.rows
  pub links : (number : ℕ) (link : LinkState) → slice_get s.links number ≡ Some link
      → IsSoundLink s.settings number link s.rows
  pub placed : (stream : ℕ) → stream < 16 → IsPlaced s.links (place_of stream s.routing)
  -- while a link is open nothing is parked, and no stream runs nowhere
  pub none_aside : (number : ℕ) (link : LinkState) → slice_get s.links number ≡ Some link
      → open_link link ≡ true → parked s.rows ≡ []
  pub all_run : (number : ℕ) (link : LinkState) → slice_get s.links number ≡ Some link
      → open_link link ≡ true → (stream : ℕ) → stream < 16 → place_of stream s.routing ≢ Nowhere
  pub codes : (code : ℕ) → IsSoundCode s.links (given s) code (code_of code s.routing)
  -- what stands back does so in the order of its numbers
  pub backs : AreBack s.routing s.rows
  pub back_order : IsAscending (numbers (back s.rows))

-- Each stream's unfinished messages stand together where it runs. That is so while no changeback is under way: one that
-- isn't acknowledged in time, or whose acknowledgement comes unasked, parts them.
abbrev pub AreTogether : State → Type 0
AreTogether s = (stream : ℕ) → stream < 16
    → IsSoundStream stream (place_of stream s.routing) (has_messages stream s.routing) s.rows

-- no changeback begins
abbrev pub BeginsNone : Event → Type 0
BeginsNone (Restore link) = ⊥
BeginsNone _ = Unit {0}

-- THE WHOLE NUMBERS of a link's life: the messages that were sent on it, and the bodies that it accepted
pub record WholeNumbers : Type 0 where
  pub sent : ℕ
  pub accepted : ℕ

abbrev pub one_more : WholeNumbers → WholeNumbers
one_more most = record { sent = most.sent + 1; accepted = most.accepted + 1 }

pub record AreFewOn (most : WholeNumbers) (number : ℕ) (link : LinkState) (rows : List Row) : Type 0 where
  pub sent : link.acked + length (unack number rows) ≤ most.sent
  pub accepted : link.accepted ≤ most.accepted

-- those of each link are at most this
abbrev pub AreAtMost : (ℕ → WholeNumbers) → State → Type 0
AreAtMost most s =
    (number : ℕ) (link : LinkState) → slice_get s.links number ≡ Some link
    → AreFewOn (most number) number link s.rows

abbrev pub AreFew : ℕ → State → Type 0
AreFew events s = AreAtMost (λ number. record { sent = events; accepted = events }) s
