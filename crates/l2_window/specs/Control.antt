-- What both error controls share: what is sent next, and what a heard unit does to the window.
use Rattle.std.specs.Prelude.{ℕ, ◌+◌, ◌%◌, Bool, ◌&&◌, nat_lt, drop, length, if◌then◌else◌}
use Rattle.l2_units.specs.Grammar.{low_12}
use Rattle.l2_units.specs.declared.unit.Header.{Header}
use Rattle.l2_window.specs.Window.{WindowState, fsn_at, last_fsn, distance_to, fsn_count, fsn_before_first, most_unacked}
use Rattle.l2_window.specs.declared.control.Choice.{Choice}
use Rattle.l2_window.specs.declared.control.Choice.TheVariants.{Again, First, Fill as NoMessage}
use Rattle.l2_window.specs.declared.control.Sending.{Sending}
use Rattle.l2_window.specs.declared.control.Sending.TheVariants.{Message, Fill}

-- WHAT IS SENT NEXT.

-- (Q.703 5.2.2) a message can be sent for the first time while fewer than 127 are unacknowledged
abbrev pub has_new : WindowState → Bool
has_new window = nat_lt 0 (length window.unsent) && nat_lt (length window.unacked) (most_unacked window.profile)

-- (Q.703 5.2.1) the FSN of what is sent: the message's own, or in a FISU that of the last message sent
abbrev pub fsn_of : Choice → WindowState → ℕ
fsn_of (Again place) window = fsn_at window place
fsn_of First window = fsn_at window (length window.unacked)
fsn_of NoMessage window = last_fsn window

-- a header has numbers of 12 bits at most
abbrev pub header_of : ℕ → Bool → ℕ → Bool → Header
header_of bsn bib fsn fib = record {
  bsn = bsn % 4096;
  bib = bib;
  fsn = fsn % 4096;
  fib = fib;
  bsn_in_range = low_12 bsn;
  fsn_in_range = low_12 fsn;
}

-- the BSN is the FSN last accepted: the number before the one that is expected (FSNX)
abbrev pub bsn_of : ℕ → WindowState → ℕ
bsn_of expected window = (expected + fsn_before_first window.profile) % fsn_count window.profile

-- the number after this one, cyclically
abbrev pub fsn_after : ℕ → WindowState → ℕ
fsn_after number window = (number + 1) % fsn_count window.profile

-- it is a message, with this fact of it and its header
abbrev pub IsMessageAnd : Sending → (ℕ → Header → Type 0) → Type 0
IsMessageAnd (Message number head) P = P number head
IsMessageAnd (Fill head) P = ⊥

-- it is a FISU, with this fact of its header
abbrev pub IsFillAnd : Sending → (Header → Type 0) → Type 0
IsFillAnd (Message number head) P = ⊥
IsFillAnd (Fill head) P = P head

-- WHAT A HEARD UNIT DOES TO THE WINDOW, where it is processed or else discarded whole: the messages
-- up to its BSN are acknowledged, and only they (Q.703 5.3.1, 6.3.1).
abbrev pub acked_where : Bool → WindowState → Header → ℕ
acked_where processed window head = if processed then distance_to window head.bsn else 0

abbrev pub window_where : Bool → WindowState → Header → WindowState
window_where processed window head = record window {
  last = if processed then head.bsn else window.last;
  unacked = drop (acked_where processed window head) window.unacked;
}
