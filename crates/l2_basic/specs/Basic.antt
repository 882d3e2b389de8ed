-- Basic error control (Q.703 5), as functions of its state and of the link's window.
use Rattle.std.specs.Prelude.{◌≡◌, ◌≢◌, ℕ, ◌+◌, ◌-◌, ◌<◌, ◌≤◌, Bool, true, false, not, ◌&&◌, ◌||◌, ◌==◌, nat_lt, if◌then◌else◌, Option, Some, None, [], drop, length, slice_get}
use Rattle.l2_units.specs.declared.unit.Header.{Header}
use Rattle.l2_window.specs.Window.{WindowState, Sends, fsn_at, last_fsn, distance_to, most_unacked}
use Rattle.l2_window.specs.Control.{IsMessageAnd, IsFillAnd, has_new, header_of, bsn_of, fsn_after, acked_where, window_where}
use Rattle.l2_window.specs.declared.control.Choice.{Choice}
use Rattle.l2_window.specs.declared.control.Choice.TheVariants.{Again, First, Fill}
use Rattle.l2_window.specs.declared.control.Sending.{Sending}
use Rattle.l2_window.specs.declared.control.HeardPart.{HeardPart}
use Rattle.l2_units.specs.declared.cause.ControlFault.{ControlFault}
use Rattle.l2_units.specs.declared.cause.ControlFault.TheVariants.{Bsn, Fib}

-- what contracts see of one end's control, beside its window
pub record BasicState : Type 0 where
  -- the FSN that is expected (FSNX), 0 at first: the number before it was last accepted, and is sent as BSN
  pub expected : ℕ
  -- the indicator bits as they are sent
  pub bib : Bool
  pub fib : Bool
  -- a negative acknowledgement was sent and not yet answered by a retransmission
  pub asked : Bool
  -- so many of the unacknowledged messages, oldest first, need no sending now
  pub cursor : ℕ
  -- whether the last unit heard, and the one before it, had an abnormal BSN; likewise FIB
  pub bsns : Bool × Bool
  pub fibs : Bool × Bool

-- at the beginning of a link's life
abbrev pub start : BasicState
start = record {
  expected = 0;
  bib = true;
  fib = true;
  asked = false;
  cursor = 0;
  bsns = (false, false);
  fibs = (false, false);
}

abbrev pub same : Bool → Bool → Bool
same true b = b
same false b = not b

-- WHAT IS SENT NEXT.

-- (Q.703 5.3.2) what waits for retransmission goes first, from the cursor on; new messages follow
abbrev pub choice_of : BasicState → WindowState → Choice
choice_of state window =
    if nat_lt state.cursor (length window.unacked) then Again state.cursor
    else (if has_new window then First else Fill)

-- the header of each unit sent (Q.703 5.2.2 to 5.2.4): the BSN is the FSN last accepted
abbrev pub head_of : BasicState → WindowState → ℕ → Header
head_of state window fsn = header_of (bsn_of state.expected window) state.bib fsn state.fib

-- the control when that is sent
abbrev pub control_after : Choice → BasicState → WindowState → BasicState
control_after (Again place) state window = record state { cursor = place + 1 }
control_after First state window = record state { cursor = length window.unacked + 1 }
control_after Fill state window = state

-- The same as relations of a sending, of the control and of the window before and after.

-- the header of each unit sent (Q.703 5.2.2 to 5.2.4): the BSN is the FSN last accepted
pub record IsHead (state : BasicState) (window : WindowState) (number : ℕ) (head : Header) : Type 0 where
  pub bsn : head.bsn ≡ bsn_of state.expected window
  pub bib : head.bib ≡ state.bib
  pub fsn : head.fsn ≡ number
  pub fib : head.fib ≡ state.fib

-- the message at the cursor is sent again
pub record Repeats (old new : BasicState) (window window' : WindowState) (message : ℕ) (head : Header) : Type 0 where
  pub at_cursor : slice_get window.unacked old.cursor ≡ Some message
  pub header : IsHead old window (fsn_at window old.cursor) head
  pub moves_on : new ≡ record old { cursor = old.cursor + 1 }
  pub same_window : window' ≡ window

-- the first unsent message is sent for the first time
pub record SendsNew (old new : BasicState) (window window' : WindowState) (message : ℕ) (head : Header) : Type 0 where
  pub first_unsent : Sends message window window'
  pub header : IsHead old window (fsn_at window (length window.unacked)) head
  pub past_it : new ≡ record old { cursor = length window.unacked + 1 }

-- a FISU with the FSN of the last message sent (Q.703 5.2.1)
pub record Fills (old new : BasicState) (window window' : WindowState) (head : Header) : Type 0 where
  pub header : IsHead old window (last_fsn window) head
  pub same_control : new ≡ old
  pub same_window : window' ≡ window

pub record IsNext (old new : BasicState) (window window' : WindowState) (sending : Sending) : Type 0 where
  -- (Q.703 5.3.2) while messages wait for retransmission, they are sent in sequence
  pub repeats : old.cursor < length window.unacked → IsMessageAnd sending (Repeats old new window window')
  -- (Q.703 5.3.2) new messages follow the last of those, (Q.703 5.2.2) with at most 127 unacknowledged (wide: 4,095)
  pub sends : length window.unacked ≤ old.cursor → window.unsent ≢ [] → length window.unacked < most_unacked window.profile
      → IsMessageAnd sending (SendsNew old new window window')
  pub idle : length window.unacked ≤ old.cursor → window.unsent ≡ []
      → IsFillAnd sending (Fills old new window window')
  pub full : length window.unacked ≤ old.cursor → most_unacked window.profile ≤ length window.unacked
      → IsFillAnd sending (Fills old new window window')

-- WHAT A HEARD FISU OR MSU MEANS.

-- (Q.703 5.3.1) neither the number last acknowledged nor that of an unacknowledged message
abbrev pub has_abnormal_bsn : WindowState → Header → Bool
has_abnormal_bsn window head = nat_lt (length window.unacked) (distance_to window head.bsn)

-- (Q.703 5.3.2) the start of a retransmission that nobody asked for; one fault a unit, the BSN's first
abbrev pub has_abnormal_fib : BasicState → WindowState → Header → Bool
has_abnormal_fib state window head =
    not (has_abnormal_bsn window head) && (not (same head.fib state.bib) && not state.asked)

-- a unit with an abnormal number or bit is discarded whole
abbrev pub is_processed : BasicState → WindowState → Header → Bool
is_processed state window head = not (has_abnormal_bsn window head) && not (has_abnormal_fib state window head)

-- (Q.703 5.2.2) the unit was sent after the far end heard our BIB as it is now
abbrev pub is_current : BasicState → WindowState → Header → Bool
is_current state window head = is_processed state window head && same head.fib state.bib

-- (Q.703 5.3.2) the far end's BIB differs from our FIB
abbrev pub wants_retransmission : BasicState → WindowState → Header → Bool
wants_retransmission state window head = is_processed state window head && not (same head.bib state.fib)

-- (Q.703 5.2.2) the number last accepted, and the one after it
abbrev pub is_repeated : BasicState → WindowState → Header → Bool
is_repeated state window head = head.fsn == bsn_of state.expected window

abbrev pub is_successor : BasicState → Header → Bool
is_successor state head = head.fsn == state.expected

-- (Q.703 5.2.2 c ii) an MSU is accepted
abbrev pub is_accepted : BasicState → WindowState → Header → Bool → Bool
is_accepted state window head is_msu = is_current state window head && (is_msu && is_successor state head)

-- (Q.703 5.2.2 a ii, c iii) a message is missing: an MSU that is neither the last one again nor the next,
-- or a FISU sent after a message that never came
abbrev pub is_missing_one : BasicState → WindowState → Header → Bool → Bool
is_missing_one state window head is_msu =
    is_current state window head && (not (is_repeated state window head) && not (is_msu && is_successor state head))

-- two of three consecutive units: this one and one of the two before it
abbrev pub is_second : Bool → Bool × Bool → Bool
is_second abnormal before = abnormal && (before.0 || before.1)

abbrev pub told_fault : Bool → Bool → BasicState → Option ControlFault
told_fault abnormal_bsn abnormal_fib state =
    if is_second abnormal_bsn state.bsns then Some Bsn
    else (if is_second abnormal_fib state.fibs then Some Fib else None)

abbrev pub acked_by : BasicState → WindowState → Header → ℕ
acked_by state window head = acked_where (is_processed state window head) window head

abbrev pub part_of : BasicState → WindowState → Header → Bool → HeardPart
part_of state window head is_msu = record {
  acked = acked_by state window head;
  accept = is_accepted state window head is_msu;
  asked = is_missing_one state window head is_msu;
  resend = wants_retransmission state window head;
  fault = told_fault (has_abnormal_bsn window head) (has_abnormal_fib state window head) state;
}

-- the window when the unit was heard
abbrev pub window_heard : BasicState → WindowState → Header → WindowState
window_heard state window head = window_where (is_processed state window head) window head

-- the control when the unit was heard
abbrev pub control_heard : BasicState → WindowState → Header → Bool → BasicState
control_heard state window head is_msu = record {
  -- (Q.703 5.2.2, 5.2.3) the FSN of an accepted message is the BSN from now on
  expected = if is_accepted state window head is_msu then fsn_after head.fsn window else state.expected;
  -- (Q.703 5.2.4) a negative acknowledgement inverts the BIB
  bib = if is_missing_one state window head is_msu then not state.bib else state.bib;
  -- (Q.703 5.3.2) where the far end asks for retransmission, the FIB becomes the BIB heard
  fib = if wants_retransmission state window head then head.bib else state.fib;
  -- what was asked is answered by the first unit whose FIB is the BIB
  asked = if is_current state window head then is_missing_one state window head is_msu else state.asked;
  -- all that is unacknowledged then waits for retransmission; else what did so still does
  cursor = if wants_retransmission state window head then 0 else state.cursor - acked_by state window head;
  bsns = (has_abnormal_bsn window head, state.bsns.0);
  fibs = (has_abnormal_fib state window head, state.fibs.0);
}

-- The same as a relation of the control and of the window before and after.
pub record Hears (head : Header) (is_msu : Bool) (old new : BasicState)
    (window window' : WindowState) (part : HeardPart) : Type 0 where
  -- (Q.703 5.3.1) the messages up to the BSN are acknowledged, and only they
  pub acked : part.acked ≡ (if is_processed old window head then distance_to window head.bsn else 0)
  pub acknowledges : window' ≡ record window {
    last = if is_processed old window head then head.bsn else window.last;
    unacked = drop part.acked window.unacked;
  }
  -- (Q.703 5.2.2, 5.2.3) the FSN of an accepted message is the BSN from now on
  pub accept : part.accept ≡ is_accepted old window head is_msu
  pub expected : new.expected ≡ (if part.accept then fsn_after head.fsn window else old.expected)
  -- (Q.703 5.2.4) a negative acknowledgement inverts the BIB
  pub asked : part.asked ≡ is_missing_one old window head is_msu
  pub bib : new.bib ≡ (if part.asked then not old.bib else old.bib)
  -- it is answered by the first unit whose FIB is the BIB
  pub still_asked : new.asked ≡ (if is_current old window head then part.asked else old.asked)
  -- (Q.703 5.3.2) a negative acknowledgement starts a retransmission, and the FIB becomes the BIB heard
  pub resend : part.resend ≡ wants_retransmission old window head
  pub fib : new.fib ≡ (if part.resend then head.bib else old.fib)
  -- all that is unacknowledged then waits for retransmission; else what did so still does
  pub cursor : new.cursor ≡ (if part.resend then 0 else old.cursor - part.acked)
  -- (Q.703 5.3.1, 5.3.2) two abnormal ones in three consecutive units are told
  pub fault : part.fault ≡ told_fault (has_abnormal_bsn window head) (has_abnormal_fib old window head) old
  pub bsns : new.bsns ≡ (has_abnormal_bsn window head, old.bsns.0)
  pub fibs : new.fibs ≡ (has_abnormal_fib old window head, old.fibs.0)
