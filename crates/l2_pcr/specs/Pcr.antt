-- Error control by preventive cyclic retransmission (Q.703 6), as functions of its state and of the
-- link's window.
use Rattle.std.specs.Prelude.{◌≡◌, ◌≢◌, ℕ, ◌+◌, ◌-◌, ◌<◌, ◌≤◌, Bool, true, false, not, ◌&&◌, ◌||◌, ◌==◌, nat_lt, nat_le, if◌then◌else◌, Some, None, [], drop, length, slice_get}
use Rattle.l2_units.specs.declared.unit.Header.{Header}
use Rattle.l2_window.specs.Window.{WindowState, Sends, fsn_at, last_fsn, distance_to, most_unacked}
use Rattle.l2_window.specs.Control.{IsMessageAnd, IsFillAnd, has_new, header_of, bsn_of, fsn_after, acked_where, window_where}
use Rattle.l2_window.specs.declared.control.Choice.{Choice}
use Rattle.l2_window.specs.declared.control.Choice.TheVariants.{Again, First, Fill}
use Rattle.l2_window.specs.declared.control.Sending.{Sending}
use Rattle.l2_window.specs.declared.control.HeardPart.{HeardPart}
use Rattle.l2_units.specs.declared.cause.ControlFault.TheVariants.{Bsn}

-- what contracts see of one end's control, beside its window
pub record PcrState : Type 0 where
  -- so many unacknowledged messages, or so many octets of them, force a retransmission (Q.703 6.4.2)
  pub n1 : ℕ
  pub n2 : ℕ
  -- the FSN that is expected (FSNX), 0 at first: the number before it was last accepted, and is sent as BSN
  pub expected : ℕ
  -- the place of the unacknowledged message that is next in the cycle
  pub place : ℕ
  -- a forced cycle goes on
  pub forced : Bool
  -- whether the last unit heard, and the one before it, had an abnormal BSN
  pub bsns : Bool × Bool

-- at the beginning of a link's life
abbrev pub start : ℕ → ℕ → PcrState
start n1 n2 = record {
  n1 = n1;
  n2 = n2;
  expected = 0;
  place = 0;
  forced = false;
  bsns = (false, false);
}

-- WHAT IS SENT NEXT.

-- a place in the cycle of so many messages: past the last comes the first
abbrev pub round : ℕ → ℕ → ℕ
round messages place = if nat_lt place messages then place else 0

-- (Q.703 6.4.1) N1 messages are unacknowledged, or messages of N2 octets
abbrev pub is_over_a_limit : PcrState → WindowState → ℕ → Bool
is_over_a_limit state window octets = nat_le state.n1 (length window.unacked) || nat_le state.n2 octets

-- (Q.703 6.4.1) there is something to send again, and a forced cycle goes on or starts now
abbrev pub is_forced : PcrState → WindowState → ℕ → Bool
is_forced state window octets =
    nat_lt 0 (length window.unacked) && (state.forced || is_over_a_limit state window octets)

-- where the cycle is; a forced one starts with the oldest message (own)
abbrev pub cycle_place : Bool → PcrState → WindowState → ℕ
cycle_place starts state window = if starts then 0 else round (length window.unacked) state.place

-- (Q.703 6.4.1) a forced cycle goes first; (Q.703 6.3.2) else new messages, and with none the cycle goes on
abbrev pub choice_of : ℕ → PcrState → WindowState → Choice
choice_of octets state window =
    if is_forced state window octets then Again (cycle_place (not state.forced) state window)
    else (if has_new window then First
    else (if nat_lt 0 (length window.unacked) then Again (cycle_place false state window)
    else Fill))

-- the header of each unit sent: the BSN is the FSN last accepted, the indicator bits are always 1 (Q.703 6)
abbrev pub head_of : PcrState → WindowState → ℕ → Header
head_of state window fsn = header_of (bsn_of state.expected window) true fsn true

-- the control when that is sent: a forced cycle ends with the last message
abbrev pub control_after : Choice → ℕ → PcrState → WindowState → PcrState
control_after (Again place) octets state window = record state {
  place = round (length window.unacked) (place + 1);
  forced = is_forced state window octets && nat_lt (place + 1) (length window.unacked);
}
control_after First octets state window = state
control_after Fill octets state window = state

-- The same as relations of a sending, of the control and of the window before and after.

-- the header of each unit sent: the BSN is the FSN last accepted, the indicator bits are always 1 (Q.703 6)
pub record IsHead (state : PcrState) (window : WindowState) (number : ℕ) (head : Header) : Type 0 where
  pub bsn : head.bsn ≡ bsn_of state.expected window
  pub bib : head.bib ≡ true
  pub fsn : head.fsn ≡ number
  pub fib : head.fib ≡ true

-- the unacknowledged message at this place is sent again, and the next one is due
pub record Repeats (place : ℕ) (forced : Bool) (old new : PcrState)
    (window window' : WindowState) (message : ℕ) (head : Header) : Type 0 where
  pub at_place : slice_get window.unacked place ≡ Some message
  pub header : IsHead old window (fsn_at window place) head
  pub moves_on : new ≡ record old { place = round (length window.unacked) (place + 1); forced = forced }
  pub same_window : window' ≡ window

-- the first unsent message is sent for the first time
pub record SendsNew (old new : PcrState) (window window' : WindowState) (message : ℕ) (head : Header) : Type 0 where
  pub first_unsent : Sends message window window'
  pub header : IsHead old window (fsn_at window (length window.unacked)) head
  pub same_control : new ≡ old

-- a FISU with the FSN of the last message sent
pub record Fills (old new : PcrState) (window window' : WindowState) (head : Header) : Type 0 where
  pub header : IsHead old window (last_fsn window) head
  pub same_control : new ≡ old
  pub same_window : window' ≡ window

pub record IsNext (octets : ℕ) (old new : PcrState) (window window' : WindowState) (sending : Sending) : Type 0 where
  -- (Q.703 6.4.1) a forced cycle sends all unacknowledged messages, and ends with the last
  pub forced : is_forced old window octets ≡ true → let place = cycle_place (not old.forced) old window in
      IsMessageAnd sending (Repeats place (nat_lt (place + 1) (length window.unacked)) old new window window')
  -- (Q.703 6.3.2) else new messages go first, with at most 127 unacknowledged (wide: 4,095)
  pub sends : is_forced old window octets ≡ false → window.unsent ≢ [] → length window.unacked < most_unacked window.profile
      → IsMessageAnd sending (SendsNew old new window window')
  -- (Q.703 6.3.2) with no new one the unacknowledged ones are sent cyclically
  pub cyclic : is_forced old window octets ≡ false → window.unsent ≡ [] → 0 < length window.unacked
      → IsMessageAnd sending (Repeats (cycle_place false old window) false old new window window')
  pub full : is_forced old window octets ≡ false → most_unacked window.profile ≤ length window.unacked
      → IsMessageAnd sending (Repeats (cycle_place false old window) false old new window window')
  pub idle : is_forced old window octets ≡ false → window.unsent ≡ [] → window.unacked ≡ []
      → IsFillAnd sending (Fills old new window window')

-- WHAT A HEARD FISU OR MSU MEANS.

-- (Q.703 6.3.1) neither the number last acknowledged nor that of an unacknowledged message
abbrev pub has_abnormal_bsn : WindowState → Header → Bool
has_abnormal_bsn window head = nat_lt (length window.unacked) (distance_to window head.bsn)

-- a unit with an abnormal number is discarded whole
abbrev pub is_processed : WindowState → Header → Bool
is_processed window head = not (has_abnormal_bsn window head)

-- (Q.703 6.2.2) an MSU is accepted with the number after the one last accepted, whatever its indicator
-- bits are, and nothing is ever asked for
abbrev pub is_accepted : PcrState → WindowState → Header → Bool → Bool
is_accepted state window head is_msu =
    not (has_abnormal_bsn window head) && (is_msu && (head.fsn == state.expected))

-- two of three consecutive units: this one and one of the two before it
abbrev pub is_second : Bool → Bool × Bool → Bool
is_second abnormal before = abnormal && (before.0 || before.1)

abbrev pub acked_by : WindowState → Header → ℕ
acked_by window head = acked_where (is_processed window head) window head

abbrev pub part_of : PcrState → WindowState → Header → Bool → HeardPart
part_of state window head is_msu = record {
  acked = acked_by window head;
  accept = is_accepted state window head is_msu;
  asked = false;
  resend = false;
  fault = if is_second (has_abnormal_bsn window head) state.bsns then Some Bsn else None;
}

-- the window when the unit was heard
abbrev pub window_heard : WindowState → Header → WindowState
window_heard window head = window_where (is_processed window head) window head

-- the control when the unit was heard
abbrev pub control_heard : PcrState → WindowState → Header → Bool → PcrState
control_heard state window head is_msu =
    let left = length (window_heard window head).unacked in
    let due = state.place - acked_by window head in
    record state {
      -- (Q.703 6.2.2) the FSN of an accepted message is the BSN from now on
      expected = if is_accepted state window head is_msu then fsn_after head.fsn window else state.expected;
      -- the cycle goes on at the message that was due, or with the oldest where that one left
      place = if has_abnormal_bsn window head then state.place else round left due;
      -- a forced cycle ends where none of its messages is left
      forced = if has_abnormal_bsn window head then state.forced else state.forced && nat_lt due left;
      bsns = (has_abnormal_bsn window head, state.bsns.0);
    }

-- The same as a relation of the control and of the window before and after.
pub record Hears (head : Header) (is_msu : Bool) (old new : PcrState)
    (window window' : WindowState) (part : HeardPart) : Type 0 where
  -- (Q.703 6.3.1) the messages up to the BSN are acknowledged, and only they
  pub acked : part.acked ≡ (if has_abnormal_bsn window head then 0 else distance_to window head.bsn)
  pub acknowledges : window' ≡ record window {
    last = if has_abnormal_bsn window head then window.last else head.bsn;
    unacked = drop part.acked window.unacked;
  }
  -- (Q.703 6.2.2) the FSN of an accepted message is the BSN from now on
  pub accept : part.accept ≡ is_accepted old window head is_msu
  pub expected : new.expected ≡ (if part.accept then fsn_after head.fsn window else old.expected)
  pub asked : part.asked ≡ false
  pub resend : part.resend ≡ false
  -- the cycle goes on at the message that was due, or with the oldest where that one left
  pub place : new.place
      ≡ (if has_abnormal_bsn window head then old.place else round (length window'.unacked) (old.place - part.acked))
  -- a forced cycle ends where none of its messages is left
  pub forced : new.forced
      ≡ (if has_abnormal_bsn window head then old.forced
      else old.forced && nat_lt (old.place - part.acked) (length window'.unacked))
  -- two abnormal ones in three consecutive units are told
  pub fault : part.fault ≡ (if is_second (has_abnormal_bsn window head) old.bsns then Some Bsn else None)
  pub bsns : new.bsns ≡ (has_abnormal_bsn window head, old.bsns.0)
  pub limits : (new.n1 ≡ old.n1) × (new.n2 ≡ old.n2)
