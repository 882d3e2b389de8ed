-- THE FISU OF AN END THAT SENT AND ACCEPTED NOTHING yet, as a terminal sends it before its set has the link up (Q.703
-- 12.1). To a set that has the link up, and heard nothing of the far end's error control since, it says nothing.
use Rattle.std.specs.Prelude.{◌≡◌, ◌<◌, ℕ, true, false, ◌==◌, length, Some, None, slice_get}
use Rattle.l2_basic.specs.Basic as basic
use Rattle.l2_pcr.specs.Pcr as cyclic
use Rattle.l2_units.specs.declared.unit.Header.{Header}
use Rattle.l2_units.specs.declared.profile.Profile.{Profile}
use Rattle.l2_window.specs.Window.{fsn_before_first}
use Rattle.set_events.specs.declared.answer.Answer.{Answer}
use Rattle.set_events.specs.declared.answer.Report.{Report}
use Rattle.set_events.specs.declared.answer.Took.{Took}
use Rattle.set_events.specs.declared.event.Event.{Event}
use Rattle.l2_units.specs.declared.unit.Unit.{Unit as SignalUnit}
use Rattle.set_model.specs.Control.{Control, Basic, Cyclic}
use Rattle.set_model.specs.Rows.{unack}
use Rattle.set_model.specs.Sound.{IsSound}
use Rattle.set_model.specs.State.{LinkState, State, has_phase_up, is_up}
use Rattle.set_model.specs.Step.{step}

-- nothing was accepted, and nothing sent; no retransmission is asked for
pub record IsFirstHead (profile : Profile) (head : Header) : Type 0 where
  pub bsn : head.bsn ≡ fsn_before_first profile
  pub bib : head.bib ≡ true
  pub fsn : head.fsn ≡ fsn_before_first profile
  pub fib : head.fib ≡ true

-- the error control is as at its start, but for what it sent; with so many messages unacknowledged
abbrev pub HasHeardNone : Control → ℕ → Type 0
HasHeardNone (Basic state) unacked = record state { cursor = 0 } ≡ basic.start
HasHeardNone (Cyclic state) unacked =
    (record state { place = 0; forced = false } ≡ cyclic.start state.n1 state.n2)
    × (state.forced ≡ true → state.place < unacked)

pub record IsUnheard (link : LinkState) (unacked : ℕ) : Type 0 where
  pub acked : link.acked ≡ 0
  pub control : HasHeardNone link.control unacked

-- a link that is up has heard nothing of the far end's error control since it came up
abbrev pub HearsNoneYet : ℕ → State → Type 0
HearsNoneYet number s =
    (link : LinkState) → slice_get s.links number ≡ Some link → has_phase_up link.phase ≡ true
    → IsUnheard link (length (unack number s.rows))

-- it isn't heard on this link
abbrev pub IsNotHeardOn : ℕ → Event → Type 0
IsNotHeardOn number (Event.Heard link unit) = (link == number) ≡ false
IsNotHeardOn number _ = Unit {0}

abbrev pub nothing_new : Report
nothing_new = record { acked = 0; took = Took.Nothing; asked = false; resend = false; fault = None }

-- such a FISU changes nothing there, and the set answers so
pub record ChangesNothing (number : ℕ) (head : Header) (s : State) : Type 0 where
  pub answer : (step s (Event.Heard number (SignalUnit.Fisu head))).answer ≡ Answer.Heard nothing_new
  pub state : (step s (Event.Heard number (SignalUnit.Fisu head))).state ≡ s

-- LAWS
abbrev pub FirstFisusChangeNothing : Type 0
FirstFisusChangeNothing =
    (number : ℕ) (head : Header) (s : State) → IsSound s → is_up number s ≡ true → HearsNoneYet number s
    → IsFirstHead s.settings.profile head → ChangesNothing number head s

-- that's so from when the link comes up, whatever is sent on it, till something is heard on it
abbrev pub NoneIsHeardTillThen : Type 0
NoneIsHeardTillThen =
    (number : ℕ) (s : State) (event : Event) → IsNotHeardOn number event → HearsNoneYet number s
    → HearsNoneYet number (step s event).state
