-- THE ERROR CONTROL OF A LINK, by its method (Q.703 5 and 6). What each control chooses and hears
-- stands beside it, in l2_basic and l2_pcr; here the two are joined.
use Rattle.std.specs.Prelude.{ℕ, Bool}
pub use Rattle.l2_units.specs.declared.unit.Header.{Header}
use Rattle.l2_window.specs.Window.{WindowState}
use Rattle.l2_window.specs.Control.{acked_where, window_where}
pub use Rattle.l2_window.specs.declared.control.HeardPart.{HeardPart}
use Rattle.l2_basic.specs.Basic as basic
use Rattle.l2_pcr.specs.Pcr as cyclic
pub use Rattle.set_events.specs.declared.config.Method.{Method}
pub use Rattle.set_events.specs.declared.config.Method.TheVariants.{Basic as BasicMethod, Cyclic as CyclicMethod}
-- what is sent next: the unacknowledged message at a place again, the first unsent one, or a FISU
pub use Rattle.l2_window.specs.declared.control.Choice.{Choice}
pub use Rattle.l2_window.specs.declared.control.Choice.TheVariants.{Again as again, First as first, Fill as fill}
-- the FSN and the header of what is sent
pub use Rattle.l2_window.specs.Control.{fsn_of, header_of}

-- the state of a link's error control, by its method
pub data Control : Type 0 where
  Basic : basic.BasicState → Control
  Cyclic : cyclic.PcrState → Control

-- at the beginning of a link's life
abbrev pub start_of : Method → Control
start_of BasicMethod = Basic basic.start
start_of (CyclicMethod n1 n2) = Cyclic (cyclic.start n1 n2)

-- the FSN that is expected, the one after that last accepted
abbrev pub expected_of : Control → ℕ
expected_of (Basic state) = state.expected
expected_of (Cyclic state) = state.expected

-- WHAT IS SENT NEXT, where the bodies of the unacknowledged messages have so many octets.
abbrev pub choice_of : ℕ → Control → WindowState → Choice
choice_of octets (Basic state) window = basic.choice_of state window
choice_of octets (Cyclic state) window = cyclic.choice_of octets state window

-- the header of a unit with this FSN
abbrev pub head_of : Control → WindowState → ℕ → Header
head_of (Basic state) window fsn = basic.head_of state window fsn
head_of (Cyclic state) window fsn = cyclic.head_of state window fsn

-- the control when that is sent
abbrev pub control_after : Choice → ℕ → Control → WindowState → Control
control_after choice octets (Basic state) window = Basic (basic.control_after choice state window)
control_after choice octets (Cyclic state) window = Cyclic (cyclic.control_after choice octets state window)

-- WHAT A HEARD FISU OR MSU MEANS.

-- a unit that isn't processed is discarded whole (Q.703 5.3.1, 5.3.2, 6.3.1)
abbrev pub is_processed : Control → WindowState → Header → Bool
is_processed (Basic state) window head = basic.is_processed state window head
is_processed (Cyclic state) window head = cyclic.is_processed window head

abbrev pub acked_by : Control → WindowState → Header → ℕ
acked_by control window head = acked_where (is_processed control window head) window head

abbrev pub part_of : Control → WindowState → Header → Bool → HeardPart
part_of (Basic state) window head is_msu = basic.part_of state window head is_msu
part_of (Cyclic state) window head is_msu = cyclic.part_of state window head is_msu

-- the window when the unit was heard
abbrev pub window_heard : Control → WindowState → Header → WindowState
window_heard control window head = window_where (is_processed control window head) window head

-- the control when the unit was heard
abbrev pub control_heard : Control → WindowState → Header → Bool → Control
control_heard (Basic state) window head is_msu = Basic (basic.control_heard state window head is_msu)
control_heard (Cyclic state) window head is_msu = Cyclic (cyclic.control_heard state window head is_msu)
