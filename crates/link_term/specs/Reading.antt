-- A MARK BY THE UNIT THAT IT BRINGS, if any: what a terminal makes of it (Q.703 5 to 10).
use Rattle.std.specs.Prelude.{ℕ, Option}
use Rattle.l2_units.specs.declared.status.Status.{Status}
use Rattle.l2_align.specs.declared.signals.AlignIn.{AlignIn}
use Rattle.l2_state.specs.declared.signals.StateIn.{StateIn}
use Rattle.l2_units.specs.declared.unit.Unit.{Unit as SignalUnit}
use Rattle.l2_units.specs.Grammar.{head_of}
use Rattle.set_events.specs.declared.answer.Report.{Report}
use Rattle.set_events.specs.declared.event.Event.{Event}
use Rattle.term_model.specs.Hearing.{is_error, judged, heard, flow_hears, reported, acks, faults}
use Rattle.term_model.specs.Machines.{align_in, state_in}
use Rattle.term_model.specs.Talk.{Talk, ask, and_then}
use Rattle.term_model.specs.Terminal.{Terminal}

-- a mark that brings this unit, or none: the monitor that runs, and then the machines and the set
abbrev pub brings : Option SignalUnit → Terminal → Talk Terminal
brings unit t = and_then (judged (is_error unit) t) (λ t. heard unit t)

-- a status: alignment, then link state control, then flow control
abbrev pub status_heard : Status → Terminal → Talk Terminal
status_heard status t =
    and_then (align_in (AlignIn.Heard status) t) (λ t.
    and_then (state_in (StateIn.Heard status) t) (λ t. flow_hears status t))

-- a report of the set on a unit with this BSN
abbrev pub report_heard : Report → ℕ → Terminal → Talk Terminal
report_heard report bsn t = and_then (acks report bsn t) (λ t. faults report.fault t)

-- the set is told of a unit that was heard
abbrev pub told_heard : SignalUnit → Terminal → Talk Terminal
told_heard unit t = ask (Event.Heard t.link unit) (λ answer. reported answer (head_of unit).bsn t)
