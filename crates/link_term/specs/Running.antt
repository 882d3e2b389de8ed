-- TURNS ONE AFTER ANOTHER, as a run tells them.
use Rattle.std.specs.Prelude.{◌≡◌, ◌<◌, ◌≤◌, ℕ, zero, suc, List, ◌++◌, length}
use mathlib.Core.List.{IsPrefix}
use Rattle.l2_bits.specs.LineBits.{line_bits}
use Rattle.set_events.specs.declared.history.Entry.{Entry}
use Rattle.term_model.specs.declared.report.TermReport.{TermReport}
use Rattle.term_model.specs.Runs.{IsRun}
use Rattle.link_term.specs.declared.counts.Turned.{Turned}
use Rattle.link_term.specs.declared.fault.TermFault.{TermFault}
use Rattle.link_term.specs.Looking.{Seen, AllLook}
use Rattle.link_term.specs.Standing.{Standing}
use Rattle.link_term.specs.Turning.{TurnsOnce, TurnFails}

-- A RUN WENT: the octets taken, what the door made, the octets put, and the report
pub record Runs (turns : ℕ) (before : Standing) (report : TermReport) (after : Standing) : Type 0 where
  pub octets : List ℕ
  pub entries : List Entry
  pub out : List ℕ
  pub run : IsRun turns (line_bits before.taken) before.inside octets entries out report after.inside
  pub taken_is : after.taken ≡ before.taken ++ octets
  pub made_is : after.made ≡ before.made ++ entries
  pub no_fault : after.faults ≡ before.faults
  pub given_is : after.line.given ≡ before.line.given ++ octets
  pub put_is : after.line.put ≡ before.line.put ++ out
  pub looks : AllLook run.doings before.line after.line

-- it failed: fewer turns than were asked for went whole, and the one behind them failed so
pub record RunFails (fault : TermFault) (turns : ℕ) (before after : Standing) : Type 0 where
  pub whole : ℕ
  pub fewer : whole < turns
  pub report : TermReport
  pub between : Standing
  pub runs : Runs whole before report between
  pub fails : TurnFails fault between after

-- so many turns, each from where the one before it ended
abbrev pub OneByOne : ℕ → Standing → Standing → Type 0
OneByOne zero before after = after ≡ before
OneByOne (suc turns) before after =
    (turned : Turned) × (mid : Standing) × TurnsOnce before turned mid × OneByOne turns mid after

-- LAW: a run is so many turns, one by one
abbrev pub RunsAreTurns : Type 0
RunsAreTurns =
    (turns : ℕ) (before : Standing) (report : TermReport) (after : Standing) → Runs turns before report after
    → OneByOne turns before after

-- So many turns TOOK WHAT WAITED, oldest first, an octet in each as long as any of that was left; and put one in each as long
-- as any place was left that was free before
pub record TakesWhatWaits (turns : ℕ) (octets out : List ℕ) (before after : Seen) : Type 0 where
  pub oldest_first : IsPrefix before.waiting (octets ++ after.waiting)
  pub takes : length octets < turns → length before.waiting ≤ length octets
  pub fills : length out < turns → before.free ≤ length out

-- LAW: a run does
abbrev pub RunsTakeWhatWaits : Type 0
RunsTakeWhatWaits =
    (turns : ℕ) (before : Standing) (report : TermReport) (after : Standing) → (run : Runs turns before report after)
    → TakesWhatWaits turns run.octets run.out before.line after.line
