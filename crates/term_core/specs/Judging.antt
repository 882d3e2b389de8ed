-- A MARK AND THE MONITOR THAT RUNS (Q.703 10): what one more mark makes of a terminal, and what is to be done then.
use Rattle.std.specs.Prelude.{◌≡◌, ℕ, ◌==◌, Bool, Option, Some, None, if◌then◌else◌}
use Rattle.l2_units.specs.declared.cause.Cause.{Cause}
use Rattle.l2_monitors.specs.Aerm.{after_mark as after_aerm_mark}
use Rattle.l2_monitors.specs.Suerm.{Kept, after_mark}
use Rattle.l2_align.specs.declared.align.State.{State as AlignState}
use Rattle.l2_align.specs.declared.signals.AlignIn.{AlignIn}
use Rattle.l2_state.specs.declared.link_state.State.{State}
use Rattle.l2_state.specs.declared.signals.StateIn.{StateIn}
use Rattle.term_model.specs.Hearing.{judged}
use Rattle.term_model.specs.Machines.{state_in, align_in}
use Rattle.term_model.specs.Talk.{Talk, done}
use Rattle.term_model.specs.Terminal.{Terminal}
use Rattle.term_core.specs.declared.monitors.Verdict.{Verdict}

-- what the monitor finds, and the terminal then
pub record Judgement : Type 0 where
  pub verdict : Verdict
  pub after : Terminal

-- no monitor is told
abbrev pub unjudged : Terminal → Judgement
unjudged t = record { verdict = Verdict.Fine; after = t }

-- Q.703 10.3: the error that leaves none to wait for aborts the proving
abbrev pub by_aerm : Option ℕ → Bool → Terminal → Judgement
by_aerm None error t = unjudged t
by_aerm (Some left) error t =
    let now = after_aerm_mark left error in
    record { verdict = if now == 0 then Verdict.Abort else Verdict.Fine; after = record t { aerm = Some now } }

-- Q.703 10.2: the error that makes the count T is a failure of the link
abbrev pub by_suerm : Option Kept → Bool → Terminal → Judgement
by_suerm None error t = unjudged t
by_suerm (Some kept) error t =
    let now = after_mark kept error in
    record { verdict = if now.tripped then Verdict.Failed else Verdict.Fine; after = record t { suerm = Some now } }

-- Q.703 10.1: SUERM watches a link that is ready or in service
abbrev pub in_state : State → Bool → Terminal → Judgement
in_state State.OutOfService error t = unjudged t
in_state State.Aligning error t = unjudged t
in_state State.Ready error t = by_suerm t.suerm error t
in_state (State.InService paused) error t = by_suerm t.suerm error t

-- and AERM one that is proving
abbrev pub while_aligning : AlignState → Bool → Terminal → Judgement
while_aligning AlignState.Proving error t = by_aerm t.aerm error t
while_aligning _ error t = in_state t.state error t

abbrev pub judgement : Bool → Terminal → Judgement
judgement error t = while_aligning t.align.state error t

-- what a verdict asks for
abbrev pub carried_out : Verdict → Terminal → Talk Terminal
carried_out Verdict.Fine t = done t
carried_out Verdict.Abort t = align_in AlignIn.Abort t
carried_out Verdict.Failed t = state_in (StateIn.Failure Cause.Suerm) t

-- LAW: so it is in the definition of a turn
abbrev pub JudgedAsTheModel : Type 0
JudgedAsTheModel =
    (error : Bool) (t : Terminal) → judged error t ≡ carried_out (judgement error t).verdict (judgement error t).after
