-- A mark that brings no readable unit: what can come of it at the set.
use Rattle.std.proofs.Common.{sym, subst, ◌≡◌, ℕ, ◌+◌, ◌==◌, Bool, true, false, nat_lt, List, Option, Some, None, if◌then◌else◌}
use Rattle.l2_units.specs.declared.cause.Cause.{Cause}
use Rattle.l2_bits.specs.declared.marks.Mark.{Mark}
use Rattle.l2_units.specs.declared.unit.Unit.{Unit as SignalUnit}
use Rattle.l2_monitors.specs.Suerm.{Kept}
use Rattle.l2_align.specs.declared.align.State.{State as AlignState}
use Rattle.l2_align.specs.declared.signals.AlignIn.{AlignIn}
use Rattle.l2_align.specs.declared.signals.Outcome.{Outcome}
use Rattle.l2_align.specs.Alignment.{Alignment}
use Rattle.l2_align.specs.Table.{row as align_row, table, silent, aborted, counted_abort, idle, stop_t4}
use Rattle.l2_state.specs.declared.link_state.State.{State}
use Rattle.l2_state.specs.declared.signals.StateIn.{StateIn}
use Rattle.l2_state.specs.declared.signals.Indication.{Indication}
use Rattle.l2_state.specs.Table.{row as state_row}
use Rattle.set_events.specs.declared.event.Event.{Event}
use Rattle.set_events.specs.declared.history.Entry.{Entry}
use Rattle.term_model.specs.Hearing.{unit_in, is_error, aerm_judges, suerm_judges, service_judges, judges, judged, heard, marked}
use Rattle.term_model.specs.Machines.{aligns, after_state, fallen, asks_down, tells, ends, state_in, align_in}
use Rattle.l2_monitors.specs.Aerm.{after_mark as after_aerm_mark}
use Rattle.l2_monitors.specs.Suerm.{after_mark}
use Rattle.term_model.specs.Talk.{Talk, done, and_then, Went}
use Rattle.term_model.specs.Terminal.{Terminal}
use Rattle.term_model.specs.TurnLaws.{IsDown, AllAsked}
use Rattle.term_model.proofs.Keeping.{Keeps, then_keeps, if_keeps, went_asked}

-- nothing but Down is asked, and whatever comes of it
abbrev pub AsksDown : Talk Terminal → Type 0
AsksDown talk = Keeps IsDown (λ t. Unit {0}) talk

abbrev pub NoUp : Option Indication → Type 0
NoUp None = Unit {0}
NoUp (Some Indication.Up) = ⊥
NoUp (Some (Indication.Down cause)) = Unit {0}

asks_down_down : (cause : Cause) (t : Terminal) → AsksDown (asks_down cause t)
asks_down_down cause t = (down_of t.blind, λ answer. tt)
  where
    down_of : (blind : Bool) → IsDown (if blind then Event.DownBlind t.link else Event.Down t.link)
    down_of true = tt
    down_of false = tt

tells_down : (told : Option Indication) (t : Terminal) → NoUp told → AsksDown (tells told t)
tells_down None t is = tt
tells_down (Some Indication.Up) t is = absurd is
tells_down (Some (Indication.Down cause)) t is =
    if_keeps IsDown (λ u. Unit {0}) t.up (asks_down cause t) (done (fallen cause t)) (λ up. asks_down_down cause t) (λ down. tt)

failure_no_up : (s : State) (cause : Cause) → NoUp (state_row s (StateIn.Failure cause)).out.indication
failure_no_up State.OutOfService cause = tt
failure_no_up State.Aligning cause = tt
failure_no_up State.Ready cause = tt
failure_no_up (State.InService paused) cause = tt

not_possible_no_up : (s : State) → NoUp (state_row s StateIn.NotPossible).out.indication
not_possible_no_up State.OutOfService = tt
not_possible_no_up State.Aligning = tt
not_possible_no_up State.Ready = tt
not_possible_no_up (State.InService paused) = tt

abbrev pub NoComplete : Option Outcome → Type 0
NoComplete None = Unit {0}
NoComplete (Some Outcome.Complete) = ⊥
NoComplete (Some Outcome.NotPossible) = Unit {0}

aborted_end : (more : Bool) (a : Alignment) → NoComplete (if more then counted_abort a else idle stop_t4 (Some Outcome.NotPossible)).out.outcome
aborted_end true a = tt
aborted_end false a = tt

abort_if_end : (pending : Bool) (a : Alignment) → NoComplete (if pending then silent a else aborted a).out.outcome
abort_if_end true a = tt
abort_if_end false a = aborted_end (nat_lt (a.aborts + 1) 5) a

abort_end : (s : AlignState) (a : Alignment) → NoComplete (table s AlignIn.Abort a).out.outcome
abort_end AlignState.Idle a = tt
abort_end AlignState.NotAligned a = tt
abort_end AlignState.Aligned a = tt
abort_end AlignState.Proving a = abort_if_end a.pending a

ends_down : (end : Option Outcome) (t : Terminal) → NoComplete end → AsksDown (ends end t)
ends_down None t is = tt
ends_down (Some Outcome.Complete) t is = absurd is
ends_down (Some Outcome.NotPossible) t is = tells_down (state_row t.state StateIn.NotPossible).out.indication (after_state StateIn.NotPossible t) (not_possible_no_up t.state)

abort_down : (t : Terminal) → AsksDown (align_in AlignIn.Abort t)
abort_down t = ends_down (align_row t.align AlignIn.Abort).out.outcome (aligns AlignIn.Abort t) (abort_end t.align.state t.align)

aerm_down : (aerm : Option ℕ) (error : Bool) (t : Terminal) → AsksDown (aerm_judges aerm error t)
aerm_down None error t = tt
aerm_down (Some left) error t =
    let u : Terminal = record t { aerm = Some (after_aerm_mark left error) } in
    if_keeps IsDown (λ v. Unit {0}) (after_aerm_mark left error == 0) (align_in AlignIn.Abort u) (done u) (λ is. abort_down u) (λ not. tt)

suerm_down : (suerm : Option Kept) (error : Bool) (t : Terminal) → AsksDown (suerm_judges suerm error t)
suerm_down None error t = tt
suerm_down (Some old) error t =
    let u : Terminal = record t { suerm = Some (after_mark old error) } in
    if_keeps IsDown (λ v. Unit {0}) (after_mark old error).tripped (state_in (StateIn.Failure Cause.Suerm) u) (done u)
    (λ is. tells_down (state_row u.state (StateIn.Failure Cause.Suerm)).out.indication (after_state (StateIn.Failure Cause.Suerm) u) (failure_no_up u.state Cause.Suerm))
    (λ not. tt)

service_down : (state : State) (error : Bool) (t : Terminal) → AsksDown (service_judges state error t)
service_down State.OutOfService error t = tt
service_down State.Aligning error t = tt
service_down State.Ready error t = suerm_down t.suerm error t
service_down (State.InService paused) error t = suerm_down t.suerm error t

judges_down : (align : AlignState) (error : Bool) (t : Terminal) → AsksDown (judges align error t)
judges_down AlignState.Proving error t = aerm_down t.aerm error t
judges_down _ error t = service_down t.state error t

marked_down : (unit : Option SignalUnit) (t : Terminal) → unit ≡ None → AsksDown (and_then (judged (is_error unit) t) (λ u. heard unit u))
marked_down unit t none =
    subst (λ u. AsksDown (and_then (judged (is_error u) t) (λ v. heard u v))) (sym none)
    (then_keeps IsDown (λ v. Unit {0}) (λ v. Unit {0}) (judged true t) (λ v. done v) (judges_down t.align.state true t) (λ v any. tt))

pub damaged_not_heard : (mark : Mark) (before after : Terminal) (entries : List Entry) → unit_in mark ≡ None
    → Went (marked mark before) entries after → AllAsked IsDown entries
damaged_not_heard mark before after entries none went =
    went_asked IsDown (λ t. Unit {0}) (marked mark before) entries after (marked_down (unit_in mark) before none) went
