-- What a turn keeps: step by step.
use Rattle.std.proofs.Common.{refl, sym, subst, arith, ◌≡◌, ◌∙◌, ℕ, ◌==◌, ◌<◌, ◌^◌, ◌||◌, Bool, true, false, not, nat_lt, length, List, [], ◌∷◌, Option, Some, None, if◌then◌else◌}
use Rattle.std.proofs.lemmas.Bool.Decides.{nat_tests}
use Rattle.l2_units.specs.declared.cause.Cause.{Cause}
use Rattle.l2_units.specs.declared.cause.ControlFault.{ControlFault}
use Rattle.l2_units.specs.declared.status.Status.{Status}
use Rattle.l2_units.specs.Numbers.{cause_of}
use Rattle.l2_bits.specs.declared.marks.Mark.{Mark}
use Rattle.l2_units.specs.declared.unit.Unit.{Unit as SignalUnit}
use Rattle.l2_units.specs.Grammar.{head_of}
use Rattle.l2_monitors.specs.Suerm.{Kept}
use Rattle.l2_align.specs.declared.align.State.{State as AlignState}
use Rattle.l2_align.specs.declared.signals.AlignIn.{AlignIn}
use Rattle.l2_state.specs.declared.link_state.State.{State}
use Rattle.l2_state.specs.declared.signals.StateIn.{StateIn}
use Rattle.l2_flow.specs.declared.input.FlowIn.{FlowIn}
use Rattle.set_events.specs.declared.answer.Answer.{Answer}
use Rattle.set_events.specs.declared.answer.Refusal.{Refusal}
use Rattle.set_events.specs.declared.answer.Report.{Report}
use Rattle.set_events.specs.declared.event.Event.{Event}
use Rattle.set_events.specs.declared.history.Entry.{Entry}
use Rattle.term_model.specs.declared.timers.Clocks.{Clocks}
use Rattle.term_model.specs.declared.timers.Timers.{Timers}
use Rattle.term_model.specs.Choosing.{Filled, is_narrow, sends, sends_status, sends_fisu, sends_start_fisu, raised_top, counts_sent, held_back, sent_by, serves, unless_out, up_first, chosen, filled}
use Rattle.term_model.specs.Hearing.{unit_in, is_error, aerm_judges, suerm_judges, service_judges, judges, judged, flow_hears, machines_hear, acks, faults, acked, is_deaf, is_held, reported, reaches_set, set_hears, waits, all_hear, heard, marked, all_marked}
use Rattle.term_model.specs.Machines.{state_in, align_in, flow_in, asks_up, stops_quietly}
use Rattle.l2_monitors.specs.Aerm.{after_mark as after_aerm_mark}
use Rattle.l2_monitors.specs.Suerm.{after_mark}
use Rattle.term_model.specs.Obeying.{obeys_if, blinded, changes_outage, commanded}
use Rattle.term_model.specs.Talk.{Talk, done, ask, and_then}
use Rattle.term_model.specs.Terminal.{Terminal, last_head, start_head, no_commands, told}
use Rattle.term_model.specs.Timing.{one_less, lessened, is_over, ends_t1, ends_t2, ends_t3, ends_t4, ends_t5, ends_t6, ends_t7, timed}
use Rattle.term_model.specs.Turn.{turn_talk, IsTurn}
use Rattle.term_model.specs.TurnLaws.{IsOfLink, IsWithin, IsInService, IsSound, GoesOn, IsSoundTurn, StartsSound}
use Rattle.term_model.proofs.Keeping.{Keeps, then_keeps, in_turn_keeps, if_keeps, went_asked, went_kept}
use Rattle.term_model.proofs.Staying.{IsKept, same_timed, asks_up_kept, state_kept, align_kept, flow_kept, stops_kept}

-- a talk of terminals that asks of the link, and leaves what is kept
abbrev pub Stays : Terminal → Talk Terminal → Type 0
Stays b talk = Keeps (IsOfLink b.link) (IsKept b) talk

-- a change of nothing that is spoken of
same_kept : (b t u : Terminal) → u.link ≡ t.link → u.lengths ≡ t.lengths → u.bits ≡ t.bits → u.clocks ≡ t.clocks → u.top ≡ t.top → u.up ≡ t.up → u.state ≡ t.state → IsKept b t → IsKept b u
same_kept b t u link lengths bits clocks top up state kept = record {
  timed = same_timed b t u link lengths bits clocks (subst (λ n. n < 2 ^ 7) (sym top) kept.timed.top) kept.timed;
  served = λ now. subst IsInService (sym state) (kept.served (sym up ∙ now));
}

-- STEP 1.

obeys_kept : (b : Terminal) (commanded : Bool) (obeys : Terminal → Talk Terminal) → ((t : Terminal) → IsKept b t → Stays b (obeys t))
    → (t : Terminal) → IsKept b t → Stays b (obeys_if commanded obeys t)
obeys_kept b commanded obeys each t kept =
    if_keeps (IsOfLink b.link) (IsKept b) commanded (obeys t) (done t) (λ is. each t kept) (λ not. kept)

blinded_kept : (b u : Terminal) → IsKept b u → Stays b (blinded u)
blinded_kept b u kept = same_kept b u (record u { blind = u.blind || u.up }) refl refl refl refl refl refl refl kept

waits_kept : (b t : Terminal) (was now : Bool) → IsKept b t → Stays b (waits was now t)
waits_kept b t was true kept = flow_kept b t FlowIn.Paused kept
waits_kept b t true false kept =
    if_keeps (IsOfLink b.link) (IsKept b) t.up (flow_in (FlowIn.Resumed t.unacked) t) (done t)
    (λ up. flow_kept b t (FlowIn.Resumed t.unacked) kept) (λ not. kept)
waits_kept b t false false kept = kept

changes_kept : (b : Terminal) (input : StateIn) (t : Terminal) → IsKept b t → Stays b (changes_outage input t)
changes_kept b input t kept =
    then_keeps (IsOfLink b.link) (IsKept b) (IsKept b) (state_in input t) (λ u. waits (is_held t) (is_held u) u)
    (state_kept b t input kept) (λ u kept. waits_kept b u (is_held t) (is_held u) kept)

commanded_kept : (b t : Terminal) → IsKept b t → Stays b (commanded t)
commanded_kept b t kept =
    let c = t.commands in
    in_turn_keeps (IsOfLink b.link) (IsKept b)
    (obeys_if c.emergency (align_in AlignIn.Emergency) ∷ obeys_if c.calm (align_in AlignIn.Calm) ∷ obeys_if c.start (state_in StateIn.Start) ∷
    obeys_if c.busy (flow_in FlowIn.Busy) ∷ obeys_if c.ease (flow_in FlowIn.Ease) ∷ obeys_if c.blind blinded ∷
    obeys_if c.outage (changes_outage StateIn.Outage) ∷ obeys_if c.recover (changes_outage StateIn.Recover) ∷ obeys_if c.stop (state_in StateIn.Stop) ∷ [])
    (record t { commands = no_commands }) (
      obeys_kept b c.emergency (align_in AlignIn.Emergency) (λ u. align_kept b u AlignIn.Emergency),
      (
        obeys_kept b c.calm (align_in AlignIn.Calm) (λ u. align_kept b u AlignIn.Calm),
        (
          obeys_kept b c.start (state_in StateIn.Start) (λ u. state_kept b u StateIn.Start),
          (
            obeys_kept b c.busy (flow_in FlowIn.Busy) (λ u. flow_kept b u FlowIn.Busy),
            (
              obeys_kept b c.ease (flow_in FlowIn.Ease) (λ u. flow_kept b u FlowIn.Ease),
              (
                obeys_kept b c.blind blinded (blinded_kept b),
                (
                  obeys_kept b c.outage (changes_outage StateIn.Outage) (changes_kept b StateIn.Outage),
                  (
                    obeys_kept b c.recover (changes_outage StateIn.Recover) (changes_kept b StateIn.Recover),
                    (obeys_kept b c.stop (state_in StateIn.Stop) (λ u. state_kept b u StateIn.Stop), tt),
                  ),
                ),
              ),
            ),
          ),
        ),
      ),
    )
    (same_kept b t (record t { commands = no_commands }) refl refl refl refl refl refl refl kept)

-- STEP 3.

aerm_kept : (b t : Terminal) (aerm : Option ℕ) (error : Bool) → IsKept b t → Stays b (aerm_judges aerm error t)
aerm_kept b t None error kept = kept
aerm_kept b t (Some left) error kept =
    let u : Terminal = record t { aerm = Some (after_aerm_mark left error) } in
    let same : IsKept b u = same_kept b t u refl refl refl refl refl refl refl kept in
    if_keeps (IsOfLink b.link) (IsKept b) (after_aerm_mark left error == 0) (align_in AlignIn.Abort u) (done u) (λ is. align_kept b u AlignIn.Abort same) (λ not. same)

suerm_kept : (b t : Terminal) (suerm : Option Kept) (error : Bool) → IsKept b t → Stays b (suerm_judges suerm error t)
suerm_kept b t None error kept = kept
suerm_kept b t (Some old) error kept =
    let u : Terminal = record t { suerm = Some (after_mark old error) } in
    let same : IsKept b u = same_kept b t u refl refl refl refl refl refl refl kept in
    if_keeps (IsOfLink b.link) (IsKept b) (after_mark old error).tripped (state_in (StateIn.Failure Cause.Suerm) u) (done u) (λ is. state_kept b u (StateIn.Failure Cause.Suerm) same) (λ not. same)

service_kept : (b t : Terminal) (state : State) (error : Bool) → IsKept b t → Stays b (service_judges state error t)
service_kept b t State.OutOfService error kept = kept
service_kept b t State.Aligning error kept = kept
service_kept b t State.Ready error kept = suerm_kept b t t.suerm error kept
service_kept b t (State.InService paused) error kept = suerm_kept b t t.suerm error kept

judges_kept : (b t : Terminal) (align : AlignState) (error : Bool) → IsKept b t → Stays b (judges align error t)
judges_kept b t AlignState.Proving error kept = aerm_kept b t t.aerm error kept
judges_kept b t _ error kept = service_kept b t t.state error kept

flow_hears_kept : (b t : Terminal) (status : Status) → IsKept b t → Stays b (flow_hears status t)
flow_hears_kept b t Status.Busy kept =
    if_keeps (IsOfLink b.link) (IsKept b) (is_deaf t.state t.outage) (done t) (flow_in FlowIn.HeardBusy t) (λ deaf. kept) (λ not. flow_kept b t FlowIn.HeardBusy kept)
flow_hears_kept b t _ kept = kept

machines_kept : (b t : Terminal) (unit : SignalUnit) → IsKept b t → Stays b (machines_hear unit t)
machines_kept b t (SignalUnit.Fisu head) kept = state_kept b t StateIn.Fisu kept
machines_kept b t (SignalUnit.Lssu head status) kept =
    then_keeps (IsOfLink b.link) (IsKept b) (IsKept b) (align_in (AlignIn.Heard status) t) (λ u. and_then (state_in (StateIn.Heard status) u) (λ v. flow_hears status v))
    (align_kept b t (AlignIn.Heard status) kept)
    (λ u kept. then_keeps (IsOfLink b.link) (IsKept b) (IsKept b) (state_in (StateIn.Heard status) u) (λ v. flow_hears status v)
    (state_kept b u (StateIn.Heard status) kept) (λ v kept. flow_hears_kept b v status kept))
machines_kept b t (SignalUnit.Msu head body) kept = state_kept b t StateIn.Msu kept

faults_kept : (b t : Terminal) (fault : Option ControlFault) → IsKept b t → Stays b (faults fault t)
faults_kept b t None kept = kept
faults_kept b t (Some fault) kept = state_kept b t (StateIn.Failure (cause_of fault)) kept

acks_kept : (b t : Terminal) (report : Report) (bsn : ℕ) → IsKept b t → Stays b (acks report bsn t)
acks_kept b t report bsn kept =
    let more = not (bsn == t.top) in
    let u : Terminal = record t { unacked = more } in
    if_keeps (IsOfLink b.link) (IsKept b) (nat_lt 0 report.acked || report.resend) (acked more t) (done t)
    (λ is. flow_kept b u (FlowIn.Acked more) (same_kept b t u refl refl refl refl refl refl refl kept)) (λ not. kept)

reported_kept : (b t : Terminal) (answer : Answer) (bsn : ℕ) → IsKept b t → Stays b (reported answer bsn t)
reported_kept b t (Answer.Heard report) bsn kept =
    then_keeps (IsOfLink b.link) (IsKept b) (IsKept b) (acks report bsn t) (λ u. faults report.fault u)
    (acks_kept b t report bsn kept) (λ u kept. faults_kept b u report.fault kept)
reported_kept b t (Answer.Refused Refusal.NotUp) bsn kept = stops_kept b t kept
reported_kept b t _ bsn kept = kept

hears_kept : (b t : Terminal) (unit : SignalUnit) → IsKept b t → Stays b (set_hears unit t)
hears_kept b t unit kept =
    if_keeps (IsOfLink b.link) (IsKept b) t.up (ask (Event.Heard t.link unit) (λ answer. reported answer (head_of unit).bsn t)) (done t)
    (λ up. (kept.timed.link_is, λ answer. reported_kept b t answer (head_of unit).bsn kept)) (λ not. kept)

reaches_kept : (b t : Terminal) (unit : SignalUnit) → IsKept b t → Stays b (reaches_set unit t)
reaches_kept b t unit kept =
    if_keeps (IsOfLink b.link) (IsKept b) t.outage (done t) (set_hears unit t) (λ out. kept) (λ not. hears_kept b t unit kept)

all_hear_kept : (b t : Terminal) (unit : SignalUnit) → IsKept b t → Stays b (all_hear unit t)
all_hear_kept b t unit kept =
    then_keeps (IsOfLink b.link) (IsKept b) (IsKept b) (align_in AlignIn.Good t) (λ u. and_then (machines_hear unit u) (λ v. reaches_set unit v))
    (align_kept b t AlignIn.Good kept)
    (λ u kept. then_keeps (IsOfLink b.link) (IsKept b) (IsKept b) (machines_hear unit u) (λ v. reaches_set unit v)
    (machines_kept b u unit kept) (λ v kept. reaches_kept b v unit kept))

heard_kept : (b t : Terminal) (unit : Option SignalUnit) → IsKept b t → Stays b (heard unit t)
heard_kept b t None kept = kept
heard_kept b t (Some unit) kept =
    then_keeps (IsOfLink b.link) (IsKept b) (IsKept b) (all_hear unit t) (λ u. waits (is_held t) (is_held u) u)
    (all_hear_kept b t unit kept) (λ u kept. waits_kept b u (is_held t) (is_held u) kept)

marked_kept : (b t : Terminal) (mark : Mark) → IsKept b t → Stays b (marked mark t)
marked_kept b t mark kept =
    then_keeps (IsOfLink b.link) (IsKept b) (IsKept b) (judged (is_error (unit_in mark)) t) (λ u. heard (unit_in mark) u)
    (judges_kept b t t.align.state (is_error (unit_in mark)) kept) (λ u kept. heard_kept b u (unit_in mark) kept)

all_marked_kept : (b t : Terminal) (marks : List Mark) → IsKept b t → Stays b (all_marked marks t)
all_marked_kept b t [] kept = kept
all_marked_kept b t (mark ∷ marks) kept =
    then_keeps (IsOfLink b.link) (IsKept b) (IsKept b) (marked mark t) (λ u. all_marked marks u)
    (marked_kept b t mark kept) (λ u kept. all_marked_kept b u marks kept)

-- STEP 4.

with_clocks : (b t : Terminal) (c : Clocks) → IsKept b t → IsWithin t.lengths.t1 c.t1 → IsWithin t.lengths.t2 c.t2 → IsWithin t.lengths.t3 c.t3 → IsWithin 65536 c.t4
    → IsWithin t.lengths.t5 c.t5 → IsWithin t.lengths.t6 c.t6 → IsWithin t.lengths.t7 c.t7 → IsKept b (record t { clocks = c })
with_clocks b t c kept t1 t2 t3 t4 t5 t6 t7 = record {
  timed = record {
    link_is = kept.timed.link_is;
    lengths_are = kept.timed.lengths_are;
    bits_are = kept.timed.bits_are;
    t1 = t1;
    t2 = t2;
    t3 = t3;
    t4 = t4;
    t5 = t5;
    t6 = t6;
    t7 = t7;
    top = kept.timed.top;
  };
  served = kept.served;
}

less_within : (length : ℕ) (clock : Option ℕ) → IsWithin length clock → IsWithin length (one_less clock)
less_within length None within = tt
less_within length (Some left) within = omega arith

lessened_kept : (b t : Terminal) → IsKept b t → IsKept b (lessened t)
lessened_kept b t kept =
    let w = kept.timed in
    with_clocks b t _ kept (less_within t.lengths.t1 t.clocks.t1 w.t1) (less_within t.lengths.t2 t.clocks.t2 w.t2) (less_within t.lengths.t3 t.clocks.t3 w.t3)
    (less_within 65536 t.clocks.t4 w.t4) (less_within t.lengths.t5 t.clocks.t5 w.t5) (less_within t.lengths.t6 t.clocks.t6 w.t6) (less_within t.lengths.t7 t.clocks.t7 w.t7)

over_kept : (b t u : Terminal) (over : Bool) (input : Terminal → Talk Terminal) → ((v : Terminal) → IsKept b v → Stays b (input v)) → IsKept b t → IsKept b u
    → Stays b (if over then input u else done t)
over_kept b t u over input each kept stopped = if_keeps (IsOfLink b.link) (IsKept b) over (input u) (done t) (λ is. each u stopped) (λ not. kept)

t1_kept : (b t : Terminal) → IsKept b t → Stays b (ends_t1 t)
t1_kept b t k = over_kept b t (record t { clocks = record t.clocks { t1 = None } }) (is_over t.clocks.t1) (state_in StateIn.T1) (λ v. state_kept b v StateIn.T1) k
    (with_clocks b t (record t.clocks { t1 = None }) k tt k.timed.t2 k.timed.t3 k.timed.t4 k.timed.t5 k.timed.t6 k.timed.t7)

t2_kept : (b t : Terminal) → IsKept b t → Stays b (ends_t2 t)
t2_kept b t k = over_kept b t (record t { clocks = record t.clocks { t2 = None } }) (is_over t.clocks.t2) (align_in AlignIn.T2) (λ v. align_kept b v AlignIn.T2) k
    (with_clocks b t (record t.clocks { t2 = None }) k k.timed.t1 tt k.timed.t3 k.timed.t4 k.timed.t5 k.timed.t6 k.timed.t7)

t3_kept : (b t : Terminal) → IsKept b t → Stays b (ends_t3 t)
t3_kept b t k = over_kept b t (record t { clocks = record t.clocks { t3 = None } }) (is_over t.clocks.t3) (align_in AlignIn.T3) (λ v. align_kept b v AlignIn.T3) k
    (with_clocks b t (record t.clocks { t3 = None }) k k.timed.t1 k.timed.t2 tt k.timed.t4 k.timed.t5 k.timed.t6 k.timed.t7)

t4_kept : (b t : Terminal) → IsKept b t → Stays b (ends_t4 t)
t4_kept b t k = over_kept b t (record t { clocks = record t.clocks { t4 = None } }) (is_over t.clocks.t4) (align_in AlignIn.T4) (λ v. align_kept b v AlignIn.T4) k
    (with_clocks b t (record t.clocks { t4 = None }) k k.timed.t1 k.timed.t2 k.timed.t3 tt k.timed.t5 k.timed.t6 k.timed.t7)

t5_kept : (b t : Terminal) → IsKept b t → Stays b (ends_t5 t)
t5_kept b t k = over_kept b t (record t { clocks = record t.clocks { t5 = None } }) (is_over t.clocks.t5) (flow_in FlowIn.T5) (λ v. flow_kept b v FlowIn.T5) k
    (with_clocks b t (record t.clocks { t5 = None }) k k.timed.t1 k.timed.t2 k.timed.t3 k.timed.t4 tt k.timed.t6 k.timed.t7)

t6_kept : (b t : Terminal) → IsKept b t → Stays b (ends_t6 t)
t6_kept b t k = over_kept b t (record t { clocks = record t.clocks { t6 = None } }) (is_over t.clocks.t6) (flow_in FlowIn.T6) (λ v. flow_kept b v FlowIn.T6) k
    (with_clocks b t (record t.clocks { t6 = None }) k k.timed.t1 k.timed.t2 k.timed.t3 k.timed.t4 k.timed.t5 tt k.timed.t7)

t7_kept : (b t : Terminal) → IsKept b t → Stays b (ends_t7 t)
t7_kept b t k = over_kept b t (record t { clocks = record t.clocks { t7 = None } }) (is_over t.clocks.t7) (flow_in FlowIn.T7) (λ v. flow_kept b v FlowIn.T7) k
    (with_clocks b t (record t.clocks { t7 = None }) k k.timed.t1 k.timed.t2 k.timed.t3 k.timed.t4 k.timed.t5 k.timed.t6 tt)

timed_kept : (b t : Terminal) → IsKept b t → Stays b (timed t)
timed_kept b t kept =
    in_turn_keeps (IsOfLink b.link) (IsKept b) (ends_t1 ∷ ends_t2 ∷ ends_t3 ∷ ends_t4 ∷ ends_t5 ∷ ends_t6 ∷ ends_t7 ∷ []) (lessened t)
    (t1_kept b, (t2_kept b, (t3_kept b, (t4_kept b, (t5_kept b, (t6_kept b, (t7_kept b, tt))))))) (lessened_kept b t kept)

-- STEP 5.

abbrev pub Chooses : Terminal → Talk Filled → Type 0
Chooses b talk = Keeps (IsOfLink b.link) (λ f. IsKept b f.after) talk

sends_kept : (b t : Terminal) (unit : SignalUnit) → IsKept b t → Chooses b (sends unit t)
sends_kept b t unit kept = same_kept b t (record t { last = Some (head_of unit) }) refl refl refl refl refl refl refl kept

raised_in_range : (fsn top : ℕ) → top < 2 ^ 7 → raised_top fsn top < 2 ^ 7
raised_in_range fsn top in_top = grind (arith, nat_tests, in_top)

counts_kept : (b t : Terminal) (unit : SignalUnit) → IsKept b t → Stays b (counts_sent unit t)
counts_kept b t (SignalUnit.Msu head body) kept =
    let u : Terminal = record t { top = raised_top head.fsn t.top; unacked = true } in
    flow_kept b u FlowIn.Sent (record {
      timed = same_timed b t u refl refl refl refl (raised_in_range head.fsn t.top kept.timed.top) kept.timed;
      served = kept.served;
    })
counts_kept b t _ kept = kept

sent_kept : (b t : Terminal) (answer : Answer) → IsKept b t → Chooses b (sent_by answer t)
sent_kept b t (Answer.Sent unit) kept =
    if_keeps (IsOfLink b.link) (λ f. IsKept b f.after) (is_narrow (head_of unit)) (and_then (counts_sent unit t) (λ u. sends (held_back u unit) u)) (done (record { unit = None; narrow = false; after = t }))
    (λ is. then_keeps (IsOfLink b.link) (IsKept b) (λ f. IsKept b f.after) (counts_sent unit t) (λ u. sends (held_back u unit) u)
    (counts_kept b t unit kept) (λ u kept. sends_kept b u (held_back u unit) kept))
    (λ not. kept)
sent_kept b t (Answer.Refused Refusal.NotUp) kept = sends_kept b (stops_quietly t) (SignalUnit.Lssu (last_head (stops_quietly t)) Status.OutOfService) (stops_kept b t kept)
sent_kept b t _ kept = sends_kept b t (SignalUnit.Fisu (last_head t)) kept

serves_kept : (b t : Terminal) (paused : Bool) → IsKept b t → Chooses b (serves paused t)
serves_kept b t paused kept =
    if_keeps (IsOfLink b.link) (λ f. IsKept b f.after) t.up _ (sends_start_fisu t)
    (λ up. if_keeps (IsOfLink b.link) (λ f. IsKept b f.after) t.b_due (sends_status Status.Busy (record t { b_due = false })) _
    (λ due. sends_kept b (record t { b_due = false }) (SignalUnit.Lssu (last_head t) Status.Busy) (same_kept b t (record t { b_due = false }) refl refl refl refl refl refl refl kept))
    (λ not_due. if_keeps (IsOfLink b.link) (λ f. IsKept b f.after) paused (sends_fisu t) (ask (Event.Next t.link) (λ answer. sent_by answer t))
    (λ is. sends_kept b t (SignalUnit.Fisu (last_head t)) kept)
    (λ not. (kept.timed.link_is, λ answer. sent_kept b t answer kept))))
    (λ down. sends_kept b t (SignalUnit.Fisu start_head) kept)

unless_out_kept : (b t : Terminal) (talk : Talk Filled) → IsKept b t → Chooses b talk → Chooses b (unless_out talk t)
unless_out_kept b t talk kept chooses =
    if_keeps (IsOfLink b.link) (λ f. IsKept b f.after) t.outage (sends_status Status.ProcessorOutage t) talk
    (λ out. sends_kept b t (SignalUnit.Lssu (last_head t) Status.ProcessorOutage) kept) (λ not. chooses)

up_first_kept : (b t : Terminal) → IsInService t.state → IsKept b t → Stays b (up_first t)
up_first_kept b t is kept = if_keeps (IsOfLink b.link) (IsKept b) t.up (done t) (asks_up t) (λ up. kept) (λ down. asks_up_kept b t kept.timed is)

chosen_kept : (b t : Terminal) (state : State) → state ≡ t.state → IsKept b t → Chooses b (chosen state t)
chosen_kept b t State.OutOfService at kept = sends_kept b t (SignalUnit.Lssu (last_head t) Status.OutOfService) kept
chosen_kept b t State.Aligning at kept = sends_kept b t (SignalUnit.Lssu (last_head t) t.status) kept
chosen_kept b t State.Ready at kept = unless_out_kept b t (sends_start_fisu t) kept (sends_kept b t (SignalUnit.Fisu start_head) kept)
chosen_kept b t (State.InService paused) at kept =
    then_keeps (IsOfLink b.link) (IsKept b) (λ f. IsKept b f.after) (up_first t) (λ u. unless_out (serves paused u) u)
    (up_first_kept b t (subst IsInService at tt) kept) (λ u kept. unless_out_kept b u (serves paused u) kept (serves_kept b u paused kept))

filled_kept : (b t : Terminal) → IsKept b t → Chooses b (filled t)
filled_kept b t kept =
    if_keeps (IsOfLink b.link) (λ f. IsKept b f.after) (nat_lt (length t.bits) 8) (chosen t.state t) (done (record { unit = None; narrow = true; after = t }))
    (λ few. chosen_kept b t t.state refl kept) (λ enough. kept)

-- THE TURN.

talk_kept : (b : Terminal) (marks : List Mark) → IsKept b b → Chooses b (turn_talk marks b)
talk_kept b marks kept =
    then_keeps (IsOfLink b.link) (IsKept b) (λ f. IsKept b f.after) (commanded b) (λ t. and_then (all_marked marks t) (λ u. and_then (timed u) (λ v. filled v)))
    (commanded_kept b b kept)
    (λ t kept. then_keeps (IsOfLink b.link) (IsKept b) (λ f. IsKept b f.after) (all_marked marks t) (λ u. and_then (timed u) (λ v. filled v))
    (all_marked_kept b t marks kept)
    (λ u kept. then_keeps (IsOfLink b.link) (IsKept b) (λ f. IsKept b f.after) (timed u) (λ v. filled v) (timed_kept b u kept) (λ v kept. filled_kept b v kept)))

kept_of : (b : Terminal) → IsSound b → IsKept b b
kept_of b s = record {
  timed = record { link_is = refl; lengths_are = refl; bits_are = refl; t1 = s.t1; t2 = s.t2; t3 = s.t3; t4 = s.t4; t5 = s.t5; t6 = s.t6; t7 = s.t7; top = s.top };
  served = s.served;
}

goes_on_of : (b t : Terminal) (bits : List Bool) → IsKept b t → GoesOn b (record t { bits = bits })
goes_on_of b t bits k = record {
  link_is = k.timed.link_is;
  lengths_are = k.timed.lengths_are;
  sound = record {
    t1 = k.timed.t1;
    t2 = k.timed.t2;
    t3 = k.timed.t3;
    t4 = k.timed.t4;
    t5 = k.timed.t5;
    t6 = k.timed.t6;
    t7 = k.timed.t7;
    top = k.timed.top;
    served = k.served;
  };
}

pub turn_sound : (taken : List Bool) (before : Terminal) (octet : Option ℕ) (entries : List Entry) (put : List ℕ) (marks : List Mark) (after : Terminal)
    → IsSound before → IsTurn taken before octet entries put marks after → IsSoundTurn before entries after
turn_sound taken before octet entries put marks after sound turn =
    let keeps = talk_kept before marks (kept_of before sound) in
    let left : IsKept before turn.chosen.after = went_kept (IsOfLink before.link) (λ f. IsKept before f.after) (turn_talk marks before) entries turn.chosen keeps turn.went in record {
      of_link = went_asked (IsOfLink before.link) (λ f. IsKept before f.after) (turn_talk marks before) entries turn.chosen keeps turn.went;
      goes_on = subst (λ t. GoesOn before t) (sym turn.puts.after_is) (goes_on_of before turn.chosen.after _ left);
    }

pub starts_sound : (link : ℕ) (lengths : Timers) → StartsSound link lengths
starts_sound link lengths = record {
  opened_sound = record { t1 = tt; t2 = tt; t3 = tt; t4 = tt; t5 = tt; t6 = tt; t7 = tt; top = omega arith; served = λ up. absurd cc };
  told_sound = λ command t sound. goes_on_of t (told command t) t.bits (same_kept t t (told command t) refl refl refl refl refl refl refl (kept_of t sound));
}

-- no step but the last touches what is left to send
pub bits_stay : (taken : List Bool) (before : Terminal) (octet : Option ℕ) (entries : List Entry) (put : List ℕ) (marks : List Mark) (after : Terminal)
    → IsSound before → (turn : IsTurn taken before octet entries put marks after) → turn.chosen.after.bits ≡ before.bits
bits_stay taken before octet entries put marks after sound turn =
    (went_kept (IsOfLink before.link) (λ f. IsKept before f.after) (turn_talk marks before) entries turn.chosen (talk_kept before marks (kept_of before sound)) turn.went).timed.bits_are
