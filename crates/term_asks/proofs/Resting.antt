-- A LINK THAT ISN'T ALIGNING has no alignment under way (`turn_rests`): link state control begins it as it goes to
-- Aligning, and leaves Aligning as alignment ends, or stops it. Each step of a turn keeps that, whatever comes on the
-- line and whatever the set answers. Used by Asking.antt.
use Rattle.std.proofs.Common.{refl, sym, subst, ◌≡◌, ◌==◌, ◌||◌, ◌+◌, ℕ, nat_lt, length, Bool, true, false, not, List, [], ◌∷◌, Option, Some, None, if◌then◌else◌}
use Rattle.l2_units.specs.declared.cause.Cause.{Cause}
use Rattle.l2_units.specs.declared.cause.ControlFault.{ControlFault}
use Rattle.l2_units.specs.declared.status.Status.{Status}
use Rattle.l2_units.specs.declared.unit.Unit.{Unit as SignalUnit}
use Rattle.l2_units.specs.Grammar.{head_of}
use Rattle.l2_units.specs.Numbers.{cause_of}
use Rattle.l2_bits.specs.declared.marks.Mark.{Mark}
use Rattle.l2_monitors.specs.Aerm.{after_mark as after_aerm_mark}
use Rattle.l2_monitors.specs.Suerm.{Kept, after_mark}
use Rattle.l2_align.specs.Alignment.{Alignment}
use Rattle.l2_align.specs.declared.align.State.{State as AlignState}
use Rattle.l2_align.specs.declared.signals.AlignIn.{AlignIn}
use Rattle.l2_align.specs.declared.signals.Outcome.{Outcome}
use Rattle.l2_align.specs.Table.{Row as AlignRow, row as align_row, table, calmed, silent, proving, aborted, counted_abort, idle, stop_t4, when_idle, when_not_aligned, when_aligned, when_proving, heard_not_aligned, heard_aligned, heard_proving}
use Rattle.l2_state.specs.declared.link_state.State.{State as LinkPhase}
use Rattle.l2_state.specs.declared.signals.StateIn.{StateIn}
use Rattle.l2_state.specs.declared.signals.Switch.{Switch}
use Rattle.l2_state.specs.declared.signals.Indication.{Indication}
use Rattle.l2_state.specs.Table.{row as state_row}
use Rattle.l2_flow.specs.declared.input.FlowIn.{FlowIn}
use Rattle.l2_flow.specs.Table.{row_of as flow_row}
use Rattle.set_events.specs.declared.answer.Answer.{Answer}
use Rattle.set_events.specs.declared.answer.Refusal.{Refusal}
use Rattle.set_events.specs.declared.answer.Report.{Report}
use Rattle.set_events.specs.declared.event.Event.{Event}
use Rattle.term_model.specs.Choosing.{Filled, sends, sends_status, sends_fisu, sends_start_fisu, counts_sent, given, held_back, is_narrow, sent_by, serves, unless_out, up_first, chosen, filled}
use Rattle.term_model.specs.Hearing.{unit_in, is_error, aerm_judges, suerm_judges, service_judges, judges, judged, flow_hears, machines_hear, acked, acks, faults, reported, is_deaf, is_held, reaches_set, set_hears, waits, all_hear, heard, marked, all_marked}
use Rattle.term_model.specs.Machines.{aligns, switched, after_state, controls, fallen, risen, asks_up, asks_down, tells, state_in, ends, align_in, fails, flow_in, fallen_if, stops_quietly}
use Rattle.term_model.specs.Obeying.{obeys_if, blinded, changes_outage, commanded}
use Rattle.term_model.specs.Talk.{Talk, done, ask, and_then}
use Rattle.term_model.specs.Terminal.{Terminal, no_commands}
use Rattle.term_model.specs.Timing.{lessened, is_over, ends_t1, ends_t2, ends_t3, ends_t4, ends_t5, ends_t6, ends_t7, timed}
use Rattle.term_model.specs.Turn.{turn_talk}
use Rattle.term_model.proofs.Keeping.{Keeps, if_keeps, in_turn_keeps, then_keeps}
use Rattle.term_asks.proofs.Calm.{Any}

-- no alignment is under way but in Aligning
abbrev pub RestsIn : LinkPhase → AlignState → Type 0
RestsIn LinkPhase.OutOfService s = s ≡ AlignState.Idle
RestsIn LinkPhase.Aligning s = Unit {0}
RestsIn LinkPhase.Ready s = s ≡ AlignState.Idle
RestsIn (LinkPhase.InService paused) s = s ≡ AlignState.Idle

abbrev pub Rests : Terminal → Type 0
Rests t = RestsIn t.state t.align.state

abbrev Keep : Talk Terminal → Type 0
Keep talk = Keeps Any Rests talk

-- INITIAL ALIGNMENT: where it ends, it's idle.
abbrev IdleAt : Option Outcome → AlignState → Type 0
IdleAt None s = Unit {0}
IdleAt (Some outcome) s = s ≡ AlignState.Idle

abbrev EndsIdle : AlignRow → Type 0
EndsIdle row = IdleAt row.out.outcome row.next.state

if_idle : (b : Bool) (x y : AlignRow) → EndsIdle x → EndsIdle y → EndsIdle (if b then x else y)
if_idle true x y p q = p
if_idle false x y p q = q

abbrev is_start : AlignIn → Bool
is_start AlignIn.Start = true
is_start _ = false

module _ (a : Alignment) where
  idle_ends : (input : AlignIn) → EndsIdle (when_idle input a)
  idle_ends AlignIn.Emergency = tt
  idle_ends AlignIn.Start = tt
  idle_ends _ = tt

  not_aligned_ends : (input : AlignIn) → EndsIdle (when_not_aligned input a)
  not_aligned_ends AlignIn.Emergency = tt
  not_aligned_ends (AlignIn.Heard status) = by status
    where
      by : (status : Status) → EndsIdle (heard_not_aligned status a)
      by Status.OutOfAlignment = tt
      by Status.Normal = tt
      by Status.Emergency = tt
      by _ = tt
  not_aligned_ends AlignIn.T2 = refl
  not_aligned_ends AlignIn.Stop = tt
  not_aligned_ends _ = tt

  calmed_ends : (local short : Bool) → EndsIdle (calmed short (record a { local = local }))
  calmed_ends true short = tt
  calmed_ends false short = tt

  aligned_ends : (input : AlignIn) → EndsIdle (when_aligned input a)
  aligned_ends AlignIn.Emergency = tt
  aligned_ends AlignIn.Calm = calmed_ends a.local false
  aligned_ends (AlignIn.Heard status) = by status
    where
      by : (status : Status) → EndsIdle (heard_aligned status a)
      by Status.Normal = tt
      by Status.Emergency = tt
      by Status.OutOfService = refl
      by _ = tt
  aligned_ends AlignIn.T3 = refl
  aligned_ends AlignIn.Stop = tt
  aligned_ends _ = tt

  proving_ends : (input : AlignIn) → EndsIdle (when_proving input a)
  proving_ends AlignIn.Emergency = if_idle a.short (silent (record a { local = true })) (proving (record a { local = true; short = true })) tt tt
  proving_ends AlignIn.Calm = calmed_ends a.local a.short
  proving_ends (AlignIn.Heard status) = by status
    where
      by : (status : Status) → EndsIdle (heard_proving status a)
      by Status.Emergency = if_idle a.short (silent a) (proving (record a { short = true })) tt tt
      by Status.OutOfAlignment = tt
      by Status.OutOfService = refl
      by _ = tt
  proving_ends AlignIn.Abort =
      if_idle a.pending (silent a) (aborted a) tt (if_idle (nat_lt (a.aborts + 1) 5) (counted_abort a) (idle stop_t4 (Some Outcome.NotPossible)) tt refl)
  proving_ends AlignIn.Good = if_idle a.pending (proving a) (silent a) tt tt
  proving_ends AlignIn.T4 = if_idle a.pending (proving a) (idle stop_t4 (Some Outcome.Complete)) tt refl
  proving_ends AlignIn.Stop = tt
  proving_ends _ = tt

  align_ends : (s : AlignState) (input : AlignIn) → EndsIdle (table s input a)
  align_ends AlignState.Idle input = idle_ends input
  align_ends AlignState.NotAligned input = not_aligned_ends input
  align_ends AlignState.Aligned input = aligned_ends input
  align_ends AlignState.Proving input = proving_ends input

  -- one that is idle begins by Start alone
  idle_stays : a.state ≡ AlignState.Idle → (input : AlignIn) → is_start input ≡ false → (when_idle input a).next.state ≡ AlignState.Idle
  idle_stays e AlignIn.Start other = absurd (cc other)
  idle_stays e AlignIn.Emergency other = e
  idle_stays e _ other = e

  row_idle : a.state ≡ AlignState.Idle → (input : AlignIn) → is_start input ≡ false → (align_row a input).next.state ≡ AlignState.Idle
  row_idle e input other = subst (λ (s : AlignState). (table s input a).next.state ≡ AlignState.Idle) (sym e) (idle_stays e input other)

  aligns_in : (phase : LinkPhase) (input : AlignIn) → is_start input ≡ false → RestsIn phase a.state → RestsIn phase (align_row a input).next.state
  aligns_in LinkPhase.OutOfService input other r = row_idle r input other
  aligns_in LinkPhase.Aligning input other r = tt
  aligns_in LinkPhase.Ready input other r = row_idle r input other
  aligns_in (LinkPhase.InService paused) input other r = row_idle r input other

  -- and Stop ends it
  stop_idle : (s : AlignState) → a.state ≡ s → (table s AlignIn.Stop a).next.state ≡ AlignState.Idle
  stop_idle AlignState.Idle e = e
  stop_idle AlignState.NotAligned e = refl
  stop_idle AlignState.Aligned e = refl
  stop_idle AlignState.Proving e = refl

-- LINK STATE CONTROL: Complete and NotPossible are told it as alignment ends.
abbrev IsTold : StateIn → AlignState → Type 0
IsTold StateIn.Complete s = s ≡ AlignState.Idle
IsTold StateIn.NotPossible s = s ≡ AlignState.Idle
IsTold _ s = Unit {0}

abbrev align_switched : Option Switch → Alignment → AlignState
align_switched None a = a.state
align_switched (Some Switch.Start) a = (align_row a AlignIn.Start).next.state
align_switched (Some Switch.Stop) a = (align_row a AlignIn.Stop).next.state

abbrev LeavesAtRest : LinkPhase → StateIn → Alignment → Type 0
LeavesAtRest phase input a = RestsIn (state_row phase input).next (align_switched (state_row phase input).out.alignment a)

module _ (a : Alignment) where
  ready_heard : (status : Status) → a.state ≡ AlignState.Idle → LeavesAtRest LinkPhase.Ready (StateIn.Heard status) a
  ready_heard Status.OutOfAlignment r = r
  ready_heard Status.Normal r = r
  ready_heard Status.Emergency r = r
  ready_heard Status.OutOfService r = r
  ready_heard Status.ProcessorOutage r = r
  ready_heard Status.Busy r = r
  ready_heard Status.Unassigned6 r = r
  ready_heard Status.Unassigned7 r = r

  service_heard : (paused : Bool) (status : Status) → a.state ≡ AlignState.Idle → LeavesAtRest (LinkPhase.InService paused) (StateIn.Heard status) a
  service_heard paused Status.OutOfAlignment r = r
  service_heard paused Status.Normal r = r
  service_heard paused Status.Emergency r = r
  service_heard paused Status.OutOfService r = r
  service_heard paused Status.ProcessorOutage r = r
  service_heard paused Status.Busy r = r
  service_heard paused Status.Unassigned6 r = r
  service_heard paused Status.Unassigned7 r = r

  row_rests : (phase : LinkPhase) (input : StateIn) → RestsIn phase a.state → IsTold input a.state → LeavesAtRest phase input a
  row_rests LinkPhase.OutOfService StateIn.Start r told = tt
  row_rests LinkPhase.OutOfService _ r told = r
  row_rests LinkPhase.Aligning StateIn.Complete r told = told
  row_rests LinkPhase.Aligning StateIn.NotPossible r told = told
  row_rests LinkPhase.Aligning StateIn.Stop r told = stop_idle a a.state refl
  row_rests LinkPhase.Aligning _ r told = tt
  row_rests LinkPhase.Ready (StateIn.Heard status) r told = ready_heard status r
  row_rests LinkPhase.Ready StateIn.Stop r told = stop_idle a a.state refl
  row_rests LinkPhase.Ready _ r told = r
  row_rests (LinkPhase.InService paused) (StateIn.Heard status) r told = service_heard paused status r
  row_rests (LinkPhase.InService paused) StateIn.Stop r told = stop_idle a a.state refl
  row_rests (LinkPhase.InService paused) _ r told = r

-- THE MACHINES.
aligns_rests : (t : Terminal) (input : AlignIn) → is_start input ≡ false → Rests t → Rests (aligns input t)
aligns_rests t input other r = aligns_in t.align t.state input other r

switched_rests : (t : Terminal) (switch : Option Switch) → RestsIn t.state (align_switched switch t.align) → Rests (switched switch t)
switched_rests t None r = r
switched_rests t (Some Switch.Start) r = r
switched_rests t (Some Switch.Stop) r = r

after_rests : (t : Terminal) (input : StateIn) → IsTold input t.align.state → Rests t → Rests (after_state input t)
after_rests t input told r = switched_rests _ (state_row t.state input).out.alignment (row_rests t.align t.state input r told)

risen_rests : (t : Terminal) (answer : Answer) → Rests t → Rests (risen answer t)
risen_rests t (Answer.Accepted number) r = r
risen_rests t (Answer.Taken body) r = r
risen_rests t (Answer.Found fate) r = r
risen_rests t (Answer.Sent unit) r = r
risen_rests t (Answer.Heard report) r = r
risen_rests t Answer.Done r = r
risen_rests t (Answer.Refused why) r = r

up_rests : (t : Terminal) → Rests t → Keep (asks_up t)
up_rests t r = (tt, λ answer. risen_rests t answer r)

tells_rests : (t : Terminal) (told : Option Indication) → Rests t → Keep (tells told t)
tells_rests t None r = r
tells_rests t (Some Indication.Up) r = up_rests t r
tells_rests t (Some (Indication.Down cause)) r =
    if_keeps Any Rests t.up (asks_down cause t) (done (fallen cause t)) (λ up. (tt, λ answer. r)) (λ down. r)

state_rests : (t : Terminal) (input : StateIn) → IsTold input t.align.state → Rests t → Keep (state_in input t)
state_rests t input told r = tells_rests (after_state input t) (state_row t.state input).out.indication (after_rests t input told r)

ends_rests : (t : Terminal) (end : Option Outcome) → IdleAt end t.align.state → Rests t → Keep (ends end t)
ends_rests t None is r = r
ends_rests t (Some Outcome.Complete) is r = state_rests t StateIn.Complete is r
ends_rests t (Some Outcome.NotPossible) is r = state_rests t StateIn.NotPossible is r

align_rests : (t : Terminal) (input : AlignIn) → is_start input ≡ false → Rests t → Keep (align_in input t)
align_rests t input other r =
    ends_rests (aligns input t) (align_row t.align input).out.outcome (align_ends t.align t.align.state input) (aligns_rests t input other r)

fails_rests : (t : Terminal) (failure : Option Cause) → Rests t → Keep (fails failure t)
fails_rests t None r = r
fails_rests t (Some cause) r = state_rests t (StateIn.Failure cause) tt r

flow_rests : (t : Terminal) (input : FlowIn) → Rests t → Keep (flow_in input t)
flow_rests t input r = fails_rests (controls input t) (flow_row t.flow input).out.failure r

quiet_rests : (t : Terminal) → Rests t → Rests (stops_quietly t)
quiet_rests t r = go (state_row t.state StateIn.Stop).out.indication (after_rests t StateIn.Stop tt r)
  where
    go : (told : Option Indication) → Rests (after_state StateIn.Stop t) → Rests (fallen_if told (after_state StateIn.Stop t))
    go None k = k
    go (Some Indication.Up) k = k
    go (Some (Indication.Down cause)) k = k

-- STEP 1.
obeys_rests : (is : Bool) (obeys : Terminal → Talk Terminal) → ((t : Terminal) → Rests t → Keep (obeys t)) → (t : Terminal) → Rests t → Keep (obeys_if is obeys t)
obeys_rests is obeys each t r = if_keeps Any Rests is (obeys t) (done t) (λ yes. each t r) (λ no. r)

outage_rests : (was is : Bool) (t : Terminal) → Rests t → Keep (waits was is t)
outage_rests was true t r = flow_rests t FlowIn.Paused r
outage_rests true false t r =
    if_keeps Any Rests t.up (flow_in (FlowIn.Resumed t.unacked) t) (done t) (λ up. flow_rests t (FlowIn.Resumed t.unacked) r) (λ down. r)
outage_rests false false t r = r

changes_rests : (t : Terminal) (input : StateIn) → IsTold input t.align.state → Rests t → Keep (changes_outage input t)
changes_rests t input told r =
    then_keeps Any Rests Rests (state_in input t) (λ u. waits (is_held t) (is_held u) u) (state_rests t input told r)
    (λ u x. outage_rests (is_held t) (is_held u) u x)

commanded_rests : (t : Terminal) → Rests t → Keep (commanded t)
commanded_rests t r =
    let c = t.commands in
    in_turn_keeps Any Rests
    (obeys_if c.emergency (align_in AlignIn.Emergency) ∷ obeys_if c.calm (align_in AlignIn.Calm) ∷ obeys_if c.start (state_in StateIn.Start) ∷
    obeys_if c.busy (flow_in FlowIn.Busy) ∷ obeys_if c.ease (flow_in FlowIn.Ease) ∷ obeys_if c.blind blinded ∷
    obeys_if c.outage (changes_outage StateIn.Outage) ∷ obeys_if c.recover (changes_outage StateIn.Recover) ∷ obeys_if c.stop (state_in StateIn.Stop) ∷ [])
    (record t { commands = no_commands }) (
      obeys_rests c.emergency (align_in AlignIn.Emergency) (λ u. align_rests u AlignIn.Emergency refl),
      (
        obeys_rests c.calm (align_in AlignIn.Calm) (λ u. align_rests u AlignIn.Calm refl),
        (
          obeys_rests c.start (state_in StateIn.Start) (λ u. state_rests u StateIn.Start tt),
          (
            obeys_rests c.busy (flow_in FlowIn.Busy) (λ u. flow_rests u FlowIn.Busy),
            (
              obeys_rests c.ease (flow_in FlowIn.Ease) (λ u. flow_rests u FlowIn.Ease),
              (
                obeys_rests c.blind blinded (λ u x. x),
                (
                  obeys_rests c.outage (changes_outage StateIn.Outage) (λ u. changes_rests u StateIn.Outage tt),
                  (
                    obeys_rests c.recover (changes_outage StateIn.Recover) (λ u. changes_rests u StateIn.Recover tt),
                    (obeys_rests c.stop (state_in StateIn.Stop) (λ u. state_rests u StateIn.Stop tt), tt),
                  ),
                ),
              ),
            ),
          ),
        ),
      ),
    )
    r

-- STEP 3.
aerm_rests : (aerm : Option ℕ) (error : Bool) (t : Terminal) → Rests t → Keep (aerm_judges aerm error t)
aerm_rests None error t r = r
aerm_rests (Some left) error t r =
    let u : Terminal = record t { aerm = Some (after_aerm_mark left error) } in
    if_keeps Any Rests (after_aerm_mark left error == 0) (align_in AlignIn.Abort u) (done u) (λ is. align_rests u AlignIn.Abort refl r) (λ not. r)

suerm_rests : (suerm : Option Kept) (error : Bool) (t : Terminal) → Rests t → Keep (suerm_judges suerm error t)
suerm_rests None error t r = r
suerm_rests (Some kept) error t r =
    let u : Terminal = record t { suerm = Some (after_mark kept error) } in
    if_keeps Any Rests (after_mark kept error).tripped (state_in (StateIn.Failure Cause.Suerm) u) (done u)
    (λ is. state_rests u (StateIn.Failure Cause.Suerm) tt r) (λ not. r)

service_rests : (s : LinkPhase) (error : Bool) (t : Terminal) → Rests t → Keep (service_judges s error t)
service_rests LinkPhase.OutOfService error t r = r
service_rests LinkPhase.Aligning error t r = r
service_rests LinkPhase.Ready error t r = suerm_rests t.suerm error t r
service_rests (LinkPhase.InService paused) error t r = suerm_rests t.suerm error t r

judges_rests : (a : AlignState) (error : Bool) (t : Terminal) → Rests t → Keep (judges a error t)
judges_rests AlignState.Idle error t r = service_rests t.state error t r
judges_rests AlignState.NotAligned error t r = service_rests t.state error t r
judges_rests AlignState.Aligned error t r = service_rests t.state error t r
judges_rests AlignState.Proving error t r = aerm_rests t.aerm error t r

flow_hears_rests : (status : Status) (t : Terminal) → Rests t → Keep (flow_hears status t)
flow_hears_rests Status.Busy t r =
    if_keeps Any Rests (is_deaf t.state t.outage) (done t) (flow_in FlowIn.HeardBusy t) (λ deaf. r) (λ not. flow_rests t FlowIn.HeardBusy r)
flow_hears_rests _ t r = r

machines_rest : (unit : SignalUnit) (t : Terminal) → Rests t → Keep (machines_hear unit t)
machines_rest (SignalUnit.Fisu head) t r = state_rests t StateIn.Fisu tt r
machines_rest (SignalUnit.Lssu head status) t r =
    then_keeps Any Rests Rests (align_in (AlignIn.Heard status) t) (λ u. and_then (state_in (StateIn.Heard status) u) (λ v. flow_hears status v))
    (align_rests t (AlignIn.Heard status) refl r)
    (λ u x. then_keeps Any Rests Rests (state_in (StateIn.Heard status) u) (λ v. flow_hears status v) (state_rests u (StateIn.Heard status) tt x)
    (λ v y. flow_hears_rests status v y))
machines_rest (SignalUnit.Msu head body) t r = state_rests t StateIn.Msu tt r

acks_rests : (report : Report) (bsn : ℕ) (t : Terminal) → Rests t → Keep (acks report bsn t)
acks_rests report bsn t r =
    if_keeps Any Rests (nat_lt 0 report.acked || report.resend) (acked (not (bsn == t.top)) t) (done t)
    (λ is. flow_rests (record t { unacked = not (bsn == t.top) }) (FlowIn.Acked (not (bsn == t.top))) r) (λ not. r)

faults_rests : (fault : Option ControlFault) (t : Terminal) → Rests t → Keep (faults fault t)
faults_rests None t r = r
faults_rests (Some fault) t r = state_rests t (StateIn.Failure (cause_of fault)) tt r

refused_rests : (why : Refusal) (bsn : ℕ) (t : Terminal) → Rests t → Keep (reported (Answer.Refused why) bsn t)
refused_rests Refusal.NotUp bsn t r = quiet_rests t r
refused_rests _ bsn t r = r

reported_rests : (answer : Answer) (bsn : ℕ) (t : Terminal) → Rests t → Keep (reported answer bsn t)
reported_rests (Answer.Heard report) bsn t r =
    then_keeps Any Rests Rests (acks report bsn t) (λ u. faults report.fault u) (acks_rests report bsn t r) (λ u x. faults_rests report.fault u x)
reported_rests (Answer.Refused why) bsn t r = refused_rests why bsn t r
reported_rests _ bsn t r = r

set_rests : (unit : SignalUnit) (t : Terminal) → Rests t → Keep (set_hears unit t)
set_rests unit t r =
    if_keeps Any Rests t.up (ask (Event.Heard t.link unit) (λ answer. reported answer (head_of unit).bsn t)) (done t)
    (λ up. (tt, λ answer. reported_rests answer (head_of unit).bsn t r)) (λ down. r)

reaches_rests : (unit : SignalUnit) (t : Terminal) → Rests t → Keep (reaches_set unit t)
reaches_rests unit t r = if_keeps Any Rests t.outage (done t) (set_hears unit t) (λ out. r) (λ not. set_rests unit t r)

all_hear_rests : (unit : SignalUnit) (t : Terminal) → Rests t → Keep (all_hear unit t)
all_hear_rests unit t r =
    then_keeps Any Rests Rests (align_in AlignIn.Good t) (λ u. and_then (machines_hear unit u) (λ v. reaches_set unit v)) (align_rests t AlignIn.Good refl r)
    (λ u x. then_keeps Any Rests Rests (machines_hear unit u) (λ v. reaches_set unit v) (machines_rest unit u x) (λ v y. reaches_rests unit v y))

heard_rests : (unit : Option SignalUnit) (t : Terminal) → Rests t → Keep (heard unit t)
heard_rests None t r = r
heard_rests (Some unit) t r =
    then_keeps Any Rests Rests (all_hear unit t) (λ after. waits (is_held t) (is_held after) after) (all_hear_rests unit t r)
    (λ u x. outage_rests (is_held t) (is_held u) u x)

marks_rest : (marks : List Mark) (t : Terminal) → Rests t → Keep (all_marked marks t)
marks_rest [] t r = r
marks_rest (mark ∷ marks) t r =
    then_keeps Any Rests Rests (marked mark t) (λ u. all_marked marks u)
    (then_keeps Any Rests Rests (judged (is_error (unit_in mark)) t) (λ u. heard (unit_in mark) u) (judges_rests t.align.state (is_error (unit_in mark)) t r)
    (λ u x. heard_rests (unit_in mark) u x))
    (λ u x. marks_rest marks u x)

-- STEP 4.
over_rests : (t u : Terminal) (over : Bool) (input : Terminal → Talk Terminal) → ((v : Terminal) → Rests v → Keep (input v)) → Rests t → Rests u
    → Keep (if over then input u else done t)
over_rests t u over input each r x = if_keeps Any Rests over (input u) (done t) (λ is. each u x) (λ not. r)

timed_rests : (t : Terminal) → Rests t → Keep (timed t)
timed_rests t r = in_turn_keeps Any Rests (ends_t1 ∷ ends_t2 ∷ ends_t3 ∷ ends_t4 ∷ ends_t5 ∷ ends_t6 ∷ ends_t7 ∷ []) (lessened t) (
  (λ u x. over_rests u (record u { clocks = record u.clocks { t1 = None } }) (is_over u.clocks.t1) (state_in StateIn.T1) (λ v. state_rests v StateIn.T1 tt) x x),
  (
    (λ u x. over_rests u (record u { clocks = record u.clocks { t2 = None } }) (is_over u.clocks.t2) (align_in AlignIn.T2) (λ v. align_rests v AlignIn.T2 refl) x x),
    (
      (λ u x. over_rests u (record u { clocks = record u.clocks { t3 = None } }) (is_over u.clocks.t3) (align_in AlignIn.T3) (λ v. align_rests v AlignIn.T3 refl) x x),
      (
        (λ u x. over_rests u (record u { clocks = record u.clocks { t4 = None } }) (is_over u.clocks.t4) (align_in AlignIn.T4) (λ v. align_rests v AlignIn.T4 refl) x x),
        (
          (λ u x. over_rests u (record u { clocks = record u.clocks { t5 = None } }) (is_over u.clocks.t5) (flow_in FlowIn.T5) (λ v. flow_rests v FlowIn.T5) x x),
          (
            (λ u x. over_rests u (record u { clocks = record u.clocks { t6 = None } }) (is_over u.clocks.t6) (flow_in FlowIn.T6) (λ v. flow_rests v FlowIn.T6) x x),
            ((λ u x. over_rests u (record u { clocks = record u.clocks { t7 = None } }) (is_over u.clocks.t7) (flow_in FlowIn.T7) (λ v. flow_rests v FlowIn.T7) x x), tt),
          ),
        ),
      ),
    ),
  ),
)
    r

-- STEP 5.
abbrev pub RestsAfter : Filled → Type 0
RestsAfter f = Rests f.after

abbrev Chooses : Talk Filled → Type 0
Chooses talk = Keeps Any RestsAfter talk

counts_rest : (unit : SignalUnit) (t : Terminal) → Rests t → Keep (counts_sent unit t)
counts_rest (SignalUnit.Fisu head) t r = r
counts_rest (SignalUnit.Lssu head status) t r = r
counts_rest (SignalUnit.Msu head body) t r = flow_rests _ FlowIn.Sent r

given_rests : (unit : SignalUnit) (t : Terminal) → Rests t → Chooses (given unit t)
given_rests unit t r =
    if_keeps Any RestsAfter (is_narrow (head_of unit)) (and_then (counts_sent unit t) (λ u. sends (held_back u unit) u)) (done (record { unit = None; narrow = false; after = t }))
    (λ is. then_keeps Any Rests RestsAfter (counts_sent unit t) (λ u. sends (held_back u unit) u) (counts_rest unit t r) (λ u x. x))
    (λ not. r)

refusal_rests : (why : Refusal) (t : Terminal) → Rests t → Chooses (sent_by (Answer.Refused why) t)
refusal_rests Refusal.NotUp t r = quiet_rests t r
refusal_rests _ t r = r

answer_rests : (answer : Answer) (t : Terminal) → Rests t → Chooses (sent_by answer t)
answer_rests (Answer.Sent unit) t r = given_rests unit t r
answer_rests (Answer.Refused why) t r = refusal_rests why t r
answer_rests _ t r = r

serves_rests : (paused : Bool) (t : Terminal) → Rests t → Chooses (serves paused t)
serves_rests paused t r =
    if_keeps Any RestsAfter t.up _ (sends_start_fisu t)
    (λ up. if_keeps Any RestsAfter t.b_due (sends_status Status.Busy (record t { b_due = false })) _ (λ due. r)
    (λ not_due. if_keeps Any RestsAfter paused (sends_fisu t) (ask (Event.Next t.link) (λ answer. sent_by answer t))
    (λ is. r) (λ not. (tt, λ answer. answer_rests answer t r))))
    (λ down. r)

unless_out_rests : (talk : Talk Filled) (t : Terminal) → Rests t → Chooses talk → Chooses (unless_out talk t)
unless_out_rests talk t r rests = if_keeps Any RestsAfter t.outage (sends_status Status.ProcessorOutage t) talk (λ out. r) (λ not. rests)

chosen_rests : (phase : LinkPhase) (t : Terminal) → Rests t → Chooses (chosen phase t)
chosen_rests LinkPhase.OutOfService t r = r
chosen_rests LinkPhase.Aligning t r = r
chosen_rests LinkPhase.Ready t r = unless_out_rests (sends_start_fisu t) t r r
chosen_rests (LinkPhase.InService paused) t r =
    then_keeps Any Rests RestsAfter (up_first t) (λ u. unless_out (serves paused u) u) (if_keeps Any Rests t.up (done t) (asks_up t) (λ up. r) (λ down. up_rests t r))
    (λ u x. unless_out_rests (serves paused u) u x (serves_rests paused u x))

filled_rests : (t : Terminal) → Rests t → Chooses (filled t)
filled_rests t r =
    if_keeps Any RestsAfter (nat_lt (length t.bits) 8) (chosen t.state t) (done (record { unit = None; narrow = true; after = t }))
    (λ few. chosen_rests t.state t r) (λ enough. r)

-- THE TURN.
pub turn_rests : (marks : List Mark) (t : Terminal) → Rests t → Chooses (turn_talk marks t)
turn_rests marks t r =
    then_keeps Any Rests RestsAfter (commanded t) (λ u. and_then (all_marked marks u) (λ v. and_then (timed v) (λ w. filled w))) (commanded_rests t r)
    (λ u x. then_keeps Any Rests RestsAfter (all_marked marks u) (λ v. and_then (timed v) (λ w. filled w)) (marks_rest marks u x)
    (λ v y. then_keeps Any Rests RestsAfter (timed v) (λ w. filled w) (timed_rests v y) (λ w z. filled_rests w z)))
