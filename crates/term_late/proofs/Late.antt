-- A PROVING PERIOD IS WAITED FOR: each step of a turn keeps `Waits`, and asks nothing. The tables' rows are gone through
-- once (`align_waits`, `state_waits_row`): alignment is complete only by the end of T4, and each new proving starts it
-- for 4,096 turns at least. By the shape of a turn, as term_model's TurnStays.antt does it.
use Rattle.std.proofs.Common.{refl, sym, ap, subst, arith, ◌≡◌, ◌∙◌, ℕ, suc, ◌==◌, ◌≤◌, ◌+◌, Bool, true, false, nat_lt, length, List, [], ◌∷◌, ◌++◌, Option, Some, None, if◌then◌else◌}
use Rattle.std.proofs.lemmas.Bool.{eqb-true}
use Rattle.l2_units.specs.declared.cause.Cause.{Cause}
use Rattle.l2_units.specs.declared.status.Status.{Status}
use Rattle.l2_bits.specs.declared.marks.Mark.{Mark}
use Rattle.l2_units.specs.declared.unit.Unit.{Unit as SignalUnit}
use Rattle.l2_align.specs.Alignment.{Alignment}
use Rattle.l2_align.specs.declared.align.State.{State as AlignState}
use Rattle.l2_align.specs.declared.signals.AlignIn.{AlignIn}
use Rattle.l2_align.specs.declared.signals.Outcome.{Outcome}
use Rattle.l2_align.specs.Table.{Row as AlignRow, row as align_row, table, calmed, silent, proving, counted_abort, aborted, idle, stop_t4, when_idle, when_not_aligned, when_aligned, when_proving, heard_not_aligned, heard_aligned, heard_proving}
use Rattle.l2_state.specs.declared.link_state.State.{State}
use Rattle.l2_state.specs.declared.signals.StateIn.{StateIn}
use Rattle.l2_state.specs.declared.signals.Switch.{Switch}
use Rattle.l2_state.specs.declared.signals.Indication.{Indication}
use Rattle.l2_state.specs.Table.{Row as StateRow, row as state_row}
use Rattle.l2_flow.specs.declared.input.FlowIn.{FlowIn}
use Rattle.l2_flow.specs.Table.{row_of as flow_row}
use Rattle.l2_monitors.specs.Aerm.{after_mark as after_aerm_mark}
use Rattle.set_events.specs.declared.event.Event.{Event}
use Rattle.set_events.specs.declared.history.Entry.{Entry}
use Rattle.term_model.specs.Choosing.{Filled, chosen, filled}
use Rattle.term_model.specs.Hearing.{all_hear, is_deaf, is_held, reaches_set, waits, unit_in, is_error, aerm_judges, service_judges, judges, judged, flow_hears, machines_hear, set_hears, heard, marked, all_marked}
use Rattle.term_model.specs.Machines.{ordered, with_align, aligns, switched, with_state, controls, fallen, asks_down, tells, state_in, ends, align_in, fails, flow_in}
use Rattle.term_model.specs.Obeying.{obeys_if, blinded, changes_outage, commanded}
use Rattle.term_model.specs.OctetIn.{bits_in}
use Rattle.term_model.specs.Runs.{Doing, AreTurns, entries_of}
use Rattle.term_model.specs.Talk.{Talk, done, and_then}
use Rattle.term_model.specs.Terminal.{Terminal, no_commands}
use Rattle.term_model.specs.Timing.{one_less, lessened, is_over, ends_t1, ends_t2, ends_t3, ends_t4, ends_t5, ends_t6, ends_t7, timed}
use Rattle.term_model.specs.Turn.{turn_talk, IsTurn}
use Rattle.term_model.specs.TurnLaws.{AllAsked}
use Rattle.term_model.proofs.Keeping.{Keeps, then_keeps, in_turn_keeps, if_keeps, went_asked, went_kept}
use Rattle.term_late.specs.Late.{is_before, is_proving, HasLeft, Waits, WaitedOn, AlignmentTakesItsTime}

false_true : {X : Type 0} → false ≡ true → X
false_true e = absurd cc

true_false : {X : Type 0} → true ≡ false → X
true_false e = absurd cc

-- THE TABLES.

abbrev is_complete : Option Outcome → Bool
is_complete None = false
is_complete (Some Outcome.Complete) = true
is_complete (Some Outcome.NotPossible) = false

abbrev is_t4 : AlignIn → Bool
is_t4 AlignIn.T4 = true
is_t4 _ = false

abbrev is_up_told : Option Indication → Bool
is_up_told None = false
is_up_told (Some Indication.Up) = true
is_up_told (Some (Indication.Down cause)) = false

abbrev completes : StateIn → Bool
completes StateIn.Complete = true
completes _ = false

-- nothing is asked, and the terminal waits then
abbrev Never : Event → Type 0
Never event = ⊥

module _ (n : ℕ) (few : n ≤ 4096) where
  abbrev RowWaits : Option ℕ → AlignRow → Type 0
  RowWaits clock row =
      (is_complete row.out.outcome ≡ false) × (is_proving row.next.state ≡ true → HasLeft n (ordered row.out.t4 65536 clock))

  long : (short : Bool) → n ≤ (if short then 4096 else 65536)
  long true = few
  long false = omega (arith, few)

  module _ (clock : Option ℕ) (a : Alignment) (was : is_proving a.state ≡ true → HasLeft n clock) where
    shortened_if : (short : Bool) → RowWaits clock (if short then silent a else proving (record a { short = true }))
    shortened_if true = (refl, was)
    shortened_if false = (refl, λ e. long true)

    aborted_if : (more : Bool) → RowWaits clock (if more then counted_abort a else idle stop_t4 (Some Outcome.NotPossible))
    aborted_if true = (refl, was)
    aborted_if false = (refl, λ e. false_true e)

    abort_if : (pending : Bool) → RowWaits clock (if pending then silent a else aborted a)
    abort_if true = (refl, was)
    abort_if false = aborted_if (nat_lt (a.aborts + 1) 5)

    good_if : (pending : Bool) → RowWaits clock (if pending then proving a else silent a)
    good_if true = (refl, λ e. long a.short)
    good_if false = (refl, was)

    idle_waits : (input : AlignIn) → RowWaits clock (when_idle input a)
    idle_waits AlignIn.Emergency = (refl, was)
    idle_waits AlignIn.Start = (refl, λ e. false_true e)
    idle_waits _ = (refl, was)

    heard_not_aligned_waits : (status : Status) → RowWaits clock (heard_not_aligned status a)
    heard_not_aligned_waits Status.OutOfAlignment = (refl, λ e. false_true e)
    heard_not_aligned_waits Status.Normal = (refl, λ e. false_true e)
    heard_not_aligned_waits Status.Emergency = (refl, λ e. false_true e)
    heard_not_aligned_waits _ = (refl, was)

    not_aligned_waits : (input : AlignIn) → RowWaits clock (when_not_aligned input a)
    not_aligned_waits AlignIn.Emergency = (refl, was)
    not_aligned_waits (AlignIn.Heard status) = heard_not_aligned_waits status
    not_aligned_waits AlignIn.T2 = (refl, λ e. false_true e)
    not_aligned_waits AlignIn.Stop = (refl, λ e. false_true e)
    not_aligned_waits _ = (refl, was)

    heard_aligned_waits : (status : Status) → RowWaits clock (heard_aligned status a)
    heard_aligned_waits Status.Normal = (refl, λ e. long a.short)
    heard_aligned_waits Status.Emergency = (refl, λ e. long true)
    heard_aligned_waits Status.OutOfService = (refl, λ e. false_true e)
    heard_aligned_waits _ = (refl, was)

    calmed_waits : (local short : Bool) → RowWaits clock (calmed short (record a { local = local }))
    calmed_waits true short = (refl, was)
    calmed_waits false short = (refl, was)

    aligned_waits : (input : AlignIn) → RowWaits clock (when_aligned input a)
    aligned_waits AlignIn.Emergency = (refl, was)
    aligned_waits (AlignIn.Heard status) = heard_aligned_waits status
    aligned_waits AlignIn.Calm = calmed_waits a.local false
    aligned_waits AlignIn.T3 = (refl, λ e. false_true e)
    aligned_waits AlignIn.Stop = (refl, λ e. false_true e)
    aligned_waits _ = (refl, was)

    heard_proving_waits : (status : Status) → RowWaits clock (heard_proving status a)
    heard_proving_waits Status.Emergency = shortened_if a.short
    heard_proving_waits Status.OutOfAlignment = (refl, λ e. false_true e)
    heard_proving_waits Status.OutOfService = (refl, λ e. false_true e)
    heard_proving_waits _ = (refl, was)

    asks_short : (short : Bool) → RowWaits clock (if short then silent (record a { local = true }) else proving (record a { local = true; short = true }))
    asks_short true = (refl, was)
    asks_short false = (refl, λ e. long true)

    proving_waits : (input : AlignIn) → is_t4 input ≡ false → RowWaits clock (when_proving input a)
    proving_waits AlignIn.Emergency other = asks_short a.short
    proving_waits AlignIn.Calm other = calmed_waits a.local a.short
    proving_waits (AlignIn.Heard status) other = heard_proving_waits status
    proving_waits AlignIn.Abort other = abort_if a.pending
    proving_waits AlignIn.Good other = good_if a.pending
    proving_waits AlignIn.T4 other = true_false other
    proving_waits AlignIn.Stop other = (refl, λ e. false_true e)
    proving_waits _ other = (refl, was)

    align_waits : (s : AlignState) (input : AlignIn) → is_t4 input ≡ false → RowWaits clock (table s input a)
    align_waits AlignState.Idle input other = idle_waits input
    align_waits AlignState.NotAligned input other = not_aligned_waits input
    align_waits AlignState.Aligned input other = aligned_waits input
    align_waits AlignState.Proving input other = proving_waits input other

    t4_waits : (s : AlignState) → is_proving s ≡ false → RowWaits clock (table s AlignIn.T4 a)
    t4_waits AlignState.Idle none = (refl, was)
    t4_waits AlignState.NotAligned none = (refl, was)
    t4_waits AlignState.Aligned none = (refl, was)
    t4_waits AlignState.Proving none = true_false none

  abbrev StateWaits : StateRow → Type 0
  StateWaits row = (is_before row.next ≡ true) × (is_up_told row.out.indication ≡ false)

  state_row_waits : (s : State) (input : StateIn) → is_before s ≡ true → completes input ≡ false → StateWaits (state_row s input)
  state_row_waits State.OutOfService StateIn.Start before other = (refl, refl)
  state_row_waits State.OutOfService _ before other = (refl, refl)
  state_row_waits State.Aligning StateIn.Complete before other = true_false other
  state_row_waits State.Aligning StateIn.NotPossible before other = (refl, refl)
  state_row_waits State.Aligning StateIn.Stop before other = (refl, refl)
  state_row_waits State.Aligning _ before other = (refl, refl)
  state_row_waits State.Ready input before other = false_true before
  state_row_waits (State.InService paused) input before other = false_true before

  -- THE MACHINES.
  abbrev Keep : Talk Terminal → Type 0
  Keep talk = Keeps Never (Waits n) talk

  fallen_waits : (t : Terminal) (cause : Cause) → Waits n t → Waits n (fallen cause t)
  fallen_waits t cause w = record { before = w.before; down = refl; left = w.left }

  aligned_so : (t : Terminal) (row : AlignRow) → RowWaits t.clocks.t4 row → Waits n t → Waits n (with_align row t)
  aligned_so t row waits w = record { before = w.before; down = w.down; left = waits.1 }

  aligns_waits : (t : Terminal) (input : AlignIn) → is_t4 input ≡ false → Waits n t → Waits n (aligns input t)
  aligns_waits t input other w = aligned_so t (align_row t.align input) (align_waits t.clocks.t4 t.align w.left t.align.state input other) w

  switched_waits : (t : Terminal) (switch : Option Switch) → Waits n t → Waits n (switched switch t)
  switched_waits t None w = w
  switched_waits t (Some Switch.Start) w = aligns_waits t AlignIn.Start refl w
  switched_waits t (Some Switch.Stop) w = aligns_waits t AlignIn.Stop refl w

  tells_waits : (t : Terminal) (told : Option Indication) → is_up_told told ≡ false → Waits n t → Keep (tells told t)
  tells_waits t None other w = w
  tells_waits t (Some Indication.Up) other w = true_false other
  tells_waits t (Some (Indication.Down cause)) other w =
      if_keeps Never (Waits n) t.up (asks_down cause t) (done (fallen cause t))
      (λ up. false_true (sym w.down ∙ up)) (λ down. fallen_waits t cause w)

  row_waits : (t : Terminal) (row : StateRow) → StateWaits row → Waits n t → Keep (tells row.out.indication (with_state row t))
  row_waits t row slow w = tells_waits (with_state row t) row.out.indication slow.1
      (switched_waits _ row.out.alignment (record { before = slow.0; down = w.down; left = w.left }))

  state_waits : (t : Terminal) (input : StateIn) → completes input ≡ false → Waits n t → Keep (state_in input t)
  state_waits t input other w = row_waits t (state_row t.state input) (state_row_waits t.state input w.before other) w

  ends_waits : (t : Terminal) (end : Option Outcome) → is_complete end ≡ false → Waits n t → Keep (ends end t)
  ends_waits t None other w = w
  ends_waits t (Some Outcome.Complete) other w = true_false other
  ends_waits t (Some Outcome.NotPossible) other w = state_waits t StateIn.NotPossible refl w

  align_in_waits : (t : Terminal) (input : AlignIn) → is_t4 input ≡ false → Waits n t → Keep (align_in input t)
  align_in_waits t input other w =
      ends_waits (aligns input t) (align_row t.align input).out.outcome
      (align_waits t.clocks.t4 t.align w.left t.align.state input other).0 (aligns_waits t input other w)

  fails_waits : (t : Terminal) (failure : Option Cause) → Waits n t → Keep (fails failure t)
  fails_waits t None w = w
  fails_waits t (Some cause) w = state_waits t (StateIn.Failure cause) refl w

  flow_waits : (t : Terminal) (input : FlowIn) → Waits n t → Keep (flow_in input t)
  flow_waits t input w = fails_waits (controls input t) (flow_row t.flow input).out.failure
      (record { before = w.before; down = w.down; left = w.left })

  -- STEP 1.
  obeys_waits : (is : Bool) (obeys : Terminal → Talk Terminal) → ((t : Terminal) → Waits n t → Keep (obeys t))
      → (t : Terminal) → Waits n t → Keep (obeys_if is obeys t)
  obeys_waits is obeys each t w = if_keeps Never (Waits n) is (obeys t) (done t) (λ yes. each t w) (λ no. w)

  outage_waits : (was is : Bool) (t : Terminal) → Waits n t → Keep (waits was is t)
  outage_waits was true t w = flow_waits t FlowIn.Paused w
  outage_waits true false t w =
      if_keeps Never (Waits n) t.up (flow_in (FlowIn.Resumed t.unacked) t) (done t) (λ up. flow_waits t (FlowIn.Resumed t.unacked) w) (λ down. w)
  outage_waits false false t w = w

  changes_waits : (t : Terminal) (input : StateIn) → completes input ≡ false → Waits n t → Keep (changes_outage input t)
  changes_waits t input other w =
      then_keeps Never (Waits n) (Waits n) (state_in input t) (λ u. waits (is_held t) (is_held u) u)
      (state_waits t input other w) (λ u x. outage_waits (is_held t) (is_held u) u x)

  commanded_waits : (t : Terminal) → Waits n t → Keep (commanded t)
  commanded_waits t w =
      let c = t.commands in
      in_turn_keeps Never (Waits n)
      (obeys_if c.emergency (align_in AlignIn.Emergency) ∷ obeys_if c.calm (align_in AlignIn.Calm) ∷ obeys_if c.start (state_in StateIn.Start) ∷
      obeys_if c.busy (flow_in FlowIn.Busy) ∷ obeys_if c.ease (flow_in FlowIn.Ease) ∷ obeys_if c.blind blinded ∷
      obeys_if c.outage (changes_outage StateIn.Outage) ∷ obeys_if c.recover (changes_outage StateIn.Recover) ∷ obeys_if c.stop (state_in StateIn.Stop) ∷ [])
      (record t { commands = no_commands }) (
        obeys_waits c.emergency (align_in AlignIn.Emergency) (λ u. align_in_waits u AlignIn.Emergency refl),
        (
          obeys_waits c.calm (align_in AlignIn.Calm) (λ u. align_in_waits u AlignIn.Calm refl),
          (
            obeys_waits c.start (state_in StateIn.Start) (λ u. state_waits u StateIn.Start refl),
            (
              obeys_waits c.busy (flow_in FlowIn.Busy) (λ u. flow_waits u FlowIn.Busy),
              (
                obeys_waits c.ease (flow_in FlowIn.Ease) (λ u. flow_waits u FlowIn.Ease),
                (
                  obeys_waits c.blind blinded (λ u v. record { before = v.before; down = v.down; left = v.left }),
                  (
                    obeys_waits c.outage (changes_outage StateIn.Outage) (λ u. changes_waits u StateIn.Outage refl),
                    (
                      obeys_waits c.recover (changes_outage StateIn.Recover) (λ u. changes_waits u StateIn.Recover refl),
                      (obeys_waits c.stop (state_in StateIn.Stop) (λ u. state_waits u StateIn.Stop refl), tt),
                    ),
                  ),
                ),
              ),
            ),
          ),
        ),
      )
      (record { before = w.before; down = w.down; left = w.left })

  -- STEP 3.
  aerm_waits : (aerm : Option ℕ) (error : Bool) (t : Terminal) → Waits n t → Keep (aerm_judges aerm error t)
  aerm_waits None error t w = w
  aerm_waits (Some left) error t w =
      let u : Terminal = record t { aerm = Some (after_aerm_mark left error) } in
      let v : Waits n u = record { before = w.before; down = w.down; left = w.left } in
      if_keeps Never (Waits n) (after_aerm_mark left error == 0) (align_in AlignIn.Abort u) (done u)
      (λ is. align_in_waits u AlignIn.Abort refl v) (λ not. v)

  service_waits : (s : State) → is_before s ≡ true → (error : Bool) (t : Terminal) → Waits n t → Keep (service_judges s error t)
  service_waits State.OutOfService before error t w = w
  service_waits State.Aligning before error t w = w
  service_waits State.Ready before error t w = false_true before
  service_waits (State.InService paused) before error t w = false_true before

  judges_waits : (a : AlignState) (error : Bool) (t : Terminal) → Waits n t → Keep (judges a error t)
  judges_waits AlignState.Idle error t w = service_waits t.state w.before error t w
  judges_waits AlignState.NotAligned error t w = service_waits t.state w.before error t w
  judges_waits AlignState.Aligned error t w = service_waits t.state w.before error t w
  judges_waits AlignState.Proving error t w = aerm_waits t.aerm error t w

  flow_hears_waits : (status : Status) (t : Terminal) → Waits n t → Keep (flow_hears status t)
  flow_hears_waits Status.Busy t w =
      if_keeps Never (Waits n) (is_deaf t.state t.outage) (done t) (flow_in FlowIn.HeardBusy t) (λ deaf. w) (λ not. flow_waits t FlowIn.HeardBusy w)
  flow_hears_waits _ t w = w

  machines_wait : (unit : SignalUnit) (t : Terminal) → Waits n t → Keep (machines_hear unit t)
  machines_wait (SignalUnit.Fisu head) t w = state_waits t StateIn.Fisu refl w
  machines_wait (SignalUnit.Lssu head status) t w =
      then_keeps Never (Waits n) (Waits n) (align_in (AlignIn.Heard status) t) (λ u. and_then (state_in (StateIn.Heard status) u) (λ v. flow_hears status v))
      (align_in_waits t (AlignIn.Heard status) refl w)
      (λ u x. then_keeps Never (Waits n) (Waits n) (state_in (StateIn.Heard status) u) (λ v. flow_hears status v)
      (state_waits u (StateIn.Heard status) refl x) (λ v y. flow_hears_waits status v y))
  machines_wait (SignalUnit.Msu head body) t w = state_waits t StateIn.Msu refl w

  set_waits : (unit : SignalUnit) (t : Terminal) → Waits n t → Keep (set_hears unit t)
  set_waits unit t w = if_keeps Never (Waits n) t.up _ (done t) (λ up. false_true (sym w.down ∙ up)) (λ down. w)

  reaches_waits : (unit : SignalUnit) (t : Terminal) → Waits n t → Keep (reaches_set unit t)
  reaches_waits unit t w = if_keeps Never (Waits n) t.outage (done t) (set_hears unit t) (λ out. w) (λ not. set_waits unit t w)

  all_hear_waits : (unit : SignalUnit) (t : Terminal) → Waits n t → Keep (all_hear unit t)
  all_hear_waits unit t w =
      then_keeps Never (Waits n) (Waits n) (align_in AlignIn.Good t) (λ u. and_then (machines_hear unit u) (λ v. reaches_set unit v))
      (align_in_waits t AlignIn.Good refl w)
      (λ u x. then_keeps Never (Waits n) (Waits n) (machines_hear unit u) (λ v. reaches_set unit v)
      (machines_wait unit u x) (λ v y. reaches_waits unit v y))

  heard_waits : (unit : Option SignalUnit) (t : Terminal) → Waits n t → Keep (heard unit t)
  heard_waits None t w = w
  heard_waits (Some unit) t w =
      then_keeps Never (Waits n) (Waits n) (all_hear unit t) (λ after. waits (is_held t) (is_held after) after)
      (all_hear_waits unit t w) (λ u x. outage_waits (is_held t) (is_held u) u x)

  marked_waits : (mark : Mark) (t : Terminal) → Waits n t → Keep (marked mark t)
  marked_waits mark t w =
      then_keeps Never (Waits n) (Waits n) (judged (is_error (unit_in mark)) t) (λ u. heard (unit_in mark) u)
      (judges_waits t.align.state (is_error (unit_in mark)) t w) (λ u x. heard_waits (unit_in mark) u x)

  all_marked_waits : (marks : List Mark) (t : Terminal) → Waits n t → Keep (all_marked marks t)
  all_marked_waits [] t w = w
  all_marked_waits (mark ∷ marks) t w =
      then_keeps Never (Waits n) (Waits n) (marked mark t) (λ u. all_marked marks u) (marked_waits mark t w) (λ u x. all_marked_waits marks u x)

  -- STEP 4, but for the turn that passes.
  over_waits : (t u : Terminal) (over : Bool) (input : Terminal → Talk Terminal) → ((v : Terminal) → Waits n v → Keep (input v))
      → Waits n t → Waits n u → Keep (if over then input u else done t)
  over_waits t u over input each w x = if_keeps Never (Waits n) over (input u) (done t) (λ is. each u x) (λ not. w)

  not_over : (clock : Option ℕ) → 1 ≤ n → HasLeft n clock → is_over clock ≡ true → ⊥
  not_over None some has over = false_true over
  not_over (Some left) some has over = let none : left ≡ 0 = eqb-true left 0 over in omega (arith, some, has, none)

  t4_ends : 1 ≤ n → (t : Terminal) → Waits n t → Keep (ends_t4 t)
  t4_ends some t w =
      let u : Terminal = record t { clocks = record t.clocks { t4 = None } } in
      if_keeps Never (Waits n) (is_over t.clocks.t4) (align_in AlignIn.T4 u) (done t)
      (λ over. at over (is_proving t.align.state) refl) (λ not. w)
    where
      at : is_over t.clocks.t4 ≡ true → (b : Bool) → is_proving t.align.state ≡ b
          → Keep (align_in AlignIn.T4 (record t { clocks = record t.clocks { t4 = None } }))
      at over true e = absurd (not_over t.clocks.t4 some (w.left e) over)
      at over false e =
          let u : Terminal = record t { clocks = record t.clocks { t4 = None } } in
          let x : Waits n u = record { before = w.before; down = w.down; left = λ is. tt } in
          let row = t4_waits None t.align (λ is. tt) t.align.state e in
          ends_waits (aligns AlignIn.T4 u) (align_row u.align AlignIn.T4).out.outcome row.0 (aligned_so u (align_row u.align AlignIn.T4) row x)

  clocks_wait : 1 ≤ n → (t : Terminal) → Waits n (lessened t) → Keep (timed t)
  clocks_wait some t w = in_turn_keeps Never (Waits n) (ends_t1 ∷ ends_t2 ∷ ends_t3 ∷ ends_t4 ∷ ends_t5 ∷ ends_t6 ∷ ends_t7 ∷ []) (lessened t) (
    (λ u x. over_waits u (record u { clocks = record u.clocks { t1 = None } }) (is_over u.clocks.t1) (state_in StateIn.T1) (λ v. state_waits v StateIn.T1 refl) x
        (record { before = x.before; down = x.down; left = x.left })),
    (
      (λ u x. over_waits u (record u { clocks = record u.clocks { t2 = None } }) (is_over u.clocks.t2) (align_in AlignIn.T2) (λ v. align_in_waits v AlignIn.T2 refl) x
          (record { before = x.before; down = x.down; left = x.left })),
      (
        (λ u x. over_waits u (record u { clocks = record u.clocks { t3 = None } }) (is_over u.clocks.t3) (align_in AlignIn.T3) (λ v. align_in_waits v AlignIn.T3 refl) x
            (record { before = x.before; down = x.down; left = x.left })),
        (
          (λ u x. t4_ends some u x),
          (
            (λ u x. over_waits u (record u { clocks = record u.clocks { t5 = None } }) (is_over u.clocks.t5) (flow_in FlowIn.T5) (λ v. flow_waits v FlowIn.T5) x
                (record { before = x.before; down = x.down; left = x.left })),
            (
              (λ u x. over_waits u (record u { clocks = record u.clocks { t6 = None } }) (is_over u.clocks.t6) (flow_in FlowIn.T6) (λ v. flow_waits v FlowIn.T6) x
                  (record { before = x.before; down = x.down; left = x.left })),
              (
                (λ u x. over_waits u (record u { clocks = record u.clocks { t7 = None } }) (is_over u.clocks.t7) (flow_in FlowIn.T7) (λ v. flow_waits v FlowIn.T7) x
                    (record { before = x.before; down = x.down; left = x.left })),
                tt,
              ),
            ),
          ),
        ),
      ),
    ),
  ) w

  -- STEP 5.
  abbrev Chooses : Talk Filled → Type 0
  Chooses talk = Keeps Never (λ f. Waits n f.after) talk

  chosen_waits : (s : State) → is_before s ≡ true → (t : Terminal) → Waits n t → Chooses (chosen s t)
  chosen_waits State.OutOfService before t w = record { before = w.before; down = w.down; left = w.left }
  chosen_waits State.Aligning before t w = record { before = w.before; down = w.down; left = w.left }
  chosen_waits State.Ready before t w = false_true before
  chosen_waits (State.InService paused) before t w = false_true before

  filled_waits : (t : Terminal) → Waits n t → Chooses (filled t)
  filled_waits t w = if_keeps Never (λ f. Waits n f.after) (nat_lt (length t.bits) 8) (chosen t.state t) (done (record { unit = None; narrow = true; after = t }))
      (λ few. chosen_waits t.state w.before t w) (λ enough. w)

-- a turn passes
less : (m : ℕ) (clock : Option ℕ) → HasLeft (suc m) clock → HasLeft m (one_less clock)
less m None has = tt
less m (Some left) has = omega arith

lessened_waits : (m : ℕ) (t : Terminal) → Waits (suc m) t → Waits m (lessened t)
lessened_waits m t w = record { before = w.before; down = w.down; left = λ is. less m t.clocks.t4 (w.left is) }

-- THE TURN.
talk_waits : (m : ℕ) → 1 ≤ m → suc m ≤ 4096 → (marks : List Mark) (b : Terminal) → Waits (suc m) b
    → Keeps Never (λ f. Waits m f.after) (turn_talk marks b)
talk_waits m some few marks b w =
    let fewer : m ≤ 4096 = omega (arith, few) in
    then_keeps Never (Waits (suc m)) (λ f. Waits m f.after) (commanded b) (λ t. and_then (all_marked marks t) (λ u. and_then (timed u) (λ v. filled v)))
    (commanded_waits (suc m) few b w)
    (λ t x. then_keeps Never (Waits (suc m)) (λ f. Waits m f.after) (all_marked marks t) (λ u. and_then (timed u) (λ v. filled v))
    (all_marked_waits (suc m) few marks t x)
    (λ u y. then_keeps Never (Waits m) (λ f. Waits m f.after) (timed u) (λ v. filled v)
    (clocks_wait m fewer some u (lessened_waits m u y)) (λ v z. filled_waits m fewer v z)))

none_asked : (entries : List Entry) → AllAsked Never entries → entries ≡ []
none_asked [] all = refl
none_asked (entry ∷ entries) all = absurd all.0

record Passed (m : ℕ) (entries : List Entry) (after : Terminal) : Type 0 where
  pub waits : Waits m after
  pub none : entries ≡ []

one_turn : (m : ℕ) → 1 ≤ m → suc m ≤ 4096 → (taken : List Bool) (before : Terminal) (octet : Option ℕ) (entries : List Entry)
    (put : List ℕ) (marks : List Mark) (after : Terminal) → Waits (suc m) before
    → IsTurn taken before octet entries put marks after → Passed m entries after
one_turn m some few taken before octet entries put marks after w turn =
    let keeps = talk_waits m some few marks before w in
    let left : Waits m turn.chosen.after = went_kept Never (λ f. Waits m f.after) (turn_talk marks before) entries turn.chosen keeps turn.went in
    record {
      waits = subst (λ t. Waits m t) (sym turn.puts.after_is) (record { before = left.before; down = left.down; left = left.left });
      none = none_asked entries (went_asked Never (λ f. Waits m f.after) (turn_talk marks before) entries turn.chosen keeps turn.went);
    }

turns_wait : (doings : List Doing) (n : ℕ) (taken : List Bool) (before after : Terminal) → 1 ≤ n
    → length doings + n ≤ 4096 → Waits (length doings + n) before → AreTurns doings taken before after → WaitedOn n doings after
turns_wait [] n taken before after some few w are =
    let same : 0 + n ≡ n = omega arith in
    record { waits = subst (λ t. Waits n t) (sym are) (subst (λ k. Waits k before) same w); asks_nothing = refl }
turns_wait (doing ∷ rest) n taken before after some few w are =
    let same : length (doing ∷ rest) + n ≡ suc (length rest + n) = omega arith in
    let fewer : suc (length rest + n) ≤ 4096 = omega (arith, few) in
    let there : 1 ≤ length rest + n = omega (arith, some) in
    let did = are.1 in
    let p = one_turn (length rest + n) there fewer taken before doing.octet doing.entries doing.put doing.marks are.0
    (subst (λ k. Waits k before) same w) did.turn in
    let later = turns_wait rest n (taken ++ bits_in doing.octet) are.0 after some (omega (arith, few)) p.waits are.2 in
    record { waits = later.waits; asks_nothing = ap (λ (es : List Entry). es ++ entries_of rest) p.none ∙ later.asks_nothing }

pub takes_its_time : AlignmentTakesItsTime
takes_its_time = record {
  opened_waits = λ link lengths. record { before = refl; down = refl; left = λ is. false_true is };
  out_waits = λ t out idle down. record {
    before = ap is_before out;
    down = down;
    left = λ is. false_true (sym (ap is_proving idle) ∙ is);
  };
  told_waits = λ n command t w. record { before = w.before; down = w.down; left = w.left };
  turns_wait = turns_wait;
}
