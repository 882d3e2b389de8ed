-- AN END THAT IS NEVER TOLD THAT IT'S BUSY, nor that it has a processor outage, sends no status but those of a link that
-- isn't in service (`turn_calm`): flow control stays as it is, and alignment names no other. Each step of a turn keeps it, as in Sending.antt, whatever
-- comes on the line. Used by Asking.antt, and by pair_octets's CalmSteps.antt.
use Rattle.std.proofs.Common.{refl, sym, subst, ◌≡◌, ◌∙◌, ◌==◌, ◌||◌, ◌+◌, ℕ, nat_lt, length, Bool, true, false, not, List, [], ◌∷◌, Option, Some, None, if◌then◌else◌}
use Rattle.l2_units.specs.declared.cause.Cause.{Cause}
use Rattle.l2_units.specs.declared.cause.ControlFault.{ControlFault}
use Rattle.l2_units.specs.declared.status.Status.{Status}
use Rattle.l2_units.specs.declared.unit.Unit.{Unit as SignalUnit}
use Rattle.l2_units.specs.Grammar.{head_of}
use Rattle.l2_units.specs.Numbers.{cause_of}
use Rattle.l2_bits.specs.declared.marks.Mark.{Mark}
use Rattle.l2_monitors.specs.Aerm.{after_mark as after_aerm_mark}
use Rattle.l2_monitors.specs.Suerm.{Kept, after_mark}
use Rattle.l2_align.specs.Alignment.{Alignment}
use Rattle.l2_align.specs.declared.align.State.{State as AlignState}
use Rattle.l2_align.specs.declared.signals.AlignIn.{AlignIn}
use Rattle.l2_align.specs.declared.signals.Outcome.{Outcome}
use Rattle.l2_align.specs.Table.{Row as AlignRow, row as align_row, table, calmed, silent, proving, aborted, counted_abort, idle, stop_t4, when_idle, when_not_aligned, when_aligned, when_proving, heard_not_aligned, heard_aligned, heard_proving}
use Rattle.l2_state.specs.declared.link_state.State.{State as LinkPhase}
use Rattle.l2_state.specs.declared.signals.StateIn.{StateIn}
use Rattle.l2_state.specs.declared.signals.Switch.{Switch}
use Rattle.l2_state.specs.declared.signals.Indication.{Indication}
use Rattle.l2_state.specs.Table.{outage_after, row as state_row}
use Rattle.l2_flow.specs.declared.input.FlowIn.{FlowIn}
use Rattle.l2_flow.specs.Table.{row as flow_table, row_of as flow_row}
use Rattle.set_events.specs.declared.answer.Answer.{Answer}
use Rattle.set_events.specs.declared.answer.Refusal.{Refusal}
use Rattle.set_events.specs.declared.answer.Report.{Report}
use Rattle.set_events.specs.declared.event.Event.{Event}
use Rattle.term_model.specs.Choosing.{Filled, sends, sends_status, sends_fisu, sends_start_fisu, counts_sent, given, held_back, is_narrow, sent_by, serves, unless_out, up_first, chosen, filled}
use Rattle.term_model.specs.Hearing.{unit_in, is_error, aerm_judges, suerm_judges, service_judges, judges, judged, flow_hears, machines_hear, acked, acks, faults, reported, is_deaf, is_held, reaches_set, set_hears, waits, all_hear, heard, marked, all_marked}
use Rattle.term_model.specs.Machines.{aligns, status_after, switched, after_state, controls, fallen, risen, asks_up, asks_down, tells, state_in, ends, align_in, fails, flow_in, fallen_if, stops_quietly}
use Rattle.term_model.specs.Obeying.{obeys_if, blinded, changes_outage, commanded}
use Rattle.term_model.specs.Talk.{Talk, done, ask, and_then}
use Rattle.term_model.specs.Terminal.{Terminal, last_head, no_commands}
use Rattle.term_model.specs.Timing.{lessened, is_over, ends_t1, ends_t2, ends_t3, ends_t4, ends_t5, ends_t6, ends_t7, timed}
use Rattle.term_model.specs.Turn.{turn_talk}
use Rattle.term_asks.specs.Asking.{IsPlainAnswer}
use Rattle.term_asks.specs.Plain.{is_plain, IsPlainUnit}
use Rattle.term_asks.proofs.Talking.{KeepsBy, if_by, in_turn_by, then_by}

abbrev pub Any : Event → Type 0
Any event = Unit {0}

-- THE TABLES.
abbrev send_plain : Option Status → Bool
send_plain None = true
send_plain (Some status) = is_plain status

abbrev RowPlain : AlignRow → Type 0
RowPlain row = send_plain row.out.send ≡ true

if_plain : (b : Bool) (x y : AlignRow) → RowPlain x → RowPlain y → RowPlain (if b then x else y)
if_plain true x y p q = p
if_plain false x y p q = q

named_plain : (b : Bool) → is_plain (if b then Status.Emergency else Status.Normal) ≡ true
named_plain true = refl
named_plain false = refl

module _ (a : Alignment) where
  idle_plain : (input : AlignIn) → RowPlain (when_idle input a)
  idle_plain AlignIn.Emergency = refl
  idle_plain AlignIn.Start = refl
  idle_plain _ = refl

  not_aligned_plain : (input : AlignIn) → RowPlain (when_not_aligned input a)
  not_aligned_plain AlignIn.Emergency = refl
  not_aligned_plain (AlignIn.Heard status) = by status
    where
      by : (status : Status) → RowPlain (heard_not_aligned status a)
      by Status.OutOfAlignment = named_plain a.local
      by Status.Normal = named_plain a.local
      by Status.Emergency = named_plain a.local
      by _ = refl
  not_aligned_plain AlignIn.T2 = refl
  not_aligned_plain AlignIn.Stop = refl
  not_aligned_plain _ = refl

  calmed_plain : (local short : Bool) → RowPlain (calmed short (record a { local = local }))
  calmed_plain true short = refl
  calmed_plain false short = refl

  aligned_plain : (input : AlignIn) → RowPlain (when_aligned input a)
  aligned_plain AlignIn.Emergency = refl
  aligned_plain AlignIn.Calm = calmed_plain a.local false
  aligned_plain (AlignIn.Heard status) = by status
    where
      by : (status : Status) → RowPlain (heard_aligned status a)
      by Status.Normal = refl
      by Status.Emergency = refl
      by Status.OutOfService = refl
      by _ = refl
  aligned_plain AlignIn.T3 = refl
  aligned_plain AlignIn.Stop = refl
  aligned_plain _ = refl

  proving_plain : (input : AlignIn) → RowPlain (when_proving input a)
  proving_plain AlignIn.Emergency = refl
  proving_plain AlignIn.Calm = calmed_plain a.local a.short
  proving_plain (AlignIn.Heard status) = by status
    where
      by : (status : Status) → RowPlain (heard_proving status a)
      by Status.Emergency = if_plain a.short (silent a) (proving (record a { short = true })) refl refl
      by Status.OutOfAlignment = refl
      by Status.OutOfService = refl
      by _ = refl
  proving_plain AlignIn.Abort =
      if_plain a.pending (silent a) (aborted a) refl (if_plain (nat_lt (a.aborts + 1) 5) (counted_abort a) (idle stop_t4 (Some Outcome.NotPossible)) refl refl)
  proving_plain AlignIn.Good = if_plain a.pending (proving a) (silent a) refl refl
  proving_plain AlignIn.T4 = if_plain a.pending (proving a) (idle stop_t4 (Some Outcome.Complete)) refl refl
  proving_plain AlignIn.Stop = refl
  proving_plain _ = refl

  align_plain : (s : AlignState) (input : AlignIn) → RowPlain (table s input a)
  align_plain AlignState.Idle input = idle_plain input
  align_plain AlignState.NotAligned input = not_aligned_plain input
  align_plain AlignState.Aligned input = aligned_plain input
  align_plain AlignState.Proving input = proving_plain input

-- flow control of an end that isn't busy
abbrev IsCalmRow : Bool → Bool → FlowIn → Type 0
IsCalmRow far t7 input = ((flow_table false far t7 input).next.busy ≡ false) × ((flow_table false far t7 input).out.send_busy ≡ false)

abbrev is_busy_in : FlowIn → Bool
is_busy_in FlowIn.Busy = true
is_busy_in _ = false

flow_calm : (far t7 : Bool) (input : FlowIn) → is_busy_in input ≡ false → IsCalmRow far t7 input
flow_calm far t7 FlowIn.Busy not = absurd (cc not)
flow_calm true true FlowIn.Ease not = (refl, refl)
flow_calm true true FlowIn.T5 not = (refl, refl)
flow_calm true true FlowIn.HeardBusy not = (refl, refl)
flow_calm true true (FlowIn.Acked true) not = (refl, refl)
flow_calm true true (FlowIn.Acked false) not = (refl, refl)
flow_calm true true FlowIn.Sent not = (refl, refl)
flow_calm true true FlowIn.Paused not = (refl, refl)
flow_calm true true (FlowIn.Resumed true) not = (refl, refl)
flow_calm true true (FlowIn.Resumed false) not = (refl, refl)
flow_calm true true FlowIn.T6 not = (refl, refl)
flow_calm true true FlowIn.T7 not = (refl, refl)
flow_calm true true FlowIn.Reset not = (refl, refl)
flow_calm true false FlowIn.Ease not = (refl, refl)
flow_calm true false FlowIn.T5 not = (refl, refl)
flow_calm true false FlowIn.HeardBusy not = (refl, refl)
flow_calm true false (FlowIn.Acked true) not = (refl, refl)
flow_calm true false (FlowIn.Acked false) not = (refl, refl)
flow_calm true false FlowIn.Sent not = (refl, refl)
flow_calm true false FlowIn.Paused not = (refl, refl)
flow_calm true false (FlowIn.Resumed true) not = (refl, refl)
flow_calm true false (FlowIn.Resumed false) not = (refl, refl)
flow_calm true false FlowIn.T6 not = (refl, refl)
flow_calm true false FlowIn.T7 not = (refl, refl)
flow_calm true false FlowIn.Reset not = (refl, refl)
flow_calm false true FlowIn.Ease not = (refl, refl)
flow_calm false true FlowIn.T5 not = (refl, refl)
flow_calm false true FlowIn.HeardBusy not = (refl, refl)
flow_calm false true (FlowIn.Acked true) not = (refl, refl)
flow_calm false true (FlowIn.Acked false) not = (refl, refl)
flow_calm false true FlowIn.Sent not = (refl, refl)
flow_calm false true FlowIn.Paused not = (refl, refl)
flow_calm false true (FlowIn.Resumed true) not = (refl, refl)
flow_calm false true (FlowIn.Resumed false) not = (refl, refl)
flow_calm false true FlowIn.T6 not = (refl, refl)
flow_calm false true FlowIn.T7 not = (refl, refl)
flow_calm false true FlowIn.Reset not = (refl, refl)
flow_calm false false FlowIn.Ease not = (refl, refl)
flow_calm false false FlowIn.T5 not = (refl, refl)
flow_calm false false FlowIn.HeardBusy not = (refl, refl)
flow_calm false false (FlowIn.Acked true) not = (refl, refl)
flow_calm false false (FlowIn.Acked false) not = (refl, refl)
flow_calm false false FlowIn.Sent not = (refl, refl)
flow_calm false false FlowIn.Paused not = (refl, refl)
flow_calm false false (FlowIn.Resumed true) not = (refl, refl)
flow_calm false false (FlowIn.Resumed false) not = (refl, refl)
flow_calm false false FlowIn.T6 not = (refl, refl)
flow_calm false false FlowIn.T7 not = (refl, refl)
flow_calm false false FlowIn.Reset not = (refl, refl)

-- link state control of an end that isn't told of an outage: no row begins one
abbrev pub is_outage_in : StateIn → Bool
is_outage_in StateIn.Outage = true
is_outage_in _ = false

abbrev BeginsNone : Option Bool → Type 0
BeginsNone None = Unit {0}
BeginsNone (Some out) = out ≡ false

begins_none : (phase : LinkPhase) (input : StateIn) → is_outage_in input ≡ false → BeginsNone (state_row phase input).outage
begins_none phase StateIn.Outage not = absurd (cc not)
begins_none LinkPhase.OutOfService StateIn.Start not = tt
begins_none LinkPhase.OutOfService StateIn.Recover not = refl
begins_none LinkPhase.OutOfService _ not = tt
begins_none LinkPhase.Aligning StateIn.Complete not = tt
begins_none LinkPhase.Aligning StateIn.NotPossible not = refl
begins_none LinkPhase.Aligning StateIn.Stop not = refl
begins_none LinkPhase.Aligning StateIn.Recover not = refl
begins_none LinkPhase.Aligning _ not = tt
begins_none LinkPhase.Ready StateIn.Fisu not = tt
begins_none LinkPhase.Ready StateIn.Msu not = tt
begins_none LinkPhase.Ready (StateIn.Heard Status.OutOfAlignment) not = refl
begins_none LinkPhase.Ready (StateIn.Heard Status.OutOfService) not = refl
begins_none LinkPhase.Ready (StateIn.Heard _) not = tt
begins_none LinkPhase.Ready StateIn.T1 not = refl
begins_none LinkPhase.Ready (StateIn.Failure cause) not = refl
begins_none LinkPhase.Ready StateIn.Stop not = refl
begins_none LinkPhase.Ready StateIn.Recover not = refl
begins_none LinkPhase.Ready _ not = tt
begins_none (LinkPhase.InService paused) (StateIn.Heard Status.OutOfAlignment) not = refl
begins_none (LinkPhase.InService paused) (StateIn.Heard Status.Normal) not = refl
begins_none (LinkPhase.InService paused) (StateIn.Heard Status.Emergency) not = refl
begins_none (LinkPhase.InService paused) (StateIn.Heard Status.OutOfService) not = refl
begins_none (LinkPhase.InService paused) (StateIn.Heard _) not = tt
begins_none (LinkPhase.InService paused) (StateIn.Failure cause) not = refl
begins_none (LinkPhase.InService paused) StateIn.Stop not = refl
begins_none (LinkPhase.InService paused) StateIn.Recover not = refl
begins_none (LinkPhase.InService paused) _ not = tt

none_after : (change : Option Bool) (out : Bool) → BeginsNone change → out ≡ false → outage_after change out ≡ false
none_after None out none not = not
none_after (Some changed) out none not = none

switched_outage : (t : Terminal) (switch : Option Switch) → (switched switch t).outage ≡ t.outage
switched_outage t None = refl
switched_outage t (Some Switch.Start) = refl
switched_outage t (Some Switch.Stop) = refl

pub never_out : (t : Terminal) (input : StateIn) → is_outage_in input ≡ false → t.outage ≡ false → (after_state input t).outage ≡ false
never_out t input not none =
    switched_outage _ (state_row t.state input).out.alignment
    ∙ none_after (state_row t.state input).outage t.outage (begins_none t.state input not) none

-- A TERMINAL whose end isn't busy, and has no processor outage
pub record Calm (t : Terminal) : Type 0 where
  pub busy : t.flow.busy ≡ false
  pub due : t.b_due ≡ false
  pub status : is_plain t.status ≡ true
  -- and isn't told so in the next turn
  pub none : t.commands.busy ≡ false
  pub outage : t.outage ≡ false
  pub no_outage : t.commands.outage ≡ false

abbrev Keep : Talk Terminal → Type 0
Keep talk = KeepsBy Any IsPlainAnswer Calm talk

-- THE MACHINES.
after_plain : (named : Option Status) (status : Status) → send_plain named ≡ true → is_plain status ≡ true → is_plain (status_after named status) ≡ true
after_plain None status named plain = plain
after_plain (Some other) status named plain = named

aligns_calm : (t : Terminal) (input : AlignIn) → Calm t → Calm (aligns input t)
aligns_calm t input k = record {
  busy = k.busy;
  due = k.due;
  status = after_plain (align_row t.align input).out.send t.status (align_plain t.align t.align.state input) k.status;
  none = k.none;
  outage = k.outage;
  no_outage = k.no_outage;
}

switched_calm : (t : Terminal) (switch : Option Switch) → Calm t → Calm (switched switch t)
switched_calm t None k = k
switched_calm t (Some Switch.Start) k = aligns_calm t AlignIn.Start k
switched_calm t (Some Switch.Stop) k = aligns_calm t AlignIn.Stop k

after_state_calm : (t : Terminal) (input : StateIn) → is_outage_in input ≡ false → Calm t → Calm (after_state input t)
after_state_calm t input not k = switched_calm _ (state_row t.state input).out.alignment (record {
  busy = k.busy;
  due = k.due;
  status = k.status;
  none = k.none;
  outage = none_after (state_row t.state input).outage t.outage (begins_none t.state input not) k.outage;
  no_outage = k.no_outage;
})

row_calm : (t : Terminal) (input : FlowIn) → t.flow.busy ≡ false → is_busy_in input ≡ false
    → ((flow_row t.flow input).next.busy ≡ false) × ((flow_row t.flow input).out.send_busy ≡ false)
row_calm t input calm not =
    subst (λ b. ((flow_table b t.flow.far_busy t.flow.t7_runs input).next.busy ≡ false) × ((flow_table b t.flow.far_busy t.flow.t7_runs input).out.send_busy ≡ false))
    (sym calm) (flow_calm t.flow.far_busy t.flow.t7_runs input not)

none_due : (due more : Bool) → due ≡ false → more ≡ false → (due || more) ≡ false
none_due due more a b = rw (a, b) refl

controls_calm : (t : Terminal) (input : FlowIn) → is_busy_in input ≡ false → Calm t → Calm (controls input t)
controls_calm t input not k =
    let row = row_calm t input k.busy not in
    record { busy = row.0; due = none_due t.b_due (flow_row t.flow input).out.send_busy k.due row.1; status = k.status; none = k.none; outage = k.outage; no_outage = k.no_outage }

fallen_calm : (t : Terminal) (cause : Cause) → Calm t → Calm (fallen cause t)
fallen_calm t cause k =
    let u : Terminal = record t { cause = Some cause; suerm = None; up = false } in
    let row = row_calm u FlowIn.Reset k.busy refl in
    record { busy = row.0; due = refl; status = k.status; none = k.none; outage = k.outage; no_outage = k.no_outage }

pub risen_calm : (t : Terminal) (answer : Answer) → Calm t → Calm (risen answer t)
risen_calm t (Answer.Accepted number) k = k
risen_calm t (Answer.Taken body) k = k
risen_calm t (Answer.Found fate) k = k
risen_calm t (Answer.Sent unit) k = k
risen_calm t (Answer.Heard report) k = k
risen_calm t Answer.Done k = record { busy = k.busy; due = k.due; status = k.status; none = k.none; outage = k.outage; no_outage = k.no_outage }
risen_calm t (Answer.Refused why) k = k

up_calm : (t : Terminal) → Calm t → Keep (asks_up t)
up_calm t k = (tt, λ answer gives. risen_calm t answer k)

tells_calm : (t : Terminal) (told : Option Indication) → Calm t → Keep (tells told t)
tells_calm t None k = k
tells_calm t (Some Indication.Up) k = up_calm t k
tells_calm t (Some (Indication.Down cause)) k =
    if_by Any IsPlainAnswer Calm t.up (asks_down cause t) (done (fallen cause t)) (λ up. (tt, λ answer gives. fallen_calm t cause k)) (λ down. fallen_calm t cause k)

state_calm : (t : Terminal) (input : StateIn) → is_outage_in input ≡ false → Calm t → Keep (state_in input t)
state_calm t input not k = tells_calm (after_state input t) (state_row t.state input).out.indication (after_state_calm t input not k)

ends_calm : (t : Terminal) (end : Option Outcome) → Calm t → Keep (ends end t)
ends_calm t None k = k
ends_calm t (Some Outcome.Complete) k = state_calm t StateIn.Complete refl k
ends_calm t (Some Outcome.NotPossible) k = state_calm t StateIn.NotPossible refl k

align_calm : (t : Terminal) (input : AlignIn) → Calm t → Keep (align_in input t)
align_calm t input k = ends_calm (aligns input t) (align_row t.align input).out.outcome (aligns_calm t input k)

fails_calm : (t : Terminal) (failure : Option Cause) → Calm t → Keep (fails failure t)
fails_calm t None k = k
fails_calm t (Some cause) k = state_calm t (StateIn.Failure cause) refl k

flow_in_calm : (t : Terminal) (input : FlowIn) → is_busy_in input ≡ false → Calm t → Keep (flow_in input t)
flow_in_calm t input not k = fails_calm (controls input t) (flow_row t.flow input).out.failure (controls_calm t input not k)

quiet_calm : (t : Terminal) → Calm t → Calm (stops_quietly t)
quiet_calm t k = go (state_row t.state StateIn.Stop).out.indication (after_state_calm t StateIn.Stop refl k)
  where
    go : (told : Option Indication) → Calm (after_state StateIn.Stop t) → Calm (fallen_if told (after_state StateIn.Stop t))
    go None k = k
    go (Some Indication.Up) k = k
    go (Some (Indication.Down cause)) k = fallen_calm (after_state StateIn.Stop t) cause k

-- STEP 1, where neither Busy nor Outage waits.
obeys_calm : (is : Bool) (obeys : Terminal → Talk Terminal) → ((t : Terminal) → Calm t → Keep (obeys t)) → (t : Terminal) → Calm t → Keep (obeys_if is obeys t)
obeys_calm is obeys each t k = if_by Any IsPlainAnswer Calm is (obeys t) (done t) (λ yes. each t k) (λ no. k)

never_calm : (is : Bool) (obeys : Terminal → Talk Terminal) → is ≡ false → (t : Terminal) → Calm t → Keep (obeys_if is obeys t)
never_calm is obeys not t k = rw not k

outage_calm : (was is : Bool) (t : Terminal) → Calm t → Keep (waits was is t)
outage_calm was true t k = flow_in_calm t FlowIn.Paused refl k
outage_calm true false t k = if_by Any IsPlainAnswer Calm t.up (flow_in (FlowIn.Resumed t.unacked) t) (done t) (λ up. flow_in_calm t (FlowIn.Resumed t.unacked) refl k) (λ down. k)
outage_calm false false t k = k

changes_calm : (t : Terminal) (input : StateIn) → is_outage_in input ≡ false → Calm t → Keep (changes_outage input t)
changes_calm t input not k =
    then_by Any IsPlainAnswer Calm Calm (state_in input t) (λ u. waits (is_held t) (is_held u) u) (state_calm t input not k)
    (λ u x. outage_calm (is_held t) (is_held u) u x)

pub commanded_calm : (t : Terminal) → Calm t → Keep (commanded t)
commanded_calm t k =
    let c = t.commands in
    in_turn_by Any IsPlainAnswer Calm
    (obeys_if c.emergency (align_in AlignIn.Emergency) ∷ obeys_if c.calm (align_in AlignIn.Calm) ∷ obeys_if c.start (state_in StateIn.Start) ∷
    obeys_if c.busy (flow_in FlowIn.Busy) ∷ obeys_if c.ease (flow_in FlowIn.Ease) ∷ obeys_if c.blind blinded ∷
    obeys_if c.outage (changes_outage StateIn.Outage) ∷ obeys_if c.recover (changes_outage StateIn.Recover) ∷ obeys_if c.stop (state_in StateIn.Stop) ∷ [])
    (record t { commands = no_commands }) (
      obeys_calm c.emergency (align_in AlignIn.Emergency) (λ u. align_calm u AlignIn.Emergency),
      (
        obeys_calm c.calm (align_in AlignIn.Calm) (λ u. align_calm u AlignIn.Calm),
        (
          obeys_calm c.start (state_in StateIn.Start) (λ u. state_calm u StateIn.Start refl),
          (
            never_calm c.busy (flow_in FlowIn.Busy) k.none,
            (
              obeys_calm c.ease (flow_in FlowIn.Ease) (λ u. flow_in_calm u FlowIn.Ease refl),
              (
                obeys_calm c.blind blinded (λ u x. record { busy = x.busy; due = x.due; status = x.status; none = x.none; outage = x.outage; no_outage = x.no_outage }),
                (
                  never_calm c.outage (changes_outage StateIn.Outage) k.no_outage,
                  (
                    obeys_calm c.recover (changes_outage StateIn.Recover) (λ u. changes_calm u StateIn.Recover refl),
                    (obeys_calm c.stop (state_in StateIn.Stop) (λ u. state_calm u StateIn.Stop refl), tt),
                  ),
                ),
              ),
            ),
          ),
        ),
      ),
    )
    (record { busy = k.busy; due = k.due; status = k.status; none = refl; outage = k.outage; no_outage = refl })

-- STEP 3.
aerm_calm : (aerm : Option ℕ) (error : Bool) (t : Terminal) → Calm t → Keep (aerm_judges aerm error t)
aerm_calm None error t k = k
aerm_calm (Some left) error t k =
    let u : Terminal = record t { aerm = Some (after_aerm_mark left error) } in
    let v : Calm u = record { busy = k.busy; due = k.due; status = k.status; none = k.none; outage = k.outage; no_outage = k.no_outage } in
    if_by Any IsPlainAnswer Calm (after_aerm_mark left error == 0) (align_in AlignIn.Abort u) (done u) (λ is. align_calm u AlignIn.Abort v) (λ not. v)

suerm_calm : (suerm : Option Kept) (error : Bool) (t : Terminal) → Calm t → Keep (suerm_judges suerm error t)
suerm_calm None error t k = k
suerm_calm (Some kept) error t k =
    let u : Terminal = record t { suerm = Some (after_mark kept error) } in
    let v : Calm u = record { busy = k.busy; due = k.due; status = k.status; none = k.none; outage = k.outage; no_outage = k.no_outage } in
    if_by Any IsPlainAnswer Calm (after_mark kept error).tripped (state_in (StateIn.Failure Cause.Suerm) u) (done u) (λ is. state_calm u (StateIn.Failure Cause.Suerm) refl v) (λ not. v)

service_calm : (s : LinkPhase) (error : Bool) (t : Terminal) → Calm t → Keep (service_judges s error t)
service_calm LinkPhase.OutOfService error t k = k
service_calm LinkPhase.Aligning error t k = k
service_calm LinkPhase.Ready error t k = suerm_calm t.suerm error t k
service_calm (LinkPhase.InService paused) error t k = suerm_calm t.suerm error t k

judges_calm : (a : AlignState) (error : Bool) (t : Terminal) → Calm t → Keep (judges a error t)
judges_calm AlignState.Idle error t k = service_calm t.state error t k
judges_calm AlignState.NotAligned error t k = service_calm t.state error t k
judges_calm AlignState.Aligned error t k = service_calm t.state error t k
judges_calm AlignState.Proving error t k = aerm_calm t.aerm error t k

flow_hears_calm : (status : Status) (t : Terminal) → Calm t → Keep (flow_hears status t)
flow_hears_calm Status.OutOfAlignment t k = k
flow_hears_calm Status.Normal t k = k
flow_hears_calm Status.Emergency t k = k
flow_hears_calm Status.OutOfService t k = k
flow_hears_calm Status.ProcessorOutage t k = k
flow_hears_calm Status.Busy t k =
    if_by Any IsPlainAnswer Calm (is_deaf t.state t.outage) (done t) (flow_in FlowIn.HeardBusy t) (λ deaf. k) (λ not. flow_in_calm t FlowIn.HeardBusy refl k)
flow_hears_calm Status.Unassigned6 t k = k
flow_hears_calm Status.Unassigned7 t k = k

machines_calm : (unit : SignalUnit) (t : Terminal) → Calm t → Keep (machines_hear unit t)
machines_calm (SignalUnit.Fisu head) t k = state_calm t StateIn.Fisu refl k
machines_calm (SignalUnit.Lssu head status) t k =
    then_by Any IsPlainAnswer Calm Calm (align_in (AlignIn.Heard status) t) (λ u. and_then (state_in (StateIn.Heard status) u) (λ v. flow_hears status v))
    (align_calm t (AlignIn.Heard status) k)
    (λ u x. then_by Any IsPlainAnswer Calm Calm (state_in (StateIn.Heard status) u) (λ v. flow_hears status v) (state_calm u (StateIn.Heard status) refl x)
    (λ v y. flow_hears_calm status v y))
machines_calm (SignalUnit.Msu head body) t k = state_calm t StateIn.Msu refl k

acks_calm : (report : Report) (bsn : ℕ) (t : Terminal) → Calm t → Keep (acks report bsn t)
acks_calm report bsn t k =
    if_by Any IsPlainAnswer Calm (nat_lt 0 report.acked || report.resend) (acked (not (bsn == t.top)) t) (done t)
    (λ is. flow_in_calm (record t { unacked = not (bsn == t.top) }) (FlowIn.Acked (not (bsn == t.top))) refl (record { busy = k.busy; due = k.due; status = k.status; none = k.none; outage = k.outage; no_outage = k.no_outage }))
    (λ not. k)

faults_calm : (fault : Option ControlFault) (t : Terminal) → Calm t → Keep (faults fault t)
faults_calm None t k = k
faults_calm (Some fault) t k = state_calm t (StateIn.Failure (cause_of fault)) refl k

refused_calm : (why : Refusal) (bsn : ℕ) (t : Terminal) → Calm t → Keep (reported (Answer.Refused why) bsn t)
refused_calm Refusal.TooShort bsn t k = k
refused_calm Refusal.TooLong bsn t k = k
refused_calm Refusal.Reserved bsn t k = k
refused_calm Refusal.StreamFull bsn t k = k
refused_calm Refusal.NotUp bsn t k = quiet_calm t k
refused_calm Refusal.NotDown bsn t k = k
refused_calm Refusal.Unsettled bsn t k = k
refused_calm Refusal.UnknownNumber bsn t k = k
refused_calm Refusal.Nothing bsn t k = k
refused_calm Refusal.NoSuchLink bsn t k = k
refused_calm Refusal.Finished bsn t k = k

reported_calm : (answer : Answer) (bsn : ℕ) (t : Terminal) → Calm t → Keep (reported answer bsn t)
reported_calm (Answer.Accepted number) bsn t k = k
reported_calm (Answer.Taken body) bsn t k = k
reported_calm (Answer.Found fate) bsn t k = k
reported_calm (Answer.Sent unit) bsn t k = k
reported_calm (Answer.Heard report) bsn t k =
    then_by Any IsPlainAnswer Calm Calm (acks report bsn t) (λ u. faults report.fault u) (acks_calm report bsn t k) (λ u x. faults_calm report.fault u x)
reported_calm Answer.Done bsn t k = k
reported_calm (Answer.Refused why) bsn t k = refused_calm why bsn t k

set_calm : (unit : SignalUnit) (t : Terminal) → Calm t → Keep (set_hears unit t)
set_calm unit t k =
    if_by Any IsPlainAnswer Calm t.up (ask (Event.Heard t.link unit) (λ answer. reported answer (head_of unit).bsn t)) (done t)
    (λ up. (tt, λ answer gives. reported_calm answer (head_of unit).bsn t k)) (λ down. k)

reaches_calm : (unit : SignalUnit) (t : Terminal) → Calm t → Keep (reaches_set unit t)
reaches_calm unit t k = if_by Any IsPlainAnswer Calm t.outage (done t) (set_hears unit t) (λ out. k) (λ not. set_calm unit t k)

all_hear_calm : (unit : SignalUnit) (t : Terminal) → Calm t → Keep (all_hear unit t)
all_hear_calm unit t k =
    then_by Any IsPlainAnswer Calm Calm (align_in AlignIn.Good t) (λ u. and_then (machines_hear unit u) (λ v. reaches_set unit v)) (align_calm t AlignIn.Good k)
    (λ u x. then_by Any IsPlainAnswer Calm Calm (machines_hear unit u) (λ v. reaches_set unit v) (machines_calm unit u x) (λ v y. reaches_calm unit v y))

heard_calm : (unit : Option SignalUnit) (t : Terminal) → Calm t → Keep (heard unit t)
heard_calm None t k = k
heard_calm (Some unit) t k =
    then_by Any IsPlainAnswer Calm Calm (all_hear unit t) (λ after. waits (is_held t) (is_held after) after) (all_hear_calm unit t k)
    (λ u x. outage_calm (is_held t) (is_held u) u x)

pub marks_calm : (marks : List Mark) (t : Terminal) → Calm t → Keep (all_marked marks t)
marks_calm [] t k = k
marks_calm (mark ∷ marks) t k =
    then_by Any IsPlainAnswer Calm Calm (marked mark t) (λ u. all_marked marks u)
    (then_by Any IsPlainAnswer Calm Calm (judged (is_error (unit_in mark)) t) (λ u. heard (unit_in mark) u) (judges_calm t.align.state (is_error (unit_in mark)) t k)
    (λ u x. heard_calm (unit_in mark) u x))
    (λ u x. marks_calm marks u x)

-- STEP 4.
over_calm : (t u : Terminal) (over : Bool) (input : Terminal → Talk Terminal) → ((v : Terminal) → Calm v → Keep (input v)) → Calm t → Calm u
    → Keep (if over then input u else done t)
over_calm t u over input each k x = if_by Any IsPlainAnswer Calm over (input u) (done t) (λ is. each u x) (λ not. k)

pub timed_calm : (t : Terminal) → Calm t → Keep (timed t)
timed_calm t k = in_turn_by Any IsPlainAnswer Calm (ends_t1 ∷ ends_t2 ∷ ends_t3 ∷ ends_t4 ∷ ends_t5 ∷ ends_t6 ∷ ends_t7 ∷ []) (lessened t) (
  (λ u x. over_calm u (record u { clocks = record u.clocks { t1 = None } }) (is_over u.clocks.t1) (state_in StateIn.T1) (λ v. state_calm v StateIn.T1 refl) x
      (record { busy = x.busy; due = x.due; status = x.status; none = x.none; outage = x.outage; no_outage = x.no_outage })),
  (
    (λ u x. over_calm u (record u { clocks = record u.clocks { t2 = None } }) (is_over u.clocks.t2) (align_in AlignIn.T2) (λ v. align_calm v AlignIn.T2) x
        (record { busy = x.busy; due = x.due; status = x.status; none = x.none; outage = x.outage; no_outage = x.no_outage })),
    (
      (λ u x. over_calm u (record u { clocks = record u.clocks { t3 = None } }) (is_over u.clocks.t3) (align_in AlignIn.T3) (λ v. align_calm v AlignIn.T3) x
          (record { busy = x.busy; due = x.due; status = x.status; none = x.none; outage = x.outage; no_outage = x.no_outage })),
      (
        (λ u x. over_calm u (record u { clocks = record u.clocks { t4 = None } }) (is_over u.clocks.t4) (align_in AlignIn.T4) (λ v. align_calm v AlignIn.T4) x
            (record { busy = x.busy; due = x.due; status = x.status; none = x.none; outage = x.outage; no_outage = x.no_outage })),
        (
          (λ u x. over_calm u (record u { clocks = record u.clocks { t5 = None } }) (is_over u.clocks.t5) (flow_in FlowIn.T5) (λ v. flow_in_calm v FlowIn.T5 refl) x
              (record { busy = x.busy; due = x.due; status = x.status; none = x.none; outage = x.outage; no_outage = x.no_outage })),
          (
            (λ u x. over_calm u (record u { clocks = record u.clocks { t6 = None } }) (is_over u.clocks.t6) (flow_in FlowIn.T6) (λ v. flow_in_calm v FlowIn.T6 refl) x
                (record { busy = x.busy; due = x.due; status = x.status; none = x.none; outage = x.outage; no_outage = x.no_outage })),
            (
              (λ u x. over_calm u (record u { clocks = record u.clocks { t7 = None } }) (is_over u.clocks.t7) (flow_in FlowIn.T7) (λ v. flow_in_calm v FlowIn.T7 refl) x
                  (record { busy = x.busy; due = x.due; status = x.status; none = x.none; outage = x.outage; no_outage = x.no_outage })),
              tt,
            ),
          ),
        ),
      ),
    ),
  ),
)
    (record { busy = k.busy; due = k.due; status = k.status; none = k.none; outage = k.outage; no_outage = k.no_outage })

-- STEP 5.
abbrev pub PlainOrNone : Option SignalUnit → Type 0
PlainOrNone None = Unit {0}
PlainOrNone (Some unit) = IsPlainUnit unit

pub record Sends (f : Filled) : Type 0 where
  pub unit : PlainOrNone f.unit
  pub after : Calm f.after

abbrev Chooses : Talk Filled → Type 0
Chooses talk = KeepsBy Any IsPlainAnswer Sends talk

sent_calm : (unit : SignalUnit) (t : Terminal) → IsPlainUnit unit → Calm t → Chooses (sends unit t)
sent_calm unit t plain k = record { unit = plain; after = record { busy = k.busy; due = k.due; status = k.status; none = k.none; outage = k.outage; no_outage = k.no_outage } }

status_calm : (status : Status) (t : Terminal) → is_plain status ≡ true → Calm t → Chooses (sends_status status t)
status_calm status t plain k = sent_calm (SignalUnit.Lssu (last_head t) status) t plain k

fisu_calm : (t : Terminal) → Calm t → Chooses (sends_fisu t)
fisu_calm t k = sent_calm (SignalUnit.Fisu (last_head t)) t tt k

start_calm : (t : Terminal) → Calm t → Chooses (sends_start_fisu t)
start_calm t k = sent_calm _ t tt k

pub counts_calm : (unit : SignalUnit) (t : Terminal) → Calm t → Keep (counts_sent unit t)
counts_calm (SignalUnit.Fisu head) t k = k
counts_calm (SignalUnit.Lssu head status) t k = k
counts_calm (SignalUnit.Msu head body) t k = flow_in_calm _ FlowIn.Sent refl (record { busy = k.busy; due = k.due; status = k.status; none = k.none; outage = k.outage; no_outage = k.no_outage })

held_plain : (unit : SignalUnit) (t : Terminal) → t.flow.busy ≡ false → IsPlainUnit unit → IsPlainUnit (held_back t unit)
held_plain unit t calm plain = rw calm plain

given_calm : (unit : SignalUnit) (t : Terminal) → IsPlainUnit unit → Calm t → Chooses (given unit t)
given_calm unit t plain k =
    if_by Any IsPlainAnswer Sends (is_narrow (head_of unit)) (and_then (counts_sent unit t) (λ u. sends (held_back u unit) u)) (done (record { unit = None; narrow = false; after = t }))
    (λ is. then_by Any IsPlainAnswer Calm Sends (counts_sent unit t) (λ u. sends (held_back u unit) u) (counts_calm unit t k)
    (λ u x. sent_calm (held_back u unit) u (held_plain unit u x.busy plain) x))
    (λ not. record { unit = tt; after = k })

refusal_calm : (why : Refusal) (t : Terminal) → Calm t → Chooses (sent_by (Answer.Refused why) t)
refusal_calm Refusal.TooShort t k = fisu_calm t k
refusal_calm Refusal.TooLong t k = fisu_calm t k
refusal_calm Refusal.Reserved t k = fisu_calm t k
refusal_calm Refusal.StreamFull t k = fisu_calm t k
refusal_calm Refusal.NotUp t k = status_calm Status.OutOfService (stops_quietly t) refl (quiet_calm t k)
refusal_calm Refusal.NotDown t k = fisu_calm t k
refusal_calm Refusal.Unsettled t k = fisu_calm t k
refusal_calm Refusal.UnknownNumber t k = fisu_calm t k
refusal_calm Refusal.Nothing t k = fisu_calm t k
refusal_calm Refusal.NoSuchLink t k = fisu_calm t k
refusal_calm Refusal.Finished t k = fisu_calm t k

answer_calm : (answer : Answer) (t : Terminal) → Calm t → IsPlainAnswer answer → Chooses (sent_by answer t)
answer_calm (Answer.Accepted number) t k plain = fisu_calm t k
answer_calm (Answer.Taken body) t k plain = fisu_calm t k
answer_calm (Answer.Found fate) t k plain = fisu_calm t k
answer_calm (Answer.Sent unit) t k plain = given_calm unit t plain k
answer_calm (Answer.Heard report) t k plain = fisu_calm t k
answer_calm Answer.Done t k plain = fisu_calm t k
answer_calm (Answer.Refused why) t k plain = refusal_calm why t k

serves_calm : (paused : Bool) (t : Terminal) → Calm t → Chooses (serves paused t)
serves_calm paused t k =
    if_by Any IsPlainAnswer Sends t.up _ (sends_start_fisu t)
    (λ up. if_by Any IsPlainAnswer Sends t.b_due (sends_status Status.Busy (record t { b_due = false })) _
    (λ due. true_false (sym due ∙ k.due))
    (λ not_due. if_by Any IsPlainAnswer Sends paused (sends_fisu t) (ask (Event.Next t.link) (λ answer. sent_by answer t))
    (λ is. fisu_calm t k) (λ not. (tt, λ answer gives. answer_calm answer t k gives))))
    (λ down. start_calm t k)
  where
    true_false : {X : Type 0} → true ≡ false → X
    true_false e = absurd cc

unless_out_calm : (talk : Talk Filled) (t : Terminal) → Calm t → Chooses talk → Chooses (unless_out talk t)
unless_out_calm talk t k chooses = if_by Any IsPlainAnswer Sends t.outage (sends_status Status.ProcessorOutage t) talk (λ out. true_false (sym out ∙ k.outage)) (λ not. chooses)
  where
    true_false : {X : Type 0} → true ≡ false → X
    true_false e = absurd cc

chosen_calm : (state : LinkPhase) (t : Terminal) → Calm t → Chooses (chosen state t)
chosen_calm LinkPhase.OutOfService t k = status_calm Status.OutOfService t refl k
chosen_calm LinkPhase.Aligning t k = status_calm t.status t k.status k
chosen_calm LinkPhase.Ready t k = unless_out_calm (sends_start_fisu t) t k (start_calm t k)
chosen_calm (LinkPhase.InService paused) t k =
    then_by Any IsPlainAnswer Calm Sends (up_first t) (λ u. unless_out (serves paused u) u) (if_by Any IsPlainAnswer Calm t.up (done t) (asks_up t) (λ up. k) (λ down. up_calm t k))
    (λ u x. unless_out_calm (serves paused u) u x (serves_calm paused u x))

filled_calm : (t : Terminal) → Calm t → Chooses (filled t)
filled_calm t k =
    if_by Any IsPlainAnswer Sends (nat_lt (length t.bits) 8) (chosen t.state t) (done (record { unit = None; narrow = true; after = t }))
    (λ few. chosen_calm t.state t k) (λ enough. record { unit = tt; after = k })

-- THE TURN.
pub turn_calm : (marks : List Mark) (t : Terminal) → Calm t → Chooses (turn_talk marks t)
turn_calm marks t k =
    then_by Any IsPlainAnswer Calm Sends (commanded t) (λ u. and_then (all_marked marks u) (λ v. and_then (timed v) (λ w. filled w))) (commanded_calm t k)
    (λ u x. then_by Any IsPlainAnswer Calm Sends (all_marked marks u) (λ v. and_then (timed v) (λ w. filled w)) (marks_calm marks u x)
    (λ v y. then_by Any IsPlainAnswer Calm Sends (timed v) (λ w. filled w) (timed_calm v y) (λ w z. filled_calm w z)))
