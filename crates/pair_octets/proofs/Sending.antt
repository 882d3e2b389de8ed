-- WHAT A TURN SENDS can stand on a line, where the set gives such units (`turn_sends`): each step of a turn keeps the last header,
-- but for the last one, which appends a unit. By the shape of a turn, as term_late has it. And what the set is asked in a turn is
-- octets, since the units that it hears were read from bits.
use Rattle.std.proofs.Common.{refl, sym, subst, arith, ◌≡◌, ◌<◌, ◌^◌, ◌==◌, ◌||◌, ℕ, nat_lt, length, Bool, true, false, not, List, [], ◌∷◌, Option, Some, None, if◌then◌else◌}
use Rattle.std.proofs.lemmas.Bool.{cond_both}
use Rattle.std.proofs.lemmas.Bool.Decides.{nat_tests}
use Rattle.std.proofs.lemmas.List.Elements.{All-cons, All-nil}
use Rattle.l2_units.specs.declared.cause.Cause.{Cause}
use Rattle.l2_units.specs.declared.cause.ControlFault.{ControlFault}
use Rattle.l2_units.specs.declared.profile.Profile.TheVariants.{Narrow}
use Rattle.l2_units.specs.declared.status.Status.{Status}
use Rattle.l2_units.specs.declared.unit.Header.{Header}
use Rattle.l2_units.specs.declared.unit.Unit.{Unit as SignalUnit}
use Rattle.l2_units.specs.Grammar.{IsHeadOf, body_of, head_of}
use Rattle.l2_units.specs.Numbers.{cause_of, status_number}
use Rattle.l2_bits.specs.declared.marks.Mark.{Mark}
use Rattle.l2_monitors.specs.Aerm.{after_mark as after_aerm_mark}
use Rattle.l2_monitors.specs.Suerm.{Kept, after_mark}
use Rattle.l2_align.specs.declared.align.State.{State as AlignState}
use Rattle.l2_align.specs.declared.signals.AlignIn.{AlignIn}
use Rattle.l2_align.specs.declared.signals.Outcome.{Outcome}
use Rattle.l2_align.specs.Table.{row as align_row}
use Rattle.l2_state.specs.declared.link_state.State.{State as LinkPhase}
use Rattle.l2_state.specs.declared.signals.StateIn.{StateIn}
use Rattle.l2_state.specs.declared.signals.Switch.{Switch}
use Rattle.l2_state.specs.declared.signals.Indication.{Indication}
use Rattle.l2_state.specs.Table.{row as state_row}
use Rattle.l2_flow.specs.declared.input.FlowIn.{FlowIn}
use Rattle.l2_flow.specs.Table.{row_of as flow_row}
use Rattle.set_events.specs.declared.answer.Answer.{Answer}
use Rattle.set_events.specs.declared.answer.Refusal.{Refusal}
use Rattle.set_events.specs.declared.answer.Report.{Report}
use Rattle.set_events.specs.declared.event.Event.{Event}
use Rattle.set_octets.specs.Octets.{AreOctets, AskedInOctets, GivesOctets, IsOnWire}
use Rattle.term_model.specs.Choosing.{Filled, sends, sends_status, sends_fisu, sends_start_fisu, counts_sent, given, held_back, is_narrow, sent_by, serves, up_first, chosen, filled, unless_out}
use Rattle.term_model.specs.Hearing.{unit_in, is_error, aerm_judges, suerm_judges, service_judges, judges, judged, flow_hears, machines_hear, acked, acks, faults, reported, set_hears, waits, all_hear, heard, marked, all_marked, is_deaf, is_held, reaches_set}
use Rattle.term_model.specs.Machines.{aligns, switched, after_state, controls, fallen, risen, asks_up, asks_down, tells, state_in, ends, align_in, fails, flow_in, fallen_if, stops_quietly}
use Rattle.term_model.specs.Obeying.{obeys_if, blinded, commanded, changes_outage}
use Rattle.term_model.specs.Talk.{Talk, done, ask, and_then, in_turn}
use Rattle.term_model.specs.Terminal.{Terminal, no_commands, head_or_start, last_head}
use Rattle.term_model.specs.Timing.{lessened, is_over, ends_t1, ends_t2, ends_t3, ends_t4, ends_t5, ends_t6, ends_t7, timed}
use Rattle.term_model.specs.Turn.{turn_talk}
use Rattle.term_asks.proofs.Talking.{AllKeepBy, KeepsBy, if_by, in_turn_by, then_by}

-- A TALK WITH A SET THAT GIVES OCTETS: what is asked is octets.
abbrev pub Keeps : {T : Type 0} → (T → Type 0) → Talk T → Type 0
Keeps so talk = KeepsBy AskedInOctets GivesOctets so talk

then_keeps : {T U : Type 0} (so : T → Type 0) (last : U → Type 0) (talk : Talk T) (next : T → Talk U)
    → Keeps so talk → ((a : T) → so a → Keeps last (next a)) → Keeps last (and_then talk next)
then_keeps so last talk next kept later = then_by AskedInOctets GivesOctets so last talk next kept later

in_turn_keeps : {T : Type 0} (so : T → Type 0) (steps : List (T → Talk T)) (a : T) → AllKeepBy AskedInOctets GivesOctets so steps → so a
    → Keeps so (in_turn steps a)
in_turn_keeps so steps a all kept = in_turn_by AskedInOctets GivesOctets so steps a all kept

if_keeps : {T : Type 0} (so : T → Type 0) (b : Bool) (x y : Talk T) → (b ≡ true → Keeps so x) → (b ≡ false → Keeps so y)
    → Keeps so (if b then x else y)
if_keeps so b x y where_true where_false = if_by AskedInOctets GivesOctets so b x y where_true where_false

-- the units that marks bring have bodies of octets
abbrev pub HeardOctets : Option SignalUnit → Type 0
HeardOctets None = Unit {0}
HeardOctets (Some unit) = AreOctets (body_of unit)

abbrev pub AllOctets : List Mark → Type 0
AllOctets [] = Unit {0}
AllOctets (mark ∷ marks) = HeardOctets (unit_in mark) × AllOctets marks

-- what is sent, if anything, can stand on a line, and so can what repeats its header
abbrev pub SendsOne : Option SignalUnit → Type 0
SendsOne None = Unit {0}
SendsOne (Some unit) = IsOnWire unit

-- and it's appended to fewer than eight bits
abbrev pub HasFew : Option SignalUnit → List Bool → Type 0
HasFew None bits = Unit {0}
HasFew (Some unit) bits = length bits < 8

abbrev pub Sends : Filled → Type 0
Sends f = SendsOne f.unit × IsHeadOf Narrow (head_or_start f.after.last) × HasFew f.unit f.after.bits

module _ (l : Option Header) (b : List Bool) where
  abbrev So : Terminal → Type 0
  So t = (t.last ≡ l) × (t.bits ≡ b)

  abbrev Keep : Talk Terminal → Type 0
  Keep talk = Keeps So talk

  -- THE MACHINES.
  switched_so : (t : Terminal) (switch : Option Switch) → So t → So (switched switch t)
  switched_so t None k = k
  switched_so t (Some Switch.Start) k = k
  switched_so t (Some Switch.Stop) k = k

  risen_so : (t : Terminal) (answer : Answer) → So t → So (risen answer t)
  risen_so t (Answer.Accepted number) k = k
  risen_so t (Answer.Taken body) k = k
  risen_so t (Answer.Found fate) k = k
  risen_so t (Answer.Sent unit) k = k
  risen_so t (Answer.Heard report) k = k
  risen_so t Answer.Done k = k
  risen_so t (Answer.Refused why) k = k

  up_so : (t : Terminal) → So t → Keep (asks_up t)
  up_so t k = (tt, λ answer gives. risen_so t answer k)

  down_so : (t : Terminal) (cause : Cause) → So t → Keep (asks_down cause t)
  down_so t cause k = (cond_both t.blind (Event.DownBlind t.link) (Event.Down t.link) AskedInOctets (λ b. tt) (λ b. tt), λ answer gives. k)

  tells_so : (t : Terminal) (told : Option Indication) → So t → Keep (tells told t)
  tells_so t None k = k
  tells_so t (Some Indication.Up) k = up_so t k
  tells_so t (Some (Indication.Down cause)) k = if_keeps So t.up (asks_down cause t) (done (fallen cause t)) (λ up. down_so t cause k) (λ down. k)

  state_so : (t : Terminal) (input : StateIn) → So t → Keep (state_in input t)
  state_so t input k = tells_so (after_state input t) (state_row t.state input).out.indication (switched_so _ (state_row t.state input).out.alignment k)

  ends_so : (t : Terminal) (end : Option Outcome) → So t → Keep (ends end t)
  ends_so t None k = k
  ends_so t (Some Outcome.Complete) k = state_so t StateIn.Complete k
  ends_so t (Some Outcome.NotPossible) k = state_so t StateIn.NotPossible k

  align_so : (t : Terminal) (input : AlignIn) → So t → Keep (align_in input t)
  align_so t input k = ends_so (aligns input t) (align_row t.align input).out.outcome k

  fails_so : (t : Terminal) (failure : Option Cause) → So t → Keep (fails failure t)
  fails_so t None k = k
  fails_so t (Some cause) k = state_so t (StateIn.Failure cause) k

  flow_so : (t : Terminal) (input : FlowIn) → So t → Keep (flow_in input t)
  flow_so t input k = fails_so (controls input t) (flow_row t.flow input).out.failure k

  quiet_so : (t : Terminal) → So t → So (stops_quietly t)
  quiet_so t k = go (state_row t.state StateIn.Stop).out.indication (switched_so _ (state_row t.state StateIn.Stop).out.alignment k)
    where
      go : (told : Option Indication) → So (after_state StateIn.Stop t) → So (fallen_if told (after_state StateIn.Stop t))
      go None k = k
      go (Some Indication.Up) k = k
      go (Some (Indication.Down cause)) k = k

  -- STEP 1.
  obeys_so : (is : Bool) (obeys : Terminal → Talk Terminal) → ((t : Terminal) → So t → Keep (obeys t)) → (t : Terminal) → So t → Keep (obeys_if is obeys t)
  obeys_so is obeys each t k = if_keeps So is (obeys t) (done t) (λ yes. each t k) (λ no. k)

  outage_so : (was is : Bool) (t : Terminal) → So t → Keep (waits was is t)
  outage_so was true t k = flow_so t FlowIn.Paused k
  outage_so true false t k = if_keeps So t.up (flow_in (FlowIn.Resumed t.unacked) t) (done t) (λ up. flow_so t (FlowIn.Resumed t.unacked) k) (λ down. k)
  outage_so false false t k = k

  changes_so : (t : Terminal) (input : StateIn) → So t → Keep (changes_outage input t)
  changes_so t input k =
      then_keeps So So (state_in input t) (λ u. waits (is_held t) (is_held u) u) (state_so t input k) (λ u x. outage_so (is_held t) (is_held u) u x)

  commanded_so : (t : Terminal) → So t → Keep (commanded t)
  commanded_so t k =
      let c = t.commands in
      in_turn_keeps So
      (obeys_if c.emergency (align_in AlignIn.Emergency) ∷ obeys_if c.calm (align_in AlignIn.Calm) ∷ obeys_if c.start (state_in StateIn.Start) ∷
      obeys_if c.busy (flow_in FlowIn.Busy) ∷ obeys_if c.ease (flow_in FlowIn.Ease) ∷ obeys_if c.blind blinded ∷
      obeys_if c.outage (changes_outage StateIn.Outage) ∷ obeys_if c.recover (changes_outage StateIn.Recover) ∷ obeys_if c.stop (state_in StateIn.Stop) ∷ [])
      (record t { commands = no_commands }) (
        obeys_so c.emergency (align_in AlignIn.Emergency) (λ u. align_so u AlignIn.Emergency),
        (
          obeys_so c.calm (align_in AlignIn.Calm) (λ u. align_so u AlignIn.Calm),
          (
            obeys_so c.start (state_in StateIn.Start) (λ u. state_so u StateIn.Start),
            (
              obeys_so c.busy (flow_in FlowIn.Busy) (λ u. flow_so u FlowIn.Busy),
              (
                obeys_so c.ease (flow_in FlowIn.Ease) (λ u. flow_so u FlowIn.Ease),
                (
                  obeys_so c.blind blinded (λ u k. k),
                  (
                    obeys_so c.outage (changes_outage StateIn.Outage) (λ u. changes_so u StateIn.Outage),
                    (
                      obeys_so c.recover (changes_outage StateIn.Recover) (λ u. changes_so u StateIn.Recover),
                      (obeys_so c.stop (state_in StateIn.Stop) (λ u. state_so u StateIn.Stop), tt),
                    ),
                  ),
                ),
              ),
            ),
          ),
        ),
      )
      k

  -- STEP 3.
  aerm_so : (aerm : Option ℕ) (error : Bool) (t : Terminal) → So t → Keep (aerm_judges aerm error t)
  aerm_so None error t k = k
  aerm_so (Some left) error t k =
      let u : Terminal = record t { aerm = Some (after_aerm_mark left error) } in
      if_keeps So (after_aerm_mark left error == 0) (align_in AlignIn.Abort u) (done u) (λ is. align_so u AlignIn.Abort k) (λ not. k)

  suerm_so : (suerm : Option Kept) (error : Bool) (t : Terminal) → So t → Keep (suerm_judges suerm error t)
  suerm_so None error t k = k
  suerm_so (Some kept) error t k =
      let u : Terminal = record t { suerm = Some (after_mark kept error) } in
      if_keeps So (after_mark kept error).tripped (state_in (StateIn.Failure Cause.Suerm) u) (done u) (λ is. state_so u (StateIn.Failure Cause.Suerm) k) (λ not. k)

  service_so : (s : LinkPhase) (error : Bool) (t : Terminal) → So t → Keep (service_judges s error t)
  service_so LinkPhase.OutOfService error t k = k
  service_so LinkPhase.Aligning error t k = k
  service_so LinkPhase.Ready error t k = suerm_so t.suerm error t k
  service_so (LinkPhase.InService paused) error t k = suerm_so t.suerm error t k

  judges_so : (a : AlignState) (error : Bool) (t : Terminal) → So t → Keep (judges a error t)
  judges_so AlignState.Idle error t k = service_so t.state error t k
  judges_so AlignState.NotAligned error t k = service_so t.state error t k
  judges_so AlignState.Aligned error t k = service_so t.state error t k
  judges_so AlignState.Proving error t k = aerm_so t.aerm error t k

  flow_hears_so : (status : Status) (t : Terminal) → So t → Keep (flow_hears status t)
  flow_hears_so Status.OutOfAlignment t k = k
  flow_hears_so Status.Normal t k = k
  flow_hears_so Status.Emergency t k = k
  flow_hears_so Status.OutOfService t k = k
  flow_hears_so Status.ProcessorOutage t k = k
  flow_hears_so Status.Busy t k =
      if_keeps So (is_deaf t.state t.outage) (done t) (flow_in FlowIn.HeardBusy t) (λ deaf. k) (λ not. flow_so t FlowIn.HeardBusy k)
  flow_hears_so Status.Unassigned6 t k = k
  flow_hears_so Status.Unassigned7 t k = k

  machines_so : (unit : SignalUnit) (t : Terminal) → So t → Keep (machines_hear unit t)
  machines_so (SignalUnit.Fisu head) t k = state_so t StateIn.Fisu k
  machines_so (SignalUnit.Lssu head status) t k =
      then_keeps So So (align_in (AlignIn.Heard status) t) (λ u. and_then (state_in (StateIn.Heard status) u) (λ v. flow_hears status v))
      (align_so t (AlignIn.Heard status) k)
      (λ u x. then_keeps So So (state_in (StateIn.Heard status) u) (λ v. flow_hears status v) (state_so u (StateIn.Heard status) x) (λ v y. flow_hears_so status v y))
  machines_so (SignalUnit.Msu head body) t k = state_so t StateIn.Msu k

  acks_so : (report : Report) (bsn : ℕ) (t : Terminal) → So t → Keep (acks report bsn t)
  acks_so report bsn t k =
      if_keeps So (nat_lt 0 report.acked || report.resend) (acked (not (bsn == t.top)) t) (done t)
      (λ is. flow_so (record t { unacked = not (bsn == t.top) }) (FlowIn.Acked (not (bsn == t.top))) k) (λ not. k)

  faults_so : (fault : Option ControlFault) (t : Terminal) → So t → Keep (faults fault t)
  faults_so None t k = k
  faults_so (Some fault) t k = state_so t (StateIn.Failure (cause_of fault)) k

  refused_so : (why : Refusal) (bsn : ℕ) (t : Terminal) → So t → Keep (reported (Answer.Refused why) bsn t)
  refused_so Refusal.TooShort bsn t k = k
  refused_so Refusal.TooLong bsn t k = k
  refused_so Refusal.Reserved bsn t k = k
  refused_so Refusal.StreamFull bsn t k = k
  refused_so Refusal.NotUp bsn t k = quiet_so t k
  refused_so Refusal.NotDown bsn t k = k
  refused_so Refusal.Unsettled bsn t k = k
  refused_so Refusal.UnknownNumber bsn t k = k
  refused_so Refusal.Nothing bsn t k = k
  refused_so Refusal.NoSuchLink bsn t k = k
  refused_so Refusal.Finished bsn t k = k

  reported_so : (answer : Answer) (bsn : ℕ) (t : Terminal) → So t → Keep (reported answer bsn t)
  reported_so (Answer.Accepted number) bsn t k = k
  reported_so (Answer.Taken body) bsn t k = k
  reported_so (Answer.Found fate) bsn t k = k
  reported_so (Answer.Sent unit) bsn t k = k
  reported_so (Answer.Heard report) bsn t k =
      then_keeps So So (acks report bsn t) (λ u. faults report.fault u) (acks_so report bsn t k) (λ u x. faults_so report.fault u x)
  reported_so Answer.Done bsn t k = k
  reported_so (Answer.Refused why) bsn t k = refused_so why bsn t k

  set_so : (unit : SignalUnit) → AreOctets (body_of unit) → (t : Terminal) → So t → Keep (set_hears unit t)
  set_so unit octets t k =
      if_keeps So t.up (ask (Event.Heard t.link unit) (λ answer. reported answer (head_of unit).bsn t)) (done t)
      (λ up. (octets, λ answer gives. reported_so answer (head_of unit).bsn t k)) (λ down. k)

  reaches_so : (unit : SignalUnit) → AreOctets (body_of unit) → (t : Terminal) → So t → Keep (reaches_set unit t)
  reaches_so unit octets t k = if_keeps So t.outage (done t) (set_hears unit t) (λ out. k) (λ not. set_so unit octets t k)

  all_hear_so : (unit : SignalUnit) → AreOctets (body_of unit) → (t : Terminal) → So t → Keep (all_hear unit t)
  all_hear_so unit octets t k =
      then_keeps So So (align_in AlignIn.Good t) (λ u. and_then (machines_hear unit u) (λ v. reaches_set unit v)) (align_so t AlignIn.Good k)
      (λ u x. then_keeps So So (machines_hear unit u) (λ v. reaches_set unit v) (machines_so unit u x) (λ v y. reaches_so unit octets v y))

  heard_so : (unit : Option SignalUnit) → HeardOctets unit → (t : Terminal) → So t → Keep (heard unit t)
  heard_so None octets t k = k
  heard_so (Some unit) octets t k =
      then_keeps So So (all_hear unit t) (λ after. waits (is_held t) (is_held after) after) (all_hear_so unit octets t k)
      (λ u x. outage_so (is_held t) (is_held u) u x)

  marks_so : (marks : List Mark) → AllOctets marks → (t : Terminal) → So t → Keep (all_marked marks t)
  marks_so [] all t k = k
  marks_so (mark ∷ marks) all t k =
      then_keeps So So (marked mark t) (λ u. all_marked marks u)
      (then_keeps So So (judged (is_error (unit_in mark)) t) (λ u. heard (unit_in mark) u) (judges_so t.align.state (is_error (unit_in mark)) t k) (λ u x. heard_so (unit_in mark) all.0 u x))
      (λ u x. marks_so marks all.1 u x)

  -- STEP 4.
  over_so : (t u : Terminal) (over : Bool) (input : Terminal → Talk Terminal) → ((v : Terminal) → So v → Keep (input v)) → So t → So u → Keep (if over then input u else done t)
  over_so t u over input each k x = if_keeps So over (input u) (done t) (λ is. each u x) (λ not. k)

  timed_so : (t : Terminal) → So t → Keep (timed t)
  timed_so t k = in_turn_keeps So (ends_t1 ∷ ends_t2 ∷ ends_t3 ∷ ends_t4 ∷ ends_t5 ∷ ends_t6 ∷ ends_t7 ∷ []) (lessened t) (
    (λ u x. over_so u (record u { clocks = record u.clocks { t1 = None } }) (is_over u.clocks.t1) (state_in StateIn.T1) (λ v. state_so v StateIn.T1) x x),
    (
      (λ u x. over_so u (record u { clocks = record u.clocks { t2 = None } }) (is_over u.clocks.t2) (align_in AlignIn.T2) (λ v. align_so v AlignIn.T2) x x),
      (
        (λ u x. over_so u (record u { clocks = record u.clocks { t3 = None } }) (is_over u.clocks.t3) (align_in AlignIn.T3) (λ v. align_so v AlignIn.T3) x x),
        (
          (λ u x. over_so u (record u { clocks = record u.clocks { t4 = None } }) (is_over u.clocks.t4) (align_in AlignIn.T4) (λ v. align_so v AlignIn.T4) x x),
          (
            (λ u x. over_so u (record u { clocks = record u.clocks { t5 = None } }) (is_over u.clocks.t5) (flow_in FlowIn.T5) (λ v. flow_so v FlowIn.T5) x x),
            (
              (λ u x. over_so u (record u { clocks = record u.clocks { t6 = None } }) (is_over u.clocks.t6) (flow_in FlowIn.T6) (λ v. flow_so v FlowIn.T6) x x),
              (
                (λ u x. over_so u (record u { clocks = record u.clocks { t7 = None } }) (is_over u.clocks.t7) (flow_in FlowIn.T7) (λ v. flow_so v FlowIn.T7) x x),
                tt,
              ),
            ),
          ),
        ),
      ),
    ),
  ) k

  -- STEP 5.
  module _ (narrow : IsHeadOf Narrow (head_or_start l)) where
    own_head : (t : Terminal) → So t → IsHeadOf Narrow (last_head t)
    own_head t k = subst (λ (o : Option Header). IsHeadOf Narrow (head_or_start o)) (sym k.0) narrow

    module _ (few : length b < 8) where
      few_left : (t : Terminal) → So t → length t.bits < 8
      few_left t k = subst (λ (bits : List Bool). length bits < 8) (sym k.1) few

      status_fits : (status : Status) → status_number status < 2 ^ 8
      status_fits Status.OutOfAlignment = omega arith
      status_fits Status.Normal = omega arith
      status_fits Status.Emergency = omega arith
      status_fits Status.OutOfService = omega arith
      status_fits Status.ProcessorOutage = omega arith
      status_fits Status.Busy = omega arith
      status_fits Status.Unassigned6 = omega arith
      status_fits Status.Unassigned7 = omega arith

      status_sends : (status : Status) (t : Terminal) → So t → Keeps Sends (sends_status status t)
      status_sends status t k = (
        record {
          is_unit = (own_head t k, tt);
          octets = All-cons (λ octet. octet < 2 ^ 8) (status_number status) [] (status_fits status) (All-nil (λ octet. octet < 2 ^ 8));
        },
        own_head t k,
        few_left t k,
      )

      fisu_sends : (t : Terminal) → So t → Keeps Sends (sends_fisu t)
      fisu_sends t k = (record { is_unit = (own_head t k, tt); octets = All-nil (λ octet. octet < 2 ^ 8) }, own_head t k, few_left t k)

      start_sends : (t : Terminal) → So t → Keeps Sends (sends_start_fisu t)
      start_sends t k = (record { is_unit = ((omega arith, omega arith), tt); octets = All-nil (λ octet. octet < 2 ^ 8) }, (omega arith, omega arith), few_left t k)

      narrow_is : (head : Header) → is_narrow head ≡ true → IsHeadOf Narrow head
      narrow_is head is = grind (arith, nat_tests, is)

      held_sends : (unit : SignalUnit) (t : Terminal) (busy : Bool) → t.flow.busy ≡ busy → So t → IsOnWire unit → IsOnWire (held_back t unit)
      held_sends (SignalUnit.Fisu head) t true is k on = rw is (record { is_unit = (((own_head t k).0, on.is_unit.0.1), tt); octets = on.octets })
      held_sends (SignalUnit.Lssu head status) t true is k on = rw is (record { is_unit = (((own_head t k).0, on.is_unit.0.1), tt); octets = on.octets })
      held_sends (SignalUnit.Msu head body) t true is k on = rw is (record { is_unit = (((own_head t k).0, on.is_unit.0.1), on.is_unit.1); octets = on.octets })
      held_sends unit t false is k on = rw is on

      head_stays : (unit : SignalUnit) (t : Terminal) → IsOnWire unit → IsHeadOf Narrow (head_of unit)
      head_stays unit t on = on.is_unit.0

      counts_so : (unit : SignalUnit) (t : Terminal) → So t → Keep (counts_sent unit t)
      counts_so (SignalUnit.Fisu head) t k = k
      counts_so (SignalUnit.Lssu head status) t k = k
      counts_so (SignalUnit.Msu head body) t k = flow_so _ FlowIn.Sent k

      given_sends : (unit : SignalUnit) (t : Terminal) → So t → IsOnWire unit → Keeps Sends (given unit t)
      given_sends unit t k on =
          if_keeps Sends (is_narrow (head_of unit)) (and_then (counts_sent unit t) (λ u. sends (held_back u unit) u)) (done (record { unit = None; narrow = false; after = t }))
          (λ is. then_keeps So Sends (counts_sent unit t) (λ u. sends (held_back u unit) u) (counts_so unit t k)
          (λ u x. let held = held_sends unit u u.flow.busy refl x on in (held, held.is_unit.0, few_left u x)))
          (λ not. (tt, own_head t k, tt))

      refused_sends : (why : Refusal) (t : Terminal) → So t → Keeps Sends (sent_by (Answer.Refused why) t)
      refused_sends Refusal.TooShort t k = fisu_sends t k
      refused_sends Refusal.TooLong t k = fisu_sends t k
      refused_sends Refusal.Reserved t k = fisu_sends t k
      refused_sends Refusal.StreamFull t k = fisu_sends t k
      refused_sends Refusal.NotUp t k = status_sends Status.OutOfService (stops_quietly t) (quiet_so t k)
      refused_sends Refusal.NotDown t k = fisu_sends t k
      refused_sends Refusal.Unsettled t k = fisu_sends t k
      refused_sends Refusal.UnknownNumber t k = fisu_sends t k
      refused_sends Refusal.Nothing t k = fisu_sends t k
      refused_sends Refusal.NoSuchLink t k = fisu_sends t k
      refused_sends Refusal.Finished t k = fisu_sends t k

      answer_sends : (answer : Answer) (t : Terminal) → So t → GivesOctets answer → Keeps Sends (sent_by answer t)
      answer_sends (Answer.Accepted number) t k gives = fisu_sends t k
      answer_sends (Answer.Taken body) t k gives = fisu_sends t k
      answer_sends (Answer.Found fate) t k gives = fisu_sends t k
      answer_sends (Answer.Sent unit) t k gives = given_sends unit t k gives
      answer_sends (Answer.Heard report) t k gives = fisu_sends t k
      answer_sends Answer.Done t k gives = fisu_sends t k
      answer_sends (Answer.Refused why) t k gives = refused_sends why t k

      serves_sends : (paused : Bool) (t : Terminal) → So t → Keeps Sends (serves paused t)
      serves_sends paused t k =
          if_keeps Sends t.up _ (sends_start_fisu t)
          (λ up. if_keeps Sends t.b_due (sends_status Status.Busy (record t { b_due = false })) _
          (λ due. status_sends Status.Busy (record t { b_due = false }) k)
          (λ not_due. if_keeps Sends paused (sends_fisu t) (ask (Event.Next t.link) (λ answer. sent_by answer t))
          (λ is. fisu_sends t k) (λ not. (tt, λ answer gives. answer_sends answer t k gives))))
          (λ down. start_sends t k)

      unless_out_sends : (talk : Talk Filled) (t : Terminal) → So t → Keeps Sends talk → Keeps Sends (unless_out talk t)
      unless_out_sends talk t k sends =
          if_keeps Sends t.outage (sends_status Status.ProcessorOutage t) talk (λ out. status_sends Status.ProcessorOutage t k) (λ not. sends)

      chosen_sends : (state : LinkPhase) (t : Terminal) → So t → Keeps Sends (chosen state t)
      chosen_sends LinkPhase.OutOfService t k = status_sends Status.OutOfService t k
      chosen_sends LinkPhase.Aligning t k = status_sends t.status t k
      chosen_sends LinkPhase.Ready t k = unless_out_sends (sends_start_fisu t) t k (start_sends t k)
      chosen_sends (LinkPhase.InService paused) t k =
          then_keeps So Sends (up_first t) (λ u. unless_out (serves paused u) u) (if_keeps So t.up (done t) (asks_up t) (λ up. k) (λ down. up_so t k))
          (λ u x. unless_out_sends (serves paused u) u x (serves_sends paused u x))

    filled_sends : (t : Terminal) → So t → Keeps Sends (filled t)
    filled_sends t k =
        if_keeps Sends (nat_lt (length t.bits) 8) (chosen t.state t) (done (record { unit = None; narrow = true; after = t }))
        (λ is. let few : length b < 8 = grind (arith, nat_tests, is, k.1) in chosen_sends few t.state t k) (λ enough. (tt, own_head t k, tt))

    -- THE TURN.
    pub turn_sends : (marks : List Mark) → AllOctets marks → (t : Terminal) → So t → Keeps Sends (turn_talk marks t)
    turn_sends marks all t k =
        then_keeps So Sends (commanded t) (λ u. and_then (all_marked marks u) (λ v. and_then (timed v) (λ w. filled w))) (commanded_so t k)
        (λ u x. then_keeps So Sends (all_marked marks u) (λ v. and_then (timed v) (λ w. filled w)) (marks_so marks all u x)
        (λ v y. then_keeps So Sends (timed v) (λ w. filled w) (timed_so v y) (λ w z. filled_sends w z)))
