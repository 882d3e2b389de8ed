-- WHAT IS ASKED in steps 1 and 3 of a turn: commands let a link fall or begin to align (`commanded_goes`); each unit
-- lets it fall, or brings it up, and is heard at the set where it's up there (`unit_goes`, `marks_goes`). Talks are
-- split where one follows another (term_model's Talks.antt). Used by Asking.antt.
use Rattle.std.proofs.Common.{refl, sym, subst, ap, ◌≡◌, ◌∙◌, ◌==◌, ◌||◌, ◌⊎◌, inl, inr, ℕ, nat_lt, Bool, true, false, not, List, [], ◌∷◌, ◌++◌, Option, Some, None, append-nil, append_assoc, if◌then◌else◌}
use Rattle.l2_units.specs.declared.cause.Cause.{Cause}
use Rattle.l2_units.specs.declared.cause.ControlFault.{ControlFault}
use Rattle.l2_units.specs.declared.status.Status.{Status}
use Rattle.l2_units.specs.declared.unit.Unit.{Unit as SignalUnit}
use Rattle.l2_units.specs.Grammar.{head_of}
use Rattle.l2_units.specs.Numbers.{cause_of}
use Rattle.l2_bits.specs.declared.marks.Mark.{Mark}
use Rattle.l2_monitors.specs.Aerm.{after_mark as after_aerm_mark}
use Rattle.l2_monitors.specs.Suerm.{Kept, after_mark}
use Rattle.l2_align.specs.declared.align.State.{State as AlignState}
use Rattle.l2_align.specs.declared.signals.AlignIn.{AlignIn}
use Rattle.l2_align.specs.declared.signals.Outcome.{Outcome}
use Rattle.l2_align.specs.Alignment.{Alignment}
use Rattle.l2_align.specs.Table.{table}
use Rattle.l2_state.specs.declared.link_state.State.{State as LinkPhase}
use Rattle.l2_state.specs.declared.signals.StateIn.{StateIn}
use Rattle.l2_state.specs.declared.signals.Indication.{Indication}
use Rattle.l2_state.specs.Table.{Row as StateRow, is_paused, row as state_row}
use Rattle.l2_flow.specs.declared.input.FlowIn.{FlowIn}
use Rattle.set_events.specs.declared.answer.Answer.{Answer}
use Rattle.set_events.specs.declared.answer.Refusal.{Refusal}
use Rattle.set_events.specs.declared.answer.Report.{Report}
use Rattle.set_events.specs.declared.event.Event.{Event}
use Rattle.set_events.specs.declared.history.Entry.{Entry}
use Rattle.term_model.specs.Hearing.{unit_in, is_error, aerm_judges, suerm_judges, service_judges, judges, judged, flow_hears, machines_hear, acked, acks, faults, reported, is_deaf, is_held, reaches_set, set_hears, waits, all_hear, heard, marked, all_marked}
use Rattle.term_model.specs.Machines.{aligns, after_state, risen, asks_up, tells as told_by, state_in, ends, align_in, flow_in, stops_quietly}
use Rattle.term_model.specs.Obeying.{obeys_if, blinded, changes_outage, commanded}
use Rattle.term_model.specs.Talk.{Talk, done, ask, and_then, in_turn, Went}
use Rattle.term_model.specs.Terminal.{Terminal, no_commands}
use Rattle.term_model.proofs.Talks.{ends_the_same, splits}
use Rattle.term_asks.specs.Asking.{Standing, out, aligning, ready, waiting, served, standing_in, Falls, stays, drops, tells, Obeys, only_falls, begins, risen_by, is_status, Rises, not_yet, comes_up, heard_by, Hears, passes, is_heard, HearsUnit, HearsOne, HearsAll, IsPlainOne, ArePlain}
use Rattle.term_asks.specs.Plain.{is_plain, IsPlainUnit}
use Rattle.term_asks.proofs.Calm.{is_outage_in}
use Rattle.term_asks.proofs.Falling.{emergency_none, calm_none, done_is, ask_is, if_went, true_false, out_served, nothing_then, falls_then, At, not_up, at_same, FallsTo, falls_done, FallsBy, falls_next, is_low_status, after_sets, FallsOut, told_falls, state_falls, at_aligns, align_falls, flow_falls, quiet_out}

-- STEP 1.
abbrev pub AllFall : List (Terminal → Talk Terminal) → Type 0
AllFall [] = Unit {0}
AllFall (f ∷ fs) = FallsBy f × AllFall fs

pub in_turn_falls : (fs : List (Terminal → Talk Terminal)) → AllFall fs → FallsBy (λ b. in_turn fs b)
in_turn_falls [] all link s t t' entries at went = falls_done link s t t' entries at went
in_turn_falls (f ∷ fs) all link s t t' entries at went =
    falls_next link s t t' entries (f t) (λ b. in_turn fs b) (λ mid es w. all.0 link s t mid es at w) (in_turn_falls fs all.1) went

pub obeys_falls : (c : Bool) (f : Terminal → Talk Terminal) → FallsBy f → FallsBy (obeys_if c f)
obeys_falls c f falls link s t t' entries at went = go (if_went c (f t) (done t) entries t' went)
  where
    go : ((c ≡ true) × Went (f t) entries t') ⊎ ((c ≡ false) × Went (done t) entries t') → FallsTo link s entries t'
    go (inl is) = falls link s t t' entries at is.1
    go (inr not) = falls_done link s t t' entries at not.1

pub never_falls : (c : Bool) (f : Terminal → Talk Terminal) → c ≡ false → FallsBy (obeys_if c f)
never_falls true f never link s t t' entries at went = true_false never
never_falls false f never link s t t' entries at went = falls_done link s t t' entries at went

-- an emergency begins or ceases
pub named_stays : (input : AlignIn) → ((a : Alignment) (state : AlignState) → (table state input a).out.outcome ≡ None) → (c : Bool) (link : ℕ) (s : Standing)
    (t t' : Terminal) (entries : List Entry) → At link s t → Went (obeys_if c (align_in input) t) entries t' → (entries ≡ []) × At link s t'
named_stays input none c link s t t' entries at went = go (if_went c (align_in input t) (done t) entries t' went)
  where
    go : ((c ≡ true) × Went (align_in input t) entries t') ⊎ ((c ≡ false) × Went (done t) entries t') → (entries ≡ []) × At link s t'
    go (inl is) =
        let u = aligns input t in
        let d = done_is u t' entries (subst (λ (o : Option Outcome). Went (ends o u) entries t') (none t.align t.align.state) is.1) in
        (d.0, subst (λ (v : Terminal). At link s v) (sym d.1) (at_aligns link s t input at))
    go (inr not) = let d = done_is t t' entries not.1 in (d.0, subst (λ (v : Terminal). At link s v) (sym d.1) at)

pub record Began (link : ℕ) (started : Bool) (s : Standing) (entries : List Entry) (t : Terminal) : Type 0 where
  pub to : Standing
  pub at : At link to t
  pub none : entries ≡ []
  pub how : (to ≡ s) ⊎ ((started ≡ true) × (s ≡ out) × (to ≡ aligning))

-- what a terminal that stands there isn't
pub up_contrary : {X : Type 0} (link : ℕ) (s : Standing) (t : Terminal) → At link s t → (s ≡ served → ⊥) → t.up ≡ true → X
up_contrary link s t at not up = absurd (not (sym at.stands ∙ at.serves up))

pub start_goes : (c : Bool) (link : ℕ) (s : Standing) (t t' : Terminal) (entries : List Entry) → At link s t
    → Went (obeys_if c (state_in StateIn.Start) t) entries t' → Began link c s entries t'
start_goes c link s t t' entries at went = go (if_went c (state_in StateIn.Start t) (done t) entries t' went)
  where
    u : Terminal
    u = after_state StateIn.Start t

    still : (phase : LinkPhase) → t.state ≡ phase → (state_row phase StateIn.Start).next ≡ phase → (state_row phase StateIn.Start).out.indication ≡ None
        → Went (state_in StateIn.Start t) entries t' → Began link c s entries t'
    still phase e next none w =
        let set = after_sets t StateIn.Start refl in
        let d = done_is u t' entries (subst (λ (o : Option Indication). Went (told_by o u) entries t')
        (ap (λ (p : LinkPhase). (state_row p StateIn.Start).out.indication) e ∙ none) w) in
        record {
          to = s;
          at = subst (λ (v : Terminal). At link s v) (sym d.1)
              (at_same link s t u at set.link (set.state ∙ ap (λ (p : LinkPhase). (state_row p StateIn.Start).next) e ∙ next ∙ sym e) set.up set.blind set.commands (set.outage at.outage));
          none = d.0;
          how = inl refl;
        }

    begun : t.state ≡ LinkPhase.OutOfService → c ≡ true → Went (state_in StateIn.Start t) entries t' → Began link c s entries t'
    begun e is w =
        let set = after_sets t StateIn.Start refl in
        let d = done_is u t' entries (subst (λ (o : Option Indication). Went (told_by o u) entries t')
        (ap (λ (p : LinkPhase). (state_row p StateIn.Start).out.indication) e) w) in
        let state : u.state ≡ LinkPhase.Aligning = set.state ∙ ap (λ (p : LinkPhase). (state_row p StateIn.Start).next) e in
        let was : s ≡ out = sym at.stands ∙ ap (λ (p : LinkPhase). standing_in p t.up) e in
        let risen : At link aligning u = record {
          link_is = set.link ∙ at.link_is;
          stands = ap (λ (p : LinkPhase). standing_in p u.up) state;
          serves = λ up. up_contrary link s t at (λ (no : s ≡ served). out_served s was no) (sym set.up ∙ up);
          paused = ap is_paused state;
          blind = set.blind ∙ at.blind;
          quiet = set.commands ∙ at.quiet;
          outage = set.outage at.outage;
        } in
        record { to = aligning; at = subst (λ (v : Terminal). At link aligning v) (sym d.1) risen; none = d.0; how = inr (is, was, refl) }

    by : (phase : LinkPhase) → t.state ≡ phase → c ≡ true → Went (state_in StateIn.Start t) entries t' → Began link c s entries t'
    by LinkPhase.OutOfService e is w = begun e is w
    by LinkPhase.Aligning e is w = still LinkPhase.Aligning e refl refl w
    by LinkPhase.Ready e is w = still LinkPhase.Ready e refl refl w
    by (LinkPhase.InService paused) e is w = still (LinkPhase.InService paused) e refl refl w

    go : ((c ≡ true) × Went (state_in StateIn.Start t) entries t') ⊎ ((c ≡ false) × Went (done t) entries t') → Began link c s entries t'
    go (inl is) = by t.state refl is.0 is.1
    go (inr not) =
        let d = done_is t t' entries not.1 in
        record { to = s; at = subst (λ (v : Terminal). At link s v) (sym d.1) at; none = d.0; how = inl refl }

-- a Stop takes it out of service
pub stop_out : (link : ℕ) (s : Standing) (t t' : Terminal) (entries : List Entry) → At link s t → Went (state_in StateIn.Stop t) entries t'
    → FallsOut link s entries t'
stop_out link s t t' entries at went = go t.state refl
  where
    u : Terminal
    u = after_state StateIn.Stop t

    down : (phase : LinkPhase) → t.state ≡ phase → (state_row phase StateIn.Stop).next ≡ LinkPhase.OutOfService
        → (state_row phase StateIn.Stop).out.indication ≡ Some (Indication.Down Cause.Stop) → FallsOut link s entries t'
    down phase e next told =
        let set = after_sets t StateIn.Stop refl in
        told_falls link s t u t' Cause.Stop entries at (record {
          link = set.link;
          state = set.state ∙ ap (λ (p : LinkPhase). (state_row p StateIn.Stop).next) e ∙ next;
          up = set.up;
          blind = set.blind;
          commands = set.commands;
          outage = set.outage;
        })
        (subst (λ (o : Option Indication). Went (told_by o u) entries t') (ap (λ (p : LinkPhase). (state_row p StateIn.Stop).out.indication) e ∙ told) went)

    go : (phase : LinkPhase) → t.state ≡ phase → FallsOut link s entries t'
    go LinkPhase.OutOfService e =
        let set = after_sets t StateIn.Stop refl in
        let d = done_is u t' entries (subst (λ (o : Option Indication). Went (told_by o u) entries t')
        (ap (λ (p : LinkPhase). (state_row p StateIn.Stop).out.indication) e) went) in
        let still : At link s u = at_same link s t u at set.link (set.state ∙ ap (λ (p : LinkPhase). (state_row p StateIn.Stop).next) e ∙ sym e) set.up set.blind
        set.commands (set.outage at.outage) in (
          record { to = s; at = subst (λ (v : Terminal). At link s v) (sym d.1) still; falls = stays refl d.0 },
          sym at.stands ∙ ap (λ (p : LinkPhase). standing_in p t.up) e,
        )
    go LinkPhase.Aligning e = down LinkPhase.Aligning e refl refl
    go LinkPhase.Ready e = down LinkPhase.Ready e refl refl
    go (LinkPhase.InService paused) e = down (LinkPhase.InService paused) e refl refl

-- what falls so at the last, if it's told to stop
pub record StopsTo (link : ℕ) (stopped : Bool) (s : Standing) (entries : List Entry) (t : Terminal) : Type 0 where
  pub falls : FallsTo link s entries t
  pub stops : stopped ≡ true → falls.to ≡ out

pub stop_goes : (c : Bool) (link : ℕ) (s : Standing) (t t' : Terminal) (entries : List Entry) → At link s t
    → Went (obeys_if c (state_in StateIn.Stop) t) entries t' → StopsTo link c s entries t'
stop_goes c link s t t' entries at went = go (if_went c (state_in StateIn.Stop t) (done t) entries t' went)
  where
    go : ((c ≡ true) × Went (state_in StateIn.Stop t) entries t') ⊎ ((c ≡ false) × Went (done t) entries t') → StopsTo link c s entries t'
    go (inl is) = let f = stop_out link s t t' entries at is.1 in record { falls = f.0; stops = λ told. f.1 }
    go (inr not) = record { falls = falls_done link s t t' entries at not.1; stops = λ told. true_false (sym told ∙ not.0) }

pub then_stop : (fs : List (Terminal → Talk Terminal)) → AllFall fs → (c : Bool) (link : ℕ) (s : Standing) (t t' : Terminal) (entries : List Entry) → At link s t
    → Went (in_turn (fs ++ (obeys_if c (state_in StateIn.Stop) ∷ [])) t) entries t' → StopsTo link c s entries t'
then_stop [] all c link s t t' entries at went =
    stop_goes c link s t t' entries at ((ends_the_same (obeys_if c (state_in StateIn.Stop) t) entries t').0 went)
then_stop (f ∷ fs) all c link s t t' entries at went =
    let p = splits (f t) (λ b. in_turn (fs ++ (obeys_if c (state_in StateIn.Stop) ∷ [])) b) entries t' went in
    let g = all.0 link s t p.mid p.first at p.went_first in
    let h = then_stop fs all.1 c link g.to p.mid t' p.second g.at p.went_second in
    subst (λ (es : List Entry). StopsTo link c s es t') (sym p.entries_are) (record {
      falls = record { to = h.falls.to; at = h.falls.at; falls = falls_then link s g.to h.falls.to p.first p.second g.falls h.falls.falls };
      stops = h.stops;
    })

pub record ObeysTo (link : ℕ) (started stopped : Bool) (s : Standing) (entries : List Entry) (t : Terminal) : Type 0 where
  pub to : Standing
  pub at : At link to t
  pub obeys : Obeys link started s to entries
  pub stops : stopped ≡ true → to ≡ out

pub obeys_then : (link : ℕ) (started : Bool) (s mid last : Standing) (entries : List Entry) → (mid ≡ s) ⊎ ((started ≡ true) × (s ≡ out) × (mid ≡ aligning))
    → Falls link mid last entries → Obeys link started s last entries
obeys_then link started s mid last entries (inl same) f = only_falls (subst (λ (m : Standing). Falls link m last entries) same f)
obeys_then link started s mid last entries (inr began) (stays same none) = begins began.0 began.1 (same ∙ began.2) none
obeys_then link started s mid last entries (inr began) (drops not_served is_out none) = only_falls (stays (is_out ∙ sym began.1) none)
obeys_then link started s mid last entries (inr began) (tells entry is_served is_out one event) =
    let no : aligning ≡ served = sym began.2 ∙ is_served in absurd cc

pub waits_falls : (was is : Bool) → FallsBy (waits was is)
waits_falls was true link s t t' entries at went = flow_falls FlowIn.Paused link s t t' entries at went
waits_falls true false link s t t' entries at went = go (if_went t.up (flow_in (FlowIn.Resumed t.unacked) t) (done t) entries t' went)
  where
    go : ((t.up ≡ true) × Went (flow_in (FlowIn.Resumed t.unacked) t) entries t') ⊎ ((t.up ≡ false) × Went (done t) entries t') → FallsTo link s entries t'
    go (inl is) = flow_falls (FlowIn.Resumed t.unacked) link s t t' entries at is.1
    go (inr not_is) = falls_done link s t t' entries at not_is.1
waits_falls false false link s t t' entries at went = falls_done link s t t' entries at went

pub recover_falls : FallsBy (changes_outage StateIn.Recover)
recover_falls link s t t' entries at went =
    falls_next link s t t' entries (state_in StateIn.Recover t) (λ u. waits (is_held t) (is_held u) u)
    (λ mid es w. state_falls StateIn.Recover refl link s t mid es at w)
    (λ l x u v es there w. waits_falls (is_held t) (is_held u) l x u v es there w) went

nothing_first : (all xs ys : List Entry) → all ≡ xs ++ ys → xs ≡ [] → all ≡ ys
nothing_first all xs ys are none = are ∙ nothing_then xs ys none

pub commanded_goes : (link : ℕ) (s : Standing) (t t' : Terminal) (entries : List Entry) → At link s (record t { commands = no_commands })
    → t.commands.blind ≡ false → t.commands.outage ≡ false → Went (commanded t) entries t' → ObeysTo link t.commands.start t.commands.stop s entries t'
commanded_goes link s t t' entries at never no_outage went =
    let c = t.commands in
    let u : Terminal = record t { commands = no_commands } in
    let middle =
    obeys_if c.busy (flow_in FlowIn.Busy) ∷ obeys_if c.ease (flow_in FlowIn.Ease) ∷ obeys_if c.blind blinded ∷
    obeys_if c.outage (changes_outage StateIn.Outage) ∷ obeys_if c.recover (changes_outage StateIn.Recover) ∷ [] in
    let last = middle ++ (obeys_if c.stop (state_in StateIn.Stop) ∷ []) in
    let all : AllFall middle = (
      obeys_falls c.busy (flow_in FlowIn.Busy) (flow_falls FlowIn.Busy),
      (
        obeys_falls c.ease (flow_in FlowIn.Ease) (flow_falls FlowIn.Ease),
        (
          never_falls c.blind blinded never,
          (
            never_falls c.outage (changes_outage StateIn.Outage) no_outage,
            (obeys_falls c.recover (changes_outage StateIn.Recover) recover_falls, tt),
          ),
        ),
      ),
    ) in
    let start = obeys_if c.start (state_in StateIn.Start) in
    let calm = obeys_if c.calm (align_in AlignIn.Calm) in
    let p = splits (obeys_if c.emergency (align_in AlignIn.Emergency) u) (λ b. in_turn (calm ∷ start ∷ last) b) entries t' went in
    let e = named_stays AlignIn.Emergency emergency_none c.emergency link s u p.mid p.first at p.went_first in
    let k = splits (calm p.mid) (λ b. in_turn (start ∷ last) b) p.second t' p.went_second in
    let g = named_stays AlignIn.Calm calm_none c.calm link s p.mid k.mid k.first e.1 k.went_first in
    let q = splits (start k.mid) (λ b. in_turn last b) k.second t' k.went_second in
    let b = start_goes c.start link s k.mid q.mid q.first g.1 q.went_first in
    let f = then_stop middle all c.stop link b.to q.mid t' q.second b.at q.went_second in
    let one : entries ≡ p.second = nothing_first entries p.first p.second p.entries_are e.0 in
    let two : p.second ≡ k.second = nothing_first p.second k.first k.second k.entries_are g.0 in
    let three : k.second ≡ q.second = nothing_first k.second q.first q.second q.entries_are b.none in
    let same : entries ≡ q.second = one ∙ (two ∙ three) in
    record {
      to = f.falls.to;
      at = f.falls.at;
      obeys = subst (λ (es : List Entry). Obeys link c.start s f.falls.to es) (sym same) (obeys_then link c.start s b.to f.falls.to q.second b.how f.falls.falls);
      stops = f.stops;
    }

-- STEP 3.
pub aerm_falls : (aerm : Option ℕ) (error : Bool) → FallsBy (aerm_judges aerm error)
aerm_falls None error link s t t' entries at went = falls_done link s t t' entries at went
aerm_falls (Some left) error link s t t' entries at went =
    go (if_went (after_aerm_mark left error == 0) (align_in AlignIn.Abort u) (done u) entries t' went)
  where
    u : Terminal
    u = record t { aerm = Some (after_aerm_mark left error) }

    there : At link s u
    there = at_same link s t u at refl refl refl refl refl at.outage

    go : (((after_aerm_mark left error == 0) ≡ true) × Went (align_in AlignIn.Abort u) entries t') ⊎ (((after_aerm_mark left error == 0) ≡ false) × Went (done u) entries t')
        → FallsTo link s entries t'
    go (inl is) = align_falls AlignIn.Abort refl link s u t' entries there is.1
    go (inr not) = falls_done link s u t' entries there not.1

pub suerm_falls : (suerm : Option Kept) (error : Bool) → FallsBy (suerm_judges suerm error)
suerm_falls None error link s t t' entries at went = falls_done link s t t' entries at went
suerm_falls (Some kept) error link s t t' entries at went =
    go (if_went (after_mark kept error).tripped (state_in (StateIn.Failure Cause.Suerm) u) (done u) entries t' went)
  where
    u : Terminal
    u = record t { suerm = Some (after_mark kept error) }

    there : At link s u
    there = at_same link s t u at refl refl refl refl refl at.outage

    go : (((after_mark kept error).tripped ≡ true) × Went (state_in (StateIn.Failure Cause.Suerm) u) entries t') ⊎ (((after_mark kept error).tripped ≡ false) × Went (done u) entries t')
        → FallsTo link s entries t'
    go (inl is) = state_falls (StateIn.Failure Cause.Suerm) refl link s u t' entries there is.1
    go (inr not) = falls_done link s u t' entries there not.1

pub service_falls : (phase : LinkPhase) (error : Bool) → FallsBy (service_judges phase error)
service_falls LinkPhase.OutOfService error link s t t' entries at went = falls_done link s t t' entries at went
service_falls LinkPhase.Aligning error link s t t' entries at went = falls_done link s t t' entries at went
service_falls LinkPhase.Ready error link s t t' entries at went = suerm_falls t.suerm error link s t t' entries at went
service_falls (LinkPhase.InService paused) error link s t t' entries at went = suerm_falls t.suerm error link s t t' entries at went

pub judges_falls : (a : AlignState) (error : Bool) → FallsBy (judges a error)
judges_falls AlignState.Idle error link s t t' entries at went = service_falls t.state error link s t t' entries at went
judges_falls AlignState.NotAligned error link s t t' entries at went = service_falls t.state error link s t t' entries at went
judges_falls AlignState.Aligned error link s t t' entries at went = service_falls t.state error link s t t' entries at went
judges_falls AlignState.Proving error link s t t' entries at went = aerm_falls t.aerm error link s t t' entries at went

pub judged_falls : (error : Bool) → FallsBy (judged error)
judged_falls error link s t t' entries at went = judges_falls t.align.state error link s t t' entries at went

pub flow_hears_falls : (status : Status) → FallsBy (flow_hears status)
flow_hears_falls Status.OutOfAlignment link s t t' entries at went = falls_done link s t t' entries at went
flow_hears_falls Status.Normal link s t t' entries at went = falls_done link s t t' entries at went
flow_hears_falls Status.Emergency link s t t' entries at went = falls_done link s t t' entries at went
flow_hears_falls Status.OutOfService link s t t' entries at went = falls_done link s t t' entries at went
flow_hears_falls Status.ProcessorOutage link s t t' entries at went = falls_done link s t t' entries at went
flow_hears_falls Status.Busy link s t t' entries at went = go (if_went (is_deaf t.state t.outage) (done t) (flow_in FlowIn.HeardBusy t) entries t' went)
  where
    go : ((is_deaf t.state t.outage ≡ true) × Went (done t) entries t') ⊎ ((is_deaf t.state t.outage ≡ false) × Went (flow_in FlowIn.HeardBusy t) entries t')
        → FallsTo link s entries t'
    go (inl deaf) = falls_done link s t t' entries at deaf.1
    go (inr hears) = flow_falls FlowIn.HeardBusy link s t t' entries at hears.1
flow_hears_falls Status.Unassigned6 link s t t' entries at went = falls_done link s t t' entries at went
flow_hears_falls Status.Unassigned7 link s t t' entries at went = falls_done link s t t' entries at went

-- a status ends service
pub plain_low : (status : Status) → is_plain status ≡ true → is_low_status status ≡ true
plain_low Status.OutOfAlignment plain = refl
plain_low Status.Normal plain = refl
plain_low Status.Emergency plain = refl
plain_low Status.OutOfService plain = refl
plain_low _ plain = absurd cc

pub plain_row : (status : Status) (paused : Bool) → is_plain status ≡ true
    → ((state_row (LinkPhase.InService paused) (StateIn.Heard status)).next ≡ LinkPhase.OutOfService)
    × ((state_row (LinkPhase.InService paused) (StateIn.Heard status)).out.indication ≡ Some (Indication.Down Cause.Status))
plain_row Status.OutOfAlignment paused plain = (refl, refl)
plain_row Status.Normal paused plain = (refl, refl)
plain_row Status.Emergency paused plain = (refl, refl)
plain_row Status.OutOfService paused plain = (refl, refl)
plain_row _ paused plain = absurd cc

abbrev pub FallsAway : ℕ → Standing → List Entry → Terminal → Type 0
FallsAway link s entries t' = (f : FallsTo link s entries t') × (f.to ≡ served → ⊥)

pub away : (link : ℕ) (s : Standing) (entries : List Entry) (t' : Terminal) (f : FallsTo link s entries t') → (s ≡ served → ⊥) → FallsAway link s entries t'
away link s entries t' f not = (f, go f.falls)
  where
    go : Falls link s f.to entries → f.to ≡ served → ⊥
    go (stays same none) is = not (sym same ∙ is)
    go (drops not_served is_out none) is = out_served f.to is_out is
    go (tells entry is_served is_out one event) is = out_served f.to is_out is

pub status_falls : (status : Status) → is_plain status ≡ true → (link : ℕ) (s : Standing) (t t' : Terminal) (entries : List Entry) → At link s t
    → Went (state_in (StateIn.Heard status) t) entries t' → FallsAway link s entries t'
status_falls status plain link s t t' entries at went = go t.state refl
  where
    u : Terminal
    u = after_state (StateIn.Heard status) t

    others : (s ≡ served → ⊥) → FallsAway link s entries t'
    others not = away link s entries t' (state_falls (StateIn.Heard status) (plain_low status plain) link s t t' entries at went) not

    go : (phase : LinkPhase) → t.state ≡ phase → FallsAway link s entries t'
    go (LinkPhase.InService paused) e =
        let set = after_sets t (StateIn.Heard status) refl in
        let row = plain_row status paused plain in
        let next = ap (λ (p : LinkPhase). (state_row p (StateIn.Heard status)).next) e ∙ row.0 in
        let told = ap (λ (p : LinkPhase). (state_row p (StateIn.Heard status)).out.indication) e ∙ row.1 in
        let f = told_falls link s t u t' Cause.Status entries at (record { link = set.link; state = set.state ∙ next; up = set.up; blind = set.blind; commands = set.commands; outage = set.outage })
        (subst (λ (o : Option Indication). Went (told_by o u) entries t') told went) in
        (f.0, λ is. out_served f.0.to f.1 is)
    go LinkPhase.OutOfService e = others (λ is. let no : out ≡ served = ap (λ (p : LinkPhase). standing_in p t.up) (sym e) ∙ at.stands ∙ is in absurd cc)
    go LinkPhase.Aligning e = others (λ is. let no : aligning ≡ served = ap (λ (p : LinkPhase). standing_in p t.up) (sym e) ∙ at.stands ∙ is in absurd cc)
    go LinkPhase.Ready e = others (λ is. let no : ready ≡ served = ap (λ (p : LinkPhase). standing_in p t.up) (sym e) ∙ at.stands ∙ is in absurd cc)

-- a FISU, or an MSU, brings a link up that is ready
pub data RowRises (phase : LinkPhase) (row : StateRow) : Type 0 where
  rises_not : row.next ≡ phase → row.out.indication ≡ None → RowRises phase row
  rises_up : phase ≡ LinkPhase.Ready → row.next ≡ LinkPhase.InService false → row.out.indication ≡ Some Indication.Up → RowRises phase row

pub fisu_row : (phase : LinkPhase) → is_paused phase ≡ false → RowRises phase (state_row phase StateIn.Fisu)
fisu_row LinkPhase.OutOfService not = rises_not refl refl
fisu_row LinkPhase.Aligning not = rises_not refl refl
fisu_row LinkPhase.Ready not = rises_up refl refl refl
fisu_row (LinkPhase.InService paused) not = rises_not (ap LinkPhase.InService (sym not)) refl

pub msu_row : (phase : LinkPhase) → is_paused phase ≡ false → RowRises phase (state_row phase StateIn.Msu)
msu_row LinkPhase.OutOfService not = rises_not refl refl
msu_row LinkPhase.Aligning not = rises_not refl refl
msu_row LinkPhase.Ready not = rises_up refl refl refl
msu_row (LinkPhase.InService paused) not = rises_not (ap LinkPhase.InService (sym not)) refl

pub risen_at : (link : ℕ) (u : Terminal) (answer : Answer) → u.link ≡ link → u.state ≡ LinkPhase.InService false → u.up ≡ false → u.blind ≡ false → u.commands ≡ no_commands
    → u.outage ≡ false → At link (risen_by answer) (risen answer u)
risen_at link u answer link_is state up blind quiet outage = go answer
  where
    still : At link waiting u
    still = record {
      link_is = link_is;
      stands = ap (λ (p : LinkPhase). standing_in p u.up) state ∙ ap (λ (b : Bool). standing_in (LinkPhase.InService false) b) up;
      serves = λ is. true_false (sym is ∙ up);
      paused = ap is_paused state;
      blind = blind;
      quiet = quiet;
      outage = outage;
    }

    go : (answer : Answer) → At link (risen_by answer) (risen answer u)
    go (Answer.Accepted number) = still
    go (Answer.Taken body) = still
    go (Answer.Found fate) = still
    go (Answer.Sent unit) = still
    go (Answer.Heard report) = still
    go Answer.Done = record {
      link_is = link_is;
      stands = ap (λ (p : LinkPhase). standing_in p true) state;
      serves = λ is. ap (λ (p : LinkPhase). standing_in p true) state;
      paused = ap is_paused state;
      blind = refl;
      quiet = quiet;
      outage = outage;
    }
    go (Answer.Refused why) = still

-- it asks for Up
pub record UpTo (link : ℕ) (entries : List Entry) (t : Terminal) : Type 0 where
  pub entry : Entry
  pub entries_are : entries ≡ entry ∷ []
  pub event_is : entry.event ≡ Event.Up link
  pub at : At link (risen_by entry.answer) t

pub ups : (link : ℕ) (u t' : Terminal) (entries : List Entry) → u.link ≡ link → u.state ≡ LinkPhase.InService false → u.up ≡ false → u.blind ≡ false → u.commands ≡ no_commands
    → u.outage ≡ false → Went (asks_up u) entries t' → UpTo link entries t'
ups link u t' entries link_is state up blind quiet outage went =
    let a = ask_is (Event.Up u.link) (λ answer. done (risen answer u)) entries t' went in
    let d = done_is (risen a.entry.answer u) t' a.later a.went in
    record {
      entry = a.entry;
      entries_are = a.entries_are ∙ ap (λ (es : List Entry). a.entry ∷ es) d.0;
      event_is = a.event_is ∙ ap Event.Up link_is;
      at = subst (λ (v : Terminal). At link (risen_by a.entry.answer) v) (sym d.1) (risen_at link u a.entry.answer link_is state up blind quiet outage);
    }

pub record RisesTo (link : ℕ) (unit : SignalUnit) (s : Standing) (entries : List Entry) (t : Terminal) : Type 0 where
  pub to : Standing
  pub at : At link to t
  pub rises : Rises link unit s to entries

pub rise_goes : (unit : SignalUnit) (input : StateIn) → is_status unit ≡ false → is_outage_in input ≡ false
    → ((phase : LinkPhase) → is_paused phase ≡ false → RowRises phase (state_row phase input)) → (link : ℕ) (s : Standing) (t t' : Terminal)
    (entries : List Entry) → At link s t → Went (state_in input t) entries t' → RisesTo link unit s entries t'
rise_goes unit input other not rows link s t t' entries at went = go (rows t.state at.paused)
  where
    u : Terminal
    u = after_state input t

    ready_down : s ≡ ready → (b : Bool) → t.up ≡ b → t.up ≡ false
    ready_down is true e = up_contrary link s t at (λ (no : s ≡ served). let not : ready ≡ served = sym is ∙ no in absurd cc) e
    ready_down is false e = e

    go : RowRises t.state (state_row t.state input) → RisesTo link unit s entries t'
    go (rises_not next none) =
        let set = after_sets t input not in
        let d = done_is u t' entries (subst (λ (o : Option Indication). Went (told_by o u) entries t') none went) in
        record {
          to = s;
          at = subst (λ (v : Terminal). At link s v) (sym d.1) (at_same link s t u at set.link (set.state ∙ next) set.up set.blind set.commands (set.outage at.outage));
          rises = not_yet refl d.0;
        }
    go (rises_up was next told) =
        let set = after_sets t input not in
        let is : s ≡ ready = sym at.stands ∙ ap (λ (p : LinkPhase). standing_in p t.up) was in
        let a = ups link u t' entries (set.link ∙ at.link_is) (set.state ∙ next) (set.up ∙ ready_down is t.up refl) (set.blind ∙ at.blind) (set.commands ∙ at.quiet) (set.outage at.outage)
        (subst (λ (o : Option Indication). Went (told_by o u) entries t') told went) in
        record { to = risen_by a.entry.answer; at = a.at; rises = comes_up a.entry other is a.entries_are a.event_is refl }

pub record MachinesTo (link : ℕ) (unit : SignalUnit) (s : Standing) (entries : List Entry) (t : Terminal) : Type 0 where
  pub judged : Standing
  pub to : Standing
  pub first : List Entry
  pub second : List Entry
  pub entries_are : entries ≡ first ++ second
  pub at : At link to t
  pub falls : Falls link s judged first
  pub rises : Rises link unit judged to second
  pub status : is_status unit ≡ true → to ≡ served → ⊥

pub machines_rise : (unit : SignalUnit) (link : ℕ) (s : Standing) (entries : List Entry) (t' : Terminal) → is_status unit ≡ false → RisesTo link unit s entries t'
    → MachinesTo link unit s entries t'
machines_rise unit link s entries t' other r = record {
  judged = s;
  to = r.to;
  first = [];
  second = entries;
  entries_are = refl;
  at = r.at;
  falls = stays refl refl;
  rises = r.rises;
  status = λ is. true_false (sym is ∙ other);
}

-- a status lets it fall, or leaves one that wasn't served
pub machines_fall : (unit : SignalUnit) (link : ℕ) (s : Standing) (entries : List Entry) (t' : Terminal) → FallsAway link s entries t' → MachinesTo link unit s entries t'
machines_fall unit link s entries t' f = record {
  judged = f.0.to;
  to = f.0.to;
  first = entries;
  second = [];
  entries_are = sym (append-nil entries);
  at = f.0.at;
  falls = f.0.falls;
  rises = not_yet refl refl;
  status = λ is. f.1;
}

pub away_after : (link : ℕ) (s : Standing) (xs ys : List Entry) (t t' : Terminal) (f : FallsTo link s xs t) → FallsAway link f.to ys t' → FallsAway link s (xs ++ ys) t'
away_after link s xs ys t t' f g = (record { to = g.0.to; at = g.0.at; falls = falls_then link s f.to g.0.to xs ys f.falls g.0.falls }, g.1)

pub machines_goes : (unit : SignalUnit) → IsPlainUnit unit → (link : ℕ) (s : Standing) (t t' : Terminal) (entries : List Entry) → At link s t
    → Went (machines_hear unit t) entries t' → MachinesTo link unit s entries t'
machines_goes (SignalUnit.Fisu head) plain link s t t' entries at went =
    machines_rise (SignalUnit.Fisu head) link s entries t' refl (rise_goes (SignalUnit.Fisu head) StateIn.Fisu refl refl fisu_row link s t t' entries at went)
machines_goes (SignalUnit.Msu head body) plain link s t t' entries at went =
    machines_rise (SignalUnit.Msu head body) link s entries t' refl (rise_goes (SignalUnit.Msu head body) StateIn.Msu refl refl msu_row link s t t' entries at went)
machines_goes (SignalUnit.Lssu head status) plain link s t t' entries at went =
    let p = splits (align_in (AlignIn.Heard status) t) (λ u. and_then (state_in (StateIn.Heard status) u) (λ v. flow_hears status v)) entries t' went in
    let f = align_falls (AlignIn.Heard status) refl link s t p.mid p.first at p.went_first in
    let q = splits (state_in (StateIn.Heard status) p.mid) (λ v. flow_hears status v) p.second t' p.went_second in
    let g = status_falls status plain link f.to p.mid q.mid q.first f.at q.went_first in
    let h = away link g.0.to q.second t' (flow_hears_falls status link g.0.to q.mid t' q.second g.0.at q.went_second) g.1 in
    machines_fall (SignalUnit.Lssu head status) link s entries t'
    (subst (λ (es : List Entry). FallsAway link s es t') (sym (p.entries_are ∙ ap (λ (es : List Entry). p.first ++ es) q.entries_are))
    (away_after link s p.first (q.first ++ q.second) p.mid t' f (away_after link f.to q.first q.second q.mid t' g.0 h)))

-- the set hears it where it's up
pub acks_falls : (report : Report) (bsn : ℕ) → FallsBy (acks report bsn)
acks_falls report bsn link s t t' entries at went =
    go (if_went (nat_lt 0 report.acked || report.resend) (acked (not (bsn == t.top)) t) (done t) entries t' went)
  where
    u : Terminal
    u = record t { unacked = not (bsn == t.top) }

    go : (((nat_lt 0 report.acked || report.resend) ≡ true) × Went (acked (not (bsn == t.top)) t) entries t')
        ⊎ (((nat_lt 0 report.acked || report.resend) ≡ false) × Went (done t) entries t') → FallsTo link s entries t'
    go (inl is) = flow_falls (FlowIn.Acked (not (bsn == t.top))) link s u t' entries (at_same link s t u at refl refl refl refl refl at.outage) is.1
    go (inr not_is) = falls_done link s t t' entries at not_is.1

pub faults_falls : (fault : Option ControlFault) → FallsBy (faults fault)
faults_falls None link s t t' entries at went = falls_done link s t t' entries at went
faults_falls (Some fault) link s t t' entries at went = state_falls (StateIn.Failure (cause_of fault)) refl link s t t' entries at went

module _ (link bsn : ℕ) (t t' : Terminal) (entries : List Entry) (at : At link served t) where
  refused_goes : (why : Refusal) → Went (reported (Answer.Refused why) bsn t) entries t' → FallsTo link (heard_by (Answer.Refused why)) entries t'
  refused_goes Refusal.TooShort went = falls_done link served t t' entries at went
  refused_goes Refusal.TooLong went = falls_done link served t t' entries at went
  refused_goes Refusal.Reserved went = falls_done link served t t' entries at went
  refused_goes Refusal.StreamFull went = falls_done link served t t' entries at went
  refused_goes Refusal.NotUp went = falls_done link out (stops_quietly t) t' entries (quiet_out link served t at refl) went
  refused_goes Refusal.NotDown went = falls_done link served t t' entries at went
  refused_goes Refusal.Unsettled went = falls_done link served t t' entries at went
  refused_goes Refusal.UnknownNumber went = falls_done link served t t' entries at went
  refused_goes Refusal.Nothing went = falls_done link served t t' entries at went
  refused_goes Refusal.NoSuchLink went = falls_done link served t t' entries at went
  refused_goes Refusal.Finished went = falls_done link served t t' entries at went

  reported_goes : (answer : Answer) → Went (reported answer bsn t) entries t' → FallsTo link (heard_by answer) entries t'
  reported_goes (Answer.Accepted number) went = falls_done link served t t' entries at went
  reported_goes (Answer.Taken body) went = falls_done link served t t' entries at went
  reported_goes (Answer.Found fate) went = falls_done link served t t' entries at went
  reported_goes (Answer.Sent unit) went = falls_done link served t t' entries at went
  reported_goes (Answer.Heard report) went =
      falls_next link served t t' entries (acks report bsn t) (λ u. faults report.fault u) (λ mid es w. acks_falls report bsn link served t mid es at w)
      (faults_falls report.fault) went
  reported_goes Answer.Done went = falls_done link served t t' entries at went
  reported_goes (Answer.Refused why) went = refused_goes why went

pub record HearsTo (link : ℕ) (unit : SignalUnit) (s : Standing) (entries : List Entry) (t : Terminal) : Type 0 where
  pub to : Standing
  pub at : At link to t
  pub hears : Hears link unit s to entries

pub set_goes : (unit : SignalUnit) (link : ℕ) (s : Standing) (t t' : Terminal) (entries : List Entry) → (is_status unit ≡ true → s ≡ served → ⊥) → At link s t
    → Went (set_hears unit t) entries t' → HearsTo link unit s entries t'
set_goes unit link s t t' entries no_status at went =
    go (if_went t.up (ask (Event.Heard t.link unit) (λ answer. reported answer (head_of unit).bsn t)) (done t) entries t' went)
  where
    other : s ≡ served → (b : Bool) → is_status unit ≡ b → is_status unit ≡ false
    other is true e = absurd (no_status e is)
    other is false e = e

    go : ((t.up ≡ true) × Went (ask (Event.Heard t.link unit) (λ answer. reported answer (head_of unit).bsn t)) entries t')
        ⊎ ((t.up ≡ false) × Went (done t) entries t') → HearsTo link unit s entries t'
    go (inl up) =
        let is : s ≡ served = sym at.stands ∙ at.serves up.0 in
        let a = ask_is (Event.Heard t.link unit) (λ answer. reported answer (head_of unit).bsn t) entries t' up.1 in
        let f = reported_goes link (head_of unit).bsn t t' a.later (subst (λ (x : Standing). At link x t) is at) a.entry.answer a.went in
        record {
          to = f.to;
          at = f.at;
          hears = is_heard is (other is (is_status unit) refl) (record {
            entry = a.entry;
            later = a.later;
            entries_are = a.entries_are;
            asked = a.event_is ∙ ap (λ (l : ℕ). Event.Heard l unit) at.link_is;
            falls = f.falls;
          });
        }
    go (inr flat) =
        let d = done_is t t' entries flat.1 in
        record { to = s; at = subst (λ (v : Terminal). At link s v) (sym d.1) at; hears = passes (not_up link s t at flat.0) refl d.0 }

-- an end without an outage
pub reaches_goes : (unit : SignalUnit) (link : ℕ) (s : Standing) (t t' : Terminal) (entries : List Entry) → (is_status unit ≡ true → s ≡ served → ⊥) → At link s t
    → Went (reaches_set unit t) entries t' → HearsTo link unit s entries t'
reaches_goes unit link s t t' entries no_status at went =
    set_goes unit link s t t' entries no_status at (subst (λ (b : Bool). Went (if b then done t else set_hears unit t) entries t') at.outage went)

pub not_held : (link : ℕ) (s : Standing) (t : Terminal) → At link s t → is_held t ≡ false
not_held link s t at = rw (at.outage, at.paused) refl

pub record UnitTo (link : ℕ) (unit : SignalUnit) (s : Standing) (entries : List Entry) (t : Terminal) : Type 0 where
  pub to : Standing
  pub at : At link to t
  pub hears : HearsUnit link unit s to entries

-- nothing waits, where there is no outage
pub waits_done : (link : ℕ) (s : Standing) (t t' : Terminal) (entries : List Entry) (was is : Bool) → was ≡ false → is ≡ false → At link s t
    → Went (waits was is t) entries t' → (entries ≡ []) × At link s t'
waits_done link s t t' entries false false e f at went =
    let d = done_is t t' entries went in (d.0, subst (λ (v : Terminal). At link s v) (sym d.1) at)
waits_done link s t t' entries true is e f at went = true_false e
waits_done link s t t' entries false true e f at went = true_false f

pub unit_goes : (unit : SignalUnit) → IsPlainUnit unit → (link : ℕ) (s0 s : Standing) (t t' : Terminal) (before entries : List Entry) → Falls link s0 s before → At link s t
    → Went (heard (Some unit) t) entries t' → UnitTo link unit s0 (before ++ entries) t'
unit_goes unit plain link s0 s t t' before entries fell at went =
    let p = splits (all_hear unit t) (λ after. waits (is_held t) (is_held after) after) entries t' went in
    let q = splits (align_in AlignIn.Good t) (λ u. and_then (machines_hear unit u) (λ v. reaches_set unit v)) p.first p.mid p.went_first in
    let f = align_falls AlignIn.Good refl link s t q.mid q.first at q.went_first in
    let r = splits (machines_hear unit q.mid) (λ v. reaches_set unit v) q.second p.mid q.went_second in
    let m = machines_goes unit plain link f.to q.mid r.mid r.first f.at r.went_first in
    let h = reaches_goes unit link m.to r.mid p.mid r.second m.status m.at r.went_second in
    let w = waits_done link h.to p.mid t' p.second (is_held t) (is_held p.mid) (not_held link s t at) (not_held link h.to p.mid h.at) h.at p.went_second in
    let first = before ++ (q.first ++ m.first) in
    let same : entries ≡ q.first ++ (m.first ++ (m.second ++ r.second)) =
    p.entries_are ∙ ap (λ (es : List Entry). p.first ++ es) w.0 ∙ append-nil p.first ∙ q.entries_are
    ∙ ap (λ (es : List Entry). q.first ++ es) (r.entries_are ∙ ap (λ (es : List Entry). es ++ r.second) m.entries_are ∙ append_assoc m.first m.second r.second) in
    record {
      to = h.to;
      at = w.1;
      hears = record {
        judged = m.judged;
        risen = m.to;
        first = first;
        second = m.second;
        third = r.second;
        entries_are = ap (λ (es : List Entry). before ++ es) (same ∙ sym (append_assoc q.first m.first (m.second ++ r.second)))
            ∙ sym (append_assoc before (q.first ++ m.first) (m.second ++ r.second));
        falls = falls_then link s0 s m.judged before (q.first ++ m.first) fell (falls_then link s f.to m.judged q.first m.first f.falls m.falls);
        rises = m.rises;
        hears = h.hears;
      };
    }

pub record OneTo (link : ℕ) (unit : Option SignalUnit) (s : Standing) (entries : List Entry) (t : Terminal) : Type 0 where
  pub to : Standing
  pub at : At link to t
  pub hears : HearsOne link unit s to entries

pub one_goes : (unit : Option SignalUnit) → IsPlainOne unit → (link : ℕ) (s0 s : Standing) (t t' : Terminal) (before entries : List Entry) → Falls link s0 s before → At link s t
    → Went (heard unit t) entries t' → OneTo link unit s0 (before ++ entries) t'
one_goes None plain link s0 s t t' before entries fell at went =
    let d = done_is t t' entries went in
    record {
      to = s;
      at = subst (λ (v : Terminal). At link s v) (sym d.1) at;
      hears = falls_then link s0 s s before entries fell (stays refl d.0);
    }
one_goes (Some unit) plain link s0 s t t' before entries fell at went =
    let u = unit_goes unit plain link s0 s t t' before entries fell at went in record { to = u.to; at = u.at; hears = u.hears }

pub record MarksTo (link : ℕ) (marks : List Mark) (s : Standing) (entries : List Entry) (t : Terminal) : Type 0 where
  pub to : Standing
  pub at : At link to t
  pub hears : HearsAll link marks s to entries

pub marks_goes : (marks : List Mark) → ArePlain marks → (link : ℕ) (s : Standing) (t t' : Terminal) (entries : List Entry) → At link s t
    → Went (all_marked marks t) entries t' → MarksTo link marks s entries t'
marks_goes [] plain link s t t' entries at went =
    let d = done_is t t' entries went in record { to = s; at = subst (λ (v : Terminal). At link s v) (sym d.1) at; hears = (refl, d.0) }
marks_goes (mark ∷ marks) plain link s t t' entries at went =
    let p = splits (marked mark t) (λ u. all_marked marks u) entries t' went in
    let q = splits (judged (is_error (unit_in mark)) t) (λ u. heard (unit_in mark) u) p.first p.mid p.went_first in
    let f = judged_falls (is_error (unit_in mark)) link s t q.mid q.first at q.went_first in
    let one = one_goes (unit_in mark) plain.0 link s f.to q.mid p.mid q.first q.second f.falls f.at q.went_second in
    let all = marks_goes marks plain.1 link one.to p.mid t' p.second one.at p.went_second in
    record {
      to = all.to;
      at = all.at;
      hears = (
        one.to,
        p.first,
        p.second,
        p.entries_are,
        subst (λ (es : List Entry). HearsOne link (unit_in mark) s one.to es) (sym q.entries_are) one.hears,
        all.hears,
      );
    }
