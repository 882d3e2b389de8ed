-- LINKS THAT STAY OR FALL: each input of the machines leaves a link where it stands or lets it fall (`state_falls`,
-- `align_falls`, `flow_falls`), but Start where it's out of service, the end of T4 where it's aligning, and a FISU or
-- an MSU where it's ready; by the tables, input by input. Used by Hearing.antt and Asking.antt.
use Rattle.std.proofs.Common.{refl, sym, subst, ap, ◌≡◌, ◌∙◌, ◌+◌, ◌⊎◌, inl, inr, ℕ, nat_lt, Bool, true, false, not, List, [], ◌∷◌, ◌++◌, Option, Some, None, if◌then◌else◌}
use Rattle.l2_units.specs.declared.cause.Cause.{Cause}
use Rattle.l2_units.specs.declared.status.Status.{Status}
use Rattle.l2_align.specs.Alignment.{Alignment}
use Rattle.l2_align.specs.declared.align.State.{State as AlignState}
use Rattle.l2_align.specs.declared.signals.AlignIn.{AlignIn}
use Rattle.l2_align.specs.declared.signals.Outcome.{Outcome}
use Rattle.l2_align.specs.Table.{Row as AlignRow, row as align_row, table, calmed, silent as keeps_still, proving, aborted, counted_abort, idle, stop_t4, when_idle, when_not_aligned, when_aligned, when_proving, heard_not_aligned, heard_aligned, heard_proving}
use Rattle.l2_state.specs.declared.link_state.State.{State as LinkPhase}
use Rattle.l2_state.specs.declared.signals.StateIn.{StateIn}
use Rattle.l2_state.specs.declared.signals.Switch.{Switch}
use Rattle.l2_state.specs.declared.signals.Indication.{Indication}
use Rattle.l2_state.specs.Table.{Row as StateRow, is_paused, outage_after, row as state_row}
use Rattle.l2_flow.specs.declared.input.FlowIn.{FlowIn}
use Rattle.l2_flow.specs.Table.{row_of as flow_row}
use Rattle.set_events.specs.declared.answer.Answer.{Answer}
use Rattle.set_events.specs.declared.event.Event.{Event}
use Rattle.set_events.specs.declared.history.Entry.{Entry}
use Rattle.term_model.specs.Machines.{aligns, ordered, suerm_after, switched, after_state, controls, fallen, asks_down, tells as told_by, state_in, ends, align_in, fails, flow_in, fallen_if, stops_quietly}
use Rattle.term_model.specs.Talk.{Talk, done, ask, and_then, Went}
use Rattle.term_model.specs.Terminal.{Terminal, no_commands}
use Rattle.term_model.proofs.Talks.{splits}
use Rattle.term_asks.specs.Asking.{Standing, out, aligning, ready, served, standing_in, standing_of, Falls, stays, drops, tells, IsPlainAnswer, AnswersPlainly}
use Rattle.term_asks.proofs.Calm.{Any, is_outage_in, never_out}
use Rattle.term_asks.proofs.Talking.{KeepsBy}

-- TALKS.
pub done_is : {A : Type 0} (a b : A) (entries : List Entry) → Went (done a) entries b → (entries ≡ []) × (b ≡ a)
done_is a b [] went = (refl, went)
done_is a b (entry ∷ entries) went = absurd went

pub record Asked {A : Type 0} (event : Event) (more : Answer → Talk A) (entries : List Entry) (a : A) : Type 0 where
  pub entry : Entry
  pub later : List Entry
  pub entries_are : entries ≡ entry ∷ later
  pub event_is : entry.event ≡ event
  pub went : Went (more entry.answer) later a

pub ask_is : {A : Type 0} (event : Event) (more : Answer → Talk A) (entries : List Entry) (a : A) → Went (ask event more) entries a → Asked event more entries a
ask_is event more [] a went = absurd went
ask_is event more (entry ∷ later) a went = record { entry = entry; later = later; entries_are = refl; event_is = went.0; went = went.1 }

pub if_went : {A : Type 0} (b : Bool) (x y : Talk A) (entries : List Entry) (a : A) → Went (if b then x else y) entries a
    → ((b ≡ true) × Went x entries a) ⊎ ((b ≡ false) × Went y entries a)
if_went true x y entries a went = inl (refl, went)
if_went false x y entries a went = inr (refl, went)

pub true_false : {X : Type 0} → true ≡ false → X
true_false e = absurd cc

-- what a talk keeps, kept where the answers are plain
pub kept_by : {A : Type 0} (so : A → Type 0) (talk : Talk A) (entries : List Entry) (a : A) → KeepsBy Any IsPlainAnswer so talk → AnswersPlainly entries
    → Went talk entries a → so a
kept_by so (done b) [] a kept plain went = subst so (sym went) kept
kept_by so (done b) (entry ∷ entries) a kept plain went = absurd went
kept_by so (ask event more) [] a kept plain went = absurd went
kept_by so (ask event more) (entry ∷ entries) a kept plain went = kept_by so (more entry.answer) entries a (kept.1 entry.answer plain.0) plain.1 went.1

pub plain_parts : (xs ys : List Entry) → AnswersPlainly (xs ++ ys) → AnswersPlainly xs × AnswersPlainly ys
plain_parts [] ys plain = (tt, plain)
plain_parts (x ∷ xs) ys plain = let rest = plain_parts xs ys plain.1 in ((plain.0, rest.0), rest.1)

-- FALLS, one after another.
pub out_served : {X : Type 0} (s : Standing) → s ≡ out → s ≡ served → X
out_served s a b = let no : out ≡ served = sym a ∙ b in absurd cc

pub nothing_then : (xs ys : List Entry) → xs ≡ [] → xs ++ ys ≡ ys
nothing_then xs ys none = ap (λ (es : List Entry). es ++ ys) none

pub falls_then : (link : ℕ) (s mid last : Standing) (xs ys : List Entry) → Falls link s mid xs → Falls link mid last ys → Falls link s last (xs ++ ys)
falls_then link s mid last xs ys (stays same none) f =
    subst (λ (es : List Entry). Falls link s last es) (sym (nothing_then xs ys none)) (subst (λ (m : Standing). Falls link m last ys) same f)
falls_then link s mid last xs ys (drops not_served is_out none) (stays same none2) = drops not_served (same ∙ is_out) (nothing_then xs ys none ∙ none2)
falls_then link s mid last xs ys (drops not_served is_out none) (drops not_served2 is_out2 none2) = drops not_served is_out2 (nothing_then xs ys none ∙ none2)
falls_then link s mid last xs ys (drops not_served is_out none) (tells entry is_served is_out2 one event) = out_served mid is_out is_served
falls_then link s mid last xs ys (tells entry is_served is_out one event) (stays same none2) =
    tells entry is_served (same ∙ is_out) (ap (λ (es : List Entry). es ++ ys) one ∙ ap (λ (es : List Entry). entry ∷ es) none2) event
falls_then link s mid last xs ys (tells entry is_served is_out one event) (drops not_served2 is_out2 none2) =
    tells entry is_served is_out2 (ap (λ (es : List Entry). es ++ ys) one ∙ ap (λ (es : List Entry). entry ∷ es) none2) event
falls_then link s mid last xs ys (tells entry is_served is_out one event) (tells entry2 is_served2 is_out2 one2 event2) = out_served mid is_out is_served2

-- WHERE A TERMINAL STANDS.
pub record At (link : ℕ) (s : Standing) (t : Terminal) : Type 0 where
  pub link_is : t.link ≡ link
  pub stands : standing_of t ≡ s
  pub serves : t.up ≡ true → standing_of t ≡ served
  pub paused : is_paused t.state ≡ false
  pub blind : t.blind ≡ false
  pub quiet : t.commands ≡ no_commands
  pub outage : t.outage ≡ false

pub never_served : (phase : LinkPhase) → standing_in phase false ≡ served → ⊥
never_served LinkPhase.OutOfService e = absurd cc
never_served LinkPhase.Aligning e = absurd cc
never_served LinkPhase.Ready e = absurd cc
never_served (LinkPhase.InService paused) e = absurd cc

pub not_up : (link : ℕ) (s : Standing) (t : Terminal) → At link s t → t.up ≡ false → s ≡ served → ⊥
not_up link s t at down is = never_served t.state (subst (λ (b : Bool). standing_in t.state b ≡ served) down (at.stands ∙ is))

-- the same place, by state and up alone
pub at_same : (link : ℕ) (s : Standing) (t u : Terminal) → At link s t → u.link ≡ t.link → u.state ≡ t.state → u.up ≡ t.up → u.blind ≡ t.blind → u.commands ≡ t.commands
    → u.outage ≡ false → At link s u
at_same link s t u at link_is state up blind commands outage =
    let same : standing_of u ≡ standing_of t = ap (λ (p : LinkPhase). standing_in p u.up) state ∙ ap (λ (b : Bool). standing_in t.state b) up in
    record {
      link_is = link_is ∙ at.link_is;
      stands = same ∙ at.stands;
      serves = λ is. same ∙ at.serves (sym up ∙ is);
      paused = ap is_paused state ∙ at.paused;
      blind = blind ∙ at.blind;
      quiet = commands ∙ at.quiet;
      outage = outage;
    }

pub at_out : (link : ℕ) (t u : Terminal) → u.link ≡ link → u.state ≡ LinkPhase.OutOfService → u.up ≡ false → u.blind ≡ false
    → u.commands ≡ no_commands → u.outage ≡ false → At link out u
at_out link t u link_is state up blind quiet outage = record {
  link_is = link_is;
  stands = ap (λ (p : LinkPhase). standing_in p u.up) state;
  serves = λ is. true_false (sym is ∙ up);
  paused = ap is_paused state;
  blind = blind;
  quiet = quiet;
  outage = outage;
}

pub record FallsTo (link : ℕ) (s : Standing) (entries : List Entry) (t : Terminal) : Type 0 where
  pub to : Standing
  pub at : At link to t
  pub falls : Falls link s to entries

pub falls_still : (link : ℕ) (s : Standing) (entries : List Entry) (t : Terminal) → At link s t → entries ≡ [] → FallsTo link s entries t
falls_still link s entries t at none = record { to = s; at = at; falls = stays refl none }

pub falls_done : (link : ℕ) (s : Standing) (t t' : Terminal) (entries : List Entry) → At link s t → Went (done t) entries t' → FallsTo link s entries t'
falls_done link s t t' entries at went =
    let d = done_is t t' entries went in falls_still link s entries t' (subst (λ (u : Terminal). At link s u) (sym d.1) at) d.0

pub falls_both : (link : ℕ) (s : Standing) (xs ys : List Entry) (t u : Terminal) (f : FallsTo link s xs t) → FallsTo link f.to ys u → FallsTo link s (xs ++ ys) u
falls_both link s xs ys t u f g = record { to = g.to; at = g.at; falls = falls_then link s f.to g.to xs ys f.falls g.falls }

abbrev pub FallsBy : (Terminal → Talk Terminal) → Type 0
FallsBy f = (link : ℕ) (s : Standing) (t t' : Terminal) (entries : List Entry) → At link s t → Went (f t) entries t' → FallsTo link s entries t'

-- one talk after another
pub falls_next : (link : ℕ) (s : Standing) (t t' : Terminal) (entries : List Entry) (talk : Talk Terminal) (next : Terminal → Talk Terminal)
    → ((mid : Terminal) (es : List Entry) → Went talk es mid → FallsTo link s es mid) → FallsBy next → Went (and_then talk next) entries t'
    → FallsTo link s entries t'
falls_next link s t t' entries talk next first second went =
    let p = splits talk next entries t' went in
    let f = first p.mid p.first p.went_first in
    subst (λ (es : List Entry). FallsTo link s es t') (sym p.entries_are)
    (falls_both link s p.first p.second p.mid t' f (second link f.to p.mid t' p.second f.at p.went_second))

-- LINK STATE CONTROL.
pub data RowFalls (phase : LinkPhase) (row : StateRow) : Type 0 where
  row_stays : row.next ≡ phase → row.out.indication ≡ None → RowFalls phase row
  row_falls : (cause : Cause) → row.next ≡ LinkPhase.OutOfService → row.out.indication ≡ Some (Indication.Down cause) → RowFalls phase row

abbrev pub is_low_status : Status → Bool
is_low_status Status.ProcessorOutage = false
is_low_status _ = true

abbrev pub is_low : StateIn → Bool
is_low StateIn.Start = false
is_low StateIn.Complete = false
is_low StateIn.Fisu = false
is_low StateIn.Msu = false
is_low StateIn.Outage = false
is_low (StateIn.Heard status) = is_low_status status
is_low _ = true

pub low_row : (phase : LinkPhase) (input : StateIn) → is_low input ≡ true → RowFalls phase (state_row phase input)
low_row phase StateIn.Start low = absurd cc
low_row phase StateIn.Complete low = absurd cc
low_row phase StateIn.Fisu low = absurd cc
low_row phase StateIn.Msu low = absurd cc
low_row phase StateIn.Outage low = absurd cc
low_row LinkPhase.OutOfService StateIn.Recover low = row_stays refl refl
low_row LinkPhase.Aligning StateIn.Recover low = row_stays refl refl
low_row LinkPhase.Ready StateIn.Recover low = row_stays refl refl
low_row (LinkPhase.InService paused) StateIn.Recover low = row_stays refl refl
low_row LinkPhase.OutOfService StateIn.Stop low = row_stays refl refl
low_row LinkPhase.OutOfService StateIn.NotPossible low = row_stays refl refl
low_row LinkPhase.OutOfService (StateIn.Heard status) low = row_stays refl refl
low_row LinkPhase.OutOfService StateIn.T1 low = row_stays refl refl
low_row LinkPhase.OutOfService (StateIn.Failure cause) low = row_stays refl refl
low_row LinkPhase.Aligning StateIn.Stop low = row_falls Cause.Stop refl refl
low_row LinkPhase.Aligning StateIn.NotPossible low = row_falls Cause.NotPossible refl refl
low_row LinkPhase.Aligning (StateIn.Heard status) low = row_stays refl refl
low_row LinkPhase.Aligning StateIn.T1 low = row_stays refl refl
low_row LinkPhase.Aligning (StateIn.Failure cause) low = row_stays refl refl
low_row LinkPhase.Ready StateIn.Stop low = row_falls Cause.Stop refl refl
low_row LinkPhase.Ready StateIn.NotPossible low = row_stays refl refl
low_row LinkPhase.Ready (StateIn.Heard Status.OutOfAlignment) low = row_falls Cause.Status refl refl
low_row LinkPhase.Ready (StateIn.Heard Status.Normal) low = row_stays refl refl
low_row LinkPhase.Ready (StateIn.Heard Status.Emergency) low = row_stays refl refl
low_row LinkPhase.Ready (StateIn.Heard Status.OutOfService) low = row_falls Cause.Status refl refl
low_row LinkPhase.Ready (StateIn.Heard Status.ProcessorOutage) low = absurd cc
low_row LinkPhase.Ready (StateIn.Heard Status.Busy) low = row_stays refl refl
low_row LinkPhase.Ready (StateIn.Heard Status.Unassigned6) low = row_stays refl refl
low_row LinkPhase.Ready (StateIn.Heard Status.Unassigned7) low = row_stays refl refl
low_row LinkPhase.Ready StateIn.T1 low = row_falls Cause.T1 refl refl
low_row LinkPhase.Ready (StateIn.Failure cause) low = row_falls cause refl refl
low_row (LinkPhase.InService paused) StateIn.Stop low = row_falls Cause.Stop refl refl
low_row (LinkPhase.InService paused) StateIn.NotPossible low = row_stays refl refl
low_row (LinkPhase.InService paused) (StateIn.Heard Status.OutOfAlignment) low = row_falls Cause.Status refl refl
low_row (LinkPhase.InService paused) (StateIn.Heard Status.Normal) low = row_falls Cause.Status refl refl
low_row (LinkPhase.InService paused) (StateIn.Heard Status.Emergency) low = row_falls Cause.Status refl refl
low_row (LinkPhase.InService paused) (StateIn.Heard Status.OutOfService) low = row_falls Cause.Status refl refl
low_row (LinkPhase.InService paused) (StateIn.Heard Status.ProcessorOutage) low = absurd cc
low_row (LinkPhase.InService paused) (StateIn.Heard Status.Busy) low = row_stays refl refl
low_row (LinkPhase.InService paused) (StateIn.Heard Status.Unassigned6) low = row_stays refl refl
low_row (LinkPhase.InService paused) (StateIn.Heard Status.Unassigned7) low = row_stays refl refl
low_row (LinkPhase.InService paused) StateIn.T1 low = row_stays refl refl
low_row (LinkPhase.InService paused) (StateIn.Failure cause) low = row_falls cause refl refl

pub low_no_outage : (input : StateIn) → is_low input ≡ true → is_outage_in input ≡ false
low_no_outage StateIn.Outage low = absurd cc
low_no_outage _ low = refl

-- but for alignment a row sets the state alone, and begins no outage
pub record Sets (t u : Terminal) (phase : LinkPhase) : Type 0 where
  pub link : u.link ≡ t.link
  pub state : u.state ≡ phase
  pub up : u.up ≡ t.up
  pub blind : u.blind ≡ t.blind
  pub commands : u.commands ≡ t.commands
  pub outage : t.outage ≡ false → u.outage ≡ false

pub switched_sets : (t : Terminal) (switch : Option Switch) → Sets t (switched switch t) t.state
switched_sets t None = record { link = refl; state = refl; up = refl; blind = refl; commands = refl; outage = λ e. e }
switched_sets t (Some Switch.Start) = record { link = refl; state = refl; up = refl; blind = refl; commands = refl; outage = λ e. e }
switched_sets t (Some Switch.Stop) = record { link = refl; state = refl; up = refl; blind = refl; commands = refl; outage = λ e. e }

pub after_sets : (t : Terminal) (input : StateIn) → is_outage_in input ≡ false → Sets t (after_state input t) (state_row t.state input).next
after_sets t input not =
    let row = state_row t.state input in
    let x = switched_sets (record t {
      state = row.next;
      outage = outage_after row.outage t.outage;
      suerm = suerm_after row.out.new_suerm t.suerm;
      clocks = record t.clocks { t1 = ordered row.out.t1 t.lengths.t1 t.clocks.t1 };
    }) row.out.alignment in
    record { link = x.link; state = x.state; up = x.up; blind = x.blind; commands = x.commands; outage = never_out t input not }

-- it falls for this cause
abbrev pub FallsOut : ℕ → Standing → List Entry → Terminal → Type 0
FallsOut link s entries t' = (f : FallsTo link s entries t') × (f.to ≡ out)

pub told_falls : (link : ℕ) (s : Standing) (t u t' : Terminal) (cause : Cause) (entries : List Entry) → At link s t → Sets t u LinkPhase.OutOfService
    → Went (told_by (Some (Indication.Down cause)) u) entries t' → FallsOut link s entries t'
told_falls link s t u t' cause entries at set went = go (if_went u.up (asks_down cause u) (done (fallen cause u)) entries t' went)
  where
    down : At link out (fallen cause u)
    down = at_out link t (fallen cause u) (set.link ∙ at.link_is) set.state refl (set.blind ∙ at.blind) (set.commands ∙ at.quiet) (set.outage at.outage)

    go : ((u.up ≡ true) × Went (asks_down cause u) entries t') ⊎ ((u.up ≡ false) × Went (done (fallen cause u)) entries t') → FallsOut link s entries t'
    go (inl up) =
        let a = ask_is (if u.blind then Event.DownBlind u.link else Event.Down u.link) (λ answer. done (fallen cause u)) entries t' up.1 in
        let d = done_is (fallen cause u) t' a.later a.went in
        let event : a.entry.event ≡ Event.Down link =
        a.event_is ∙ ap (λ (b : Bool). if b then Event.DownBlind u.link else Event.Down u.link) (set.blind ∙ at.blind) ∙ ap Event.Down (set.link ∙ at.link_is) in (
          record {
            to = out;
            at = subst (λ (v : Terminal). At link out v) (sym d.1) down;
            falls = tells a.entry (sym at.stands ∙ at.serves (sym set.up ∙ up.0)) refl (a.entries_are ∙ ap (λ (es : List Entry). a.entry ∷ es) d.0) event;
          },
          refl,
        )
    go (inr flat) =
        let d = done_is (fallen cause u) t' entries flat.1 in (
          record {
            to = out;
            at = subst (λ (v : Terminal). At link out v) (sym d.1) down;
            falls = drops (not_up link s t at (sym set.up ∙ flat.0)) refl d.0;
          },
          refl,
        )

pub state_falls : (input : StateIn) → is_low input ≡ true → FallsBy (state_in input)
state_falls input low link s t t' entries at went = go (low_row t.state input low)
  where
    u : Terminal
    u = after_state input t

    go : RowFalls t.state (state_row t.state input) → FallsTo link s entries t'
    go (row_stays next none) =
        let set = after_sets t input (low_no_outage input low) in
        falls_done link s u t' entries (at_same link s t u at set.link (set.state ∙ next) set.up set.blind set.commands (set.outage at.outage))
        (subst (λ (o : Option Indication). Went (told_by o u) entries t') none went)
    go (row_falls cause next told) =
        let set = after_sets t input (low_no_outage input low) in
        (told_falls link s t u t' cause entries at (record { link = set.link; state = set.state ∙ next; up = set.up; blind = set.blind; commands = set.commands; outage = set.outage })
        (subst (λ (o : Option Indication). Went (told_by o u) entries t') told went)).0

-- INITIAL ALIGNMENT ends with T4 alone, if it's complete then.
abbrev pub is_complete : Option Outcome → Bool
is_complete (Some Outcome.Complete) = true
is_complete _ = false

abbrev pub is_t4 : AlignIn → Bool
is_t4 AlignIn.T4 = true
is_t4 _ = false

abbrev pub IsOpen : AlignRow → Type 0
IsOpen row = is_complete row.out.outcome ≡ false

pub if_open : (b : Bool) (x y : AlignRow) → IsOpen x → IsOpen y → IsOpen (if b then x else y)
if_open true x y p q = p
if_open false x y p q = q

module _ (a : Alignment) where
  idle_open : (input : AlignIn) → IsOpen (when_idle input a)
  idle_open AlignIn.Emergency = refl
  idle_open AlignIn.Start = refl
  idle_open _ = refl

  not_aligned_open : (input : AlignIn) → IsOpen (when_not_aligned input a)
  not_aligned_open AlignIn.Emergency = refl
  not_aligned_open (AlignIn.Heard status) = by status
    where
      by : (status : Status) → IsOpen (heard_not_aligned status a)
      by Status.OutOfAlignment = refl
      by Status.Normal = refl
      by Status.Emergency = refl
      by _ = refl
  not_aligned_open AlignIn.T2 = refl
  not_aligned_open AlignIn.Stop = refl
  not_aligned_open _ = refl

  calmed_open : (local short : Bool) → IsOpen (calmed short (record a { local = local }))
  calmed_open true short = refl
  calmed_open false short = refl

  aligned_open : (input : AlignIn) → IsOpen (when_aligned input a)
  aligned_open AlignIn.Emergency = refl
  aligned_open AlignIn.Calm = calmed_open a.local false
  aligned_open (AlignIn.Heard status) = by status
    where
      by : (status : Status) → IsOpen (heard_aligned status a)
      by Status.Normal = refl
      by Status.Emergency = refl
      by Status.OutOfService = refl
      by _ = refl
  aligned_open AlignIn.T3 = refl
  aligned_open AlignIn.Stop = refl
  aligned_open _ = refl

  proving_open : (input : AlignIn) → is_t4 input ≡ false → IsOpen (when_proving input a)
  proving_open AlignIn.Emergency other = if_open a.short (keeps_still (record a { local = true })) (proving (record a { local = true; short = true })) refl refl
  proving_open AlignIn.Calm other = calmed_open a.local a.short
  proving_open (AlignIn.Heard status) other = by status
    where
      by : (status : Status) → IsOpen (heard_proving status a)
      by Status.Emergency = if_open a.short (keeps_still a) (proving (record a { short = true })) refl refl
      by Status.OutOfAlignment = refl
      by Status.OutOfService = refl
      by _ = refl
  proving_open AlignIn.Abort other =
      if_open a.pending (keeps_still a) (aborted a) refl (if_open (nat_lt (a.aborts + 1) 5) (counted_abort a) (idle stop_t4 (Some Outcome.NotPossible)) refl refl)
  proving_open AlignIn.Good other = if_open a.pending (proving a) (keeps_still a) refl refl
  proving_open AlignIn.T4 other = absurd cc
  proving_open AlignIn.Stop other = refl
  proving_open _ other = refl

  align_open : (s : AlignState) (input : AlignIn) → is_t4 input ≡ false → IsOpen (table s input a)
  align_open AlignState.Idle input other = idle_open input
  align_open AlignState.NotAligned input other = not_aligned_open input
  align_open AlignState.Aligned input other = aligned_open input
  align_open AlignState.Proving input other = proving_open input other

  -- a command leaves it open in any case
  pub emergency_none : (s : AlignState) → (table s AlignIn.Emergency a).out.outcome ≡ None
  emergency_none AlignState.Idle = refl
  emergency_none AlignState.NotAligned = refl
  emergency_none AlignState.Aligned = refl
  emergency_none AlignState.Proving = by a.short
    where
      by : (b : Bool) → (if b then keeps_still (record a { local = true }) else proving (record a { local = true; short = true })).out.outcome ≡ None
      by true = refl
      by false = refl

  pub calm_none : (s : AlignState) → (table s AlignIn.Calm a).out.outcome ≡ None
  calm_none AlignState.Idle = refl
  calm_none AlignState.NotAligned = refl
  calm_none AlignState.Aligned = by a.local
    where
      by : (b : Bool) → (calmed false (record a { local = b })).out.outcome ≡ None
      by true = refl
      by false = refl
  calm_none AlignState.Proving = by a.local
    where
      by : (b : Bool) → (calmed a.short (record a { local = b })).out.outcome ≡ None
      by true = refl
      by false = refl

pub at_aligns : (link : ℕ) (s : Standing) (t : Terminal) (input : AlignIn) → At link s t → At link s (aligns input t)
at_aligns link s t input at = at_same link s t (aligns input t) at refl refl refl refl refl at.outage

pub ends_falls : (outcome : Option Outcome) → is_complete outcome ≡ false → FallsBy (ends outcome)
ends_falls None not link s t t' entries at went = falls_done link s t t' entries at went
ends_falls (Some Outcome.Complete) not link s t t' entries at went = absurd cc
ends_falls (Some Outcome.NotPossible) not link s t t' entries at went = state_falls StateIn.NotPossible refl link s t t' entries at went

pub align_falls : (input : AlignIn) → is_t4 input ≡ false → FallsBy (align_in input)
align_falls input other link s t t' entries at went =
    ends_falls (align_row t.align input).out.outcome (align_open t.align t.align.state input other) link s (aligns input t) t' entries (at_aligns link s t input at) went

-- FLOW CONTROL.
pub fails_falls : (failure : Option Cause) → FallsBy (fails failure)
fails_falls None link s t t' entries at went = falls_done link s t t' entries at went
fails_falls (Some cause) link s t t' entries at went = state_falls (StateIn.Failure cause) refl link s t t' entries at went

pub flow_falls : (input : FlowIn) → FallsBy (flow_in input)
flow_falls input link s t t' entries at went =
    fails_falls (flow_row t.flow input).out.failure link s (controls input t) t' entries (at_same link s t (controls input t) at refl refl refl refl refl at.outage) went

-- one that is up is stopped quietly
pub quiet_out : (link : ℕ) (s : Standing) (t : Terminal) → At link s t → s ≡ served → At link out (stops_quietly t)
quiet_out link s t at is = go t.state refl
  where
    u : Terminal
    u = after_state StateIn.Stop t

    go : (phase : LinkPhase) → t.state ≡ phase → At link out (stops_quietly t)
    go (LinkPhase.InService paused) e =
        let set = after_sets t StateIn.Stop refl in
        let told : (state_row t.state StateIn.Stop).out.indication ≡ Some (Indication.Down Cause.Stop) = rw e refl in
        let next : (state_row t.state StateIn.Stop).next ≡ LinkPhase.OutOfService = rw e refl in
        subst (λ (o : Option Indication). At link out (fallen_if o u)) (sym told)
        (at_out link t (fallen Cause.Stop u) (set.link ∙ at.link_is) (set.state ∙ next) refl (set.blind ∙ at.blind) (set.commands ∙ at.quiet) (set.outage at.outage))
    go LinkPhase.OutOfService e = let no : out ≡ served = ap (λ (p : LinkPhase). standing_in p t.up) (sym e) ∙ at.stands ∙ is in absurd cc
    go LinkPhase.Aligning e = let no : aligning ≡ served = ap (λ (p : LinkPhase). standing_in p t.up) (sym e) ∙ at.stands ∙ is in absurd cc
    go LinkPhase.Ready e = let no : ready ≡ served = ap (λ (p : LinkPhase). standing_in p t.up) (sym e) ∙ at.stands ∙ is in absurd cc
