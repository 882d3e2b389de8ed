-- WHAT A TURN ASKS (`turns_ask`): step 4, in which a proving period may end (`timed_goes`), step 5, in which a unit is
-- chosen (`filled_goes`), and all together. Calm.antt has that no B is due.
use Rattle.std.proofs.Common.{refl, sym, subst, ap, ◌≡◌, ◌∙◌, ◌⊎◌, inl, inr, ℕ, nat_lt, length, Bool, true, false, List, [], ◌∷◌, ◌++◌, Option, Some, None, append-nil, if◌then◌else◌}
use Rattle.l2_units.specs.declared.status.Status.{Status}
use Rattle.l2_units.specs.declared.unit.Unit.{Unit as SignalUnit}
use Rattle.l2_units.specs.Grammar.{head_of}
use Rattle.l2_bits.specs.declared.marks.Mark.{Mark}
use Rattle.l2_align.specs.declared.align.State.{State as AlignState}
use Rattle.l2_align.specs.declared.signals.AlignIn.{AlignIn}
use Rattle.l2_align.specs.declared.signals.Outcome.{Outcome}
use Rattle.l2_align.specs.Table.{row as align_row}
use Rattle.l2_state.specs.declared.link_state.State.{State as LinkPhase}
use Rattle.l2_state.specs.declared.signals.StateIn.{StateIn}
use Rattle.l2_state.specs.declared.signals.Indication.{Indication}
use Rattle.l2_state.specs.Table.{is_paused, row as state_row}
use Rattle.l2_flow.specs.declared.input.FlowIn.{FlowIn}
use Rattle.set_events.specs.declared.answer.Answer.{Answer}
use Rattle.set_events.specs.declared.answer.Refusal.{Refusal}
use Rattle.set_events.specs.declared.event.Event.{Event}
use Rattle.set_events.specs.declared.history.Entry.{Entry}
use Rattle.term_model.specs.Choosing.{Filled, raised_top, sends, sends_status, sends_fisu, sends_start_fisu, counts_sent, given, held_back, is_narrow, sent_by, serves, unless_out, up_first, chosen, filled}
use Rattle.term_model.specs.Hearing.{all_marked}
use Rattle.term_model.specs.Machines.{aligns, after_state, risen, asks_up, tells as told_by, state_in, ends, align_in, flow_in, stops_quietly}
use Rattle.term_model.specs.Obeying.{commanded}
use Rattle.term_model.specs.Talk.{Talk, done, ask, and_then, in_turn, Went}
use Rattle.term_model.specs.Terminal.{Terminal, no_commands, last_head, start_head}
use Rattle.term_model.specs.Timing.{lessened, is_over, ends_t1, ends_t2, ends_t3, ends_t4, ends_t5, ends_t6, ends_t7, timed}
use Rattle.term_model.specs.Turn.{turn_talk}
use Rattle.term_model.proofs.Keeping.{went_kept}
use Rattle.term_model.proofs.Talks.{splits}
use Rattle.term_asks.specs.Asking.{Standing, out, aligning, ready, waiting, served, standing_in, standing_of, Falls, stays, drops, tells, Times, goes_on, completes, risen_by, heard_by, IsIdleUnit, IsIdleOne, is_aligned, AsksUp, asks_nothing, asks_again, GivesUnit, Serves, idles, gives, Chooses, has_bits, chooses_one, IsOrdinary, IsCommandedSo, ArePlain, IsPlainAnswer, AnswersPlainly, IsOrdinaryTurn, TurnsAskSo}
use Rattle.term_asks.specs.Plain.{IsPlainUnit}
use Rattle.term_asks.proofs.Calm.{Any, Calm, commanded_calm, marks_calm, timed_calm, counts_calm, risen_calm, turn_calm, Sends}
use Rattle.term_asks.proofs.Falling.{done_is, ask_is, if_went, true_false, kept_by, plain_parts, out_served, nothing_then, falls_then, At, not_up, at_same, FallsTo, falls_done, FallsBy, after_sets, state_falls, at_aligns, align_falls, flow_falls, quiet_out}
use Rattle.term_asks.proofs.Hearing.{in_turn_falls, up_contrary, commanded_goes, ups, marks_goes}
use Rattle.term_asks.proofs.Resting.{RestsAfter, RestsIn, turn_rests}

-- STEP 4.
over_falls : (over : Bool) (f : Terminal → Talk Terminal) → FallsBy f → (link : ℕ) (s : Standing) (t u t' : Terminal) (entries : List Entry) → At link s t → At link s u
    → Went (if over then f u else done t) entries t' → FallsTo link s entries t'
over_falls over f falls link s t u t' entries at there went = go (if_went over (f u) (done t) entries t' went)
  where
    go : ((over ≡ true) × Went (f u) entries t') ⊎ ((over ≡ false) × Went (done t) entries t') → FallsTo link s entries t'
    go (inl is) = falls link s u t' entries there is.1
    go (inr not_is) = falls_done link s t t' entries at not_is.1

t1_falls : FallsBy ends_t1
t1_falls link s t t' entries at went =
    let u : Terminal = record t { clocks = record t.clocks { t1 = None } } in
    over_falls (is_over t.clocks.t1) (state_in StateIn.T1) (state_falls StateIn.T1 refl) link s t u t' entries at (at_same link s t u at refl refl refl refl refl at.outage) went

t2_falls : FallsBy ends_t2
t2_falls link s t t' entries at went =
    let u : Terminal = record t { clocks = record t.clocks { t2 = None } } in
    over_falls (is_over t.clocks.t2) (align_in AlignIn.T2) (align_falls AlignIn.T2 refl) link s t u t' entries at (at_same link s t u at refl refl refl refl refl at.outage) went

t3_falls : FallsBy ends_t3
t3_falls link s t t' entries at went =
    let u : Terminal = record t { clocks = record t.clocks { t3 = None } } in
    over_falls (is_over t.clocks.t3) (align_in AlignIn.T3) (align_falls AlignIn.T3 refl) link s t u t' entries at (at_same link s t u at refl refl refl refl refl at.outage) went

t5_falls : FallsBy ends_t5
t5_falls link s t t' entries at went =
    let u : Terminal = record t { clocks = record t.clocks { t5 = None } } in
    over_falls (is_over t.clocks.t5) (flow_in FlowIn.T5) (flow_falls FlowIn.T5) link s t u t' entries at (at_same link s t u at refl refl refl refl refl at.outage) went

t6_falls : FallsBy ends_t6
t6_falls link s t t' entries at went =
    let u : Terminal = record t { clocks = record t.clocks { t6 = None } } in
    over_falls (is_over t.clocks.t6) (flow_in FlowIn.T6) (flow_falls FlowIn.T6) link s t u t' entries at (at_same link s t u at refl refl refl refl refl at.outage) went

t7_falls : FallsBy ends_t7
t7_falls link s t t' entries at went =
    let u : Terminal = record t { clocks = record t.clocks { t7 = None } } in
    over_falls (is_over t.clocks.t7) (flow_in FlowIn.T7) (flow_falls FlowIn.T7) link s t u t' entries at (at_same link s t u at refl refl refl refl refl at.outage) went

record TimesTo (link : ℕ) (s : Standing) (entries : List Entry) (t : Terminal) : Type 0 where
  pub to : Standing
  pub at : At link to t
  pub times : Times link s to entries

times_of : (link : ℕ) (s : Standing) (entries : List Entry) (t : Terminal) → FallsTo link s entries t → TimesTo link s entries t
times_of link s entries t f = record { to = f.to; at = f.at; times = goes_on f.falls }

complete_goes : (link : ℕ) (s : Standing) (t t' : Terminal) (entries : List Entry) → At link s t → Went (state_in StateIn.Complete t) entries t'
    → TimesTo link s entries t'
complete_goes link s t t' entries at went = go t.state refl
  where
    u : Terminal
    u = after_state StateIn.Complete t

    still : (phase : LinkPhase) → t.state ≡ phase → (state_row phase StateIn.Complete).next ≡ phase → (state_row phase StateIn.Complete).out.indication ≡ None
        → TimesTo link s entries t'
    still phase e next none =
        let set = after_sets t StateIn.Complete refl in
        times_of link s entries t' (falls_done link s u t' entries
        (at_same link s t u at set.link (set.state ∙ ap (λ (p : LinkPhase). (state_row p StateIn.Complete).next) e ∙ next ∙ sym e) set.up set.blind set.commands (set.outage at.outage))
        (subst (λ (o : Option Indication). Went (told_by o u) entries t') (ap (λ (p : LinkPhase). (state_row p StateIn.Complete).out.indication) e ∙ none) went))

    go : (phase : LinkPhase) → t.state ≡ phase → TimesTo link s entries t'
    go LinkPhase.OutOfService e = still LinkPhase.OutOfService e refl refl
    go LinkPhase.Ready e = still LinkPhase.Ready e refl refl
    go (LinkPhase.InService paused) e = still (LinkPhase.InService paused) e refl refl
    go LinkPhase.Aligning e =
        let set = after_sets t StateIn.Complete refl in
        let d = done_is u t' entries (subst (λ (o : Option Indication). Went (told_by o u) entries t')
        (ap (λ (p : LinkPhase). (state_row p StateIn.Complete).out.indication) e) went) in
        let state : u.state ≡ LinkPhase.Ready = set.state ∙ ap (λ (p : LinkPhase). (state_row p StateIn.Complete).next) e in
        let was : s ≡ aligning = sym at.stands ∙ ap (λ (p : LinkPhase). standing_in p t.up) e in
        let there : At link ready u = record {
          link_is = set.link ∙ at.link_is;
          stands = ap (λ (p : LinkPhase). standing_in p u.up) state;
          serves = λ up. up_contrary link s t at (λ (is : s ≡ served). let no : aligning ≡ served = sym was ∙ is in absurd cc) (sym set.up ∙ up);
          paused = ap is_paused state;
          blind = set.blind ∙ at.blind;
          quiet = set.commands ∙ at.quiet;
          outage = set.outage at.outage;
        } in
        record { to = ready; at = subst (λ (v : Terminal). At link ready v) (sym d.1) there; times = completes was refl d.0 }

ends_times : (outcome : Option Outcome) (link : ℕ) (s : Standing) (t t' : Terminal) (entries : List Entry) → At link s t → Went (ends outcome t) entries t'
    → TimesTo link s entries t'
ends_times None link s t t' entries at went = times_of link s entries t' (falls_done link s t t' entries at went)
ends_times (Some Outcome.Complete) link s t t' entries at went = complete_goes link s t t' entries at went
ends_times (Some Outcome.NotPossible) link s t t' entries at went = times_of link s entries t' (state_falls StateIn.NotPossible refl link s t t' entries at went)

t4_goes : (link : ℕ) (s : Standing) (t t' : Terminal) (entries : List Entry) → At link s t → Went (ends_t4 t) entries t' → TimesTo link s entries t'
t4_goes link s t t' entries at went = go (if_went (is_over t.clocks.t4) (align_in AlignIn.T4 u) (done t) entries t' went)
  where
    u : Terminal
    u = record t { clocks = record t.clocks { t4 = None } }

    go : ((is_over t.clocks.t4 ≡ true) × Went (align_in AlignIn.T4 u) entries t') ⊎ ((is_over t.clocks.t4 ≡ false) × Went (done t) entries t') → TimesTo link s entries t'
    go (inl is) =
        ends_times (align_row u.align AlignIn.T4).out.outcome link s (aligns AlignIn.T4 u) t' entries
        (at_aligns link s u AlignIn.T4 (at_same link s t u at refl refl refl refl refl at.outage)) is.1
    go (inr not_is) = times_of link s entries t' (falls_done link s t t' entries at not_is.1)

times_front : (link : ℕ) (s mid last : Standing) (xs ys : List Entry) → Falls link s mid xs → Times link mid last ys → Times link s last (xs ++ ys)
times_front link s mid last xs ys f (goes_on g) = goes_on (falls_then link s mid last xs ys f g)
times_front link s mid last xs ys (stays same none) (completes was is none2) = completes (sym same ∙ was) is (nothing_then xs ys none ∙ none2)
times_front link s mid last xs ys (drops not_served is_out none) (completes was is none2) = let no : out ≡ aligning = sym is_out ∙ was in absurd cc
times_front link s mid last xs ys (tells entry is_served is_out one event) (completes was is none2) = let no : out ≡ aligning = sym is_out ∙ was in absurd cc

times_back : (link : ℕ) (s mid last : Standing) (xs ys : List Entry) → Times link s mid xs → Falls link mid last ys → Times link s last (xs ++ ys)
times_back link s mid last xs ys (goes_on f) g = goes_on (falls_then link s mid last xs ys f g)
times_back link s mid last xs ys (completes was is none) (stays same none2) = completes was (same ∙ is) (nothing_then xs ys none ∙ none2)
times_back link s mid last xs ys (completes was is none) (drops not_served is_out none2) =
    goes_on (drops (λ (no : s ≡ served). let not : aligning ≡ served = sym was ∙ no in absurd cc) is_out (nothing_then xs ys none ∙ none2))
times_back link s mid last xs ys (completes was is none) (tells entry is_served is_out one event) = let no : ready ≡ served = sym is ∙ is_served in absurd cc

timed_goes : (link : ℕ) (s : Standing) (t t' : Terminal) (entries : List Entry) → At link s t → Went (timed t) entries t' → TimesTo link s entries t'
timed_goes link s t t' entries at went =
    let u = lessened t in
    let last = ends_t5 ∷ ends_t6 ∷ ends_t7 ∷ [] in
    let p = splits (ends_t1 u) (λ b. in_turn (ends_t2 ∷ ends_t3 ∷ ends_t4 ∷ last) b) entries t' went in
    let q = splits (ends_t2 p.mid) (λ b. in_turn (ends_t3 ∷ ends_t4 ∷ last) b) p.second t' p.went_second in
    let r = splits (ends_t3 q.mid) (λ b. in_turn (ends_t4 ∷ last) b) q.second t' q.went_second in
    let x = splits (ends_t4 r.mid) (λ b. in_turn last b) r.second t' r.went_second in
    let f = t1_falls link s u p.mid p.first (at_same link s t u at refl refl refl refl refl at.outage) p.went_first in
    let g = t2_falls link f.to p.mid q.mid q.first f.at q.went_first in
    let h = t3_falls link g.to q.mid r.mid r.first g.at r.went_first in
    let m = t4_goes link h.to r.mid x.mid x.first h.at x.went_first in
    let l = in_turn_falls last (t5_falls, (t6_falls, (t7_falls, tt))) link m.to x.mid t' x.second m.at x.went_second in
    let same : entries ≡ p.first ++ (q.first ++ (r.first ++ (x.first ++ x.second))) =
    p.entries_are ∙ ap (λ (es : List Entry). p.first ++ es)
    (q.entries_are ∙ ap (λ (es : List Entry). q.first ++ es) (r.entries_are ∙ ap (λ (es : List Entry). r.first ++ es) x.entries_are)) in
    record {
      to = l.to;
      at = l.at;
      times = subst (λ (es : List Entry). Times link s l.to es) (sym same)
          (times_front link s f.to l.to p.first (q.first ++ (r.first ++ (x.first ++ x.second))) f.falls
          (times_front link f.to g.to l.to q.first (r.first ++ (x.first ++ x.second)) g.falls
          (times_front link g.to h.to l.to r.first (x.first ++ x.second) h.falls
          (times_back link h.to m.to l.to x.first x.second m.times l.falls))));
    }

-- STEP 5.
record ChosenTo (link : ℕ) (s : Standing) (entries : List Entry) (f : Filled) : Type 0 where
  pub to : Standing
  pub at : At link to f.after
  pub chooses : Chooses link s to entries f.unit

-- the unit that is chosen so, of a terminal that stands there
at_sends : (link : ℕ) (s : Standing) (unit : SignalUnit) (t : Terminal) → At link s t → At link s (record t { last = Some (head_of unit) })
at_sends link s unit t at = at_same link s t (record t { last = Some (head_of unit) }) at refl refl refl refl refl at.outage

record SentOne (link : ℕ) (s : Standing) (unit : SignalUnit) (entries : List Entry) (f : Filled) : Type 0 where
  pub none : entries ≡ []
  pub unit_is : f.unit ≡ Some unit
  pub at : At link s f.after

sends_one : (link : ℕ) (s : Standing) (unit : SignalUnit) (t : Terminal) (entries : List Entry) (f : Filled) → At link s t → Went (sends unit t) entries f
    → SentOne link s unit entries f
sends_one link s unit t entries f at went =
    let d = done_is (record { unit = Some unit; narrow = true; after = record t { last = Some (head_of unit) } }) f entries went in
    record {
      none = d.0;
      unit_is = ap (λ (x : Filled). x.unit) d.1;
      at = subst (λ (x : Filled). At link s x.after) (sym d.1) (at_sends link s unit t at);
    }

idle_one : (s : Standing) (unit : SignalUnit) (found : Option SignalUnit) → found ≡ Some unit → IsIdleUnit s unit → IsIdleOne s found
idle_one s unit found e is = subst (IsIdleOne s) (sym e) is

idle_goes : (link : ℕ) (s : Standing) (unit : SignalUnit) (t : Terminal) (entries : List Entry) (f : Filled) → At link s t → (s ≡ served → ⊥) → (s ≡ waiting → ⊥)
    → IsIdleUnit s unit → Went (sends unit t) entries f → ChosenTo link s entries f
idle_goes link s unit t entries f at not_served not_waiting is went =
    let d = sends_one link s unit t entries f at went in
    record {
      to = s;
      at = d.at;
      chooses = chooses_one (record {
        risen = s;
        first = [];
        second = entries;
        entries_are = refl;
        asks = asks_nothing not_waiting refl refl;
        serves = idles not_served refl d.none (idle_one s unit f.unit d.unit_is is);
      });
    }

counts_falls : (unit : SignalUnit) → FallsBy (counts_sent unit)
counts_falls (SignalUnit.Fisu head) link s t t' entries at went = falls_done link s t t' entries at went
counts_falls (SignalUnit.Lssu head status) link s t t' entries at went = falls_done link s t t' entries at went
counts_falls (SignalUnit.Msu head body) link s t t' entries at went =
    flow_falls FlowIn.Sent link s (record t { top = raised_top head.fsn t.top; unacked = true }) t' entries (at_same link s t _ at refl refl refl refl refl at.outage) went

not_held : (unit : SignalUnit) (t : Terminal) → t.flow.busy ≡ false → held_back t unit ≡ unit
not_held unit t calm = rw calm refl

record GivesTo (link : ℕ) (answer : Answer) (entries : List Entry) (f : Filled) : Type 0 where
  pub to : Standing
  pub at : At link to f.after
  pub falls : Falls link (heard_by answer) to entries
  pub gives : GivesUnit answer f.unit

module _ (link : ℕ) (t : Terminal) (entries : List Entry) (f : Filled) (at : At link served t) (calm : Calm t) (plain : AnswersPlainly entries) where
  some_fisu : Went (sends_fisu t) entries f → (f' : SentOne link served (SignalUnit.Fisu (last_head t)) entries f) × Falls link served served entries
  some_fisu went = let d = sends_one link served (SignalUnit.Fisu (last_head t)) t entries f at went in (d, stays refl d.none)

  stopped : Went (sends_status Status.OutOfService (stops_quietly t)) entries f → GivesTo link (Answer.Refused Refusal.NotUp) entries f
  stopped went =
      let d = sends_one link out (SignalUnit.Lssu (last_head (stops_quietly t)) Status.OutOfService) (stops_quietly t) entries f (quiet_out link served t at refl) went in
      record { to = out; at = d.at; falls = stays refl d.none; gives = idle_one out _ f.unit d.unit_is refl }

  sent_goes : (unit : SignalUnit) → IsPlainUnit unit → f.narrow ≡ true → Went (given unit t) entries f → GivesTo link (Answer.Sent unit) entries f
  sent_goes unit is narrow went =
      go (if_went (is_narrow (head_of unit)) (and_then (counts_sent unit t) (λ u. sends (held_back u unit) u))
      (done (record { unit = None; narrow = false; after = t })) entries f went)
    where
      go : ((is_narrow (head_of unit) ≡ true) × Went (and_then (counts_sent unit t) (λ u. sends (held_back u unit) u)) entries f)
          ⊎ ((is_narrow (head_of unit) ≡ false) × Went (done (record { unit = None; narrow = false; after = t })) entries f) → GivesTo link (Answer.Sent unit) entries f
      go (inr wide) =
          let d = done_is (record { unit = None; narrow = false; after = t }) f entries wide.1 in
          true_false (sym narrow ∙ ap (λ (x : Filled). x.narrow) d.1)
      go (inl is_narrow) =
          let p = splits (counts_sent unit t) (λ u. sends (held_back u unit) u) entries f is_narrow.1 in
          let parts = plain_parts p.first p.second (subst AnswersPlainly p.entries_are plain) in
          let then_calm = kept_by Calm (counts_sent unit t) p.first p.mid (counts_calm unit t calm) parts.0 p.went_first in
          let g = counts_falls unit link served t p.mid p.first at p.went_first in
          let d = sends_one link g.to (held_back p.mid unit) p.mid p.second f g.at p.went_second in
          record {
            to = g.to;
            at = d.at;
            falls = subst (λ (es : List Entry). Falls link served g.to es)
                (sym (p.entries_are ∙ ap (λ (es : List Entry). p.first ++ es) d.none ∙ append-nil p.first)) g.falls;
            gives = d.unit_is ∙ ap Some (not_held unit p.mid then_calm.busy);
          }

  refusal_goes : (why : Refusal) → Went (sent_by (Answer.Refused why) t) entries f → GivesTo link (Answer.Refused why) entries f
  refusal_goes Refusal.NotUp went = stopped went
  refusal_goes Refusal.TooShort went = let d = some_fisu went in record { to = served; at = d.0.at; falls = d.1; gives = tt }
  refusal_goes Refusal.TooLong went = let d = some_fisu went in record { to = served; at = d.0.at; falls = d.1; gives = tt }
  refusal_goes Refusal.Reserved went = let d = some_fisu went in record { to = served; at = d.0.at; falls = d.1; gives = tt }
  refusal_goes Refusal.StreamFull went = let d = some_fisu went in record { to = served; at = d.0.at; falls = d.1; gives = tt }
  refusal_goes Refusal.NotDown went = let d = some_fisu went in record { to = served; at = d.0.at; falls = d.1; gives = tt }
  refusal_goes Refusal.Unsettled went = let d = some_fisu went in record { to = served; at = d.0.at; falls = d.1; gives = tt }
  refusal_goes Refusal.UnknownNumber went = let d = some_fisu went in record { to = served; at = d.0.at; falls = d.1; gives = tt }
  refusal_goes Refusal.Nothing went = let d = some_fisu went in record { to = served; at = d.0.at; falls = d.1; gives = tt }
  refusal_goes Refusal.NoSuchLink went = let d = some_fisu went in record { to = served; at = d.0.at; falls = d.1; gives = tt }
  refusal_goes Refusal.Finished went = let d = some_fisu went in record { to = served; at = d.0.at; falls = d.1; gives = tt }

  answer_goes : (answer : Answer) → IsPlainAnswer answer → f.narrow ≡ true → Went (sent_by answer t) entries f → GivesTo link answer entries f
  answer_goes (Answer.Accepted number) is narrow went = let d = some_fisu went in record { to = served; at = d.0.at; falls = d.1; gives = tt }
  answer_goes (Answer.Taken body) is narrow went = let d = some_fisu went in record { to = served; at = d.0.at; falls = d.1; gives = tt }
  answer_goes (Answer.Found fate) is narrow went = let d = some_fisu went in record { to = served; at = d.0.at; falls = d.1; gives = tt }
  answer_goes (Answer.Sent unit) is narrow went = sent_goes unit is narrow went
  answer_goes (Answer.Heard report) is narrow went = let d = some_fisu went in record { to = served; at = d.0.at; falls = d.1; gives = tt }
  answer_goes Answer.Done is narrow went = let d = some_fisu went in record { to = served; at = d.0.at; falls = d.1; gives = tt }
  answer_goes (Answer.Refused why) is narrow went = refusal_goes why went

record ServesTo (link : ℕ) (s : Standing) (entries : List Entry) (f : Filled) : Type 0 where
  pub to : Standing
  pub at : At link to f.after
  pub serves : Serves link s to entries f.unit

serves_goes : (link : ℕ) (s : Standing) (paused : Bool) (t : Terminal) (entries : List Entry) (f : Filled) → paused ≡ false → At link s t
    → (t.up ≡ false → s ≡ waiting) → Calm t → AnswersPlainly entries → f.narrow ≡ true → Went (serves paused t) entries f → ServesTo link s entries f
serves_goes link s true t entries f paused at waits calm plain narrow went = true_false paused
serves_goes link s false t entries f paused at waits calm plain narrow went =
    go (if_went t.up (if t.b_due then sends_status Status.Busy (record t { b_due = false }) else ask (Event.Next t.link) (λ answer. sent_by answer t))
    (sends_start_fisu t) entries f went)
  where
    gives_next : (later : List Entry) (entry : Entry) → AnswersPlainly (entry ∷ later) → At link served t → Went (sent_by entry.answer t) later f
        → GivesTo link entry.answer later f
    gives_next later entry is at went = answer_goes link t later f at calm is.1 entry.answer is.0 narrow went

    up_goes : t.up ≡ true → Went (ask (Event.Next t.link) (λ answer. sent_by answer t)) entries f → ServesTo link s entries f
    up_goes up w =
        let is : s ≡ served = sym at.stands ∙ at.serves up in
        let a = ask_is (Event.Next t.link) (λ answer. sent_by answer t) entries f w in
        let g = gives_next a.later a.entry (subst AnswersPlainly a.entries_are plain) (subst (λ (x : Standing). At link x t) is at) a.went in
        record {
          to = g.to;
          at = g.at;
          serves = gives a.entry a.later is a.entries_are (a.event_is ∙ ap Event.Next at.link_is) g.gives g.falls;
        }

    due : t.up ≡ true → ((t.b_due ≡ true) × Went (sends_status Status.Busy (record t { b_due = false })) entries f)
        ⊎ ((t.b_due ≡ false) × Went (ask (Event.Next t.link) (λ answer. sent_by answer t)) entries f) → ServesTo link s entries f
    due up (inl is) = true_false (sym is.0 ∙ calm.due)
    due up (inr not_is) = up_goes up not_is.1

    go : ((t.up ≡ true) × Went (if t.b_due then sends_status Status.Busy (record t { b_due = false }) else ask (Event.Next t.link) (λ answer. sent_by answer t)) entries f)
        ⊎ ((t.up ≡ false) × Went (sends_start_fisu t) entries f) → ServesTo link s entries f
    go (inl up) =
        due up.0 (if_went t.b_due (sends_status Status.Busy (record t { b_due = false })) (ask (Event.Next t.link) (λ answer. sent_by answer t)) entries f up.1)
    go (inr flat) =
        let d = sends_one link s (SignalUnit.Fisu start_head) t entries f at flat.1 in
        let fisu : IsIdleUnit s (SignalUnit.Fisu start_head) = subst (λ (x : Standing). IsIdleUnit x (SignalUnit.Fisu start_head)) (sym (waits flat.0)) refl in
        record { to = s; at = d.at; serves = idles (not_up link s t at flat.0) refl d.none (idle_one s (SignalUnit.Fisu start_head) f.unit d.unit_is fisu) }

-- an end without an outage
in_service : {X : Type 0} (talk : Talk Filled) (t : Terminal) (entries : List Entry) (f : Filled) → t.outage ≡ false → Went (unless_out talk t) entries f
    → (Went talk entries f → X) → X
in_service talk t entries f none went then_so =
    then_so (subst (λ (b : Bool). Went (if b then sends_status Status.ProcessorOutage t else talk) entries f) none went)

risen_state : (t : Terminal) (answer : Answer) → (risen answer t).state ≡ t.state
risen_state t Answer.Done = refl
risen_state t (Answer.Accepted number) = refl
risen_state t (Answer.Taken body) = refl
risen_state t (Answer.Found fate) = refl
risen_state t (Answer.Sent unit) = refl
risen_state t (Answer.Heard report) = refl
risen_state t (Answer.Refused why) = refl

chosen_goes : (link : ℕ) (s : Standing) (t : Terminal) (entries : List Entry) (f : Filled) → At link s t → Calm t → AnswersPlainly entries → f.narrow ≡ true
    → (phase : LinkPhase) → t.state ≡ phase → Went (chosen phase t) entries f → ChosenTo link s entries f
chosen_goes link s t entries f at calm plain narrow LinkPhase.OutOfService e went =
    let is : s ≡ out = sym at.stands ∙ ap (λ (p : LinkPhase). standing_in p t.up) e in
    idle_goes link s (SignalUnit.Lssu (last_head t) Status.OutOfService) t entries f at (λ no. out_served s is no)
    (λ (no : s ≡ waiting). let not : out ≡ waiting = sym is ∙ no in absurd cc)
    (subst (λ (x : Standing). IsIdleUnit x (SignalUnit.Lssu (last_head t) Status.OutOfService)) (sym is) refl) went
chosen_goes link s t entries f at calm plain narrow LinkPhase.Aligning e went =
    let is : s ≡ aligning = sym at.stands ∙ ap (λ (p : LinkPhase). standing_in p t.up) e in
    idle_goes link s (SignalUnit.Lssu (last_head t) t.status) t entries f at (λ (no : s ≡ served). let not : aligning ≡ served = sym is ∙ no in absurd cc)
    (λ (no : s ≡ waiting). let not : aligning ≡ waiting = sym is ∙ no in absurd cc)
    (subst (λ (x : Standing). IsIdleUnit x (SignalUnit.Lssu (last_head t) t.status)) (sym is) calm.status) went
chosen_goes link s t entries f at calm plain narrow LinkPhase.Ready e went =
    let is : s ≡ ready = sym at.stands ∙ ap (λ (p : LinkPhase). standing_in p t.up) e in
    idle_goes link s (SignalUnit.Fisu start_head) t entries f at (λ (no : s ≡ served). let not : ready ≡ served = sym is ∙ no in absurd cc)
    (λ (no : s ≡ waiting). let not : ready ≡ waiting = sym is ∙ no in absurd cc)
    (subst (λ (x : Standing). IsIdleUnit x (SignalUnit.Fisu start_head)) (sym is) refl)
    (in_service (sends_start_fisu t) t entries f at.outage went (λ w. w))
chosen_goes link s t entries f at calm plain narrow (LinkPhase.InService paused) e went =
    let p = splits (up_first t) (λ u. unless_out (serves paused u) u) entries f went in
    let parts = plain_parts p.first p.second (subst AnswersPlainly p.entries_are plain) in
    go p.mid p.first p.second p.entries_are parts.1 (if_went t.up (done t) (asks_up t) p.first p.mid p.went_first) p.went_second
  where
    no_outage : paused ≡ false
    no_outage = ap is_paused (sym e) ∙ at.paused

    whole : (mid : Terminal) (first second : List Entry) (risen : Standing) → entries ≡ first ++ second → AsksUp link s risen first → AnswersPlainly second
        → At link risen mid → mid.state ≡ LinkPhase.InService paused → Calm mid → Went (unless_out (serves paused mid) mid) second f → ChosenTo link s entries f
    whole mid first second risen same asks plain there phase mid_calm w =
        let waits = λ (flat : mid.up ≡ false).
        sym there.stands ∙ ap (λ (p : LinkPhase). standing_in p mid.up) phase ∙ ap (λ (b : Bool). standing_in (LinkPhase.InService paused) b) flat in
        let g = serves_goes link risen paused mid second f no_outage there waits mid_calm plain narrow
        (in_service (serves paused mid) mid second f there.outage w (λ v. v)) in
        record {
          to = g.to;
          at = g.at;
          chooses = chooses_one (record { risen = risen; first = first; second = second; entries_are = same; asks = asks; serves = g.serves });
        }

    go : (mid : Terminal) (first second : List Entry) → entries ≡ first ++ second → AnswersPlainly second
        → ((t.up ≡ true) × Went (done t) first mid) ⊎ ((t.up ≡ false) × Went (asks_up t) first mid) → Went (unless_out (serves paused mid) mid) second f → ChosenTo link s entries f
    go mid first second same plain (inl up) w =
        let d = done_is t mid first up.1 in
        let is : s ≡ served = sym at.stands ∙ at.serves up.0 in
        whole mid first second s same (asks_nothing (λ (no : s ≡ waiting). let not : served ≡ waiting = sym is ∙ no in absurd cc) refl d.0) plain
        (subst (λ (v : Terminal). At link s v) (sym d.1) at) (ap (λ (v : Terminal). v.state) d.1 ∙ e) (subst Calm (sym d.1) calm) w
    go mid first second same plain (inr flat) w =
        let is : s ≡ waiting = sym at.stands ∙ ap (λ (p : LinkPhase). standing_in p t.up) e ∙ ap (λ (b : Bool). standing_in (LinkPhase.InService paused) b) flat.0 in
        let a = ups link t mid first at.link_is (e ∙ ap LinkPhase.InService no_outage) flat.0 at.blind at.quiet at.outage flat.1 in
        whole mid first second (risen_by a.entry.answer) same (asks_again a.entry is a.entries_are a.event_is refl) plain a.at (still_up mid first flat.1)
        (calm_up mid first flat.1) w
      where
        still_up : (mid : Terminal) (first : List Entry) → Went (asks_up t) first mid → mid.state ≡ LinkPhase.InService paused
        still_up mid first w =
            let a = ask_is (Event.Up t.link) (λ answer. done (risen answer t)) first mid w in
            ap (λ (v : Terminal). v.state) (done_is (risen a.entry.answer t) mid a.later a.went).1 ∙ risen_state t a.entry.answer ∙ e

        calm_up : (mid : Terminal) (first : List Entry) → Went (asks_up t) first mid → Calm mid
        calm_up mid first w =
            let a = ask_is (Event.Up t.link) (λ answer. done (risen answer t)) first mid w in
            subst Calm (sym (done_is (risen a.entry.answer t) mid a.later a.went).1) (risen_calm t a.entry.answer calm)

filled_goes : (link : ℕ) (s : Standing) (t : Terminal) (entries : List Entry) (f : Filled) → At link s t → Calm t → AnswersPlainly entries → f.narrow ≡ true
    → Went (filled t) entries f → ChosenTo link s entries f
filled_goes link s t entries f at calm plain narrow went =
    go (if_went (nat_lt (length t.bits) 8) (chosen t.state t) (done (record { unit = None; narrow = true; after = t })) entries f went)
  where
    go : ((nat_lt (length t.bits) 8 ≡ true) × Went (chosen t.state t) entries f)
        ⊎ ((nat_lt (length t.bits) 8 ≡ false) × Went (done (record { unit = None; narrow = true; after = t })) entries f) → ChosenTo link s entries f
    go (inl few) = chosen_goes link s t entries f at calm plain narrow t.state refl few.1
    go (inr enough) =
        let d = done_is (record { unit = None; narrow = true; after = t }) f entries enough.1 in
        record {
          to = s;
          at = subst (λ (x : Filled). At link s x.after) (sym d.1) at;
          chooses = has_bits refl d.0 (ap (λ (x : Filled). x.unit) d.1);
        }

-- no alignment is under way but in Aligning
rests_in : (phase : LinkPhase) (s : AlignState) → (phase ≡ LinkPhase.OutOfService → s ≡ AlignState.Idle) → (is_aligned phase ≡ true → s ≡ AlignState.Idle)
    → RestsIn phase s
rests_in LinkPhase.OutOfService s idle aligned = idle refl
rests_in LinkPhase.Aligning s idle aligned = tt
rests_in LinkPhase.Ready s idle aligned = aligned refl
rests_in (LinkPhase.InService paused) s idle aligned = aligned refl

rests_out : (phase : LinkPhase) (s : AlignState) → phase ≡ LinkPhase.OutOfService → RestsIn phase s → s ≡ AlignState.Idle
rests_out phase s is rests = subst (λ (p : LinkPhase). RestsIn p s) is rests

rests_aligned : (phase : LinkPhase) (s : AlignState) → is_aligned phase ≡ true → RestsIn phase s → s ≡ AlignState.Idle
rests_aligned LinkPhase.OutOfService s is rests = rests
rests_aligned LinkPhase.Aligning s is rests = true_false (sym is)
rests_aligned LinkPhase.Ready s is rests = rests
rests_aligned (LinkPhase.InService paused) s is rests = rests

-- THE TURN.
module _ (marks : List Mark) (t : Terminal) (entries : List Entry) (f : Filled) (o : IsOrdinary t) (c : IsCommandedSo t) (plain : ArePlain marks)
    (answers : AnswersPlainly entries) (went : Went (turn_talk marks t) entries f) (narrow : f.narrow ≡ true) where
  calm : Calm t
  calm = record { busy = o.busy; due = o.due; status = o.status; none = c.busy; outage = o.outage; no_outage = c.outage }

  there : At t.link (standing_of t) (record t { commands = no_commands })
  there = record { link_is = refl; stands = refl; serves = o.served; paused = o.paused; blind = o.blind; quiet = refl; outage = o.outage }

  turn_goes : IsOrdinaryTurn marks t entries f
  turn_goes =
      let p = splits (commanded t) (λ u. and_then (all_marked marks u) (λ v. and_then (timed v) (λ w. filled w))) entries f went in
      let q = splits (all_marked marks p.mid) (λ v. and_then (timed v) (λ w. filled w)) p.second f p.went_second in
      let r = splits (timed q.mid) (λ w. filled w) q.second f q.went_second in
      let plain_p = plain_parts p.first p.second (subst AnswersPlainly p.entries_are answers) in
      let plain_q = plain_parts q.first q.second (subst AnswersPlainly q.entries_are plain_p.1) in
      let plain_r = plain_parts r.first r.second (subst AnswersPlainly r.entries_are plain_q.1) in
      let calm_p = kept_by Calm (commanded t) p.first p.mid (commanded_calm t calm) plain_p.0 p.went_first in
      let calm_q = kept_by Calm (all_marked marks p.mid) q.first q.mid (marks_calm marks p.mid calm_p) plain_q.0 q.went_first in
      let calm_r = kept_by Calm (timed q.mid) r.first r.mid (timed_calm q.mid calm_q) plain_r.0 r.went_first in
      let one = commanded_goes t.link (standing_of t) t p.mid p.first there c.blind c.outage p.went_first in
      let three = marks_goes marks plain t.link one.to p.mid q.mid q.first one.at q.went_first in
      let four = timed_goes t.link three.to q.mid r.mid r.first three.at r.went_first in
      let five = filled_goes t.link four.to r.mid r.second f four.at calm_r plain_r.1 narrow r.went_second in
      let after = kept_by Sends (turn_talk marks t) entries f (turn_calm marks t calm) answers went in
      let rest = went_kept Any RestsAfter (turn_talk marks t) entries f (turn_rests marks t (rests_in t.state t.align.state o.idle o.aligned)) went in
      record {
        asks = record {
          obeyed = one.to;
          heard = three.to;
          timed = four.to;
          first = p.first;
          third = q.first;
          fourth = r.first;
          fifth = r.second;
          entries_are = p.entries_are ∙ ap (λ (es : List Entry). p.first ++ es) (q.entries_are ∙ ap (λ (es : List Entry). q.first ++ es) r.entries_are);
          obeys = one.obeys;
          stops = one.stops;
          hears = three.hears;
          times = four.times;
          chooses = subst (λ (s : Standing). Chooses t.link four.to s r.second f.unit) (sym five.at.stands) five.chooses;
        };
        after = record {
          served = five.at.serves;
          idle = λ is. rests_out f.after.state f.after.align.state is rest;
          aligned = λ is. rests_aligned f.after.state f.after.align.state is rest;
          paused = five.at.paused;
          busy = after.after.busy;
          due = after.after.due;
          status = after.after.status;
          blind = five.at.blind;
          outage = five.at.outage;
        };
        link_is = five.at.link_is;
        quiet = five.at.quiet;
      }

pub turns_ask : TurnsAskSo
turns_ask marks t entries chosen o c plain answers went narrow = turn_goes marks t entries chosen o c plain answers went narrow
