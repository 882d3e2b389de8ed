-- EACH INPUT OF `terminal` HAS A TEXT (`text_there`): an induction over its lines, each of which has an outcome (`line_there`) from
-- every end that lines before it may leave (`IsReadyEnd` of term_managed). With `one_outcome` (specs/One) it's the only one.
use Rattle.std.proofs.Common.{refl, sym, subst, arith, ◌≡◌, ◌∙◌, ◌<◌, ◌≤◌, ◌%◌, ◌&&◌, not, nat_lt, is_none, ℕ, zero, suc, Bool, true, false, List, [], ◌∷◌, ◌++◌, length, map, Option, None, Some, slice_get, slice_set, if◌then◌else◌, codes, Ok, Err}
use Rattle.std.specs.Result.{result_ok}
use Rattle.std.proofs.lemmas.Bool.Decides.{nat_tests}
use Rattle.std.proofs.lemmas.List.{length_push}
use Rattle.std.specs.Option.{ForSome}
use Rattle.l2_bits.specs.Flags.{flag}
use Rattle.l2_bits.specs.LineBits.{bits_of}
use Rattle.l2_bits.proofs.BitLemmas.{length-bits_of}
use Rattle.l2_units.specs.declared.profile.Profile.{Profile}
use Rattle.l2_units.specs.declared.profile.Profile.TheVariants.{Narrow, Wide}
use Rattle.text_forms.specs.Opening.{first_line, fitting, is_end_of, opening_read}
use Rattle.text_forms.specs.Words.{Read}
use Rattle.text_forms.proofs.Fitting.{values_fit}
use Rattle.text_forms.proofs.Lengths.{Run, timers_run}
use Rattle.text_forms.proofs.LinkTimes.{AreSet, link_times_set}
use Rattle.text_forms.specs.declared.opened.Values.{Values}
use Rattle.set_events.specs.Config.{fault_of}
use Rattle.set_events.specs.declared.config.Method.{Method}
use Rattle.set_events.specs.declared.event.Event.{Event}
use Rattle.set_events.specs.declared.history.Entry.{Entry}
use Rattle.set_model.specs.Sound.{IsSettings}
use Rattle.set_model.specs.State.{Settings}
use Rattle.set_model.specs.Step.{step}
use Rattle.set_model.proofs.Checkpointing.{checkpoints}
use Rattle.set_model.proofs.Soundness.{opened_sound}
use Rattle.l3_link.specs.declared.times.Times.{Times}
use Rattle.term_bench.specs.Ends.{AtLink, new_link, new_links, told_at}
use Rattle.term_bench.specs.Ready.{AreShort, FewWait}
use Rattle.term_bench.proofs.BenchLemmas.{there_is}
use Rattle.term_bench.proofs.NarrowThere.{step_gives}
use Rattle.term_bench.proofs.TurnsThere.{few_set, length_set}
use Rattle.l3_link.specs.Table.{activated, deactivated}
use Rattle.term_managed.proofs.HearingLemmas.{carries_there, pieces_there}
use Rattle.term_managed.proofs.KeptLemmas.{so_many_fresh}
use Rattle.term_managed.specs.Ends.{ManagedState, is_on, seen_at}
use Rattle.term_managed.specs.Laws.{IsReadyEnd}
use Rattle.term_managed.specs.Turns.{Activates, Deactivates, HeardTurn}
use Rattle.term_model.specs.declared.command.Command.{Command}
use Rattle.term_model.specs.declared.timers.Timers.{Timers}
use Rattle.text_forms.specs.Asking.{asked_of}
use Rattle.text_forms.specs.Timers.{Lengths, lengths_of, timers_of, timers_read}
use Rattle.text_forms.specs.Times.{LinkTimes, link_times_of, times_of, times_read}
use Rattle.text_forms.specs.declared.early.Early.{Early}
use Rattle.text_forms.specs.declared.asked.Asked.{Asked}
use Rattle.terminal_text.specs.Answers.{Asks, Checkpoints, CommandsBy, Does, DoesAt, DoesTold, TellsCounts, TellsHistory, Exchanges, HearsLine, Looks, ManagesBy, asker, bits_in, done_text, is_below, is_refused, link_in, link_of_event, one_by_one, streams_told, turn_at, unit_bits}
use Rattle.terminal_text.specs.Forgetting.{HearsEach, HearsOne, checkpointed, from_now, left_by, shown_of, unasked}
use Rattle.terminal_text.specs.Showing.{Shown, over}
use Rattle.terminal_text.specs.declared.forgetting.ForgettingBench.{ForgettingBench}
use Rattle.terminal_text.specs.declared.stopping.Watch.{Watch}
use Rattle.terminal_text.specs.Moving.{moved, told_again}
use Rattle.terminal_text.specs.Stopping.{commanded_by, managed_by}
use Rattle.term_managed.specs.declared.turn.Deed.{Deed}
use Rattle.terminal_text.specs.Text.{HasText, MayDo, MayDoAt, MayFollow, MayOpen, MayOpenAs, MayRead, MayTime, Opens, SetsTimes, TerminalOutcome, opened_bench, opened_end, settings_of, terminal_rules, timed, told_lengths, told_times, usual, usual_times}
use Rattle.terminal_text.specs.declared.fault.TerminalFault.{TerminalFault}
use Rattle.terminal_text.specs.declared.fault.TerminalFault.TheVariants.{Step, Text}
use Rattle.terminal_text.specs.declared.open_end.End.{End as EndState}
use Rattle.text_lines.specs.Flaws.{flaw_of}
use Rattle.text_lines.specs.Lines.{is_remark, lines_of, prints, stops}
use Rattle.text_lines.specs.Talks.{IsTextOfLines, MayBe}
use Rattle.text_lines.specs.declared.flaw.LineFlaw.TheVariants.{Long}
use Rattle.text_base.specs.Printing.{Printed, behind}

-- A BENCH THAT IS OPENED is ready.
few_push : (links : List AtLink) (last : AtLink) → FewWait links → length last.waiting < 8 → FewWait (links ++ last ∷ [])
few_push [] last few short zero at there =
    let same : last ≡ at = cc in subst (λ (a : AtLink). length a.waiting < 8) same short
few_push [] last few short (suc n) at there = absurd (cc there)
few_push (x ∷ links) last few short zero at there = few 0 at there
few_push (x ∷ links) last few short (suc n) at there = few_push links last (λ k a is. few (suc k) a is) short n at there

few_new : (lengths : Timers) (links : ℕ) → FewWait (new_links lengths links)
few_new lengths zero = λ n at there. absurd (cc there)
few_new lengths (suc links) = few_push (new_links lengths links) (new_link lengths links) (few_new lengths links) (omega arith)

so_many_new : (lengths : Timers) (links : ℕ) → length (new_links lengths links) ≡ links
so_many_new lengths zero = refl
so_many_new lengths (suc links) =
    omega (arith, length_push (new_links lengths links) (new_link lengths links), so_many_new lengths links)

opened_ready : (settings : Settings) (lengths : Timers) (times : Times) → IsSettings settings → settings.profile ≡ Narrow
    → IsReadyEnd settings.links (opened_end (opened_bench settings lengths) settings.links times)
opened_ready settings lengths times is narrow = record {
  bench = record {
    gives = record { sound = opened_sound settings is; settings = is; narrow = narrow };
    settings = is;
    narrow = narrow;
    count = so_many_new lengths settings.links;
    few = few_new lengths settings.links;
  };
  kept = so_many_fresh times settings.links;
}

-- TIMERS of lengths that are told.
timers_there : (l : Lengths) → Run l → (timers : Timers) × (timers_of timers ≡ l)
timers_there l run = (
  record {
    t1 = l.t1;
    t2 = l.t2;
    t3 = l.t3;
    t5 = l.t5;
    t6 = l.t6;
    t7 = l.t7;
    t1_set = run.0;
    t2_set = run.1;
    t3_set = run.2;
    t5_set = run.3;
    t6_set = run.4;
    t7_set = run.5;
  },
  refl,
)

times_there : (l : LinkTimes) → AreSet l → (times : Times) × (times_of times ≡ l)
times_there l set = (
  record {
    t1 = l.t1;
    t2 = l.t2;
    t4 = l.t4;
    t5 = l.t5;
    t17 = l.t17;
    k1 = l.k1;
    k2 = l.k2;
    t1_set = set.0;
    t2_set = set.1;
    t4_set = set.2;
    t5_set = set.3;
    t17_set = set.4;
    k1_set = set.5;
    k2_set = set.6;
  },
  refl,
)

usual_set : AreSet usual_times
usual_set = (omega arith, omega arith, omega arith, omega arith, omega arith, omega arith, omega arith)

usual_run : Run usual
usual_run = (omega arith, omega arith, omega arith, omega arith, omega arith, omega arith)

if_for : {X : Type 0} (P : X → Type 0) (b : Bool) (x : X) → (b ≡ true → P x) → ForSome (if b then Some x else None) P
if_for P true x holds = λ y there. let same : x ≡ y = cc in subst P same (holds refl)
if_for P false x holds = λ y there. absurd (cc there)

read_ok : {A : Type 0} (read : Read A) (a : A) → result_ok read ≡ Some a → read ≡ Ok a
read_ok (Ok x) a e = cc
read_ok (Err blame) a e = absurd cc

lengths_for : (line : List ℕ) → ForSome (lengths_of line) Run
lengths_for line = λ l there. timers_run line l (read_ok (timers_read line) l there)

told_for : (early : Early) (line : List ℕ) → ForSome (told_lengths early line) Run
told_for Early.Both line = lengths_for line
told_for Early.Times line = λ l there. absurd (cc there)
told_for Early.Over line = λ l there. absurd (cc there)

link_times_for : (line : List ℕ) → ForSome (link_times_of line) AreSet
link_times_for line = λ l there. link_times_set line l (read_ok (times_read line) l there)

times_for : (early : Early) (line : List ℕ) → ForSome (told_times early line) AreSet
times_for Early.Both line = link_times_for line
times_for Early.Times line = link_times_for line
times_for Early.Over line = λ l there. absurd (cc there)

-- THE FIRST LINE.
end_fits : (profile : Profile) (links opc dpc sio : ℕ) (method : Method) → is_none (fault_of profile links opc dpc sio method) ≡ true
    → (1 ≤ links) × (links ≤ 16) × (sio % 16 ≡ 0)
end_fits profile links opc dpc sio method is = grind (arith, nat_tests, is)

both_first : (a b : Bool) → a && b ≡ true → a ≡ true
both_first true b is = refl
both_first false b is = is

fit_for : (v : Values) → ForSome (fitting v) (λ w. IsSettings (settings_of w))
fit_for v =
    if_for (λ w. IsSettings (settings_of w)) (is_end_of v v.code_a v.code_b && is_end_of v v.code_b v.code_a) v
    (λ both. let fits = end_fits v.profile v.links v.code_a v.code_b v.sio v.method
    (both_first (is_end_of v v.code_a v.code_b) (is_end_of v v.code_b v.code_a) both) in
    record { some_link = fits.0; at_most_16 = fits.1; managed = fits.2 })

first_for : (line : List ℕ) → ForSome (first_line line) (λ v. IsSettings (settings_of v))
first_for line = λ v there. fit_for v v (values_fit line v (read_ok (opening_read line) v there))

-- AN OUTCOME THERE IS, and the end goes on from a bench that is ready
abbrev IsGoing : Option EndState → Type 0
IsGoing None = Unit {0}
IsGoing (Some end) = (links : ℕ) × IsReadyEnd links end.bench.managed

abbrev GoesWell : TerminalOutcome → Type 0
GoesWell (prints printed next) = IsGoing next
GoesWell (stops fault) = Unit {0}

abbrev Has : (TerminalOutcome → Type 0) → Type 0
Has May = (outcome : TerminalOutcome) × May outcome × GoesWell outcome

opens_there : (settings : Settings) (told : Lengths) (early : Early) → IsSettings settings → settings.profile ≡ Narrow → Run told
    → Has (Opens settings told early)
opens_there settings told early is narrow run =
    let timers = timers_there told run in
    let times = times_there usual_times usual_set in (
      prints [] (Some (record { bench = unasked (opened_end (opened_bench settings timers.0) settings.links times.0); early = early })),
      record { lengths = timers.0; times = times.0; lengths_are = timers.1; times_are = times.1; outcome_is = refl },
      (settings.links, opened_ready settings timers.0 times.0 is narrow),
    )

sets_there : (links : ℕ) (told : LinkTimes) (old : ForgettingBench) → IsReadyEnd links old.managed → AreSet told → Has (SetsTimes told old)
sets_there links told old ready set =
    let times = times_there told set in (
      prints [] (Some (record { bench = timed times.0 old; early = Early.Over })),
      record { times = times.0; times_are = times.1; outcome_is = refl },
      (links, record { bench = ready.bench; kept = so_many_fresh times.0 (length old.managed.bench.links) ∙ ready.bench.count }),
    )

open_as_there : (profile : Profile) (n : ℕ) (line : List ℕ) (v : Values) → IsSettings (settings_of v) → Has (MayOpenAs profile n line v)
open_as_there Narrow n line v is = opens_there (settings_of v) usual Early.Both is refl usual_run
open_as_there Wide n line v is = (stops (Text n (flaw_of line)), refl, tt)

open_there : (n : ℕ) (line : List ℕ) (found : Option Values) → ForSome found (λ v. IsSettings (settings_of v)) → Has (MayOpen n line found)
open_there n line None is = (stops (Text n (flaw_of line)), refl, tt)
open_there n line (Some v) is = open_as_there v.profile n line v (is v refl)

-- WHAT A LATER LINE ASKS FOR is done.
abbrev IsDoneThere : ℕ → Asked → ForgettingBench → Type 0
IsDoneThere links asked old =
    (printed : List ℕ) × (new : ForgettingBench) × Does asked old printed new × IsReadyEnd links new.managed

-- at the end itself
abbrev IsAtThere : ℕ → (ManagedState → List ℕ → ManagedState → Type 0) → ManagedState → Type 0
IsAtThere links does old = (printed : List ℕ) × (new : ManagedState) × does old printed new × IsReadyEnd links new

at_there : (links : ℕ) (does : ManagedState → List ℕ → ManagedState → Type 0) (watches : List Watch) (old : ForgettingBench)
    → IsAtThere links does old.managed
    → (printed : List ℕ) × (new : ForgettingBench) × DoesAt does watches old printed new × IsReadyEnd links new.managed
at_there links does watches old there =
    (there.0, record { managed = there.1; plan = old.plan; watches = watches; streams = old.streams }, (there.2, refl, refl, refl), there.3)

below : (link links : ℕ) → nat_lt link links ≡ true → link < links
below link links is = grind (arith, nat_tests, is)

command_there : (links link : ℕ) (command : Command) (refused : Bool) (old : ManagedState) → IsReadyEnd links old → link < links
    → (printed : List ℕ) × (new : ManagedState) × CommandsBy refused link command old printed new × IsReadyEnd links new
command_there links link command true old ready is = (codes "refused 7\n", old, (refl, refl), ready)
command_there links link command false old ready is =
    let links_were = old.bench.links in
    let there = there_is links_were link (subst (λ n. link < n) (sym ready.bench.count) is) in
    let now : AtLink = told_at command there.0 in (
      done_text,
      record { bench = record { set = old.bench.set; links = slice_set links_were link now }; kept = old.kept },
      (refl, record { was = there.0; is_at = there.1; links_are = refl; set_is = refl }, refl),
      record {
        bench = record {
          gives = ready.bench.gives;
          settings = ready.bench.settings;
          narrow = ready.bench.narrow;
          count = length_set links_were link now ∙ ready.bench.count;
          few = few_set links_were link now ready.bench.few (ready.bench.few link there.0 there.1);
        };
        kept = ready.kept;
      },
    )

octets_short : (octets : List ℕ) → AreShort (map (bits_of 8) octets)
octets_short [] = tt
octets_short (octet ∷ octets) = (omega (arith, length-bits_of 8 octet), octets_short octets)

bits_short : (bits : List Bool) → AreShort (one_by_one bits)
bits_short [] = tt
bits_short (bit ∷ bits) = (omega arith, bits_short bits)

checkpointed_ready : (links : ℕ) (old : ManagedState) → IsReadyEnd links old → IsReadyEnd links (checkpointed old)
checkpointed_ready links old ready = record {
  bench = record {
    gives = record {
      sound = (checkpoints old.bench.set.state).sound ready.bench.gives.sound;
      settings = ready.bench.gives.settings;
      narrow = ready.bench.gives.narrow;
    };
    settings = ready.bench.gives.settings;
    narrow = ready.bench.gives.narrow;
    count = ready.bench.count;
    few = ready.bench.few;
  };
  kept = ready.kept;
}

ready_by : (links : ℕ) (due : Bool) (old : ManagedState) → IsReadyEnd links old → IsReadyEnd links (if due then checkpointed old else old)
ready_by links true old ready = checkpointed_ready links old ready
ready_by links false old ready = ready

left_ready : (links link : ℕ) (old : ForgettingBench) (one : Option HeardTurn) (between : ManagedState) → IsReadyEnd links between
    → IsReadyEnd links (left_by link old one between).managed
left_ready links link old None between ready = ready
left_ready links link old (Some heard) between ready = ready_by links _ between ready

one_there : (links link : ℕ) (bits : List Bool) (old : ForgettingBench) → IsReadyEnd links old.managed → link < links
    → length bits ≤ 8 → (items : List Shown) × (new : ForgettingBench) × HearsOne link bits old items new × IsReadyEnd links new.managed
one_there links link bits old ready is short =
    let all = pieces_there links link (bits ∷ []) old.managed ready is (short, tt) in
    let own = all.2 in (
      shown_of link old own.1 own.0,
      left_by link old own.1 own.0,
      record { one = own.1; between = own.0; hears = own.3; items_are = refl; new_is = refl },
      left_ready links link old own.1 own.0 (subst (λ (m : ManagedState). IsReadyEnd links m) own.4.1 all.3),
    )

each_there : (links link : ℕ) (pieces : List (List Bool)) (old : ForgettingBench) → IsReadyEnd links old.managed → link < links
    → AreShort pieces → (items : List Shown) × (new : ForgettingBench) × HearsEach link pieces old items new × IsReadyEnd links new.managed
each_there links link [] old ready is short = ([], old, (refl, refl), ready)
each_there links link (bits ∷ pieces) old ready is short =
    let one = one_there links link bits old ready is short.0 in
    let rest = each_there links link pieces one.1 one.3 is short.1 in
    (one.0 ++ rest.0, rest.1, (one.1, one.0, rest.0, one.2, rest.2, refl), rest.3)

hears_there : (links link : ℕ) (bits : List Bool) (old : ForgettingBench) → IsReadyEnd links old.managed → link < links
    → (printed : List ℕ) × (new : ForgettingBench) × HearsLine link bits old printed new × IsReadyEnd links new.managed
hears_there links link bits old ready is =
    let all = each_there links link (one_by_one bits) old ready is (bits_short bits) in
    (_, all.1, record { items = all.0; hears = all.2; printed_is = refl }, all.3)

exchanges_there : (links link : ℕ) (octets : List ℕ) (old : ForgettingBench) → IsReadyEnd links old.managed → link < links
    → (printed : List ℕ) × (new : ForgettingBench) × Exchanges link octets old printed new × IsReadyEnd links new.managed
exchanges_there links link octets old ready is =
    let all = each_there links link (map (bits_of 8) octets) old ready is (octets_short octets) in
    (_, all.1, record { items = all.0; hears = all.2; printed_is = refl }, all.3)

event_there : (links : ℕ) (event : Event) (old : ManagedState) → IsReadyEnd links old → IsAtThere links (Asks event) old
event_there links event old ready =
    let set = old.bench.set in
    let answer = (step set.state event).answer in
    let entry : Entry = record { who = asker event; event = event; answer = answer } in (
      _,
      record {
        bench = record {
          set = record { base = set.base; state = (step set.state event).state; history = set.history ++ entry ∷ [] };
          links = old.bench.links;
        };
        kept = old.kept;
      },
      record {
        answer = answer;
        step = record { base_is = refl; answer_is = refl; state_is = refl; history_is = refl };
        links_are = refl;
        kept_are = refl;
        printed_is = refl;
      },
      record {
        bench = record {
          gives = (step_gives set.state event ready.bench.gives).1;
          settings = ready.bench.settings;
          narrow = ready.bench.narrow;
          count = ready.bench.count;
          few = ready.bench.few;
        };
        kept = ready.kept;
      },
    )

checkpoint_there : (quiet : Bool) (links : ℕ) (old : ManagedState) → IsReadyEnd links old → IsAtThere links (Checkpoints quiet) old
checkpoint_there quiet links old ready = (_, checkpointed old, (refl, refl), checkpointed_ready links old ready)

look_there : (links link : ℕ) (old : ManagedState) → IsReadyEnd links old → link < links → IsAtThere links (Looks link) old
look_there links link old ready is =
    let there = there_is old.bench.links link (subst (λ n. link < n) (sym ready.bench.count) is) in
    (_, old, record { at = there.0; is_at = there.1; printed_is = refl; new_is = refl }, ready)

managed_as : ManagedState → List Deed → ℕ → ForgettingBench → ForgettingBench
managed_as managed deeds link old = record {
  managed = managed;
  plan = old.plan;
  watches = managed_by deeds link old.watches;
  streams = told_again old.streams managed.bench.set.state;
}

activates_there : (links link : ℕ) (on : Bool) (old : ForgettingBench) → IsReadyEnd links old.managed → link < links
    → (printed : List ℕ) × (new : ForgettingBench) × ManagesBy on (Activates link) link old printed new × IsReadyEnd links new.managed
unfolding managed_as
activates_there links link true old ready is = (codes "refused 9\n", old, (refl, refl), ready)
activates_there links link false old ready is =
    let all = carries_there links link (activated (seen_at link old.managed)) old.managed ready is in
    (_, managed_as all.1 all.0 link old, (all.0, all.2, refl, refl, refl, refl), all.3)

deactivates_there : (links link : ℕ) (off : Bool) (old : ForgettingBench) → IsReadyEnd links old.managed → link < links
    → (printed : List ℕ) × (new : ForgettingBench) × ManagesBy off (Deactivates link) link old printed new × IsReadyEnd links new.managed
unfolding managed_as
deactivates_there links link true old ready is = (codes "refused 9\n", old, (refl, refl), ready)
deactivates_there links link false old ready is =
    let all = carries_there links link deactivated old.managed ready is in
    (_, managed_as all.1 all.0 link old, (all.0, all.2, refl, refl, refl, refl), all.3)

told_there : (links turn : ℕ) (does : ManagedState → List ℕ → ManagedState → Type 0) (old : ForgettingBench)
    → IsAtThere links does old.managed
    → (printed : List ℕ) × (new : ForgettingBench) × DoesTold turn does old printed new × IsReadyEnd links new.managed
told_there links turn does old there =
    let new : ForgettingBench = record {
      managed = there.1;
      plan = old.plan;
      watches = old.watches;
      streams = told_again old.streams there.1.bench.set.state;
    } in
    (moved turn old.streams there.1.bench.set.state ++ there.0, new, (there.0, there.2, refl, refl, refl, refl), there.3)

does_there : (links : ℕ) (asked : Asked) (old : ForgettingBench) → IsReadyEnd links old.managed
    → is_below links (link_in asked) ≡ true → IsDoneThere links asked old
does_there links (Asked.Command link command) old ready is =
    let refused = is_refused command link old.managed.bench in
    at_there links (CommandsBy refused link command) (commanded_by command link old.watches) old (command_there links link command refused old.managed ready (below link links is))
does_there links (Asked.Octets link octets) old ready is = exchanges_there links link octets old ready (below link links is)
does_there links (Asked.Hear link unit) old ready is =
    hears_there links link (over unit.times (unit_bits unit.octets)) old ready (below link links is)
does_there links (Asked.Flags link times) old ready is = hears_there links link (over times flag) old ready (below link links is)
does_there links (Asked.Bits link bits) old ready is =
    hears_there links link (over bits.times (bits_in bits.octets)) old ready (below link links is)
does_there links (Asked.Event event) old ready is =
    told_there links (turn_at (link_of_event event) old.managed) (Asks event) old (event_there links event old.managed ready)
does_there links (Asked.Look link) old ready is =
    at_there links (Looks link) old.watches old (look_there links link old.managed ready (below link links is))
does_there links (Asked.Activate link) old ready is =
    activates_there links link (is_on (slice_get old.managed.kept link)) old ready (below link links is)
does_there links (Asked.Deactivate link) old ready is =
    deactivates_there links link (not (is_on (slice_get old.managed.kept link))) old ready (below link links is)
does_there links (Asked.Checkpoint quiet) old ready is =
    at_there links (Checkpoints quiet) old.watches old (checkpoint_there quiet links old.managed ready)
does_there links (Asked.Forget every told) old ready is =
    (_, record { managed = old.managed; plan = from_now every told; watches = old.watches; streams = old.streams }, (refl, refl), ready)
does_there links (Asked.Events on) old ready is = (
  _,
  record { managed = old.managed; plan = old.plan; watches = old.watches; streams = streams_told on old.managed },
  (refl, refl),
  ready,
)
does_there links Asked.Counts old ready is = at_there links TellsCounts old.watches old (_, old.managed, (refl, refl), ready)
does_there links Asked.History old ready is = at_there links TellsHistory old.watches old (_, old.managed, (refl, refl), ready)

do_at_there : (there : Bool) (links n : ℕ) (asked : Asked) (old : ForgettingBench) → IsReadyEnd links old.managed
    → (there ≡ true → is_below links (link_in asked) ≡ true) → Has (MayDoAt there n asked old)
do_at_there false links n asked old ready is = (stops (Step n), refl, tt)
do_at_there true links n asked old ready is =
    let all = does_there links asked old ready (is refl) in (
      prints all.0 (Some (record { bench = all.1; early = Early.Over })),
      record { printed = all.0; new = all.1; does = all.2; outcome_is = refl },
      (links, all.3),
    )

do_there : (links n : ℕ) (line : List ℕ) (found : Option Asked) (old : ForgettingBench) → IsReadyEnd links old.managed
    → Has (MayDo n line found old)
do_there links n line None old ready = (stops (Text n (flaw_of line)), refl, tt)
do_there links n line (Some asked) old ready =
    do_at_there (is_below (length old.managed.bench.links) (link_in asked)) links n asked old ready
    (λ is. subst (λ k. is_below k (link_in asked) ≡ true) ready.bench.count is)

time_there : (links n : ℕ) (line : List ℕ) (told : Option LinkTimes) (old : ForgettingBench) → IsReadyEnd links old.managed → ForSome told AreSet
    → Has (MayTime n line told old)
time_there links n line None old ready set = do_there links n line (asked_of line) old ready
time_there links n line (Some told) old ready set = sets_there links told old ready (set told refl)

follow_there : (links n : ℕ) (line : List ℕ) (told : Option Lengths) (times : Option LinkTimes) (old : ForgettingBench)
    → IsReadyEnd links old.managed → ForSome told Run → ForSome times AreSet → Has (MayFollow n line told times old)
follow_there links n line None times old ready run set = time_there links n line times old ready set
follow_there links n line (Some told) times old ready run set =
    opens_there old.managed.bench.set.base.state.settings told Early.Times ready.bench.settings ready.bench.narrow (run told refl)

line_there : (n : ℕ) (state : Option EndState) (line : List ℕ) → IsGoing state → Has (MayRead n state line)
line_there n None line going = open_there n line (first_line line) (first_for line)
line_there n (Some end) line going =
    follow_there going.0 n line (told_lengths end.early line) (told_times end.early line) end.bench going.1 (told_for end.early line)
    (times_for end.early line)

-- THE LINES, one after another.
may_be_there : (long remark : Bool) (n : ℕ) (state : Option EndState) (line : List ℕ) → IsGoing state
    → Has (MayBe long remark terminal_rules n state line)
may_be_there true remark n state line going = (stops (Text n Long), refl, tt)
may_be_there false true n state line going = (prints [] state, refl, going)
may_be_there false false n state line going = line_there n state line going

abbrev HasLines : ℕ → Option EndState → List (List ℕ) → Type 0
HasLines n state lines = (text : Printed TerminalFault) × IsTextOfLines terminal_rules n state lines text

line_then : (n : ℕ) (state : Option EndState) (line : List ℕ) (lines : List (List ℕ)) (outcome : TerminalOutcome)
    → MayBe (nat_lt 4096 (length line)) (is_remark line) terminal_rules n state line outcome → GoesWell outcome
    → ((next : Option EndState) → IsGoing next → HasLines (suc n) next lines) → HasLines n state (line ∷ lines)
line_then n state line lines (stops fault) may well later =
    (record { printed = []; fault = Some fault }, (stops fault, may, refl))
line_then n state line lines (prints printed next) may well later =
    let rest = later next well in (behind printed rest.0, (prints printed next, may, (rest.0, rest.1, refl)))

lines_there : (n : ℕ) (state : Option EndState) (lines : List (List ℕ)) → IsGoing state → HasLines n state lines
lines_there n state [] going = (_, refl)
lines_there n state (line ∷ lines) going =
    let one = may_be_there (nat_lt 4096 (length line)) (is_remark line) n state line going in
    line_then n state line lines one.0 one.1 one.2 (λ next well. lines_there (suc n) next lines well)

pub text_there : HasText
text_there input = lines_there 1 None (lines_of input) tt
