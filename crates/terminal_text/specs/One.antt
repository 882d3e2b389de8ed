-- LAW: a line of `terminal` has one outcome, since what comes on a line decides what the turns do (term_bench).
use Rattle.std.specs.Prelude.{◌≡◌, ◌<◌, ℕ, Bool, true, false, not, List, [], ◌∷◌, ◌++◌, length, map, Option, Some, None, codes, decimal, slice_get, slice_set}
use Rattle.std.proofs.Common.{refl, ap, sym, subst, ◌∙◌}
use Rattle.std.proofs.Props.{props}
use Rattle.text_entries.specs.Texts.{answer_text}
use Rattle.l3_link.specs.declared.times.Times.{Times}
use Rattle.term_bench.proofs.OneLemmas.{one_there, same_bench, same_set}
use Rattle.term_managed.proofs.HearingLemmas.{carries_one, one_hearing, same_end}
use Rattle.term_managed.specs.Ends.{ManagedState, is_on, seen_at}
use Rattle.term_managed.specs.Turns.{Activates, Deactivates, HeardTurn, HearsPiece}
use Rattle.term_managed.specs.declared.turn.Deed.{Deed}
use Rattle.l3_link.specs.Table.{activated, deactivated}
use Rattle.term_bench.specs.Ends.{AtLink, phase_of, told_at}
use Rattle.text_base.specs.Figures.{hex_text}
use Rattle.l2_bits.specs.Flags.{flag}
use Rattle.l2_bits.specs.LineBits.{bits_of}
use Rattle.l2_units.specs.declared.profile.Profile.{Profile}
use Rattle.l2_units.specs.declared.profile.Profile.TheVariants.{Narrow, Wide}
use Rattle.text_forms.specs.Opening.{first_line}
use Rattle.text_forms.specs.declared.opened.Values.{Values}
use Rattle.set_events.specs.declared.answer.Answer.{Answer}
use Rattle.set_events.specs.declared.event.Event.{Event}
use Rattle.set_events.specs.declared.history.Entry.{Entry}
use Rattle.set_model.specs.State.{Settings}
use Rattle.term_model.specs.declared.command.Command.{Command}
use Rattle.term_model.specs.declared.timers.Timers.{Timers}
use Rattle.text_forms.specs.Times.{LinkTimes, times_of}
use Rattle.text_forms.specs.declared.early.Early.{Early}
use Rattle.text_forms.specs.Asking.{asked_of}
use Rattle.text_forms.specs.Timers.{Lengths, timers_of}
use Rattle.text_forms.specs.declared.asked.Asked.{Asked}
use Rattle.terminal_text.specs.Answers.{Asks, Checkpoints, CommandsBy, Does, DoesAt, DoesTold, TellsCounts, TellsHistory, Exchanges, HearsLine, Looks, ManagesBy, asker, bits_in, is_below, is_refused, link_in, link_of_event, look_text, managed_text, turn_at, one_by_one, unit_bits}
use Rattle.terminal_text.specs.Forgetting.{HearsEach, HearsOne, left_by, shown_of, unasked}
use Rattle.terminal_text.specs.Showing.{Shown, over, shown, turns_among, without_unit}
use Rattle.terminal_text.specs.declared.forgetting.Forgetting.{Forgetting}
use Rattle.terminal_text.specs.declared.forgetting.ForgettingBench.{ForgettingBench}
use Rattle.terminal_text.specs.declared.stopping.Watch.{Watch}
use Rattle.terminal_text.specs.Moving.{moved, told_again}
use Rattle.terminal_text.specs.Stopping.{commanded_by, managed_by}
use Rattle.std.specs.Option.{option_to_list}
use Rattle.terminal_text.specs.Text.{IsDone, MayDo, MayDoAt, MayFollow, MayOpen, MayOpenAs, MayTime, Opens, SetsTimes, TerminalOutcome, opened_bench, opened_end, settings_of, timed, told_lengths, told_times, terminal_rules, usual}
use Rattle.text_lines.specs.Lines.{prints}
use Rattle.text_lines.specs.Talks.{HaveOneOutcome}

-- The timers of some lengths are one.

of_lengths : (l : Lengths) → 0 < l.t1 → 0 < l.t2 → 0 < l.t3 → 0 < l.t5 → 0 < l.t6 → 0 < l.t7 → Timers
of_lengths l p1 p2 p3 p5 p6 p7 = record {
  t1 = l.t1;
  t2 = l.t2;
  t3 = l.t3;
  t5 = l.t5;
  t6 = l.t6;
  t7 = l.t7;
  t1_set = p1;
  t2_set = p2;
  t3_set = p3;
  t5_set = p5;
  t6_set = p6;
  t7_set = p7;
}

set_once : (n : ℕ) (p q : 0 < n) → p ≡ q
set_once n p q = Prim.hlevel props

same_lengths : (l : Lengths) (p1 q1 : 0 < l.t1) (p2 q2 : 0 < l.t2) (p3 q3 : 0 < l.t3) (p5 q5 : 0 < l.t5) (p6 q6 : 0 < l.t6)
    (p7 q7 : 0 < l.t7) → of_lengths l p1 p2 p3 p5 p6 p7 ≡ of_lengths l q1 q2 q3 q5 q6 q7
same_lengths l p1 q1 p2 q2 p3 q3 p5 q5 p6 q6 p7 q7 =
    ap (λ x. of_lengths l x p2 p3 p5 p6 p7) (set_once l.t1 p1 q1) ∙ ap (λ x. of_lengths l q1 x p3 p5 p6 p7) (set_once l.t2 p2 q2)
    ∙ ap (λ x. of_lengths l q1 q2 x p5 p6 p7) (set_once l.t3 p3 q3) ∙ ap (λ x. of_lengths l q1 q2 q3 x p6 p7) (set_once l.t5 p5 q5)
    ∙ ap (λ x. of_lengths l q1 q2 q3 q5 x p7) (set_once l.t6 p6 q6) ∙ ap (λ x. of_lengths l q1 q2 q3 q5 q6 x) (set_once l.t7 p7 q7)

abbrev AreAlike : Lengths → Lengths → Type 0
AreAlike l m =
    (p1 : 0 < l.t1) (q1 : 0 < m.t1) (p2 : 0 < l.t2) (q2 : 0 < m.t2) (p3 : 0 < l.t3) (q3 : 0 < m.t3) (p5 : 0 < l.t5) (q5 : 0 < m.t5)
    (p6 : 0 < l.t6) (q6 : 0 < m.t6) (p7 : 0 < l.t7) (q7 : 0 < m.t7) → of_lengths l p1 p2 p3 p5 p6 p7 ≡ of_lengths m q1 q2 q3 q5 q6 q7

are_alike : (l m : Lengths) → l ≡ m → AreAlike l m
are_alike l m e = subst (λ (n : Lengths). AreAlike l n) e (same_lengths l)

pub one_timers : (a b : Timers) → timers_of a ≡ timers_of b → a ≡ b
unfolding of_lengths
one_timers a b e =
    are_alike (timers_of a) (timers_of b) e a.t1_set b.t1_set a.t2_set b.t2_set a.t3_set b.t3_set a.t5_set b.t5_set a.t6_set b.t6_set
    a.t7_set b.t7_set

-- The times of level 3 of some lengths are one.

of_times : (l : LinkTimes) → 0 < l.t1 → 0 < l.t2 → 0 < l.t4 → 0 < l.t5 → 0 < l.t17 → 0 < l.k1 → 0 < l.k2 → Times
of_times l p1 p2 p4 p5 p17 q1 q2 = record {
  t1 = l.t1;
  t2 = l.t2;
  t4 = l.t4;
  t5 = l.t5;
  t17 = l.t17;
  k1 = l.k1;
  k2 = l.k2;
  t1_set = p1;
  t2_set = p2;
  t4_set = p4;
  t5_set = p5;
  t17_set = p17;
  k1_set = q1;
  k2_set = q2;
}

same_times : (l : LinkTimes) (p1 q1 : 0 < l.t1) (p2 q2 : 0 < l.t2) (p4 q4 : 0 < l.t4) (p5 q5 : 0 < l.t5) (p17 q17 : 0 < l.t17)
    (r1 s1 : 0 < l.k1) (r2 s2 : 0 < l.k2) → of_times l p1 p2 p4 p5 p17 r1 r2 ≡ of_times l q1 q2 q4 q5 q17 s1 s2
same_times l p1 q1 p2 q2 p4 q4 p5 q5 p17 q17 r1 s1 r2 s2 =
    ap (λ x. of_times l x p2 p4 p5 p17 r1 r2) (set_once l.t1 p1 q1) ∙ ap (λ x. of_times l q1 x p4 p5 p17 r1 r2) (set_once l.t2 p2 q2)
    ∙ ap (λ x. of_times l q1 q2 x p5 p17 r1 r2) (set_once l.t4 p4 q4) ∙ ap (λ x. of_times l q1 q2 q4 x p17 r1 r2) (set_once l.t5 p5 q5)
    ∙ ap (λ x. of_times l q1 q2 q4 q5 x r1 r2) (set_once l.t17 p17 q17) ∙ ap (λ x. of_times l q1 q2 q4 q5 q17 x r2) (set_once l.k1 r1 s1)
    ∙ ap (λ x. of_times l q1 q2 q4 q5 q17 s1 x) (set_once l.k2 r2 s2)

abbrev AreAlikeTimes : LinkTimes → LinkTimes → Type 0
AreAlikeTimes l m =
    (p1 : 0 < l.t1) (q1 : 0 < m.t1) (p2 : 0 < l.t2) (q2 : 0 < m.t2) (p4 : 0 < l.t4) (q4 : 0 < m.t4) (p5 : 0 < l.t5) (q5 : 0 < m.t5)
    (p17 : 0 < l.t17) (q17 : 0 < m.t17) (r1 : 0 < l.k1) (s1 : 0 < m.k1) (r2 : 0 < l.k2) (s2 : 0 < m.k2)
    → of_times l p1 p2 p4 p5 p17 r1 r2 ≡ of_times m q1 q2 q4 q5 q17 s1 s2

are_alike_times : (l m : LinkTimes) → l ≡ m → AreAlikeTimes l m
are_alike_times l m e = subst (λ (n : LinkTimes). AreAlikeTimes l n) e (same_times l)

pub one_times : (a b : Times) → times_of a ≡ times_of b → a ≡ b
unfolding of_times
one_times a b e =
    are_alike_times (times_of a) (times_of b) e a.t1_set b.t1_set a.t2_set b.t2_set a.t4_set b.t4_set a.t5_set b.t5_set a.t17_set b.t17_set
    a.k1_set b.k1_set a.k2_set b.k2_set

-- What is asked for.

commands_one : (refused : Bool) (link : ℕ) (command : Command) (old : ManagedState) (p q : List ℕ) (x y : ManagedState)
    → CommandsBy refused link command old p x → CommandsBy refused link command old q y → (p ≡ q) × (x ≡ y)
commands_one true link command old p q x y a b = (a.0 ∙ sym b.0, a.1 ∙ sym b.1)
commands_one false link command old p q x y a b =
    let was = one_there old.bench.links link a.1.was b.1.was a.1.is_at b.1.is_at in (
      a.0 ∙ sym b.0,
      same_end x y
          (same_bench x.bench y.bench (a.1.set_is ∙ sym b.1.set_is)
          (a.1.links_are ∙ ap (λ (at : AtLink). slice_set old.bench.links link (told_at command at)) was ∙ sym b.1.links_are))
          (a.2 ∙ sym b.2),
    )

driven : ManagedState → Forgetting → List Watch → Option (List ℕ) → ForgettingBench
driven managed plan watches streams = record { managed = managed; plan = plan; watches = watches; streams = streams }

same_driven : (a b : ForgettingBench) → a.managed ≡ b.managed → a.plan ≡ b.plan → a.watches ≡ b.watches → a.streams ≡ b.streams → a ≡ b
unfolding driven
same_driven a b managed plan watches streams =
    ap (λ (m : ManagedState). driven m a.plan a.watches a.streams) managed
    ∙ ap (λ (p : Forgetting). driven b.managed p a.watches a.streams) plan
    ∙ ap (λ (w : List Watch). driven b.managed b.plan w a.streams) watches
    ∙ ap (λ (t : Option (List ℕ)). driven b.managed b.plan b.watches t) streams

-- What comes piece by piece.

same_list : (a b : Option HeardTurn) → option_to_list a ++ [] ≡ option_to_list b ++ [] → a ≡ b
same_list None None h = refl
same_list None (Some b) h = absurd (cc h)
same_list (Some a) None h = absurd (cc h)
same_list (Some a) (Some b) h = let same : a ≡ b = cc in ap (λ (t : HeardTurn). Some t) same

piece_one : (link : ℕ) (bits : List Bool) (old : ManagedState) (a b : Option HeardTurn) (x y : ManagedState)
    → HearsPiece link bits old a x → HearsPiece link bits old b y → (a ≡ b) × (x ≡ y)
piece_one link bits old a b x y f g =
    let one = one_hearing link (bits ∷ []) old (option_to_list a ++ []) (option_to_list b ++ []) x y
    (x, a, [], f, (refl, refl), refl) (y, b, [], g, (refl, refl), refl) in (same_list a b one.0, one.1)

hears_each_one : (link : ℕ) (bits : List Bool) (old : ForgettingBench) (p q : List Shown) (x y : ForgettingBench)
    → HearsOne link bits old p x → HearsOne link bits old q y → (p ≡ q) × (x ≡ y)
hears_each_one link bits old p q x y a b =
    let one = piece_one link bits old.managed a.one b.one a.between b.between a.hears b.hears in (
      a.items_are ∙ ap (λ (h : Option HeardTurn). shown_of link old h a.between) one.0
          ∙ ap (λ (m : ManagedState). shown_of link old b.one m) one.1 ∙ sym b.items_are,
      a.new_is ∙ ap (λ (h : Option HeardTurn). left_by link old h a.between) one.0
          ∙ ap (λ (m : ManagedState). left_by link old b.one m) one.1 ∙ sym b.new_is,
    )

pub one_driven : (link : ℕ) (pieces : List (List Bool)) (old : ForgettingBench) (p q : List Shown) (x y : ForgettingBench)
    → HearsEach link pieces old p x → HearsEach link pieces old q y → (p ≡ q) × (x ≡ y)
one_driven link [] old p q x y a b = (a.0 ∙ sym b.0, a.1 ∙ sym b.1)
one_driven link (bits ∷ pieces) old p q x y a b =
    let one = hears_each_one link bits old a.1 b.1 a.0 b.0 a.3 b.3 in
    let rest = one_driven link pieces b.0 a.2 b.2 x y (subst (λ (s : ForgettingBench). HearsEach link pieces s a.2 x) one.1 a.4) b.4 in (
      a.5 ∙ ap (λ (f : List Shown). f ++ a.2) one.0 ∙ ap (λ (l : List Shown). b.1 ++ l) rest.0 ∙ sym b.5,
      rest.1,
    )

exchanges_one : (link : ℕ) (octets : List ℕ) (old : ForgettingBench) (p q : List ℕ) (x y : ForgettingBench)
    → Exchanges link octets old p x → Exchanges link octets old q y → (p ≡ q) × (x ≡ y)
exchanges_one link octets old p q x y a b =
    let one = one_driven link (map (bits_of 8) octets) old a.items b.items x y a.hears b.hears in
    (a.printed_is ∙ ap (λ (items : List Shown). printed items) one.0 ∙ sym b.printed_is, one.1)
  where
    printed : List Shown → List ℕ
    printed items = shown link (map without_unit items)
        ++ (codes "octets " ++ (decimal link ++ (codes " "
        ++ (hex_text (map (λ h. h.turn.turn.put) (turns_among items)) ++ codes "\n"))))

hears_one : (link : ℕ) (bits : List Bool) (old : ForgettingBench) (p q : List ℕ) (x y : ForgettingBench)
    → HearsLine link bits old p x → HearsLine link bits old q y → (p ≡ q) × (x ≡ y)
hears_one link bits old p q x y a b =
    let one = one_driven link (one_by_one bits) old a.items b.items x y a.hears b.hears in
    (a.printed_is ∙ ap (λ (items : List Shown). printed items) one.0 ∙ sym b.printed_is, one.1)
  where
    printed : List Shown → List ℕ
    printed items = shown link items ++ (codes "turns " ++ (decimal (length (turns_among items)) ++ codes "\n"))

asks_one : (event : Event) (old : ManagedState) (p q : List ℕ) (x y : ManagedState) → Asks event old p x → Asks event old q y
    → (p ≡ q) × (x ≡ y)
asks_one event old p q x y a b =
    let answers : a.answer ≡ b.answer = a.step.answer_is ∙ sym b.step.answer_is in (
      a.printed_is ∙ ap (λ (answer : Answer). answer_text Narrow answer) answers ∙ sym b.printed_is,
      same_end x y
          (same_bench x.bench y.bench
          (same_set x.bench.set y.bench.set (a.step.base_is ∙ sym b.step.base_is) (a.step.state_is ∙ sym b.step.state_is)
          (a.step.history_is ∙ ap (λ (answer : Answer). old.bench.set.history ++ entry answer ∷ []) answers ∙ sym b.step.history_is))
          (a.links_are ∙ sym b.links_are))
          (a.kept_are ∙ sym b.kept_are),
    )
  where
    entry : Answer → Entry
    entry answer = record { who = asker event; event = event; answer = answer }

looks_one : (link : ℕ) (old : ManagedState) (p q : List ℕ) (x y : ManagedState) → Looks link old p x → Looks link old q y
    → (p ≡ q) × (x ≡ y)
looks_one link old p q x y a b = (
  a.printed_is ∙ ap (λ (at : AtLink). look_text link (phase_of link old.bench.set.state) at)
      (one_there old.bench.links link a.at b.at a.is_at b.is_at)
      ∙ sym b.printed_is,
  a.new_is ∙ sym b.new_is,
)

-- the same was asked, and the same end is left by it
IsAfter : ℕ → ForgettingBench → List Deed → List ℕ → ForgettingBench → Type 0
IsAfter link old deeds printed new =
    (printed ≡ managed_text link old deeds new.managed) × (new.plan ≡ old.plan) × (new.watches ≡ managed_by deeds link old.watches)
    × (new.streams ≡ told_again old.streams new.managed.bench.set.state)

managed_one : (link : ℕ) (old : ForgettingBench) (deeds others : List Deed) (p q : List ℕ) (x y : ForgettingBench) → deeds ≡ others
    → x.managed ≡ y.managed → IsAfter link old deeds p x → IsAfter link old others q y → (p ≡ q) × (x ≡ y)
unfolding IsAfter
managed_one link old deeds others p q x y same managed a b = (
  a.0 ∙ ap (λ (ds : List Deed). managed_text link old ds x.managed) same
      ∙ ap (λ (m : ManagedState). managed_text link old others m) managed ∙ sym b.0,
  same_driven x y managed (a.1 ∙ sym b.1) (a.2 ∙ ap (λ (ds : List Deed). managed_by ds link old.watches) same ∙ sym b.2)
      (a.3 ∙ ap (λ (m : ManagedState). told_again old.streams m.bench.set.state) managed ∙ sym b.3),
)

activates_one : (on : Bool) (link : ℕ) (old : ForgettingBench) (p q : List ℕ) (x y : ForgettingBench)
    → ManagesBy on (Activates link) link old p x → ManagesBy on (Activates link) link old q y → (p ≡ q) × (x ≡ y)
unfolding IsAfter
activates_one true link old p q x y a b = (a.0 ∙ sym b.0, a.1 ∙ sym b.1)
activates_one false link old p q x y a b =
    let one = carries_one link (activated (seen_at link old.managed)) old.managed a.0 b.0 x.managed y.managed a.1 b.1 in
    managed_one link old a.0 b.0 p q x y one.0 one.1 (a.2, a.3, a.4, a.5) (b.2, b.3, b.4, b.5)

deactivates_one : (off : Bool) (link : ℕ) (old : ForgettingBench) (p q : List ℕ) (x y : ForgettingBench)
    → ManagesBy off (Deactivates link) link old p x → ManagesBy off (Deactivates link) link old q y → (p ≡ q) × (x ≡ y)
unfolding IsAfter
deactivates_one true link old p q x y a b = (a.0 ∙ sym b.0, a.1 ∙ sym b.1)
deactivates_one false link old p q x y a b =
    let one = carries_one link deactivated old.managed a.0 b.0 x.managed y.managed a.1 b.1 in
    managed_one link old a.0 b.0 p q x y one.0 one.1 (a.2, a.3, a.4, a.5) (b.2, b.3, b.4, b.5)

checkpoints_one : (quiet : Bool) (old : ManagedState) (p q : List ℕ) (x y : ManagedState) → Checkpoints quiet old p x
    → Checkpoints quiet old q y → (p ≡ q) × (x ≡ y)
checkpoints_one quiet old p q x y a b = (a.0 ∙ sym b.0, a.1 ∙ sym b.1)

history_one : (old : ManagedState) (p q : List ℕ) (x y : ManagedState) → TellsHistory old p x → TellsHistory old q y → (p ≡ q) × (x ≡ y)
history_one old p q x y a b = (a.0 ∙ sym b.0, a.1 ∙ sym b.1)

counts_one : (old : ManagedState) (p q : List ℕ) (x y : ManagedState) → TellsCounts old p x → TellsCounts old q y → (p ≡ q) × (x ≡ y)
counts_one old p q x y a b = (a.0 ∙ sym b.0, a.1 ∙ sym b.1)

-- at the end itself
at_one : (does : ManagedState → List ℕ → ManagedState → Type 0) (watches : List Watch) (old : ForgettingBench) (p q : List ℕ)
    (x y : ForgettingBench) → ((u v : ManagedState) → does old.managed p u → does old.managed q v → (p ≡ q) × (u ≡ v))
    → DoesAt does watches old p x → DoesAt does watches old q y → (p ≡ q) × (x ≡ y)
at_one does watches old p q x y one a b =
    let both = one x.managed y.managed a.0 b.0 in (both.0, same_driven x y both.1 (a.1 ∙ sym b.1) (a.2 ∙ sym b.2) (a.3 ∙ sym b.3))

-- with where streams run told before
told_one : (turn : ℕ) (does : ManagedState → List ℕ → ManagedState → Type 0) (old : ForgettingBench) (p q : List ℕ)
    (x y : ForgettingBench) → ((a b : List ℕ) (u v : ManagedState) → does old.managed a u → does old.managed b v → (a ≡ b) × (u ≡ v))
    → DoesTold turn does old p x → DoesTold turn does old q y → (p ≡ q) × (x ≡ y)
told_one turn does old p q x y one a b =
    let both = one a.0 b.0 x.managed y.managed a.1 b.1 in (
      a.5 ∙ ap (λ (own : List ℕ). moved turn old.streams x.managed.bench.set.state ++ own) both.0
          ∙ ap (λ (m : ManagedState). moved turn old.streams m.bench.set.state ++ b.0) both.1 ∙ sym b.5,
      same_driven x y both.1 (a.2 ∙ sym b.2) (a.3 ∙ sym b.3)
          (a.4 ∙ ap (λ (m : ManagedState). told_again old.streams m.bench.set.state) both.1 ∙ sym b.4),
    )

does_one : (asked : Asked) (old : ForgettingBench) (p q : List ℕ) (x y : ForgettingBench) → Does asked old p x → Does asked old q y
    → (p ≡ q) × (x ≡ y)
does_one (Asked.Command link command) old p q x y a b =
    let m = old.managed in
    let refused = is_refused command link m.bench in
    at_one (CommandsBy refused link command) (commanded_by command link old.watches) old p q x y (λ u v. commands_one refused link command m p q u v) a b
does_one (Asked.Octets link octets) old p q x y a b = exchanges_one link octets old p q x y a b
does_one (Asked.Hear link unit) old p q x y a b = hears_one link (over unit.times (unit_bits unit.octets)) old p q x y a b
does_one (Asked.Flags link times) old p q x y a b = hears_one link (over times flag) old p q x y a b
does_one (Asked.Bits link bits) old p q x y a b = hears_one link (over bits.times (bits_in bits.octets)) old p q x y a b
does_one (Asked.Event event) old p q x y a b =
    told_one (turn_at (link_of_event event) old.managed) (Asks event) old p q x y (λ c d u v. asks_one event old.managed c d u v) a b
does_one (Asked.Look link) old p q x y a b = at_one (Looks link) old.watches old p q x y (λ u v. looks_one link old.managed p q u v) a b
does_one (Asked.Activate link) old p q x y a b =
    activates_one (is_on (slice_get old.managed.kept link)) link old p q x y a b
does_one (Asked.Deactivate link) old p q x y a b =
    deactivates_one (not (is_on (slice_get old.managed.kept link))) link old p q x y a b
does_one (Asked.Checkpoint quiet) old p q x y a b =
    at_one (Checkpoints quiet) old.watches old p q x y (λ u v. checkpoints_one quiet old.managed p q u v) a b
does_one (Asked.Forget every told) old p q x y a b = (a.0 ∙ sym b.0, a.1 ∙ sym b.1)
does_one (Asked.Events on) old p q x y a b = (a.0 ∙ sym b.0, a.1 ∙ sym b.1)
does_one Asked.Counts old p q x y a b = at_one TellsCounts old.watches old p q x y (λ u v. counts_one old.managed p q u v) a b
does_one Asked.History old p q x y a b = at_one TellsHistory old.watches old p q x y (λ u v. history_one old.managed p q u v) a b

-- Lines.

opens_one : (settings : Settings) (told : Lengths) (early : Early) (a b : TerminalOutcome) → Opens settings told early a
    → Opens settings told early b → a ≡ b
opens_one settings told early a b x y =
    x.outcome_is
    ∙ ap (λ (lengths : Timers). opened lengths x.times) (one_timers x.lengths y.lengths (x.lengths_are ∙ sym y.lengths_are))
    ∙ ap (λ (times : Times). opened y.lengths times) (one_times x.times y.times (x.times_are ∙ sym y.times_are))
    ∙ sym y.outcome_is
  where
    opened : Timers → Times → TerminalOutcome
    opened lengths times =
        prints [] (Some (record { bench = unasked (opened_end (opened_bench settings lengths) settings.links times); early = early }))

times_one : (told : LinkTimes) (old : ForgettingBench) (a b : TerminalOutcome) → SetsTimes told old a → SetsTimes told old b → a ≡ b
times_one told old a b x y =
    x.outcome_is
    ∙ ap (λ (times : Times). prints [] (Some (record { bench = timed times old; early = Early.Over })))
    (one_times x.times y.times (x.times_are ∙ sym y.times_are))
    ∙ sym y.outcome_is

open_as_one : (profile : Profile) (n : ℕ) (line : List ℕ) (v : Values) (a b : TerminalOutcome) → MayOpenAs profile n line v a
    → MayOpenAs profile n line v b → a ≡ b
open_as_one Narrow n line v a b x y = opens_one (settings_of v) usual Early.Both a b x y
open_as_one Wide n line v a b x y = x ∙ sym y

open_one : (n : ℕ) (line : List ℕ) (found : Option Values) (a b : TerminalOutcome) → MayOpen n line found a → MayOpen n line found b
    → a ≡ b
open_one n line None a b x y = x ∙ sym y
open_one n line (Some v) a b x y = open_as_one v.profile n line v a b x y

is_done_one : (asked : Asked) (old : ForgettingBench) (a b : TerminalOutcome) → IsDone asked old a → IsDone asked old b → a ≡ b
is_done_one asked old a b x y =
    let one = does_one asked old x.printed y.printed x.new y.new x.does y.does in
    x.outcome_is ∙ ap (λ (printed : List ℕ). prints printed (Some (record { bench = x.new; early = Early.Over }))) one.0
    ∙ ap (λ (new : ForgettingBench). prints y.printed (Some (record { bench = new; early = Early.Over }))) one.1 ∙ sym y.outcome_is

do_at_one : (there : Bool) (n : ℕ) (asked : Asked) (old : ForgettingBench) (a b : TerminalOutcome) → MayDoAt there n asked old a
    → MayDoAt there n asked old b → a ≡ b
do_at_one false n asked old a b x y = x ∙ sym y
do_at_one true n asked old a b x y = is_done_one asked old a b x y

do_one : (n : ℕ) (line : List ℕ) (found : Option Asked) (old : ForgettingBench) (a b : TerminalOutcome) → MayDo n line found old a
    → MayDo n line found old b → a ≡ b
do_one n line None old a b x y = x ∙ sym y
do_one n line (Some asked) old a b x y = do_at_one (is_below (length old.managed.bench.links) (link_in asked)) n asked old a b x y

time_one : (n : ℕ) (line : List ℕ) (told : Option LinkTimes) (old : ForgettingBench) (a b : TerminalOutcome) → MayTime n line told old a
    → MayTime n line told old b → a ≡ b
time_one n line None old a b x y = do_one n line (asked_of line) old a b x y
time_one n line (Some told) old a b x y = times_one told old a b x y

follow_one : (n : ℕ) (line : List ℕ) (told : Option Lengths) (times : Option LinkTimes) (old : ForgettingBench) (a b : TerminalOutcome)
    → MayFollow n line told times old a → MayFollow n line told times old b → a ≡ b
follow_one n line None times old a b x y = time_one n line times old a b x y
follow_one n line (Some told) times old a b x y = opens_one old.managed.bench.set.base.state.settings told Early.Times a b x y

pub one_outcome : HaveOneOutcome terminal_rules
one_outcome n None line a b x y = open_one n line (first_line line) a b x y
one_outcome n (Some end) line a b x y = follow_one n line (told_lengths end.early line) (told_times end.early line) end.bench a b x y
