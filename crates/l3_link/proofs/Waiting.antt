-- T1 and T2: how many turns a link that was left waits at least.
use Rattle.std.proofs.Common.{◌≡◌, ◌+◌, ◌-◌, ◌≤◌, ◌⊎◌, inl, inr, ℕ, Bool, true, false, not, ◌&&◌, ◌||◌, Option, Some, None, List, [], ◌∷◌, ◌++◌, if◌then◌else◌, ap, refl, subst, sym, ◌∙◌, arith}
use Rattle.std.proofs.lemmas.Bool.Decides.{nat_tests}
use Rattle.std.specs.List.{list_any}
use Rattle.std.specs.Bool.{⊤}
use Rattle.l3_link.specs.Laws.{TimedAfterWait}
use Rattle.l3_link.specs.Lengths.{is_over, one_less, runs}
use Rattle.l3_link.specs.Management.{Management, is_left, is_off, is_paused, is_rest, is_settled, is_up}
use Rattle.l3_link.specs.Runs.{Input, activate, deactivate, turn, answer, after, ends_left, is_timed, run, step, turns}
use Rattle.l3_link.specs.Table.{Row, acted, activated, answered, answers, asking, at_work, behind, came_up, carrying, changeover, count_down, deactivated, due, gone_out, in_turn, k1_ends, less, looking, outage, p_anew, p_starts, p_stops, passed, risen, rising, seeing, silent, t17_stops, t1_anew, t1_starts, t1_t2_stop, t2_starts, testing, turned, with_clocks}
use Rattle.l3_link.specs.declared.clocks.Clocks.{Clocks}
use Rattle.l3_link.specs.declared.management.Awaited.{Awaited}
use Rattle.l3_link.specs.declared.management.State.{State}
use Rattle.l3_link.specs.declared.signals.Ask.{Ask}
use Rattle.l3_link.specs.declared.signals.Seen.{Seen}
use Rattle.l3_link.specs.declared.times.Times.{Times}
use Rattle.l3_link.proofs.Attended.{Holds, On, answers_on, awaits, in_turn_on, run_holds, turned_on}
use Rattle.l3_link.proofs.Settled.{in_turn_told}
use Rattle.l3_link.proofs.Steps.{choose, acted_by, counted_by, seen_by}

-- a timer that runs has at least so many turns left
abbrev AtLeast : ℕ → Option ℕ → Type 0
AtLeast n None = ⊤
AtLeast n (Some k) = n ≤ k

-- T1 or T2 runs, and neither ends before so many turns
record Both (n : ℕ) (c : Clocks) : Type 0 where
  pub t1 : AtLeast n c.t1
  pub t2 : AtLeast n c.t2
  pub one : (runs c.t1 || runs c.t2) ≡ true

-- a link that was left waits for so many turns more
record Waits (n : ℕ) (m : Management) : Type 0 where
  pub on : is_off m.state ≡ false
  pub left : is_left m.seen.phase ≡ true
  pub clocks : Both n m.clocks
  pub idle : awaits m.awaited ≡ false

-- the same, or no turn more is to be waited for
abbrev MayWait : ℕ → Management → Type 0
MayWait n m = (n ≡ 0) ⊎ Waits n m

record RowWaits (n : ℕ) (r : Row) : Type 0 where
  pub next : MayWait n r.next
  pub told : is_timed r.asked ≡ true → n ≡ 0

over_least : (n : ℕ) (c : Option ℕ) → is_over c ≡ true → AtLeast n c → n ≡ 0
over_least n None e h = absurd cc
over_least n (Some k) e h = grind (arith, nat_tests)

less_least : (n : ℕ) (c : Option ℕ) → AtLeast n c → AtLeast (n - 1) (one_less c)
less_least n None h = tt
less_least n (Some k) h = omega arith

runs_less : (c : Option ℕ) → runs (one_less c) ≡ runs c
runs_less None = refl
runs_less (Some k) = refl

or_true : (b : Bool) → (b || true) ≡ true
or_true true = refl
or_true false = refl

waiting : (n : ℕ) (m : Management) (r : Row) → Waits n r.next → is_timed r.asked ≡ false → RowWaits n r
waiting n m r h f = record { next = inr h; told = λ e. absurd cc }

same : (n : ℕ) (m k : Management) → Waits n m → is_off k.state ≡ false → k.seen ≡ m.seen → k.clocks.t1 ≡ m.clocks.t1 → k.clocks.t2 ≡ m.clocks.t2 → k.awaited ≡ m.awaited → Waits n k
same n m k h o s a b i = record {
  on = o;
  left = rw s h.left;
  clocks = record { t1 = rw a h.clocks.t1; t2 = rw b h.clocks.t2; one = rw a (rw b h.clocks.one) };
  idle = rw i h.idle;
}

k1_waits : (n : ℕ) (st : State) (m : Management) → Waits n m → RowWaits n (k1_ends st m)
k1_waits n State.Trial1 m h = waiting n m _ (same n m _ h refl refl refl refl refl) refl
k1_waits n State.Again1 m h = waiting n m _ (same n m _ h refl refl refl refl refl) refl
k1_waits n State.Off m h = waiting n m _ (same n m _ h refl refl refl refl refl) refl
k1_waits n State.Rest m h = waiting n m _ (same n m _ h refl refl refl refl refl) refl
k1_waits n State.Rising m h = waiting n m _ (same n m _ h refl refl refl refl refl) refl
k1_waits n State.Trial2 m h = waiting n m _ (same n m _ h refl refl refl refl refl) refl
k1_waits n State.Carry m h = waiting n m _ (same n m _ h refl refl refl refl refl) refl
k1_waits n State.Again2 m h = waiting n m _ (same n m _ h refl refl refl refl refl) refl

risen_waits : (n : ℕ) (m : Management) → Waits n m → RowWaits n (risen m)
risen_waits n m h =
    choose (RowWaits n) ((is_rest m.state && not (runs m.clocks.t17)) && is_settled m.seen.phase) (rising m) (silent m)
    (λ e. waiting n m (rising m) (same n m _ h refl refl refl refl refl) refl)
    (λ e. waiting n m (silent m) h refl)

acted_waits : (n : ℕ) (m : Management) → Waits n m → RowWaits n (acted m)
acted_waits n m h = acted_by (RowWaits n) m
    (λ e. let z = over_least n m.clocks.t1 e h.clocks.t1 in record { next = inl z; told = λ q. z })
    (λ e. let z = over_least n m.clocks.t2 e h.clocks.t2 in record { next = inl z; told = λ q. z })
    (waiting n m _ (same n m _ h h.on refl refl refl refl) refl)
    (waiting n m _ (same n m _ h h.on refl refl refl refl) refl)
    (λ e. k1_waits n m.state m h)
    (λ e. waiting n m _ (same n m _ h refl refl refl refl refl) refl)
    (waiting n m _ (same n m _ h h.on refl refl refl refl) refl)
    (risen_waits n m h)

-- COUNTING DOWN

less_waits : (n : ℕ) (m : Management) → Waits n m → Waits (n - 1) (less m)
less_waits n m h = record {
  on = h.on;
  left = h.left;
  clocks = record {
    t1 = less_least n m.clocks.t1 h.clocks.t1;
    t2 = less_least n m.clocks.t2 h.clocks.t2;
    one = rw (runs_less m.clocks.t1) (rw (runs_less m.clocks.t2) h.clocks.one);
  };
  idle = h.idle;
}

over_first : (a b : Bool) → (a && b) ≡ true → a ≡ true
over_first true b e = refl
over_first false b e = absurd cc

t1_waits : (n : ℕ) (m : Management) → Waits n m → Waits n (t1_anew m)
t1_waits n m h = choose (Waits n) (is_over m.clocks.t1 && m.seen.hopes) (with_clocks (t1_starts m.times m.clocks) m) m
    (λ e. let z = over_least n m.clocks.t1 (over_first (is_over m.clocks.t1) m.seen.hopes e) h.clocks.t1 in
    record { on = h.on; left = h.left; clocks = record { t1 = omega arith; t2 = h.clocks.t2; one = refl }; idle = h.idle })
    (λ e. h)

due_waits : (n : ℕ) (m : Management) → Waits n m → Waits n (due m)
due_waits n m h = choose (Waits n) (is_over m.clocks.t17) (with_clocks (t17_stops m.clocks) m) m
    (λ e. same n m _ h h.on refl refl refl refl) (λ e. h)

p_waits : (n : ℕ) (m : Management) → Waits n m → Waits n (p_anew m)
p_waits n m h = choose (Waits n) (is_over m.clocks.p && not m.seen.others) (with_clocks (p_starts m.times m.clocks) m) m
    (λ e. same n m _ h h.on refl refl refl refl) (λ e. h)

counted_waits : (n : ℕ) (m : Management) → Waits n m → Waits (n - 1) (count_down m)
counted_waits n m h = counted_by (Waits (n - 1)) m (less_waits n m h) (t1_waits (n - 1)) (due_waits (n - 1)) (p_waits (n - 1))

-- WHAT IS SEEN

outage_waits : (n : ℕ) (s : Seen) (times : Times) (c : Clocks) → Both n c → Both n (outage s times c)
outage_waits n s times c h =
    let P : Clocks → Type 0 = Both n in
    choose P (not (is_paused s.level2)) (p_stops c) (if runs c.p then c else p_starts times c)
    (λ e. record { t1 = h.t1; t2 = h.t2; one = h.one })
    (λ e. choose P (runs c.p) c (p_starts times c) (λ g. h) (λ g. record { t1 = h.t1; t2 = h.t2; one = h.one }))

changeover_waits : (n : ℕ) (s : Seen) (times : Times) (c : Clocks) → is_left s.phase ≡ true → Both n c → Both n (changeover s times c)
changeover_waits n s times c l h =
    let started = if s.others then t2_starts times c else t1_starts times c in
    let o = h.one in
    choose (Both n) (not (is_left s.phase)) (t1_t2_stop c) (if runs c.t1 || runs c.t2 then c else started)
    (λ e. absurd (apart (is_left s.phase) l e))
    (λ e. choose (Both n) (runs c.t1 || runs c.t2) c started (λ f. h) (λ f. absurd cc))
  where
    apart : (b : Bool) → b ≡ true → not b ≡ true → ⊥
    apart true e f = cc
    apart false e f = cc

-- a link that is left goes on waiting, whatever is seen of it
looking_waits : (n : ℕ) (s : Seen) (m : Management) → is_left s.phase ≡ true → is_off m.state ≡ false → Both n (changeover s m.times m.clocks) → Waits n (looking s m)
looking_waits n s m l o h =
    record { on = o; left = l; clocks = outage_waits n s m.times (changeover s m.times m.clocks) h; idle = refl }

record SeenWaits (n : ℕ) (r : Row) : Type 0 where
  pub next : Waits n r.next
  pub stays : is_timed r.asked ≡ false

quiet : (n : ℕ) (m : Management) → Waits n m → SeenWaits n (silent m)
quiet n m h = record { next = h; stays = refl }

carries_waits : (n : ℕ) (m k : Management) → Waits n m → k.seen ≡ m.seen → k.clocks.t1 ≡ m.clocks.t1 → k.clocks.t2 ≡ m.clocks.t2 → SeenWaits n (carrying k)
carries_waits n m k h s a b = record {
  next = record {
    on = refl;
    left = rw s h.left;
    clocks = record { t1 = rw a h.clocks.t1; t2 = rw b h.clocks.t2; one = rw a (rw b h.clocks.one) };
    idle = refl;
  };
  stays = refl;
}

came_up_waits : (n : ℕ) (m : Management) → Waits n m → SeenWaits n (came_up m)
came_up_waits n m h =
    let up = with_clocks (t17_stops m.clocks) m in
    choose (SeenWaits n) m.tests (testing State.Trial1 up) (carrying up)
    (λ e. record { next = same n m _ h refl refl refl refl refl; stays = refl }) (λ e. carries_waits n m up h refl refl refl)

passed_waits : (n : ℕ) (m : Management) → Waits n m → SeenWaits n (if m.seen.passed then carrying (passed m) else silent m)
passed_waits n m h = choose (SeenWaits n) m.seen.passed (carrying (passed m)) (silent m)
    (λ e. carries_waits n m (passed m) h refl refl refl) (λ e. quiet n m h)

again_waits : (n : ℕ) (m : Management) → Waits n m → SeenWaits n (if m.seen.passed then silent (record (passed m) { state = State.Carry }) else silent m)
again_waits n m h = choose (SeenWaits n) m.seen.passed (silent (record (passed m) { state = State.Carry })) (silent m)
    (λ e. record { next = same n m _ h refl refl refl refl refl; stays = refl }) (λ e. quiet n m h)

work_waits : (n : ℕ) (st : State) (alone : Bool) (m : Management) → Waits n m → SeenWaits n (at_work st alone m)
work_waits n State.Rest alone m h =
    choose (SeenWaits n) (is_up m.seen.phase) (came_up m) (silent m) (λ e. came_up_waits n m h) (λ e. quiet n m h)
work_waits n State.Rising alone m h =
    choose (SeenWaits n) (is_up m.seen.phase) (came_up m) (if alone then asking Ask.Emergency m else silent m)
    (λ e. came_up_waits n m h)
    (λ e. choose (SeenWaits n) alone (asking Ask.Emergency m) (silent m) (λ q. record { next = h; stays = refl }) (λ q. quiet n m h))
work_waits n State.Trial1 alone m h = passed_waits n m h
work_waits n State.Trial2 alone m h = passed_waits n m h
work_waits n State.Again1 alone m h = again_waits n m h
work_waits n State.Again2 alone m h = again_waits n m h
work_waits n _ alone m h = quiet n m h

seeing_waits : (n : ℕ) (s : Seen) (m : Management) → Waits n (looking s m) → SeenWaits n (seeing s m)
seeing_waits n s m h = seen_by (SeenWaits n) s m
    (λ e. quiet n (gone_out (looking s m)) (same n (looking s m) _ h refl refl refl refl refl))
    (λ e. work_waits n m.state (m.seen.others && not s.others) (looking s m) h)

behind_waits : (n : ℕ) (o : Option Ask) (m : Management) → Waits n m → is_timed o ≡ false → RowWaits n (behind o m)
behind_waits n None m h f = acted_waits n m h
behind_waits n (Some ask) m h f = waiting n m (asking ask m) h f

turned_waits : (n : ℕ) (s : Seen) (m : Management) → is_off m.state ≡ false → Waits n (looking s m) → RowWaits (n - 1) (turned s m)
turned_waits n s m o h =
    let r = seeing_waits n s m h in
    choose (RowWaits (n - 1)) (is_off m.state) (silent m) (in_turn s m) (λ e. absurd cc)
    (λ e. behind_waits (n - 1) (seeing s m).asked (count_down (seeing s m).next) (counted_waits n (seeing s m).next r.next) r.stays)

-- ANSWERS

answers_waits : (n : ℕ) (a : Awaited) (done : Bool) (m : Management) → awaits a ≡ false → Waits n m → RowWaits n (answers a done (record m { awaited = Awaited.Nothing }))
answers_waits n Awaited.Restore true m i h = acted_waits n _ (record {
  on = h.on;
  left = h.left;
  clocks = record { t1 = h.clocks.t1; t2 = h.clocks.t2; one = h.clocks.one };
  idle = refl;
})
answers_waits n Awaited.Restore false m i h = acted_waits n _ (record { on = h.on; left = h.left; clocks = h.clocks; idle = refl })
answers_waits n Awaited.Nothing done m i h = acted_waits n _ (record { on = h.on; left = h.left; clocks = h.clocks; idle = refl })
answers_waits n Awaited.TimedAtT1 done m i h = absurd cc
answers_waits n Awaited.TimedAtT2 done m i h = absurd cc
answers_waits n Awaited.NoAnswer done m i h = absurd cc

-- WALKS

refused : (n : ℕ) (s : Seen) (m : Management) → Waits n m → RowWaits n (step m (activate s))
refused n s m h = let o = h.on in
    choose (RowWaits n) (is_off m.state) (activated s m) (silent m) (λ e. absurd cc) (λ e. waiting n m (silent m) h refl)

stops : (m : Management) → is_timed (step m deactivate).asked ≡ false
stops m = choose (λ (r : Row). is_timed r.asked ≡ false) (is_off m.state) (silent m) (deactivated m) (λ e. refl) (λ e. refl)

goes_on : (n : ℕ) (s : Seen) (m : Management) → is_left s.phase ≡ true → Waits n m → RowWaits (n - 1) (turned s m)
goes_on n s m l h = turned_waits n s m h.on (looking_waits n s m l h.on (changeover_waits n s m.times m.clocks l h.clocks))

split_any : (a b : Bool) → (a || b) ≡ false → (a ≡ false) × (b ≡ false)
split_any true b e = absurd cc
split_any false b e = (refl, e)

not_false : (b : Bool) → not b ≡ false → b ≡ true
not_false true e = refl
not_false false e = absurd cc

-- TIMED ONLY WHERE THE LINK IS LEFT

abbrev AsksSet : Row → Type 0
AsksSet r = is_timed r.asked ≡ true → awaits r.next.awaited ≡ true

k1_asks : (st : State) (m : Management) → is_timed (k1_ends st m).asked ≡ false
k1_asks State.Trial1 m = refl
k1_asks State.Again1 m = refl
k1_asks _ m = refl

risen_asks : (m : Management) → is_timed (risen m).asked ≡ false
risen_asks m =
    let due = is_rest m.state && not (runs m.clocks.t17) in
    choose (λ (r : Row). is_timed r.asked ≡ false) (due && is_settled m.seen.phase) (rising m) (silent m) (λ e. refl) (λ e. refl)

acted_asks : (m : Management) → AsksSet (acted m)
acted_asks m = acted_by AsksSet m (λ e q. refl) (λ e q. refl) (λ q. absurd cc) (λ q. absurd cc)
    (λ e q. absurd (let f = k1_asks m.state m in cc)) (λ e q. absurd cc) (λ q. absurd cc) (λ q. absurd (let f = risen_asks m in cc))

abbrev Untimed : Row → Type 0
Untimed r = is_timed r.asked ≡ false

came_up_asks : (m : Management) → Untimed (came_up m)
came_up_asks m =
    let up = with_clocks (t17_stops m.clocks) m in
    choose Untimed m.tests (testing State.Trial1 up) (carrying up) (λ e. refl) (λ e. refl)

work_asks : (st : State) (alone : Bool) (m : Management) → Untimed (at_work st alone m)
work_asks State.Rest alone m = choose Untimed (is_up m.seen.phase) (came_up m) (silent m) (λ e. came_up_asks m) (λ e. refl)
work_asks State.Rising alone m =
    choose Untimed (is_up m.seen.phase) (came_up m) (if alone then asking Ask.Emergency m else silent m) (λ e. came_up_asks m)
    (λ e. choose Untimed alone (asking Ask.Emergency m) (silent m) (λ q. refl) (λ q. refl))
work_asks State.Trial1 alone m = choose Untimed m.seen.passed (carrying (passed m)) (silent m) (λ e. refl) (λ e. refl)
work_asks State.Trial2 alone m = choose Untimed m.seen.passed (carrying (passed m)) (silent m) (λ e. refl) (λ e. refl)
work_asks State.Again1 alone m =
    choose Untimed m.seen.passed (silent (record (passed m) { state = State.Carry })) (silent m) (λ e. refl) (λ e. refl)
work_asks State.Again2 alone m =
    choose Untimed m.seen.passed (silent (record (passed m) { state = State.Carry })) (silent m) (λ e. refl) (λ e. refl)
work_asks _ alone m = refl

seeing_asks : (s : Seen) (m : Management) → Untimed (seeing s m)
seeing_asks s m = seen_by Untimed s m (λ e. refl) (λ e. work_asks m.state (m.seen.others && not s.others) (looking s m))

behind_asks : (o : Option Ask) (m : Management) → is_timed o ≡ false → AsksSet (behind o m)
behind_asks None m f = acted_asks m
behind_asks (Some ask) m f = λ q. absurd cc

in_turn_asks : (s : Seen) (m : Management) → AsksSet (in_turn s m)
in_turn_asks s m = behind_asks (seeing s m).asked (count_down (seeing s m).next) (seeing_asks s m)

first_true : (a b l : Bool) → (a || b) ≡ l → a ≡ true → l ≡ true
first_true true b l e f = sym e
first_true false b l e f = absurd cc

in_turn_left : (s : Seen) (m : Management) → On m → is_timed (in_turn s m).asked ≡ true → is_left s.phase ≡ true
in_turn_left s m h q =
    let o : On (in_turn s m).next = (in_turn_on s m (record { on = h.on; k1 = h.k1; k2 = h.k2; few = h.few })).next in
    let c = (in_turn s m).next.clocks in
    subst (λ t. is_left t.phase ≡ true) (in_turn_told s m).seen
    (first_true (awaits (in_turn s m).next.awaited) (runs c.t1 || runs c.t2) (is_left (in_turn s m).next.seen.phase) o.wait (in_turn_asks s m q))

turned_left : (s : Seen) (m : Management) → On m → is_timed (turned s m).asked ≡ true → is_left s.phase ≡ true
turned_left s m h = let o = h.on in
    choose (λ (r : Row). is_timed r.asked ≡ true → is_left s.phase ≡ true) (is_off m.state) (silent m) (in_turn s m)
    (λ e. absurd cc) (λ e. in_turn_left s m h)

-- THE LAW

last : (n : ℕ) (m : Management) (input : Input) → On m → Waits n m → is_timed (step m input).asked ≡ true → n ≤ turns (input ∷ [])
last n m (activate s) o h e = let z = (refused n s m h).told e in omega arith
last n m deactivate o h e = absurd (let q = stops m in cc)
last n m (turn s) o h e = let z = (goes_on n s m (turned_left s m o e) h).told e in omega arith
last n m (answer done) o h e = let z = (answers_waits n m.awaited done m h.idle h).told e in omega arith

on_after : (m : Management) (i : Input) → ends_left i ≡ false → On m → On (step m i).next
on_after m (activate s) f h = let o = h.on in
    choose (λ (r : Row). On r.next) (is_off m.state) (activated s m) (silent m) (λ e. absurd cc) (λ e. h)
on_after m deactivate f h = absurd cc
on_after m (turn s) f h = (turned_on s m h).next
on_after m (answer done) f h = (answers_on m.awaited done m h refl).next

minus_none : (n : ℕ) → n ≡ n - 0
minus_none n = omega arith

one_more : (n : ℕ) (m : Management) (i : Input) → ends_left i ≡ false → Waits n m → MayWait (n - turns (i ∷ [])) (step m i).next
one_more n m (activate s) f h = subst (λ k. MayWait k (step m (activate s)).next) (minus_none n) (refused n s m h).next
one_more n m deactivate f h = absurd cc
one_more n m (turn s) f h = (goes_on n s m (not_false (is_left s.phase) f) h).next
one_more n m (answer done) f h =
    subst (λ k. MayWait k (answered done m).next) (minus_none n) (answers_waits n m.awaited done m h.idle h).next

turns_more : (i : Input) (inputs : List Input) → turns (i ∷ inputs) ≡ turns (i ∷ []) + turns inputs
turns_more (activate s) inputs = omega arith
turns_more deactivate inputs = omega arith
turns_more (turn s) inputs = omega arith
turns_more (answer done) inputs = omega arith

walk : (n : ℕ) (m : Management) (since : List Input) (input : Input) → On m → MayWait n m → list_any ends_left since ≡ false → is_timed (step (after m since) input).asked ≡ true → n ≤ turns (since ++ input ∷ [])
walk n m since input o (inl z) d e = omega arith
walk n m [] input o (inr h) d e = last n m input o h e
walk n m (i ∷ since) input o (inr h) d e =
    let f = split_any (ends_left i) (list_any ends_left since) d in
    let q = walk (n - turns (i ∷ [])) (step m i).next since input (on_after m i f.0 o) (one_more n m i f.0 h) f.1 e in
    omega (arith, turns_more i (since ++ input ∷ []))

none_least : (n : ℕ) (c : Option ℕ) → runs c ≡ false → AtLeast n c
none_least n None e = tt
none_least n (Some k) e = absurd cc

none_run : (a b c l : Bool) → (a || (b || c)) ≡ l → l ≡ false → (b ≡ false) × (c ≡ false)
none_run true b c l e f = absurd cc
none_run false true c l e f = absurd cc
none_run false false c l e f = (refl, e ∙ f)

started : (others : Bool) (times : Times) (c : Clocks) → runs c.t1 ≡ false → runs c.t2 ≡ false → Both (if others then times.t2 else times.t1) (if others then t2_starts times c else t1_starts times c)
started true times c a b = record { t1 = none_least times.t2 c.t1 a; t2 = omega arith; one = or_true (runs c.t1) }
started false times c a b = record { t1 = omega arith; t2 = none_least times.t1 c.t2 b; one = refl }

begins : (s : Seen) (times : Times) (c : Clocks) → is_left s.phase ≡ true → runs c.t1 ≡ false → runs c.t2 ≡ false → Both (if s.others then times.t2 else times.t1) (changeover s times c)
begins s times c l a b =
    let n = if s.others then times.t2 else times.t1 in
    let next = if s.others then t2_starts times c else t1_starts times c in
    choose (Both n) (not (is_left s.phase)) (t1_t2_stop c) (if runs c.t1 || runs c.t2 then c else next)
    (λ e. absurd cc)
    (λ e. choose (Both n) (runs c.t1 || runs c.t2) c next (λ f. absurd cc) (λ f. started s.others times c a b))

waits : (m : Management) (s : Seen) → On m → is_left m.seen.phase ≡ false → is_left s.phase ≡ true → Waits (if s.others then m.times.t2 else m.times.t1) (looking s m)
waits m s h f l =
    let q = none_run (awaits m.awaited) (runs m.clocks.t1) (runs m.clocks.t2) (is_left m.seen.phase) h.wait f in
    looking_waits (if s.others then m.times.t2 else m.times.t1) s m l h.on (begins s m.times m.clocks l q.0 q.1)

on_of : (m : Management) → Holds m → is_off m.state ≡ false → On m
on_of m (inl e) f = absurd (off (ap (λ k. is_off k.state) e) f) where
  off : {b : Bool} → b ≡ true → b ≡ false → ⊥
  off e f = let q = sym e ∙ f in cc
on_of m (inr h) f = h

pub timed_after_wait : TimedAfterWait
timed_after_wait times tests past s since input o f l d e =
    let m = run times tests past in
    let h = on_of m (run_holds times tests past) o in
    let n = if s.others then m.times.t2 else m.times.t1 in
    let r = turned_waits n s m h.on (waits m s h f l) in
    let q = walk (n - 1) (turned s m).next since input (turned_on s m h).next r.next d e in
    omega arith
