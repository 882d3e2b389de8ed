-- T17: how many turns a link rests at least.
use Rattle.std.proofs.Common.{◌≡◌, ◌-◌, ◌≤◌, ℕ, Bool, true, false, not, ◌&&◌, ◌||◌, Option, Some, None, List, [], ◌∷◌, ◌++◌, if◌then◌else◌, refl, arith}
use Rattle.std.specs.List.{list_any}
use Rattle.l3_link.specs.Lengths.{is_over, runs, one_less}
use Rattle.l3_link.specs.Management.{Management, is_left, is_off, is_paused, is_rest, is_up, is_settled}
use Rattle.std.proofs.lemmas.Bool.Decides.{nat_tests}
use Rattle.l3_link.specs.Table.{Row, activated, asking, deactivated, p_starts, p_stops, passed, t1_starts, t1_t2_stop, t17_stops, t2_starts, with_clocks, acted, answers, answered, at_work, behind, carrying, came_up, changeover, count_down, due, goes_out, gone_out, in_turn, k1_ends, looking, outage, p_anew, risen, rising, seeing, silent, t1_anew, testing, turned}
use Rattle.l3_link.specs.Runs.{Input, activate, deactivate, turn, answer, step, after, run, is_deactivate, is_rise, turns}
use Rattle.l3_link.specs.Laws.{StartsAfterT17}
use Rattle.l3_link.specs.declared.clocks.Clocks.{Clocks}
use Rattle.l3_link.specs.declared.times.Times.{Times}
use Rattle.l3_link.specs.declared.management.Awaited.{Awaited}
use Rattle.l3_link.specs.declared.management.State.{State}
use Rattle.l3_link.specs.declared.signals.Ask.{Ask}
use Rattle.l3_link.specs.declared.signals.Seen.{Seen}
use Rattle.l3_link.proofs.Steps.{choose, acted_by, counted_by, seen_by}

-- the turns left
abbrev left : Option ℕ → ℕ
left None = 0
left (Some k) = k

left_less : (n : ℕ) (c : Option ℕ) → n ≤ left c → n - 1 ≤ left (one_less c)
left_less n None h = omega arith
left_less n (Some k) h = omega arith

left_over : (n : ℕ) (c : Option ℕ) → is_over c ≡ true → n ≤ left c → n ≤ 0
left_over n None e h = h
left_over n (Some k) e h = grind (arith, nat_tests)

left_none : (n : ℕ) (c : Option ℕ) → runs c ≡ false → n ≤ left c → n ≤ 0
left_none n None e h = h
left_none n (Some k) e h = absurd cc

-- at least so many turns go by before the link is told to start
record Later (n : ℕ) (m : Management) : Type 0 where
  pub on : is_off m.state ≡ false
  pub rest : is_rest m.state ≡ true → n ≤ left m.clocks.t17
  pub long : n ≤ m.times.t17

record RowLater (n : ℕ) (r : Row) : Type 0 where
  pub next : Later n r.next
  pub told : is_rise r.asked ≡ true → n ≤ 0

-- a row that keeps the state and T17, or leaves the state of rest
keeps : (n : ℕ) (m : Management) → Later n m → RowLater n (silent m)
keeps n m h = record { next = h; told = λ e. absurd cc }

testing_later : (n : ℕ) (m : Management) (st : State) → is_off st ≡ false → is_rest st ≡ false → n ≤ m.times.t17 → RowLater n (testing st m)
testing_later n m st o r h = record { next = record { on = o; rest = λ e. absurd cc; long = h }; told = λ e. absurd cc }

carrying_later : (n : ℕ) (m : Management) → n ≤ m.times.t17 → RowLater n (carrying m)
carrying_later n m h = record { next = record { on = refl; rest = λ e. absurd cc; long = h }; told = λ e. absurd cc }

came_up_later : (n : ℕ) (m : Management) → n ≤ m.times.t17 → RowLater n (came_up m)
came_up_later n m h =
    let up = with_clocks (t17_stops m.clocks) m in
    choose (RowLater n) m.tests (testing State.Trial1 up) (carrying up)
    (λ e. testing_later n up State.Trial1 refl refl h) (λ e. carrying_later n up h)

k1_later : (n : ℕ) (st : State) (m : Management) → n ≤ m.times.t17 → RowLater n (k1_ends st m)
k1_later n State.Trial1 m h = testing_later n m State.Trial2 refl refl h
k1_later n State.Again1 m h = testing_later n m State.Again2 refl refl h
k1_later n _ m h = record { next = record { on = refl; rest = λ e. absurd cc; long = h }; told = λ e. absurd cc }

and_true : (a b c : Bool) → ((a && b) && c) ≡ true → b ≡ true
and_true true true true e = refl
and_true true true false e = refl
and_true true false true e = e
and_true true false false e = absurd cc
and_true false b c e = absurd cc

not_true : (b : Bool) → not b ≡ true → b ≡ false
not_true true e = absurd cc
not_true false e = refl

rest_of : (a b c : Bool) → ((a && b) && c) ≡ true → a ≡ true
rest_of true b c e = refl
rest_of false b c e = absurd cc

risen_later : (n : ℕ) (m : Management) → Later n m → RowLater n (risen m)
risen_later n m h =
    choose (RowLater n) ((is_rest m.state && not (runs m.clocks.t17)) && is_settled m.seen.phase) (rising m) (silent m)
    (λ e. record {
      next = record { on = refl; rest = λ q. absurd cc; long = h.long };
      told = λ q. left_none n m.clocks.t17 (not_true _ (and_true _ _ _ e)) (h.rest (rest_of _ _ _ e));
    })
    (λ e. keeps n m h)

acted_later : (n : ℕ) (m : Management) → Later n m → RowLater n (acted m)
acted_later n m h =
    acted_by (RowLater n) m
    (λ e. record { next = record { on = h.on; rest = h.rest; long = h.long }; told = λ q. absurd cc })
    (λ e. record { next = record { on = h.on; rest = h.rest; long = h.long }; told = λ q. absurd cc })
    (record { next = record { on = h.on; rest = h.rest; long = h.long }; told = λ q. absurd cc })
    (record { next = record { on = h.on; rest = h.rest; long = h.long }; told = λ q. absurd cc })
    (λ e. k1_later n m.state m h.long)
    (λ e. testing_later n (with_clocks (record m.clocks { k2 = None }) m) State.Again1 refl refl h.long)
    (record { next = record { on = h.on; rest = h.rest; long = h.long }; told = λ q. absurd cc })
    (risen_later n m h)

due_later : (n : ℕ) (m : Management) → Later n m → Later n (due m)
due_later n m h = choose (Later n) (is_over m.clocks.t17) (with_clocks (t17_stops m.clocks) m) m
    (λ e. record { on = h.on; rest = λ r. left_over n m.clocks.t17 e (h.rest r); long = h.long }) (λ e. h)

t1_anew_later : (n : ℕ) (m : Management) → Later n m → Later n (t1_anew m)
t1_anew_later n m h =
    choose (Later n) (is_over m.clocks.t1 && m.seen.hopes) (with_clocks (t1_starts m.times m.clocks) m) m
    (λ e. record { on = h.on; rest = h.rest; long = h.long }) (λ e. h)

p_anew_later : (n : ℕ) (m : Management) → Later n m → Later n (p_anew m)
p_anew_later n m h =
    choose (Later n) (is_over m.clocks.p && not m.seen.others) (with_clocks (p_starts m.times m.clocks) m) m
    (λ e. record { on = h.on; rest = h.rest; long = h.long }) (λ e. h)

counted_later : (n : ℕ) (m : Management) → Later n m → Later (n - 1) (count_down m)
counted_later n m h = counted_by (Later (n - 1)) m
    (record { on = h.on; rest = λ r. left_less n m.clocks.t17 (h.rest r); long = let l = h.long in omega arith })
    (t1_anew_later (n - 1)) (due_later (n - 1)) (p_anew_later (n - 1))

again_later : (n : ℕ) (m : Management) → Later n m → RowLater n (if m.seen.passed then silent (record (passed m) { state = State.Carry }) else silent m)
again_later n m h =
    choose (RowLater n) m.seen.passed (silent (record (passed m) { state = State.Carry })) (silent m)
    (λ e. keeps n (record (passed m) { state = State.Carry }) (record { on = refl; rest = λ q. absurd cc; long = h.long }))
    (λ e. keeps n m h)

work_later : (n : ℕ) (st : State) (alone : Bool) (m : Management) → Later n m → RowLater n (at_work st alone m)
work_later n State.Rest alone m h =
    choose (RowLater n) (is_up m.seen.phase) (came_up m) (silent m) (λ e. came_up_later n m h.long) (λ e. keeps n m h)
work_later n State.Rising alone m h =
    choose (RowLater n) (is_up m.seen.phase) (came_up m) (if alone then asking Ask.Emergency m else silent m)
    (λ e. came_up_later n m h.long)
    (λ e. choose (RowLater n) alone (asking Ask.Emergency m) (silent m) (λ q. record { next = h; told = λ r. absurd cc }) (λ q. keeps n m h))
work_later n State.Trial1 alone m h =
    choose (RowLater n) m.seen.passed (carrying (passed m)) (silent m) (λ e. carrying_later n (passed m) h.long) (λ e. keeps n m h)
work_later n State.Trial2 alone m h =
    choose (RowLater n) m.seen.passed (carrying (passed m)) (silent m) (λ e. carrying_later n (passed m) h.long) (λ e. keeps n m h)
work_later n State.Again1 alone m h = again_later n m h
work_later n State.Again2 alone m h = again_later n m h
work_later n _ alone m h = keeps n m h

changeover_t17 : (s : Seen) (times : Times) (c : Clocks) → (changeover s times c).t17 ≡ c.t17
changeover_t17 s times c =
    let KeepsT17 : Clocks → Type 0 = λ d. d.t17 ≡ c.t17 in
    let started = if s.others then t2_starts times c else t1_starts times c in
    choose KeepsT17 (not (is_left s.phase)) (t1_t2_stop c) (if runs c.t1 || runs c.t2 then c else started) (λ e. refl)
    (λ e. choose KeepsT17 (runs c.t1 || runs c.t2) c started (λ f. refl)
    (λ f. choose KeepsT17 s.others (t2_starts times c) (t1_starts times c) (λ g. refl) (λ g. refl)))

outage_t17 : (s : Seen) (times : Times) (c : Clocks) → (outage s times c).t17 ≡ c.t17
outage_t17 s times c =
    let KeepsT17 : Clocks → Type 0 = λ d. d.t17 ≡ c.t17 in
    choose KeepsT17 (not (is_paused s.level2)) (p_stops c) (if runs c.p then c else p_starts times c) (λ e. refl)
    (λ e. choose KeepsT17 (runs c.p) c (p_starts times c) (λ g. refl) (λ g. refl))

looking_later : (n : ℕ) (s : Seen) (m : Management) → Later n m → Later n (looking s m)
looking_later n s m h = record {
  on = h.on;
  rest = λ r. rw (outage_t17 s m.times (changeover s m.times m.clocks)) (rw (changeover_t17 s m.times m.clocks) (h.rest r));
  long = h.long;
}

gone_later : (m : Management) → Later m.times.t17 (gone_out m)
gone_later m = record { on = refl; rest = λ r. omega arith; long = omega arith }

shorter : (n k : ℕ) (m : Management) → k ≤ n → Later n m → Later k m
shorter n k m e h = record { on = h.on; rest = λ r. let q = h.rest r in omega arith; long = let q = h.long in omega arith }

seeing_later : (n : ℕ) (s : Seen) (m : Management) → Later n m → RowLater n (seeing s m)
seeing_later n s m h = seen_by (RowLater n) s m
    (λ e. keeps n (gone_out (looking s m)) (shorter m.times.t17 n (gone_out (looking s m)) h.long (gone_later (looking s m))))
    (λ e. work_later n m.state (m.seen.others && not s.others) (looking s m) (looking_later n s m h))

behind_later : (n : ℕ) (o : Option Ask) (m : Management) → (is_rise o ≡ true → n ≤ 0) → Later n m → RowLater n (behind o m)
behind_later n None m t h = acted_later n m h
behind_later n (Some ask) m t h = record { next = h; told = t }

in_turn_later : (n : ℕ) (s : Seen) (m : Management) → RowLater n (seeing s m) → RowLater (n - 1) (in_turn s m)
in_turn_later n s m h =
    behind_later (n - 1) (seeing s m).asked (count_down (seeing s m).next)
    (λ e. let q = h.told e in omega arith) (counted_later n (seeing s m).next h.next)

turned_later : (n : ℕ) (s : Seen) (m : Management) → is_off m.state ≡ false → RowLater n (seeing s m) → RowLater (n - 1) (turned s m)
turned_later n s m o h = choose (RowLater (n - 1)) (is_off m.state) (silent m) (in_turn s m) (λ e. absurd cc) (λ e. in_turn_later n s m h)

-- of an answer only its timer and the phase are kept
with_timers : (n : ℕ) (m k : Management) → Later n m → k.state ≡ m.state → k.clocks.t17 ≡ m.clocks.t17 → k.times ≡ m.times → RowLater n (acted k)
with_timers n m k h a b c = acted_later n k (record { on = rw a h.on; rest = λ r. rw b (h.rest (rw a at r)); long = rw c h.long })

answers_later : (n : ℕ) (a : Awaited) (done : Bool) (m : Management) → Later n m → RowLater n (answers a done m)
answers_later n Awaited.Restore true m h = with_timers n m _ h refl refl refl
answers_later n Awaited.TimedAtT1 true m h = with_timers n m _ h refl refl refl
answers_later n Awaited.TimedAtT2 true m h = with_timers n m _ h refl refl refl
answers_later n Awaited.NoAnswer true m h = with_timers n m _ h refl refl refl
answers_later n Awaited.TimedAtT1 false m h = with_timers n m _ h refl refl refl
answers_later n Awaited.TimedAtT2 false m h =
    record { next = record { on = h.on; rest = h.rest; long = h.long }; told = λ q. absurd cc }
answers_later n Awaited.NoAnswer false m h = with_timers n m _ h refl refl refl
answers_later n _ done m h = acted_later n m h

answered_later : (n : ℕ) (done : Bool) (m : Management) → Later n m → RowLater n (answered done m)
answered_later n done m h = answers_later n m.awaited done _ (record { on = h.on; rest = h.rest; long = h.long })

activate_later : (n : ℕ) (s : Seen) (m : Management) → Later n m → RowLater n (step m (activate s))
activate_later n s m h = let o = h.on in choose (RowLater n) (is_off m.state) (activated s m) (silent m) (λ e. absurd cc) (λ e. keeps n m h)

stops : (m : Management) → is_rise (step m deactivate).asked ≡ false
stops m = choose (λ (r : Row). is_rise r.asked ≡ false) (is_off m.state) (silent m) (deactivated m) (λ e. refl) (λ e. refl)

walk : (n : ℕ) (m : Management) (since : List Input) (input : Input) → Later n m → list_any is_deactivate since ≡ false → is_rise (step (after m since) input).asked ≡ true → n ≤ turns (since ++ input ∷ [])
walk n m [] (activate s) h d r = (activate_later n s m h).told r
walk n m [] deactivate h d r = absurd (let q = stops m in cc)
walk n m [] (turn s) h d r = let q = (turned_later n s m h.on (seeing_later n s m h)).told r in omega arith
walk n m [] (answer done) h d r = (answered_later n done m h).told r
walk n m (activate s ∷ since) input h d r = walk n _ since input (activate_later n s m h).next d r
walk n m (deactivate ∷ since) input h d r = absurd cc
walk n m (turn s ∷ since) input h d r =
    let q = walk (n - 1) _ since input (turned_later n s m h.on (seeing_later n s m h)).next d r in omega arith
walk n m (answer done ∷ since) input h d r = walk n _ since input (answered_later n done m h).next d r

goes : (s : Seen) (m : Management) → goes_out s m ≡ true → RowLater m.times.t17 (seeing s m)
goes s m g = seen_by (RowLater m.times.t17) s m (λ e. keeps m.times.t17 (gone_out (looking s m)) (gone_later (looking s m))) (λ e. absurd cc)

pub starts_after_t17 : StartsAfterT17
starts_after_t17 times tests past s since input o g d r =
    let m = run times tests past in
    let later = turned_later m.times.t17 s m o (goes s m g) in
    let q = walk (m.times.t17 - 1) (turned s m).next since input later.next d r in
    omega arith
