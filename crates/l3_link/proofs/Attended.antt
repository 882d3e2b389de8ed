-- What holds of an activated link: which timers run in which state.
use Rattle.std.proofs.Common.{◌≡◌, ◌⊎◌, inl, inr, ℕ, Bool, true, false, not, ◌&&◌, ◌||◌, IsTrue, Option, Some, None, List, [], ◌∷◌, if◌then◌else◌, refl, subst, sym, ◌∙◌}
use Rattle.std.proofs.Common.{◌-◌, ◌≤◌, ℕ, arith}
use Rattle.std.proofs.lemmas.Bool.Decides.{nat_tests}
use Rattle.std.specs.Bool.{⊤}
use Rattle.std.specs.List.{list_any}
use Rattle.l3_link.specs.Laws.{NeverLeftWaiting, OffIsSilent, is_attended}
use Rattle.l3_link.specs.Lengths.{is_over, no_clocks, one_less, runs, within, lessened}
use Rattle.l3_link.specs.Management.{Management, fresh, is_left, is_off, is_paused, is_rest, is_settled, is_up}
use Rattle.l3_link.specs.Runs.{Input, activate, deactivate, turn, answer, step, after, run, AsksNothing, is_activate, is_refused}
use Rattle.l3_link.specs.Table.{Row, acted, activated, answers, asking, at_work, behind, came_up, carrying, changeover, count_down, deactivated, due, gone_out, in_turn, k1_ends, less, looking, outage, p_anew, p_starts, p_stops, passed, risen, rising, seeing, silent, t17_stops, t1_anew, t1_starts, t1_t2_stop, t2_starts, testing, turned, with_clocks}
use Rattle.l3_link.specs.declared.clocks.Clocks.{Clocks}
use Rattle.l3_link.specs.declared.management.Awaited.{Awaited}
use Rattle.l3_link.specs.declared.management.State.{State}
use Rattle.l3_link.specs.declared.signals.Ask.{Ask}
use Rattle.l3_link.specs.declared.signals.Phase.{Phase}
use Rattle.l3_link.specs.declared.signals.Seen.{Seen}
use Rattle.l3_link.specs.declared.times.Times.{Times}
use Rattle.l3_link.proofs.Steps.{acted_by, choose, counted_by, counted_same, over_runs, seen_by}

-- the answer to a test is awaited
abbrev pub is_tested : State → Bool
is_tested State.Trial1 = true
is_tested State.Trial2 = true
is_tested State.Again1 = true
is_tested State.Again2 = true
is_tested _ = false

abbrev pub is_carry : State → Bool
is_carry State.Carry = true
is_carry _ = false

-- the set is to settle the link
abbrev pub awaits : Awaited → Bool
awaits Awaited.TimedAtT1 = true
awaits Awaited.TimedAtT2 = true
awaits Awaited.NoAnswer = true
awaits _ = false

-- the set is asked to settle the link, or T1 or T2 runs
abbrev pub settling : Awaited → Clocks → Bool
settling a c = awaits a || (runs c.t1 || runs c.t2)

abbrev AtMost : ℕ → Option ℕ → Type 0
AtMost n None = ⊤
AtMost n (Some k) = k ≤ n

-- no timer has more turns left than its length
pub record Few (times : Times) (c : Clocks) : Type 0 where
  pub t1 : AtMost times.t1 c.t1
  pub t2 : AtMost times.t2 c.t2
  pub t17 : AtMost times.t17 c.t17
  pub k1 : AtMost times.k1 c.k1
  pub k2 : AtMost times.k2 c.k2

most : (n : ℕ) → n ≤ n
most n = omega arith

few_t1 : (t : Times) (c : Clocks) (x : Option ℕ) → Few t c → AtMost t.t1 x → Few t (record c { t1 = x })
few_t1 t c x f h = record { t1 = h; t2 = f.t2; t17 = f.t17; k1 = f.k1; k2 = f.k2 }

few_t2 : (t : Times) (c : Clocks) (x : Option ℕ) → Few t c → AtMost t.t2 x → Few t (record c { t2 = x })
few_t2 t c x f h = record { t1 = f.t1; t2 = h; t17 = f.t17; k1 = f.k1; k2 = f.k2 }

few_t17 : (t : Times) (c : Clocks) → Few t c → Few t (t17_stops c)
few_t17 t c f = record { t1 = f.t1; t2 = f.t2; t17 = tt; k1 = f.k1; k2 = f.k2 }

few_k1 : (t : Times) (c : Clocks) (x : Option ℕ) → Few t c → AtMost t.k1 x → Few t (record c { k1 = x })
few_k1 t c x f h = record { t1 = f.t1; t2 = f.t2; t17 = f.t17; k1 = h; k2 = f.k2 }

few_k2 : (t : Times) (c : Clocks) (x : Option ℕ) → Few t c → AtMost t.k2 x → Few t (record c { k2 = x })
few_k2 t c x f h = record { t1 = f.t1; t2 = f.t2; t17 = f.t17; k1 = f.k1; k2 = h }

few_others : (t : Times) (c : Clocks) (x y z : Option ℕ) → Few t c → Few t (record c { t4 = x; t5 = y; p = z })
few_others t c x y z f = record { t1 = f.t1; t2 = f.t2; t17 = f.t17; k1 = f.k1; k2 = f.k2 }

few_none : (t : Times) (c : Clocks) → Few t c → Few t (t1_t2_stop c)
few_none t c f = record { t1 = tt; t2 = tt; t17 = f.t17; k1 = f.k1; k2 = f.k2 }

less_most : (n : ℕ) (c : Option ℕ) → AtMost n c → AtMost n (one_less c)
less_most n None h = tt
less_most n (Some k) h = omega arith

few_less : (t : Times) (c : Clocks) → Few t c → Few t (lessened c)
few_less t c f = record {
  t1 = less_most t.t1 c.t1 f.t1;
  t2 = less_most t.t2 c.t2 f.t2;
  t17 = less_most t.t17 c.t17 f.t17;
  k1 = less_most t.k1 c.k1 f.k1;
  k2 = less_most t.k2 c.k2 f.k2;
}

-- K1 runs exactly while a test's answer is awaited, K2 while a link that is tested carries traffic, and T1, T2 or the
-- set's answer is waited for exactly while the link is left
pub record On (m : Management) : Type 0 where
  pub on : is_off m.state ≡ false
  pub k1 : runs m.clocks.k1 ≡ is_tested m.state
  pub k2 : is_carry m.state ≡ true → m.tests ≡ true → runs m.clocks.k2 ≡ true
  pub wait : settling m.awaited m.clocks ≡ is_left m.seen.phase
  pub few : Few m.times m.clocks

-- where nothing is asked, no answer is awaited, and a link that is due isn't settled
pub record RowOn (r : Row) : Type 0 where
  pub next : On r.next
  pub idle : r.asked ≡ None → awaits r.next.awaited ≡ false
  pub due : r.asked ≡ None → is_rest r.next.state ≡ true → runs r.next.clocks.t17 ≡ false → is_settled r.next.seen.phase ≡ false

-- Bools

true_left : (a t1 t2 l : Bool) → (a || (t1 || t2)) ≡ l → t1 ≡ true → true ≡ l
true_left true t1 t2 l e f = e
true_left false true t2 l e f = e
true_left false false t2 l e f = absurd cc

true_right : (a t1 t2 l : Bool) → (a || (t1 || t2)) ≡ l → t2 ≡ true → true ≡ l
true_right true t1 t2 l e f = e
true_right false true t2 l e f = e
true_right false false true l e f = e
true_right false false false l e f = absurd cc

or_true : (b : Bool) → (b || true) ≡ true
or_true true = refl
or_true false = refl

not_true : (b : Bool) → not b ≡ true → b ≡ false
not_true true e = absurd cc
not_true false e = refl

not_false : (b : Bool) → not b ≡ false → b ≡ true
not_false true e = refl
not_false false e = absurd cc

idle_or : (a b l : Bool) → (a || b) ≡ l → a ≡ false → b ≡ l
idle_or true b l e f = absurd cc
idle_or false b l e f = e

and_false : (a b c : Bool) → ((a && not b) && c) ≡ false → a ≡ true → b ≡ false → c ≡ false
and_false true true c e f g = absurd cc
and_false true false c e f g = e
and_false false b c e f g = absurd cc

first_of : (a b c : Bool) → ((a && b) && c) ≡ true → a ≡ true
first_of true b c e = refl
first_of false b c e = absurd cc

rests_untested : (s : State) → is_rest s ≡ true → false ≡ is_tested s
rests_untested State.Rest e = refl
rests_untested State.Off e = absurd cc
rests_untested State.Rising e = absurd cc
rests_untested State.Trial1 e = absurd cc
rests_untested State.Trial2 e = absurd cc
rests_untested State.Carry e = absurd cc
rests_untested State.Again1 e = absurd cc
rests_untested State.Again2 e = absurd cc

-- ROWS

silent_on : (m : Management) → On m → awaits m.awaited ≡ false → (is_rest m.state ≡ true → runs m.clocks.t17 ≡ false → is_settled m.seen.phase ≡ false) → RowOn (silent m)
silent_on m h i d = record { next = h; idle = λ e. i; due = λ e. d }

asking_on : (ask : Ask) (m : Management) → On m → RowOn (asking ask m)
asking_on ask m h = record { next = h; idle = λ e. absurd cc; due = λ e. absurd cc }

testing_on : (st : State) (m : Management) → is_off st ≡ false → is_tested st ≡ true → is_carry st ≡ false → settling m.awaited m.clocks ≡ is_left m.seen.phase → Few m.times m.clocks → RowOn (testing st m)
testing_on st m o t c w f =
    let k1 = m.times.k1 in
    asking_on Ask.Test _
    (record { on = o; k1 = sym t; k2 = λ e. absurd cc; wait = w; few = few_k1 m.times m.clocks (Some k1) f (most k1) })

k1_on : (st : State) (m : Management) → settling m.awaited m.clocks ≡ is_left m.seen.phase → Few m.times m.clocks → RowOn (k1_ends st m)
k1_on State.Trial1 m w f = testing_on State.Trial2 m refl refl refl w f
k1_on State.Again1 m w f = testing_on State.Again2 m refl refl refl w f
k1_on _ m w f =
    asking_on Ask.Stop _ (record { on = refl; k1 = refl; k2 = λ e. absurd cc; wait = w; few = few_k1 m.times m.clocks None f tt })

risen_on : (m : Management) → On m → awaits m.awaited ≡ false → RowOn (risen m)
risen_on m h i =
    let rests = is_rest m.state in
    let ended = not (runs m.clocks.t17) in
    choose RowOn ((rests && ended) && is_settled m.seen.phase) (rising m) (silent m)
    (λ e. asking_on (Ask.Rise (not m.seen.others)) (record m { state = State.Rising }) (record {
      on = refl;
      k1 = h.k1 ∙ sym (rests_untested m.state (first_of rests ended (is_settled m.seen.phase) e));
      k2 = λ q. absurd cc;
      wait = h.wait;
      few = h.few;
    }))
    (λ e. silent_on m h i (and_false rests (runs m.clocks.t17) (is_settled m.seen.phase) e))

-- what is asked where a timer ends that no test needs
ends_on : (ask : Ask) (m : Management) (c : Clocks) (a : Awaited) → On m → c.k1 ≡ m.clocks.k1 → c.k2 ≡ m.clocks.k2 → settling a c ≡ is_left m.seen.phase → Few m.times c → RowOn (asking ask (record m { clocks = c; awaited = a }))
ends_on ask m c a h e f w g =
    asking_on ask (record m { clocks = c; awaited = a }) (record { on = h.on; k1 = rw e h.k1; k2 = λ q r. rw f (h.k2 q r); wait = w; few = g })

acted_on : (m : Management) → On m → awaits m.awaited ≡ false → RowOn (acted m)
acted_on m h i =
    let c = m.clocks in
    let a = awaits m.awaited in
    let t = m.times in
    acted_by RowOn m
    (λ e. ends_on Ask.Timed m (record c { t1 = None }) Awaited.TimedAtT1 h refl refl
    (true_left a (runs c.t1) (runs c.t2) (is_left m.seen.phase) h.wait (over_runs c.t1 e)) (few_t1 t c None h.few tt))
    (λ e. ends_on Ask.Timed m (record c { t2 = None }) Awaited.TimedAtT2 h refl refl
    (true_right a (runs c.t1) (runs c.t2) (is_left m.seen.phase) h.wait (over_runs c.t2 e)) (few_t2 t c None h.few tt))
    (ends_on Ask.Redeclare m (record c { t4 = None; t5 = Some t.t5 }) m.awaited h refl refl h.wait (few_others t c None (Some t.t5) c.p h.few))
    (ends_on Ask.BackTimeout m (record c { t5 = None }) m.awaited h refl refl h.wait (few_others t c c.t4 None c.p h.few))
    (λ e. k1_on m.state m h.wait h.few)
    (λ e. testing_on State.Again1 (with_clocks (record c { k2 = None }) m) refl refl refl h.wait (few_k2 t c None h.few tt))
    (ends_on Ask.Stop m (p_stops c) m.awaited h refl refl h.wait (few_others t c c.t4 c.t5 None h.few))
    (risen_on m h i)

-- COUNTING DOWN

runs_less : (c : Option ℕ) → runs (one_less c) ≡ runs c
runs_less None = refl
runs_less (Some k) = refl

less_on : (m : Management) → On m → On (less m)
less_on m h = record {
  on = h.on;
  k1 = runs_less m.clocks.k1 ∙ h.k1;
  k2 = λ e f. runs_less m.clocks.k2 ∙ h.k2 e f;
  wait = rw (runs_less m.clocks.t1) (rw (runs_less m.clocks.t2) h.wait);
  few = few_less m.times m.clocks h.few;
}

over_first : (a b : Bool) → (a && b) ≡ true → a ≡ true
over_first true b e = refl
over_first false b e = absurd cc

t1_on : (m : Management) → On m → On (t1_anew m)
t1_on m h =
    let c = m.clocks in
    let left = is_left m.seen.phase in
    choose On (is_over c.t1 && m.seen.hopes) (with_clocks (t1_starts m.times c) m) m
    (λ e. let ran = over_runs c.t1 (over_first (is_over c.t1) m.seen.hopes e) in record {
      on = h.on;
      k1 = h.k1;
      k2 = h.k2;
      wait = or_true (awaits m.awaited) ∙ true_left (awaits m.awaited) (runs c.t1) (runs c.t2) left h.wait ran;
      few = few_t1 m.times c (Some m.times.t1) h.few (most m.times.t1);
    })
    (λ e. h)

due_on : (m : Management) → On m → On (due m)
due_on m h = choose On (is_over m.clocks.t17) (with_clocks (t17_stops m.clocks) m) m
    (λ e. record { on = h.on; k1 = h.k1; k2 = h.k2; wait = h.wait; few = few_t17 m.times m.clocks h.few }) (λ e. h)

p_on : (m : Management) → On m → On (p_anew m)
p_on m h =
    let c = m.clocks in
    choose On (is_over c.p && not m.seen.others) (with_clocks (p_starts m.times c) m) m
    (λ e. record { on = h.on; k1 = h.k1; k2 = h.k2; wait = h.wait; few = few_others m.times c c.t4 c.t5 (Some m.times.t1) h.few })
    (λ e. h)

counted_on : (m : Management) → On m → On (count_down m)
counted_on m h = counted_by On m (less_on m h) t1_on due_on p_on

-- counting down leaves what is awaited
counted_awaits : (m : Management) → (count_down m).awaited ≡ m.awaited
counted_awaits m = counted_same (λ k. k.awaited ≡ m.awaited) m (λ k c e. e) refl

-- WHAT IS SEEN

-- T1 and T2 follow the phase, and K1 and K2 are left alone
record Follows (left : Bool) (times : Times) (c d : Clocks) : Type 0 where
  pub k1 : d.k1 ≡ c.k1
  pub k2 : d.k2 ≡ c.k2
  pub wait : (runs d.t1 || runs d.t2) ≡ left
  pub few : Few times c → Few times d

changeover_follows : (s : Seen) (times : Times) (c : Clocks) → Follows (is_left s.phase) times c (changeover s times c)
changeover_follows s times c =
    let started = if s.others then t2_starts times c else t1_starts times c in
    let P : Clocks → Type 0 = Follows (is_left s.phase) times c in
    choose P (not (is_left s.phase)) (t1_t2_stop c) (if runs c.t1 || runs c.t2 then c else started)
    (λ e. record { k1 = refl; k2 = refl; wait = sym (not_true (is_left s.phase) e); few = few_none times c })
    (λ e. let is_left_now = sym (not_false (is_left s.phase) e) in
    choose P (runs c.t1 || runs c.t2) c started
    (λ f. record { k1 = refl; k2 = refl; wait = f ∙ is_left_now; few = λ q. q })
    (λ f. choose P s.others (t2_starts times c) (t1_starts times c)
    (λ g. record {
      k1 = refl;
      k2 = refl;
      wait = or_true (runs c.t1) ∙ is_left_now;
      few = λ q. few_t2 times c (Some times.t2) q (most times.t2);
    })
    (λ g. record { k1 = refl; k2 = refl; wait = is_left_now; few = λ q. few_t1 times c (Some times.t1) q (most times.t1) })))

outage_follows : (left : Bool) (s : Seen) (times : Times) (b c : Clocks) → Follows left times b c → Follows left times b (outage s times c)
outage_follows left s times b c h =
    let P : Clocks → Type 0 = Follows left times b in
    choose P (not (is_paused s.level2)) (p_stops c) (if runs c.p then c else p_starts times c)
    (λ e. record { k1 = h.k1; k2 = h.k2; wait = h.wait; few = λ q. few_others times c c.t4 c.t5 None (h.few q) })
    (λ e. choose P (runs c.p) c (p_starts times c) (λ g. h)
    (λ g. record { k1 = h.k1; k2 = h.k2; wait = h.wait; few = λ q. few_others times c c.t4 c.t5 (Some times.t1) (h.few q) }))

-- of a link that is seen anew, but for the phase
pub record Works (m : Management) : Type 0 where
  pub on : is_off m.state ≡ false
  pub k1 : runs m.clocks.k1 ≡ is_tested m.state
  pub k2 : is_carry m.state ≡ true → m.tests ≡ true → runs m.clocks.k2 ≡ true
  pub few : Few m.times m.clocks

looking_on : (s : Seen) (m : Management) → Works m → On (looking s m)
looking_on s m h =
    let c = changeover s m.times m.clocks in
    let f = outage_follows (is_left s.phase) s m.times m.clocks c (changeover_follows s m.times m.clocks) in
    record { on = h.on; k1 = rw f.k1 h.k1; k2 = λ e q. rw f.k2 (h.k2 e q); wait = f.wait; few = f.few h.few }

-- a row by what is seen: where it asks nothing, it awaits nothing
record SeenOn (r : Row) : Type 0 where
  pub next : On r.next
  pub idle : r.asked ≡ None → awaits r.next.awaited ≡ false

quiet : (m : Management) → On m → awaits m.awaited ≡ false → SeenOn (silent m)
quiet m h i = record { next = h; idle = λ e. i }

tests_on : (m : Management) → On m → SeenOn (testing State.Trial1 m)
tests_on m h = record { next = (testing_on State.Trial1 m refl refl refl h.wait h.few).next; idle = λ e. absurd cc }

carries_on : (m : Management) → settling m.awaited m.clocks ≡ is_left m.seen.phase → awaits m.awaited ≡ false → (m.tests ≡ true → runs m.clocks.k2 ≡ true) → Few m.times m.clocks → SeenOn (carrying m)
carries_on m w i k f = record {
  next = record {
    on = refl;
    k1 = refl;
    k2 = λ e. k;
    wait = idle_or (awaits m.awaited) (runs m.clocks.t1 || runs m.clocks.t2) (is_left m.seen.phase) w i;
    few = few_k1 m.times m.clocks None f tt;
  };
  idle = λ e. absurd cc;
}

came_up_on : (m : Management) → On m → awaits m.awaited ≡ false → SeenOn (came_up m)
came_up_on m h i =
    let up = with_clocks (t17_stops m.clocks) m in
    let few = few_t17 m.times m.clocks h.few in
    choose SeenOn m.tests (testing State.Trial1 up) (carrying up)
    (λ e. tests_on up (record { on = h.on; k1 = h.k1; k2 = h.k2; wait = h.wait; few = few }))
    (λ e. carries_on up h.wait i (λ q. absurd cc) few)

few_passed : (m : Management) → Few m.times m.clocks → Few m.times (passed m).clocks
few_passed m f = record { t1 = f.t1; t2 = f.t2; t17 = f.t17; k1 = tt; k2 = most m.times.k2 }

passed_on : (m : Management) → On m → awaits m.awaited ≡ false → SeenOn (if m.seen.passed then carrying (passed m) else silent m)
passed_on m h i = choose SeenOn m.seen.passed (carrying (passed m)) (silent m)
    (λ e. carries_on (passed m) h.wait i (λ q. refl) (few_passed m h.few)) (λ e. quiet m h i)

again_on : (m : Management) → On m → awaits m.awaited ≡ false → SeenOn (if m.seen.passed then silent (record (passed m) { state = State.Carry }) else silent m)
again_on m h i =
    let again = record (passed m) { state = State.Carry } in
    choose SeenOn m.seen.passed (silent again) (silent m)
    (λ e. quiet again (record { on = refl; k1 = refl; k2 = λ q r. refl; wait = h.wait; few = few_passed m h.few }) i)
    (λ e. quiet m h i)

work_on : (st : State) (alone : Bool) (m : Management) → On m → awaits m.awaited ≡ false → SeenOn (at_work st alone m)
work_on State.Rest alone m h i =
    choose SeenOn (is_up m.seen.phase) (came_up m) (silent m) (λ e. came_up_on m h i) (λ e. quiet m h i)
work_on State.Rising alone m h i =
    choose SeenOn (is_up m.seen.phase) (came_up m) (if alone then asking Ask.Emergency m else silent m)
    (λ e. came_up_on m h i)
    (λ e. choose SeenOn alone (asking Ask.Emergency m) (silent m) (λ q. record { next = h; idle = λ r. absurd cc }) (λ q. quiet m h i))
work_on State.Trial1 alone m h i = passed_on m h i
work_on State.Trial2 alone m h i = passed_on m h i
work_on State.Again1 alone m h i = again_on m h i
work_on State.Again2 alone m h i = again_on m h i
work_on _ alone m h i = quiet m h i

gone_on : (m : Management) → On m → On (gone_out m)
gone_on m h = record {
  on = refl;
  k1 = refl;
  k2 = λ e. absurd cc;
  wait = h.wait;
  few = record { t1 = h.few.t1; t2 = h.few.t2; t17 = most m.times.t17; k1 = tt; k2 = tt };
}

seeing_on : (s : Seen) (m : Management) → Works m → SeenOn (seeing s m)
seeing_on s m h = seen_by SeenOn s m
    (λ e. quiet (gone_out (looking s m)) (gone_on (looking s m) (looking_on s m h)) refl)
    (λ e. work_on m.state (m.seen.others && not s.others) (looking s m) (looking_on s m h) refl)

behind_on : (o : Option Ask) (m : Management) → On m → (o ≡ None → awaits m.awaited ≡ false) → RowOn (behind o m)
behind_on None m h i = acted_on m h (i refl)
behind_on (Some ask) m h i = asking_on ask m h

pub in_turn_on : (s : Seen) (m : Management) → Works m → RowOn (in_turn s m)
in_turn_on s m h =
    let r = seeing_on s m h in
    behind_on (seeing s m).asked (count_down (seeing s m).next) (counted_on (seeing s m).next r.next)
    (λ e. rw (counted_awaits (seeing s m).next) (r.idle e))

pub turned_on : (s : Seen) (m : Management) → On m → RowOn (turned s m)
turned_on s m h =
    let o = h.on in
    choose RowOn (is_off m.state) (silent m) (in_turn s m) (λ e. absurd cc)
    (λ e. in_turn_on s m (record { on = h.on; k1 = h.k1; k2 = h.k2; few = h.few }))

-- ANSWERS

-- the link of an answer, with these timers and this phase
answering : (m k : Management) → On m → k.state ≡ m.state → k.tests ≡ m.tests → k.clocks.k1 ≡ m.clocks.k1 → k.clocks.k2 ≡ m.clocks.k2 → k.awaited ≡ Awaited.Nothing → (runs k.clocks.t1 || runs k.clocks.t2) ≡ is_left k.seen.phase → Few k.times k.clocks → RowOn (acted k)
answering m k h s t a b i w f = acted_on k
    (record { on = rw s h.on; k1 = rw (a, s) h.k1; k2 = λ q r. rw b (h.k2 (rw s at q) (rw t at r)); wait = rw i w; few = f })
    (rw i refl)

answers_by : (a : Awaited) (done : Bool) (m : Management) → On m → settling a m.clocks ≡ is_left m.seen.phase → RowOn (answers a done (record m { awaited = Awaited.Nothing }))
answers_by Awaited.Restore true m h w =
    let few = few_others m.times m.clocks (Some (m.times.t4 - 1)) m.clocks.t5 m.clocks.p h.few in
    answering m _ h refl refl refl refl refl w few
answers_by Awaited.TimedAtT1 true m h w = answering m _ h refl refl refl refl refl refl (few_none m.times m.clocks h.few)
answers_by Awaited.TimedAtT2 true m h w = answering m _ h refl refl refl refl refl refl (few_none m.times m.clocks h.few)
answers_by Awaited.NoAnswer true m h w = answering m _ h refl refl refl refl refl refl (few_none m.times m.clocks h.few)
answers_by Awaited.TimedAtT1 false m h w =
    answering m _ h refl refl refl refl refl (or_true (runs m.clocks.t1) ∙ w) (few_t2 m.times m.clocks (Some m.times.t2) h.few (most m.times.t2))
answers_by Awaited.TimedAtT2 false m h w =
    asking_on Ask.NoAnswer _ (record { on = h.on; k1 = h.k1; k2 = h.k2; wait = w; few = h.few })
answers_by Awaited.NoAnswer false m h w =
    answering m _ h refl refl refl refl refl (or_true (runs m.clocks.t1) ∙ w) (few_t2 m.times m.clocks (Some m.times.t2) h.few (most m.times.t2))
answers_by Awaited.Restore false m h w = answering m _ h refl refl refl refl refl w h.few
answers_by Awaited.Nothing done m h w = answering m _ h refl refl refl refl refl w h.few

pub answers_on : (a : Awaited) (done : Bool) (m : Management) → On m → a ≡ m.awaited → RowOn (answers a done (record m { awaited = Awaited.Nothing }))
answers_on a done m h e = answers_by a done m h (rw e h.wait)

-- RUNS

-- a link that isn't activated
abbrev off_of : Times → Bool → Seen → Management
off_of times tests seen = record {
  times = times;
  tests = tests;
  state = State.Off;
  clocks = no_clocks;
  seen = seen;
  awaited = Awaited.Nothing;
}

abbrev pub IsOff : Management → Type 0
IsOff m = m ≡ off_of m.times m.tests m.seen

-- either it's so, or nothing runs
abbrev pub Holds : Management → Type 0
Holds m = IsOff m ⊎ On m

-- where it's Off nothing is asked; else what holds of an activated link holds
abbrev RowHolds : Row → Type 0
RowHolds r = IsOff r.next ⊎ RowOn r

off_step : (times : Times) (tests : Bool) (seen : Seen) (i : Input) → RowHolds (step (off_of times tests seen) i)
unfolding acted
off_step times tests seen (activate s) = inr (in_turn_on s _ (record {
  on = refl;
  k1 = refl;
  k2 = λ e. absurd cc;
  few = record { t1 = tt; t2 = tt; t17 = tt; k1 = tt; k2 = tt };
}))
off_step times tests seen deactivate = inl refl
off_step times tests seen (turn s) = inl refl
off_step times tests seen (answer done) = inl refl

on_step : (m : Management) (i : Input) → On m → Holds (step m i).next
on_step m (activate s) h = let o = h.on in
    choose (λ (r : Row). Holds r.next) (is_off m.state) (activated s m) (silent m) (λ e. absurd cc) (λ e. inr h)
on_step m deactivate h = let o = h.on in
    choose (λ (r : Row). Holds r.next) (is_off m.state) (silent m) (deactivated m) (λ e. absurd cc) (λ e. inl refl)
on_step m (turn s) h = inr (turned_on s m h).next
on_step m (answer done) h = inr (answers_on m.awaited done m h refl).next

one_step : (m : Management) (i : Input) → Holds m → Holds (step m i).next
one_step m i (inl e) = elim (subst (λ k. RowHolds (step k i)) (sym e) (off_step m.times m.tests m.seen i)) [ inl f ↦ inl f | inr f ↦ inr f.next ]
one_step m i (inr h) = on_step m i h

holds_after : (m : Management) (inputs : List Input) → Holds m → Holds (after m inputs)
holds_after m [] h = h
holds_after m (i ∷ inputs) h = holds_after (step m i).next inputs (one_step m i h)

pub run_holds : (times : Times) (tests : Bool) (past : List Input) → Holds (run times tests past)
run_holds times tests past = holds_after (fresh times tests) past (inl refl)

-- ATTENDED

rest_attended : (t17 t1 t2 a : Bool) (p : Phase) → (t17 ≡ false → is_settled p ≡ false) → (a || (t1 || t2)) ≡ is_left p → a ≡ false → (t17 || (t1 || (t2 || is_up p))) ≡ true
rest_attended true t1 t2 a p d w i = refl
rest_attended false true t2 a p d w i = refl
rest_attended false false true a p d w i = refl
rest_attended false false false a Phase.Up d w i = refl
rest_attended false false false a Phase.Settled d w i = absurd (let q = d refl in cc)
rest_attended false false false true Phase.Left d w i = absurd cc
rest_attended false false false false Phase.Left d w i = absurd cc

carry_attended : (tests k2 : Bool) → (tests ≡ true → k2 ≡ true) → (not tests || k2) ≡ true
carry_attended true k2 h = h refl
carry_attended false k2 h = refl

within_runs : (n : ℕ) (c : Option ℕ) → AtMost n c → within n c ≡ runs c
within_runs n None h = refl
within_runs n (Some k) h = grind (arith, nat_tests)

k1_attended : (m : Management) → On m → is_tested m.state ≡ true → within m.times.k1 m.clocks.k1 ≡ true
k1_attended m h e = within_runs m.times.k1 m.clocks.k1 h.few.k1 ∙ h.k1 ∙ e

attended_at : (st : State) (m : Management) → m.state ≡ st → On m → awaits m.awaited ≡ false → (is_rest m.state ≡ true → runs m.clocks.t17 ≡ false → is_settled m.seen.phase ≡ false) → IsTrue (is_attended st m)
attended_at State.Rest m e h i d =
    let t = m.times in
    let c = m.clocks in
    rw (within_runs t.t17 c.t17 h.few.t17, within_runs t.t1 c.t1 h.few.t1, within_runs t.t2 c.t2 h.few.t2)
    (rest_attended (runs c.t17) (runs c.t1) (runs c.t2) (awaits m.awaited) m.seen.phase (d (rw e refl)) h.wait i)
attended_at State.Trial1 m e h i d = k1_attended m h (rw e refl)
attended_at State.Trial2 m e h i d = k1_attended m h (rw e refl)
attended_at State.Again1 m e h i d = k1_attended m h (rw e refl)
attended_at State.Again2 m e h i d = k1_attended m h (rw e refl)
attended_at State.Carry m e h i d =
    rw (within_runs m.times.k2 m.clocks.k2 h.few.k2) (carry_attended m.tests (runs m.clocks.k2) (h.k2 (rw e refl)))
attended_at State.Off m e h i d = refl
attended_at State.Rising m e h i d = refl

row_attended : (r : Row) → RowHolds r → r.asked ≡ None → IsTrue (is_attended r.next.state r.next)
row_attended r (inl e) q = subst (λ k. IsTrue (is_attended k.state k)) (sym e) refl
row_attended r (inr h) q = attended_at r.next.state r.next refl h.next (h.idle q) (h.due q)

step_rows : (m : Management) (i : Input) → Holds m → is_refused m i ≡ false → RowHolds (step m i)
step_rows m i (inl e) f = subst (λ k. RowHolds (step k i)) (sym e) (off_step m.times m.tests m.seen i)
step_rows m (activate s) (inr h) f = absurd (let o = h.on in cc)
step_rows m deactivate (inr h) f =
    choose RowHolds (is_off m.state) (silent m) (deactivated m) (λ e. absurd cc) (λ e. inl refl)
step_rows m (turn s) (inr h) f = inr (turned_on s m h)
step_rows m (answer done) (inr h) f = inr (answers_on m.awaited done m h refl)

pub never_left_waiting : NeverLeftWaiting
never_left_waiting times tests past input f q =
    let m = run times tests past in
    row_attended (step m input) (step_rows m input (run_holds times tests past) f) q

-- OFF

off_walk : (times : Times) (tests : Bool) (seen : Seen) (since : List Input) → list_any is_activate since ≡ false → let off = off_of times tests seen in (after off since ≡ off) × AsksNothing off since
unfolding acted
off_walk times tests seen [] e = (refl, tt)
off_walk times tests seen (activate s ∷ since) e = absurd cc
off_walk times tests seen (deactivate ∷ since) e = let r = off_walk times tests seen since e in (r.0, (refl, r.1))
off_walk times tests seen (turn s ∷ since) e = let r = off_walk times tests seen since e in (r.0, (refl, r.1))
off_walk times tests seen (answer done ∷ since) e = let r = off_walk times tests seen since e in (r.0, (refl, r.1))

deactivated_off : (m : Management) → Holds m → IsOff (step m deactivate).next
deactivated_off m (inl e) = choose (λ (r : Row). IsOff r.next) (is_off m.state) (silent m) (deactivated m) (λ q. e) (λ q. refl)
deactivated_off m (inr h) = let o = h.on in
    choose (λ (r : Row). IsOff r.next) (is_off m.state) (silent m) (deactivated m) (λ q. absurd cc) (λ q. refl)

abbrev Silent : List Input → Management → Type 0
Silent since m = (m.state ≡ State.Off) × (m.clocks ≡ no_clocks) × (after m since ≡ m) × AsksNothing m since

silent_from : (m : Management) (since : List Input) → IsOff m → list_any is_activate since ≡ false → Silent since m
silent_from m since e f =
    let w = off_walk m.times m.tests m.seen since f in
    subst (Silent since) (sym e) (refl, refl, w.0, w.1)

pub off_is_silent : OffIsSilent
off_is_silent times tests past since f =
    silent_from (step (run times tests past) deactivate).next since
    (deactivated_off (run times tests past) (run_holds times tests past)) f
