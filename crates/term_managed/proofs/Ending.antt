-- WHAT IS ASKED COMES TO AN END: behind each answer fewer of the timers have ended at whose end something is asked
-- (`answer_fewer`). So a link's management asks no more than `pending` times.
use Rattle.std.proofs.Common.{refl, ap, arith, ◌≡◌, ◌∙◌, ◌<◌, ◌≤◌, ℕ, ◌+◌, ◌*◌, ◌-◌, ◌==◌, ◌&&◌, not, Bool, true, false, Option, None, Some, if◌then◌else◌}
use Rattle.std.proofs.lemmas.Bool.Decides.{nat_tests}
use Rattle.l3_link.specs.Lengths.{is_over, runs}
use Rattle.l3_link.specs.Management.{Management, is_rest, is_settled}
use Rattle.l3_link.specs.Table.{Row, acted, answered, answers, k1_ends, k2_ends, p_ends, rising, risen, settled, silent, t1_ends, t2_ends, t4_ends, t5_ends, waiting_on, with_clocks}
use Rattle.l3_link.specs.declared.clocks.Clocks.{Clocks}
use Rattle.l3_link.specs.declared.management.Awaited.{Awaited}
use Rattle.l3_link.specs.declared.management.State.{State}
use Rattle.l3_link.specs.declared.signals.Ask.{Ask}

-- HOW OFTEN something can be asked yet: once at the end of each timer, twice at that of T2, and once by a link at rest

unfoldable pub one_if : Bool → ℕ
one_if b = if b then 1 else 0

pub one_true : (b : Bool) → b ≡ true → one_if b ≡ 1
unfolding one_if
one_true true h = refl
one_true false h = absurd (cc h)

pub at_most_one : (b : Bool) → one_if b ≤ 1
unfolding one_if
at_most_one true = omega arith
at_most_one false = omega arith

one_false : one_if false ≡ 0
unfolding one_if
one_false = refl

positive : (n : ℕ) → 0 < n → (n == 0) ≡ false
positive n h = grind (arith, nat_tests, h)

-- a timer that has started runs
not_over : (n : ℕ) → 0 < n → one_if (is_over (Some n)) ≡ 0
unfolding one_if
not_over n h = ap (λ b. if b then 1 else 0) (positive n h)

abbrev weight : Awaited → ℕ
weight Awaited.Restore = 1
weight Awaited.TimedAtT2 = 1
weight _ = 0

abbrev in_clocks : Clocks → ℕ
in_clocks c =
    one_if (is_over c.t1) + 2 * one_if (is_over c.t2) + one_if (is_over c.t4) + one_if (is_over c.t5) + one_if (is_over c.k1)
    + one_if (is_over c.k2) + one_if (is_over c.p)

abbrev pub left : Management → ℕ
left m = in_clocks m.clocks + one_if (is_rest m.state) + weight m.awaited

abbrev pub pending : Option Ask → Management → ℕ
pending None m = 0
pending (Some ask) m = 1 + left m

-- fewer than so many are left behind what this row asks
abbrev pub AsksFewer : ℕ → Row → Type 0
AsksFewer n row = pending row.asked row.next ≤ n

one_of : {A : Type 0} (P : A → Type 0) (b : Bool) (x y : A) → (b ≡ true → P x) → (b ≡ false → P y) → P (if b then x else y)
one_of P true x y f g = f refl
one_of P false x y f g = g refl

-- WHERE A TIMER HAS ENDED, and for a link that is due

k1_fewer : (state : State) (m : Management) → is_over m.clocks.k1 ≡ true → AsksFewer (left m) (k1_ends state m)
k1_fewer State.Trial1 m h = omega (arith, one_true (is_over m.clocks.k1) h, not_over m.times.k1 m.times.k1_set, one_false)
k1_fewer State.Again1 m h = omega (arith, one_true (is_over m.clocks.k1) h, not_over m.times.k1 m.times.k1_set, one_false)
k1_fewer State.Off m h = omega (arith, one_true (is_over m.clocks.k1) h, one_false)
k1_fewer State.Rest m h = omega (arith, one_true (is_over m.clocks.k1) h, one_false)
k1_fewer State.Rising m h = omega (arith, one_true (is_over m.clocks.k1) h, one_false)
k1_fewer State.Trial2 m h = omega (arith, one_true (is_over m.clocks.k1) h, one_false)
k1_fewer State.Carry m h = omega (arith, one_true (is_over m.clocks.k1) h, one_false)
k1_fewer State.Again2 m h = omega (arith, one_true (is_over m.clocks.k1) h, one_false)

first_of : (a b : Bool) → a && b ≡ true → a ≡ true
first_of true b h = refl
first_of false b h = h

rise_fewer : (m : Management) → AsksFewer (left m) (risen m)
rise_fewer m =
    one_of (λ (row : Row). AsksFewer (left m) row) (is_rest m.state && not (runs m.clocks.t17) && is_settled m.seen.phase) (rising m) (silent m)
    (λ h. omega (arith, one_true (is_rest m.state) (first_of (is_rest m.state) _ (first_of (is_rest m.state && not (runs m.clocks.t17)) _ h)), one_false))
    (λ h. omega arith)

pub act_fewer : (m : Management) → AsksFewer (left m) (acted m)
unfolding acted
act_fewer m =
    let c = m.clocks in
    let P : Row → Type 0 = λ row. AsksFewer (left m) row in
    one_of P (is_over c.t1) (t1_ends m) _ (λ h. omega (arith, one_true (is_over c.t1) h, one_false))
    (λ _. one_of P (is_over c.t2) (t2_ends m) _ (λ h. omega (arith, one_true (is_over c.t2) h, one_false))
    (λ _. one_of P (is_over c.t4) (t4_ends m) _
    (λ h. omega (arith, one_true (is_over c.t4) h, not_over m.times.t5 m.times.t5_set, one_false))
    (λ _. one_of P (is_over c.t5) (t5_ends m) _ (λ h. omega (arith, one_true (is_over c.t5) h, one_false))
    (λ _. one_of P (is_over c.k1) (k1_ends m.state m) _ (λ h. k1_fewer m.state m h)
    (λ _. one_of P (is_over c.k2) (k2_ends m) _
    (λ h. omega (arith, one_true (is_over c.k2) h, not_over m.times.k1 m.times.k1_set, one_false))
    (λ _. one_of P (is_over c.p) (p_ends m) _ (λ h. omega (arith, one_true (is_over c.p) h, one_false))
    (λ _. rise_fewer m)))))))

-- BEHIND AN ANSWER

-- no more are left
then_fewer : (n : ℕ) (m : Management) → left m ≤ n → AsksFewer n (acted m)
then_fewer n m h = omega (arith, act_fewer m, h)

answers_fewer : (awaited : Awaited) (done : Bool) (m : Management) → m.awaited ≡ Awaited.Nothing
    → AsksFewer (left m + weight awaited) (answers awaited done m)
answers_fewer Awaited.Restore true m h =
    then_fewer _ (with_clocks (record m.clocks { t4 = Some (m.times.t4 - 1) }) m)
    (omega (arith, at_most_one (is_over (Some (m.times.t4 - 1)))))
answers_fewer Awaited.Restore false m h = then_fewer _ m (omega arith)
answers_fewer Awaited.TimedAtT1 true m h = then_fewer _ (settled m) (omega (arith, one_false))
answers_fewer Awaited.TimedAtT1 false m h = then_fewer _ (waiting_on m) (omega (arith, not_over m.times.t2 m.times.t2_set))
answers_fewer Awaited.TimedAtT2 true m h = then_fewer _ (settled m) (omega (arith, one_false))
answers_fewer Awaited.TimedAtT2 false m h = omega (arith, ap (λ (a : Awaited). weight a) h)
answers_fewer Awaited.NoAnswer true m h = then_fewer _ (settled m) (omega (arith, one_false))
answers_fewer Awaited.NoAnswer false m h = then_fewer _ (waiting_on m) (omega (arith, not_over m.times.t2 m.times.t2_set))
answers_fewer Awaited.Nothing done m h = then_fewer _ m (omega arith)

pub answer_fewer : (done : Bool) (m : Management) → AsksFewer (left m) (answered done m)
answer_fewer done m = omega (arith, answers_fewer m.awaited done (record m { awaited = Awaited.Nothing }) refl)

pub pending_less : (asked asked' : Option Ask) (ask : Ask) (m m' : Management) (done : Bool) → asked ≡ Some ask
    → asked' ≡ (answered done m).asked → m' ≡ (answered done m).next → pending asked' m' < pending asked m
pending_less asked asked' ask m m' done is asks next =
    let before = ap (λ (a : Option Ask). pending a m) is in
    let behind : pending asked' m' ≡ pending (answered done m).asked (answered done m).next =
    ap (λ (a : Option Ask). pending a m') asks ∙ ap (λ (n : Management). pending (answered done m).asked n) next in
    omega (arith, before, behind, answer_fewer done m)
