-- What one row does, by cases on the state, the input and the status that is heard.
use Rattle.std.proofs.Common.{◌≡◌, ◌≢◌, ℕ, ◌+◌, ◌≤◌, ◌↔◌, Bool, true, false, IsFalse, if◌then◌else◌, Some, refl, sym, subst, arith, nat_lt}
use Rattle.std.proofs.lemmas.Bool.Decides.{nat_tests}
use Rattle.l2_units.specs.Orders.{is_start}
use Rattle.l2_units.specs.declared.status.Status.{Status}
use Rattle.l2_units.specs.declared.timer.TimerOrder.{TimerOrder}
use Rattle.l2_align.specs.declared.align.State.{State}
use Rattle.l2_align.specs.declared.signals.AlignIn.{AlignIn}
use Rattle.l2_align.specs.declared.signals.Outcome.{Outcome}
use Rattle.l2_align.specs.declared.signals.Monitor.{Monitor}
use Rattle.l2_align.specs.Alignment.{Alignment, initial}
use Rattle.l2_align.specs.Table.{Row, row, table, aborted, counted_abort, idle, stop_t4, silent, proving, shortened, heard_not_aligned, heard_aligned, heard_proving}
use Rattle.l2_align.specs.Runs.{counted}

-- what holds of both rows holds of a choice between them
either : (P : Row → Type 0) (b : Bool) (x y : Row) → P x → P y → P (if b then x else y)
either P true x y p q = p
either P false x y p q = q

-- An end leaves a new machine.

abbrev Ends : Row → Type 0
Ends r = (e : Outcome) → r.out.outcome ≡ Some e → r.next ≡ initial

ends_aborted : (a : Alignment) → Ends (aborted a)
ends_aborted a = either Ends (nat_lt (a.aborts + 1) 5) _ _ (λ e h. cc) (λ e h. refl)

ends_shortened : (a : Alignment) → Ends (shortened a)
ends_shortened a = either Ends a.short _ _ (λ e h. cc) (λ e h. cc)

ends_not_aligned : (s : Status) (a : Alignment) → Ends (heard_not_aligned s a)
ends_not_aligned Status.Normal a e h = cc
ends_not_aligned _ a e h = cc

ends_aligned : (s : Status) (a : Alignment) → Ends (heard_aligned s a)
ends_aligned Status.OutOfService a e h = refl
ends_aligned _ a e h = cc

ends_proving : (s : Status) (a : Alignment) → Ends (heard_proving s a)
ends_proving Status.Emergency a = ends_shortened a
ends_proving Status.OutOfService a = λ e h. refl
ends_proving _ a = λ e h. cc

ends : (s : State) (i : AlignIn) (a : Alignment) → Ends (table s i a)
ends State.Idle AlignIn.Start a = λ e h. cc
ends State.NotAligned (AlignIn.Heard status) a = ends_not_aligned status a
ends State.Aligned (AlignIn.Heard status) a = ends_aligned status a
ends State.Proving (AlignIn.Heard status) a = ends_proving status a
ends State.Proving AlignIn.Emergency a = either (λ r. Ends (record { out = record r.out { send = Some Status.Emergency }; next = r.next })) a.short _ _ (λ e h. cc) (λ e h. cc)
ends State.Aligned AlignIn.Calm a = either Ends a.local _ _ (λ e h. cc) (λ e h. cc)
ends State.Proving AlignIn.Calm a = either Ends a.local _ _ (λ e h. cc) (λ e h. cc)
ends State.Proving AlignIn.Abort a = either Ends a.pending _ _ (λ e h. cc) (ends_aborted a)
ends State.Proving AlignIn.Good a = either Ends a.pending _ _ (λ e h. cc) (λ e h. cc)
ends State.Proving AlignIn.T4 a = either Ends a.pending _ _ (λ e h. cc) (λ e h. refl)
ends _ _ a = λ e h. cc

pub new_at_end : (a : Alignment) (i : AlignIn) (e : Outcome) → (row a i).out.outcome ≡ Some e → (row a i).next ≡ initial
new_at_end a i = ends a.state i a

-- Complete is told at an end of T4, of an unbroken period.

pub record IsWhole (s : State) (a : Alignment) (i : AlignIn) : Type 0 where
  pub input : i ≡ AlignIn.T4
  pub state : s ≡ State.Proving
  pub pending : a.pending ≡ false

-- this row doesn't tell Complete
abbrev GoesOn : Row → Type 0
GoesOn r = r.out.outcome ≢ Some Outcome.Complete

goes_on_not_aligned : (s : Status) (a : Alignment) → GoesOn (heard_not_aligned s a)
goes_on_not_aligned Status.Normal a h = cc
goes_on_not_aligned _ a h = cc

goes_on_aligned : (s : Status) (a : Alignment) → GoesOn (heard_aligned s a)
goes_on_aligned Status.Normal a h = cc
goes_on_aligned _ a h = cc

goes_on_proving : (s : Status) (a : Alignment) → GoesOn (heard_proving s a)
goes_on_proving Status.Emergency a = either GoesOn a.short _ _ (λ h. cc) (λ h. cc)
goes_on_proving _ a = λ h. cc

goes_on_abort : (a : Alignment) → GoesOn (table State.Proving AlignIn.Abort a)
goes_on_abort a = either GoesOn a.pending _ _ (λ h. cc) (either GoesOn (nat_lt (a.aborts + 1) 5) _ _ (λ h. cc) (λ h. cc))

completes_by : (b : Bool) (a : Alignment) → (if b then proving a else idle stop_t4 (Some Outcome.Complete)).out.outcome ≡ Some Outcome.Complete → b ≡ false
completes_by true a h = cc
completes_by false a h = refl

completes : (s : State) (i : AlignIn) (a : Alignment) → (table s i a).out.outcome ≡ Some Outcome.Complete → IsWhole s a i
completes State.Idle AlignIn.Start a h = absurd cc
completes State.NotAligned (AlignIn.Heard status) a h = absurd (goes_on_not_aligned status a h)
completes State.Aligned (AlignIn.Heard status) a h = absurd (goes_on_aligned status a h)
completes State.Proving (AlignIn.Heard status) a h = absurd (goes_on_proving status a h)
completes State.Proving AlignIn.Emergency a h =
    absurd (either (λ r. r.out.outcome ≢ Some Outcome.Complete) a.short _ _ (λ k. cc) (λ k. cc) h)
completes State.Aligned AlignIn.Calm a h = absurd (either GoesOn a.local _ _ (λ k. cc) (λ k. cc) h)
completes State.Proving AlignIn.Calm a h = absurd (either GoesOn a.local _ _ (λ k. cc) (λ k. cc) h)
completes State.Proving AlignIn.Abort a h = absurd (goes_on_abort a h)
completes State.Proving AlignIn.Good a h = absurd (either GoesOn a.pending _ _ (λ k. cc) (λ k. cc) h)
completes State.Proving AlignIn.T4 a h = record { input = refl; state = refl; pending = completes_by a.pending a h }
completes _ _ a h = absurd cc

pub whole_at_complete : (a : Alignment) (i : AlignIn) → (row a i).out.outcome ≡ Some Outcome.Complete → IsWhole a.state a i
whole_at_complete a i h = completes a.state i a h

-- A row that doesn't start T4 and leaves the machine proving, no abort waiting, found it so; it was no abort, and left
-- T4 as it was.

pub record KeepsProving (s : State) (a : Alignment) (i : AlignIn) (r : Row) : Type 0 where
  pub state : s ≡ State.Proving
  pub pending : a.pending ≡ false
  pub no_abort : i ≢ AlignIn.Abort
  pub kept : r.out.t4 ≡ TimerOrder.Keep

abbrev Keeps : State → Alignment → AlignIn → Row → Type 0
Keeps s a i r =
    IsFalse (is_start r.out.t4) → r.next.state ≡ State.Proving → r.next.pending ≡ false → KeepsProving s a i r

keeps_silent : (a : Alignment) (i : AlignIn) → i ≢ AlignIn.Abort → Keeps State.Proving a i (silent a)
keeps_silent a i n f s p = record { state = refl; pending = p; no_abort = n; kept = refl }

keeps_not_aligned : (s : Status) (a : Alignment) → a.state ≡ State.NotAligned → Keeps State.NotAligned a (AlignIn.Heard s) (heard_not_aligned s a)
keeps_not_aligned Status.Normal a e f s p = absurd cc
keeps_not_aligned _ a e f s p = absurd cc

keeps_aligned : (s : Status) (a : Alignment) → a.state ≡ State.Aligned → Keeps State.Aligned a (AlignIn.Heard s) (heard_aligned s a)
keeps_aligned Status.Normal a e f s p = absurd cc
keeps_aligned _ a e f s p = absurd cc

keeps_heard : (s : Status) (a : Alignment) → Keeps State.Proving a (AlignIn.Heard s) (heard_proving s a)
keeps_heard Status.Emergency a =
    either (Keeps State.Proving a (AlignIn.Heard Status.Emergency)) a.short _ _ (keeps_silent a _ (λ q. cc)) (λ f s p. absurd cc)
keeps_heard Status.OutOfAlignment a = λ f s p. absurd cc
keeps_heard Status.OutOfService a = λ f s p. absurd cc
keeps_heard _ a = keeps_silent a _ (λ q. cc)

keeps_abort : (b : Bool) (a : Alignment) → b ≡ a.pending → Keeps State.Proving a AlignIn.Abort (if b then silent a else aborted a)
keeps_abort true a e = λ f s p. absurd cc
keeps_abort false a e =
    either (Keeps State.Proving a AlignIn.Abort) (nat_lt (a.aborts + 1) 5) _ _ (λ f s p. absurd cc) (λ f s p. absurd cc)

keeps : (s : State) (i : AlignIn) (a : Alignment) → a.state ≡ s → Keeps s a i (table s i a)
keeps State.Idle AlignIn.Start a e = λ f s p. absurd cc
keeps State.NotAligned (AlignIn.Heard status) a e = keeps_not_aligned status a e
keeps State.Aligned (AlignIn.Heard status) a e = keeps_aligned status a e
keeps State.Proving (AlignIn.Heard status) a e = keeps_heard status a
keeps State.Proving AlignIn.Emergency a e =
    either (λ r. Keeps State.Proving a AlignIn.Emergency (record { out = record r.out { send = Some Status.Emergency }; next = r.next })) a.short _ _ (λ f s p. record { state = refl; pending = p; no_abort = λ q. cc; kept = refl }) (λ f s p. absurd cc)
keeps State.Aligned AlignIn.Calm a e =
    either (Keeps State.Aligned a AlignIn.Calm) a.local _ _ (λ f s p. absurd cc) (λ f s p. absurd cc)
keeps State.Proving AlignIn.Calm a e =
    either (Keeps State.Proving a AlignIn.Calm) a.local _ _ (λ f s p. record { state = refl; pending = p; no_abort = λ q. cc; kept = refl }) (keeps_silent a _ (λ q. cc))
keeps State.Proving AlignIn.Abort a e = keeps_abort a.pending a refl
keeps State.Proving AlignIn.Good a e =
    either (Keeps State.Proving a AlignIn.Good) a.pending _ _ (λ f s p. absurd cc) (keeps_silent a _ (λ q. cc))
keeps State.Proving AlignIn.T4 a e =
    either (Keeps State.Proving a AlignIn.T4) a.pending _ _ (λ f s p. absurd cc) (λ f s p. absurd cc)
keeps State.Proving AlignIn.Stop a e = λ f s p. absurd cc
keeps State.Proving i a e = keeps_silent a i (λ q. cc)
keeps _ _ a e = λ f s p. absurd cc

pub keeps_proving : (a : Alignment) (i : AlignIn) → Keeps a.state a i (row a i)
keeps_proving a i = keeps a.state i a refl

-- The count of aborts begins at 0 when Aligned is left for proving.

leaves_heard : (s : Status) (a : Alignment) → a.state ≡ State.Aligned → (heard_aligned s a).next.state ≡ State.Proving → (heard_aligned s a).next.aborts ≡ 0
leaves_heard Status.Normal a e h = refl
leaves_heard Status.Emergency a e h = refl
leaves_heard _ a e h = absurd cc

leaves : (i : AlignIn) (a : Alignment) → a.state ≡ State.Aligned → (table State.Aligned i a).next.state ≡ State.Proving → (table State.Aligned i a).next.aborts ≡ 0
leaves (AlignIn.Heard status) a e h = leaves_heard status a e h
leaves AlignIn.Calm a e h =
    either (λ r. r.next.state ≡ State.Proving → r.next.aborts ≡ 0) a.local _ _ (λ k. absurd cc) (λ k. absurd cc) h
leaves _ a e h = absurd cc

pub leaves_on : (a : Alignment) (i : AlignIn) → a.state ≡ State.Aligned → (row a i).next.state ≡ State.Proving → (row a i).next.aborts ≡ 0
leaves_on a i e =
    subst (λ s. (table s i a).next.state ≡ State.Proving → (table s i a).next.aborts ≡ 0) (sym e) (leaves i a e)

-- Rows that stay in proving count the aborts that count, to 4 at most.

pub record Counts (a next : Alignment) (n : ℕ) : Type 0 where
  pub more : next.aborts ≡ a.aborts + n
  pub few : next.aborts ≤ 4

-- the row stays in proving and counts so
abbrev CountsIn : Alignment → AlignIn → Row → Type 0
CountsIn a i r = r.next.state ≡ State.Proving → Counts a r.next (counted i r.out.monitor)

counts_few : (b : Bool) (a : Alignment) → b ≡ nat_lt (a.aborts + 1) 5 → CountsIn a AlignIn.Abort (if b then counted_abort a else idle stop_t4 (Some Outcome.NotPossible))
counts_few true a e h = record { more = refl; few = grind (arith, nat_tests) }
counts_few false a e h = absurd cc

counts_heard : (s : Status) (a : Alignment) → a.aborts ≤ 4 → CountsIn a (AlignIn.Heard s) (heard_proving s a)
counts_heard Status.Emergency a f =
    either (CountsIn a (AlignIn.Heard Status.Emergency)) a.short _ _ (λ h. record { more = omega arith; few = f }) (λ h. record { more = omega arith; few = f })
counts_heard Status.OutOfAlignment a f = λ h. absurd cc
counts_heard Status.OutOfService a f = λ h. absurd cc
counts_heard _ a f = λ h. record { more = omega arith; few = f }

counts : (i : AlignIn) (a : Alignment) → a.aborts ≤ 4 → CountsIn a i (table State.Proving i a)
counts (AlignIn.Heard status) a f = counts_heard status a f
counts AlignIn.Emergency a f =
    either (λ r. CountsIn a AlignIn.Emergency (record { out = record r.out { send = Some Status.Emergency }; next = r.next })) a.short _ _ (λ h. record { more = omega arith; few = f }) (λ h. record { more = omega arith; few = f })
counts AlignIn.Calm a f =
    either (CountsIn a AlignIn.Calm) a.local _ _ (λ h. record { more = omega arith; few = f }) (λ h. record { more = omega arith; few = f })
counts AlignIn.Abort a f =
    either (CountsIn a AlignIn.Abort) a.pending _ _ (λ h. record { more = omega arith; few = f }) (counts_few (nat_lt (a.aborts + 1) 5) a refl)
counts AlignIn.Good a f =
    either (CountsIn a AlignIn.Good) a.pending _ _ (λ h. record { more = omega arith; few = f }) (λ h. record { more = omega arith; few = f })
counts AlignIn.T4 a f =
    either (CountsIn a AlignIn.T4) a.pending _ _ (λ h. record { more = omega arith; few = f }) (λ h. absurd cc)
counts AlignIn.Stop a f = λ h. absurd cc
counts _ a f = λ h. record { more = omega arith; few = f }

pub counts_on : (a : Alignment) (i : AlignIn) → a.state ≡ State.Proving → a.aborts ≤ 4 → (row a i).next.state ≡ State.Proving → Counts a (row a i).next (counted i (row a i).out.monitor)
counts_on a i e f = subst (λ s. CountsIn a i (table s i a)) (sym e) (counts i a f)

-- The abort that counts as the fifth, and no other, gives NotPossible.

fifth_by : (b : Bool) (a : Alignment) → b ≡ nat_lt (a.aborts + 1) 5 → a.aborts ≤ 4 → ((if b then counted_abort a else idle stop_t4 (Some Outcome.NotPossible)).out.outcome ≡ Some Outcome.NotPossible) ↔ (a.aborts ≡ 4)
fifth_by true a e f = (λ h. absurd cc, λ h. absurd (grind (arith, nat_tests)))
fifth_by false a e f = (λ h. grind (arith, nat_tests), λ h. refl)

fifth : (b : Bool) (a : Alignment) → a.aborts ≤ 4 → let r = if b then silent a else aborted a in r.out.monitor ≡ Monitor.Off → (r.out.outcome ≡ Some Outcome.NotPossible) ↔ (a.aborts ≡ 4)
fifth true a f m = absurd cc
fifth false a f m = fifth_by (nat_lt (a.aborts + 1) 5) a refl f

pub fifth_on : (a : Alignment) → a.state ≡ State.Proving → a.aborts ≤ 4 → (row a AlignIn.Abort).out.monitor ≡ Monitor.Off → ((row a AlignIn.Abort).out.outcome ≡ Some Outcome.NotPossible) ↔ (a.aborts ≡ 4)
fifth_on a e f =
    subst (λ s. let r = table s AlignIn.Abort a in r.out.monitor ≡ Monitor.Off → (r.out.outcome ≡ Some Outcome.NotPossible) ↔ (a.aborts ≡ 4)) (sym e) (fifth a.pending a f)
