-- Walks over lists of inputs.
use Rattle.std.proofs.Common.{◌≡◌, ◌+◌, ◌≤◌, ◌⊎◌, inl, inr, ◌↔◌, Bool, true, false, Some, List, [], ◌∷◌, ◌++◌, refl, sym, ap, arith, ◌∙◌}
use Rattle.l2_units.specs.Orders.{is_start}
use Rattle.l2_align.specs.declared.align.State.{State}
use Rattle.l2_align.specs.declared.signals.AlignIn.{AlignIn}
use Rattle.l2_align.specs.declared.signals.Outcome.{Outcome}
use Rattle.l2_align.specs.declared.signals.Monitor.{Monitor}
use Rattle.l2_align.specs.Alignment.{Alignment, initial}
use Rattle.l2_align.specs.Table.{row}
use Rattle.l2_align.specs.Runs.{after, RunsUnbroken, HasProved, StaysProving, aborts_among}
use Rattle.l2_align.specs.Laws.{CompletesUnbroken, FifthAbortEnds, NewAfterEnd}
use Rattle.l2_align.proofs.Steps.{new_at_end, whole_at_complete, keeps_proving, counts_on, leaves_on, fifth_on}

pub after-append : (a : Alignment) (xs ys : List AlignIn) → after a (xs ++ ys) ≡ after (after a xs) ys
after-append a [] ys = refl
after-append a (i ∷ xs) ys = after-append (row a i).next xs ys

pub new_after_end : NewAfterEnd
new_after_end past input end h =
    rw (after-append initial past (input ∷ [])) (new_at_end (after initial past) input end h)

-- the machine was proving from the start on, unbroken
record ProvedThroughout (a : Alignment) (inputs : List AlignIn) : Type 0 where
  pub state : a.state ≡ State.Proving
  pub pending : a.pending ≡ false
  pub unbroken : RunsUnbroken a inputs

one_more : (a : Alignment) (i : AlignIn) (is : List AlignIn) → HasProved (row a i).next is → HasProved a (i ∷ is)
one_more a i is h = record {
  before = i ∷ h.before;
  starting = h.starting;
  since = h.since;
  split = ap (λ xs. i ∷ xs) h.split;
  started = h.started;
  unbroken = h.unbroken;
}

-- the first input starts T4, or it found the machine proving and kept it so
begun : (a : Alignment) (i : AlignIn) (is : List AlignIn) (starts : Bool) → is_start (row a i).out.t4 ≡ starts → ProvedThroughout (row a i).next is → HasProved a (i ∷ is) ⊎ ProvedThroughout a (i ∷ is)
begun a i is true e h = inl (record { before = []; starting = i; since = is; split = refl; started = e; unbroken = h.unbroken })
begun a i is false e h =
    let k = keeps_proving a i e h.state h.pending in
    inr (record { state = k.state; pending = k.pending; unbroken = (k.no_abort, k.kept, h.unbroken) })

proved : (a : Alignment) (is : List AlignIn) → (after a is).state ≡ State.Proving → (after a is).pending ≡ false → HasProved a is ⊎ ProvedThroughout a is
proved a [] s p = inr (record { state = s; pending = p; unbroken = tt })
proved a (i ∷ is) s p =
    elim (proved (row a i).next is s p) [ inl h ↦ inl (one_more a i is h) | inr h ↦ begun a i is (is_start (row a i).out.t4) refl h ]

pub completes_unbroken : CompletesUnbroken
completes_unbroken past input h =
    let w = whole_at_complete (after initial past) input h in
    (w.input, elim (proved initial past w.state w.pending) [ inl p ↦ p | inr p ↦ absurd (let s = p.state in cc) ])

stays_now : (a : Alignment) (is : List AlignIn) → StaysProving a is → a.state ≡ State.Proving
stays_now a [] h = h
stays_now a (i ∷ is) h = h.0

-- over inputs that keep the machine proving, its count of aborts grows by those that count
record CountsOn (a : Alignment) (is : List AlignIn) : Type 0 where
  pub state : (after a is).state ≡ State.Proving
  pub count : (after a is).aborts ≡ a.aborts + aborts_among a is
  pub few : (after a is).aborts ≤ 4

counted_on : (a : Alignment) (is : List AlignIn) → a.aborts ≤ 4 → StaysProving a is → CountsOn a is
counted_on a [] f h = record { state = h; count = omega arith; few = f }
counted_on a (i ∷ is) f h =
    let c = counts_on a i h.0 f (stays_now (row a i).next is h.1) in
    let rest = counted_on (row a i).next is c.few h.1 in
    record { state = rest.state; count = omega (arith, rest.count, c.more); few = rest.few }

fifth_after : (b z : Alignment) (is : List AlignIn) → z ≡ after b is → b.aborts ≡ 0 → StaysProving b is → (row z AlignIn.Abort).out.monitor ≡ Monitor.Off → ((row z AlignIn.Abort).out.outcome ≡ Some Outcome.NotPossible) ↔ (aborts_among b is ≡ 4)
fifth_after b z is e zero_first stays off =
    let c = counted_on b is (omega arith) stays in
    let state : z.state ≡ State.Proving = rw e c.state in
    let few : z.aborts ≤ 4 = rw e c.few in
    let same : z.aborts ≡ aborts_among b is = rw e (omega (arith, c.count)) in
    let f = fifth_on z state few off in
    (λ h. sym same ∙ f.0 h, λ h. f.1 (same ∙ h))

pub fifth_abort : FifthAbortEnds
fifth_abort past leaving since aligned stays off =
    let a = after initial past in
    let b = (row a leaving).next in
    let first : after initial (past ++ leaving ∷ []) ≡ b = after-append initial past (leaving ∷ []) in
    let stays_first : StaysProving b since = rw first at stays in
    rw first (fifth_after b (after initial (past ++ leaving ∷ since)) since (after-append initial past (leaving ∷ since)) (leaves_on a leaving aligned (stays_now b since stays_first)) stays_first off)
