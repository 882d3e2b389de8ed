-- Basic error control is as the law of one link wants it: the indicator bits of its two ends are in step.
use Rattle.std.proofs.Common.{refl, ◌≡◌, ◌<◌, ℕ, Bool, true, false, not, ◌&&◌, nat_lt, List, [], ◌∷◌, ◌++◌, length, Option, None}
use Rattle.std.specs.Prelude.{is_some}
use Rattle.std.proofs.lemmas.Bool.{ltb-true}
use Rattle.l2_units.specs.declared.unit.Header.{Header}
use Rattle.l2_window.specs.Window.{WindowState, most_unacked}
use Rattle.l2_window.specs.Line.{Carried}
use Rattle.l2_window.specs.declared.control.Choice.{Choice}
use Rattle.l2_window.specs.declared.control.Choice.TheVariants.{Again, First, Fill}
use Rattle.l2_window.proofs.Rules.{AreKept}
use Rattle.l2_window.proofs.Runs as runs
use Rattle.l2_basic.specs.Basic.{BasicState, start, same, choice_of, head_of, control_after, is_processed, has_abnormal_bsn, has_abnormal_fib, is_missing_one, told_fault, control_heard, wants_retransmission}
use Rattle.l2_basic.specs.Link.{rules, OneLink}
use Rattle.l2_basic.proofs.Bits.{Bits, calm, fibs-push, fibs-lose, bibs-push, bibs-lose, heard-bib, heard-fib}
use Rattle.l2_basic.proofs.Choosing.{again_at, first_at}

-- the bits of the end y that may ask and of the end x that answers
abbrev pub InStep : BasicState → BasicState → List Carried → List Carried → Type 0
InStep x y out back = Bits y.bib y.asked x.fib out back

again : (s : BasicState) (w : WindowState) (place : ℕ) → choice_of s w ≡ Again place → place < length w.unacked
again s w place e =
    let t = again_at (nat_lt s.cursor (length w.unacked)) (nat_lt 0 (length w.unsent)) (nat_lt (length w.unacked) (most_unacked w.profile)) s.cursor place e in
    rw t.1 (ltb-true s.cursor (length w.unacked) t.0)

first : (s : BasicState) (w : WindowState) → choice_of s w ≡ First → length w.unacked < most_unacked w.profile
first s w e =
    let t = first_at (nat_lt s.cursor (length w.unacked)) (nat_lt 0 (length w.unsent)) (nat_lt (length w.unacked) (most_unacked w.profile)) s.cursor e in
    ltb-true (length w.unacked) (most_unacked w.profile) t.2

neither : (x y : Bool) → (not x && not y) ≡ true → (x ≡ false) × (y ≡ false)
neither false false e = (refl, refl)
neither false true e = absurd cc
neither true y e = absurd cc

nothing_told : (x y : Bool) (s : BasicState) → x ≡ false → y ≡ false → told_fault x y s ≡ None
nothing_told x y s e f = rw (e, f) refl

no_fault : (s : BasicState) (w : WindowState) (head : Header) → is_processed s w head ≡ true → told_fault (has_abnormal_bsn w head) (has_abnormal_fib s w head) s ≡ None
no_fault s w head e =
    let n = neither (has_abnormal_bsn w head) (has_abnormal_fib s w head) e in
    nothing_told _ _ s n.0 n.1

-- what is sent leaves the bits as they are
same_expected : (choice : Choice) (s : BasicState) (w : WindowState) → (control_after choice s w).expected ≡ s.expected
same_expected (Again place) s w = refl
same_expected First s w = refl
same_expected Fill s w = refl

same_fib : (choice : Choice) (s : BasicState) (w : WindowState) → (control_after choice s w).fib ≡ s.fib
same_fib (Again place) s w = refl
same_fib First s w = refl
same_fib Fill s w = refl

same_bib : (choice : Choice) (s : BasicState) (w : WindowState) → (control_after choice s w).bib ≡ s.bib
same_bib (Again place) s w = refl
same_bib First s w = refl
same_bib Fill s w = refl

same_asked : (choice : Choice) (s : BasicState) (w : WindowState) → (control_after choice s w).asked ≡ s.asked
same_asked (Again place) s w = refl
same_asked First s w = refl
same_asked Fill s w = refl

emit : (x y : BasicState) (out back : List Carried) (choice : Choice) (fsn : ℕ) (w : WindowState) (message : Option ℕ) → InStep x y out back → InStep (control_after choice x w) y (out ++ record { head = head_of x w fsn; message = message } ∷ []) back
emit x y out back choice fsn w message h = rw (same_fib choice x w) (record {
  turned = h.turned;
  fibs = fibs-push y.bib (not y.asked) out h.turned (record { head = head_of x w fsn; message = message }) h.fibs h.last;
  last = h.last;
  bibs = h.bibs;
})

emit_back : (x y : BasicState) (out back : List Carried) (choice : Choice) (fsn : ℕ) (w : WindowState) (message : Option ℕ) → InStep x y out back → InStep x (control_after choice y w) out (back ++ record { head = head_of y w fsn; message = message } ∷ [])
emit_back x y out back choice fsn w message h = rw (same_bib choice y w, same_asked choice y w) (record {
  turned = h.turned;
  fibs = h.fibs;
  last = h.last;
  bibs = bibs-push y.bib h.turned back (record { head = head_of y w fsn; message = message }) h.bibs refl;
})

hear : (x y : BasicState) (unit : Carried) (out back : List Carried) (w : WindowState) → InStep x y (unit ∷ out) back → is_processed y w unit.head ≡ true → InStep x (control_heard y w unit.head (is_some unit.message)) out back
hear x y unit out back w h well = heard-fib y.bib y.asked x.fib _ _ (is_missing_one y w unit.head (is_some unit.message)) unit out back h (λ (e : same unit.head.fib y.bib ≡ false). rw (well, e) refl) refl (rw well refl)

hear_back : (x y : BasicState) (unit : Carried) (out back : List Carried) (w : WindowState) → InStep x y out (unit ∷ back) → is_processed x w unit.head ≡ true → InStep (control_heard x w unit.head (is_some unit.message)) y out back
hear_back x y unit out back w h well = heard-bib y.bib y.asked x.fib _ (wants_retransmission x w unit.head) unit out back h (rw well refl) refl

pub kept : AreKept rules InStep
kept = record {
  again = λ o. again;
  first = λ o. first;
  same = λ choice o. same_expected choice;
  bsn = λ s w fsn. refl;
  fsn = λ s w fsn. refl;
  acked = λ s w head msu e. rw e refl;
  current = λ s head. same head.fib s.bib;
  accept = λ s w head msu e. rw e refl;
  expected = λ s w head msu. refl;
  fault = λ s w head msu. no_fault s w head;
  processed = λ x y w unit out back h quiet. rw (quiet, calm y.bib y.asked x.fib unit out back h) refl;
  emit = λ x y out back choice o. emit x y out back choice;
  emit_back = λ x y out back choice o. emit_back x y out back choice;
  hear = hear;
  hear_back = hear_back;
  lose = λ x y before unit after back h. record {
    turned = h.turned;
    fibs = fibs-lose y.bib (not y.asked) before unit after h.turned h.fibs;
    last = h.last;
    bibs = h.bibs;
  };
  lose_back = λ x y out before unit after h. record {
    turned = h.turned;
    fibs = h.fibs;
    last = h.last;
    bibs = bibs-lose y.bib h.turned before unit after h.bibs;
  };
}

together : InStep start start [] []
together = record { turned = true; fibs = refl; last = refl; bibs = tt }

pub one_link : OneLink
one_link = runs.one_link rules InStep kept start start refl refl together together
