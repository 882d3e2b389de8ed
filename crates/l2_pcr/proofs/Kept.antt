-- Preventive cyclic retransmission is as the law of one link wants it: its ends need nothing in step.
use Rattle.std.proofs.Common.{refl, ◌≡◌, ◌<◌, ℕ, Bool, true, false, not, nat_lt, List, length, None}
use Rattle.std.specs.Prelude.{Some, if◌then◌else◌}
use Rattle.std.proofs.lemmas.Bool.{ltb-true}
use Rattle.l2_window.specs.Window.{WindowState, most_unacked}
use Rattle.l2_window.specs.Line.{Carried}
use Rattle.l2_window.specs.declared.control.Choice.{Choice}
use Rattle.l2_window.specs.declared.control.Choice.TheVariants.{Again, First, Fill}
use Rattle.l2_units.specs.declared.cause.ControlFault.TheVariants.{Bsn}
use Rattle.l2_window.proofs.Rules.{AreKept}
use Rattle.l2_window.proofs.Runs as runs
use Rattle.l2_pcr.specs.Pcr.{PcrState, start, choice_of, control_after, is_forced, cycle_place, is_second, has_abnormal_bsn}
use Rattle.l2_pcr.specs.Link.{rules, OneLink}
use Rattle.l2_pcr.proofs.Choosing.{again_within, first_at}

abbrev pub InStep : PcrState → PcrState → List Carried → List Carried → Type 0
InStep x y out back = Unit {0}

first : (o : ℕ) (s : PcrState) (w : WindowState) → choice_of o s w ≡ First → length w.unacked < most_unacked w.profile
first o s w e =
    let t = first_at (is_forced s w o) (nat_lt 0 (length w.unsent)) (nat_lt (length w.unacked) (most_unacked w.profile)) (nat_lt 0 (length w.unacked)) (cycle_place (not s.forced) s w) (cycle_place false s w) e in
    ltb-true (length w.unacked) (most_unacked w.profile) t.2

same_expected : (choice : Choice) (o : ℕ) (s : PcrState) (w : WindowState) → (control_after choice o s w).expected ≡ s.expected
same_expected (Again place) o s w = refl
same_expected First o s w = refl
same_expected Fill o s w = refl

nothing_told : (x : Bool) (before : Bool × Bool) → not x ≡ true → (if is_second x before then Some Bsn else None) ≡ None
nothing_told true before e = absurd cc
nothing_told false before e = refl

pub kept : AreKept rules InStep
kept = record {
  again = again_within;
  first = first;
  same = same_expected;
  bsn = λ s w fsn. refl;
  fsn = λ s w fsn. refl;
  acked = λ s w head msu e. rw e refl;
  current = λ s head. true;
  accept = λ s w head msu e. rw e refl;
  expected = λ s w head msu. refl;
  fault = λ s w head msu e. nothing_told (has_abnormal_bsn w head) s.bsns e;
  processed = λ x y w unit out back h quiet. rw quiet refl;
  emit = λ x y out back choice o fsn w message h. tt;
  emit_back = λ x y out back choice o fsn w message h. tt;
  hear = λ x y unit out back w h well. tt;
  hear_back = λ x y unit out back w h well. tt;
  lose = λ x y before unit after back h. tt;
  lose_back = λ x y out before unit after h. tt;
}

pub one_link : OneLink
one_link n1 n2 far_n1 far_n2 = runs.one_link rules InStep kept (start n1 n2) (start far_n1 far_n2) refl refl tt tt
