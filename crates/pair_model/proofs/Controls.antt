-- THE LAW OF ONE LINK, at once for both error controls: of two ends of one method (`one_link`). The basic and the
-- cyclic control keep the rules that l2_window's Rules.antt asks of any (`kept`), as l2_basic and l2_pcr prove of each;
-- here it's only chosen by the controls of the two ends. What both have in step is what their method asks (`InStep`),
-- and ends of two methods have nothing in step. The induction over the life of a link is in l2_window's Runs.antt.
-- Tied.antt, Sending.antt, Hearing.antt, Rising.antt and Kept.antt speak of `rules` or use `one_link`.
use Rattle.std.proofs.Common.{refl, ◌≡◌, ◌<◌, ◌%◌, ℕ, Bool, true, false, ◌&&◌, ◌==◌, nat_lt, List, [], ◌∷◌, ◌++◌, length, Option, None}
use Rattle.std.specs.Prelude.{is_some, if◌then◌else◌}
use Rattle.l2_units.specs.declared.unit.Header.{Header}
use Rattle.l2_window.specs.Window.{WindowState, distance_to, most_unacked}
use Rattle.l2_window.specs.Control.{bsn_of, fsn_after}
use Rattle.l2_window.specs.Line.{Carried}
use Rattle.l2_window.specs.Link.{Rules, OneLink}
use Rattle.l2_window.specs.declared.control.Choice.{Choice}
use Rattle.l2_window.specs.declared.control.Choice.TheVariants.{Again, First}
use Rattle.l2_window.proofs.Rules.{AreKept}
use Rattle.l2_window.proofs.Runs as runs
use Rattle.l2_basic.proofs.Kept as basic
use Rattle.l2_pcr.proofs.Kept as cyclic
use Rattle.set_events.specs.declared.config.Method.{Method}
use Rattle.set_events.specs.declared.config.Method.TheVariants.{Basic as BasicMethod, Cyclic as CyclicMethod}
use Rattle.set_model.specs.Control.{Control, Basic, Cyclic, start_of, expected_of, choice_of, head_of, control_after, is_processed, part_of, control_heard}
use Rattle.pair_model.specs.Promises.{IsOneMethod}

abbrev pub rules : Rules Control
rules = record {
  expected = expected_of;
  choice = choice_of;
  head = head_of;
  after = control_after;
  is_processed = is_processed;
  part = part_of;
  heard = control_heard;
}

-- what both have in step is what their method asks
abbrev pub InStep : Control → Control → List Carried → List Carried → Type 0
InStep (Basic x) (Basic y) out back = basic.InStep x y out back
InStep (Basic x) (Cyclic y) out back = ⊥
InStep (Cyclic x) (Basic y) out back = ⊥
InStep (Cyclic x) (Cyclic y) out back = Unit {0}

again : (o : ℕ) (s : Control) (w : WindowState) (place : ℕ) → choice_of o s w ≡ Again place → place < length w.unacked
again o (Basic s) w place e = basic.kept.again o s w place e
again o (Cyclic s) w place e = cyclic.kept.again o s w place e

first : (o : ℕ) (s : Control) (w : WindowState) → choice_of o s w ≡ First → length w.unacked < most_unacked w.profile
first o (Basic s) w e = basic.kept.first o s w e
first o (Cyclic s) w e = cyclic.kept.first o s w e

same : (choice : Choice) (o : ℕ) (s : Control) (w : WindowState) → expected_of (control_after choice o s w) ≡ expected_of s
same choice o (Basic s) w = basic.kept.same choice o s w
same choice o (Cyclic s) w = cyclic.kept.same choice o s w

bsn : (s : Control) (w : WindowState) (fsn : ℕ) → (head_of s w fsn).bsn ≡ bsn_of (expected_of s) w % 4096
bsn (Basic s) w fsn = refl
bsn (Cyclic s) w fsn = refl

fsn_sent : (s : Control) (w : WindowState) (fsn : ℕ) → (head_of s w fsn).fsn ≡ fsn % 4096
fsn_sent (Basic s) w fsn = refl
fsn_sent (Cyclic s) w fsn = refl

acked : (s : Control) (w : WindowState) (head : Header) (msu : Bool) → is_processed s w head ≡ true → (part_of s w head msu).acked ≡ distance_to w head.bsn
acked (Basic s) w head msu e = basic.kept.acked s w head msu e
acked (Cyclic s) w head msu e = cyclic.kept.acked s w head msu e

abbrev current : Control → Header → Bool
current (Basic s) head = basic.kept.current s head
current (Cyclic s) head = cyclic.kept.current s head

accept : (s : Control) (w : WindowState) (head : Header) (msu : Bool) → is_processed s w head ≡ true
    → (part_of s w head msu).accept ≡ (current s head && (msu && (head.fsn == expected_of s)))
accept (Basic s) w head msu e = basic.kept.accept s w head msu e
accept (Cyclic s) w head msu e = cyclic.kept.accept s w head msu e

expected : (s : Control) (w : WindowState) (head : Header) (msu : Bool)
    → expected_of (control_heard s w head msu)
    ≡ (if (part_of s w head msu).accept then fsn_after head.fsn w else expected_of s)
expected (Basic s) w head msu = refl
expected (Cyclic s) w head msu = refl

fault : (s : Control) (w : WindowState) (head : Header) (msu : Bool) → is_processed s w head ≡ true → (part_of s w head msu).fault ≡ None
fault (Basic s) w head msu e = basic.kept.fault s w head msu e
fault (Cyclic s) w head msu e = cyclic.kept.fault s w head msu e

processed : (x y : Control) (w : WindowState) (unit : Carried) (out back : List Carried) → InStep x y (unit ∷ out) back
    → nat_lt (length w.unacked) (distance_to w unit.head.bsn) ≡ false → is_processed y w unit.head ≡ true
processed (Basic x) (Basic y) w unit out back h quiet = basic.kept.processed x y w unit out back h quiet
processed (Basic x) (Cyclic y) w unit out back h quiet = absurd h
processed (Cyclic x) (Basic y) w unit out back h quiet = absurd h
processed (Cyclic x) (Cyclic y) w unit out back h quiet = cyclic.kept.processed x y w unit out back h quiet

emit : (x y : Control) (out back : List Carried) (choice : Choice) (o fsn : ℕ) (w : WindowState) (message : Option ℕ)
    → InStep x y out back → InStep (control_after choice o x w) y
    (out ++ record { head = head_of x w fsn; message = message } ∷ []) back
emit (Basic x) (Basic y) out back choice o fsn w message h = basic.kept.emit x y out back choice o fsn w message h
emit (Basic x) (Cyclic y) out back choice o fsn w message h = absurd h
emit (Cyclic x) (Basic y) out back choice o fsn w message h = absurd h
emit (Cyclic x) (Cyclic y) out back choice o fsn w message h = tt

emit_back : (x y : Control) (out back : List Carried) (choice : Choice) (o fsn : ℕ) (w : WindowState)
    (message : Option ℕ) → InStep x y out back
    → InStep x (control_after choice o y w) out (back ++ record { head = head_of y w fsn; message = message } ∷ [])
emit_back (Basic x) (Basic y) out back choice o fsn w message h = basic.kept.emit_back x y out back choice o fsn w message h
emit_back (Basic x) (Cyclic y) out back choice o fsn w message h = absurd h
emit_back (Cyclic x) (Basic y) out back choice o fsn w message h = absurd h
emit_back (Cyclic x) (Cyclic y) out back choice o fsn w message h = tt

hear : (x y : Control) (unit : Carried) (out back : List Carried) (w : WindowState) → InStep x y (unit ∷ out) back
    → is_processed y w unit.head ≡ true → InStep x (control_heard y w unit.head (is_some unit.message)) out back
hear (Basic x) (Basic y) unit out back w h well = basic.kept.hear x y unit out back w h well
hear (Basic x) (Cyclic y) unit out back w h well = absurd h
hear (Cyclic x) (Basic y) unit out back w h well = absurd h
hear (Cyclic x) (Cyclic y) unit out back w h well = tt

hear_back : (x y : Control) (unit : Carried) (out back : List Carried) (w : WindowState) → InStep x y out (unit ∷ back)
    → is_processed x w unit.head ≡ true → InStep (control_heard x w unit.head (is_some unit.message)) y out back
hear_back (Basic x) (Basic y) unit out back w h well = basic.kept.hear_back x y unit out back w h well
hear_back (Basic x) (Cyclic y) unit out back w h well = absurd h
hear_back (Cyclic x) (Basic y) unit out back w h well = absurd h
hear_back (Cyclic x) (Cyclic y) unit out back w h well = tt

lose : (x y : Control) (before : List Carried) (unit : Carried) (after back : List Carried)
    → InStep x y (before ++ unit ∷ after) back → InStep x y (before ++ after) back
lose (Basic x) (Basic y) before unit after back h = basic.kept.lose x y before unit after back h
lose (Basic x) (Cyclic y) before unit after back h = absurd h
lose (Cyclic x) (Basic y) before unit after back h = absurd h
lose (Cyclic x) (Cyclic y) before unit after back h = tt

lose_back : (x y : Control) (out before : List Carried) (unit : Carried) (after : List Carried)
    → InStep x y out (before ++ unit ∷ after) → InStep x y out (before ++ after)
lose_back (Basic x) (Basic y) out before unit after h = basic.kept.lose_back x y out before unit after h
lose_back (Basic x) (Cyclic y) out before unit after h = absurd h
lose_back (Cyclic x) (Basic y) out before unit after h = absurd h
lose_back (Cyclic x) (Cyclic y) out before unit after h = tt

kept : AreKept rules InStep
kept = record {
  again = again;
  first = first;
  same = same;
  bsn = bsn;
  fsn = fsn_sent;
  acked = acked;
  current = current;
  accept = accept;
  expected = expected;
  fault = fault;
  processed = processed;
  emit = emit;
  emit_back = emit_back;
  hear = hear;
  hear_back = hear_back;
  lose = lose;
  lose_back = lose_back;
}

start_0 : (method : Method) → expected_of (start_of method) ≡ 0
start_0 BasicMethod = refl
start_0 (CyclicMethod n1 n2) = refl

start_in_step : (near far : Method) → IsOneMethod near far → InStep (start_of near) (start_of far) [] []
start_in_step BasicMethod BasicMethod one = record { turned = true; fibs = refl; last = refl; bibs = tt }
start_in_step BasicMethod (CyclicMethod n1 n2) one = absurd one
start_in_step (CyclicMethod n1 n2) BasicMethod one = absurd one
start_in_step (CyclicMethod n1 n2) (CyclicMethod m1 m2) one = tt

pub one_back : (near far : Method) → IsOneMethod near far → IsOneMethod far near
one_back BasicMethod BasicMethod one = tt
one_back BasicMethod (CyclicMethod n1 n2) one = absurd one
one_back (CyclicMethod n1 n2) BasicMethod one = absurd one
one_back (CyclicMethod n1 n2) (CyclicMethod m1 m2) one = tt

pub one_link : (near far : Method) → IsOneMethod near far → OneLink rules (start_of near) (start_of far)
one_link near far one = runs.one_link rules InStep kept (start_of near) (start_of far) (start_0 near) (start_0 far)
    (start_in_step near far one) (start_in_step far near (one_back near far one))
